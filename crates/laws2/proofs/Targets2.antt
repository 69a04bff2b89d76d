-- Where a path of version 2 leads on a sound image: the directories on the way end, since their entries are good, and an entry lies behind the header, since
-- none of its bytes is the bitmap's.
use mathlib.Core.Path.{refl}
use Prim.Native.Nat.{ℕ, suc, ◌≤◌}
use native.Mathlib.Omega.{arith}
use native.Mathlib.Decide.{dec_lt}
use mathlib.Core.List.{List}
use lib.ListN.{length}
use lib.Dec.{T}
use Rattle.volume.specs.Bytes.{Bytes}
use Rattle.volume.proofs.Occ.{Mem}
use Rattle.model.specs.Path.{Name}
use Rattle.view_laws.proofs.Facts.{Facts}
use Rattle.view_laws.proofs.Focus.{named_found, leads_ends}
use Rattle.view_laws.proofs.Walks.{Parent, Target}
use Rattle.view_laws.proofs.Shelf.{Lies, lies}
use Rattle.model2.specs.Layout.{page_count, code_in}
use Rattle.model2.specs.Version2.{view_by, view2}
use Rattle.laws2.proofs.Bounds.{Allowed, bounds}
use Rattle.laws2.proofs.Version2.{shelved2}

module _ {code n : ℕ} {b : Bytes} (a : Allowed code n) (f : Facts (view_by code n b)) {ns : List Name} where
  -- the parent directory ends
  pub parent_ends : (p : Parent (view_by code n b) ns) → T ((view_by code n b).directory_ends p.t)
  parent_ends p = leads_ends (view_by code n b) ns (page_count code n) 0 (suc p.e) p.t f.formed f.ended p.leads

  -- an entry of it lies on one of its pages, behind the header's fields
  pub entry_lies : (p : Parent (view_by code n b) ns) (at : ℕ) → Mem at ((view_by code n b).entries p.t) → Lies (shelved2 a) f ns p.e p.t p.leads at
  entry_lies p at m = lies (shelved2 a) f ns p.e p.t p.leads at m

  pub behind_header : (p : Parent (view_by code n b) ns) (at : ℕ) → Mem at ((view_by code n b).entries p.t) → 8 ≤ at
  behind_header p at m = elim (dec_lt 7 at) [
    | yes l ↦ omega (arith, l)
    | no l ↦ absurd (((entry_lies p at m).bytes 7 (omega (arith, l)) (omega arith)).1.map 0 (omega (arith, (bounds a).some)) refl)
  ]

module _ {b : Bytes} (a : Allowed (code_in b) (length b)) (f : Facts (view2 b)) {ns : List Name} {n : Name} (tg : Target (view2 b) ns n) where
  target_entry : Mem tg.at ((view2 b).entries tg.above.t)
  target_entry = (named_found (view2 b) tg.above.t n.bytes tg.at tg.found).0

  pub target_lies : Lies (shelved2 a) f ns tg.above.e tg.above.t tg.above.leads tg.at
  target_lies = entry_lies a f tg.above tg.at target_entry

  pub target_behind : 8 ≤ tg.at
  target_behind = behind_header a f tg.above tg.at target_entry
