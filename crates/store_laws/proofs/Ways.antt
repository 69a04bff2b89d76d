-- The way to a directory stays where the pages of the directories on it stay: the laws of `view_laws` at `view b`.
use mathlib.Core.Path.{◌≡◌, refl, ap}
use mathlib.Core.Logic.{◌≢◌}
use Prim.Native.Nat.{ℕ, ◌≤◌}
use native.Mathlib.Omega.{arith}
use native.Mathlib.Decide.{ℕ_discrete}
use mathlib.Core.Bool.{Bool, not}
use mathlib.Core.Option.{Option, none, some}
use mathlib.Core.List.{List, ◌∷◌}
use lib.ListN.{length}
use lib.Dec.{T, T_not}
use Rattle.volume.specs.Bytes.{Bytes}
use Rattle.volume.specs.Lists.{first}
use Rattle.volume.proofs.Occ.{occ, Mem}
use Rattle.volume.proofs.Tests.{first_found, first_none}
use Rattle.model.specs.Entry.{entries, entry_at}
use Rattle.model.specs.Version1.{view}
use Rattle.model.specs.Sound.{owned}
use Rattle.model.specs.Path.{Name}
use Rattle.model.specs.Walk.{arrived, walk_on}
use Rattle.laws.proofs.Entries.{entry_within, within_page, entry_same}
use Rattle.view_laws.proofs.Ways as Any
use Rattle.laws.proofs.Frame.{SamePage, follows}
use Rattle.laws.proofs.Focus.{Leads}

-- the one that passes is the first
pub first_only : (f : ℕ → Bool) (xs : List ℕ) (x : ℕ) → Mem x xs → T (f x) → ((y : ℕ) → Mem y xs → y ≢ x → T (not (f y))) → first f xs ≡ some x
first_only f xs x m t h = go (first f xs) refl
  where
    go : (o : Option ℕ) → first f xs ≡ o → o ≡ some x
    go none e = absurd (T_not (f x) (first_none f xs e x m) t)
    go (some y) e = elim (ℕ_discrete y x) [
      | yes q ↦ ap {B = Option ℕ} (λ z. some z) q
      | no ne ↦ let r = first_found f xs y e in absurd (T_not (f y) (h y r.0 ne) r.1)
    ]

module _ (b b' : Bytes) (len : length b' ≡ length b) where
  pub entries_kept : (p : ℕ) → SamePage b b' p → (x : ℕ) → Mem x (entries p) → entry_at b' x ≡ entry_at b x
  entries_kept p same x m =
      let w = entry_within p x m in
      entry_same b b' x len (λ i u v. same i (within_page p x w i u v) (omega (arith, w.far)))

  pub leads_kept : (names : List Name) (d p e t : ℕ) → ((q : ℕ) → occ q (p ∷ owned d (view b) p) ≤ 1) → Leads b d p names e t
      → ((q : ℕ) → Mem q (p ∷ owned d (view b) p) → occ q (t ∷ owned e (view b) t) ≡ 0 → SamePage b b' q) → Leads b' d p names e t
  leads_kept = Any.leads_kept (follows b b' len)

pub leads_walk : (b : Bytes) (names : List Name) (d p e t : ℕ) → Leads b d p names e t → walk_on (view b) names p ≡ arrived t
leads_walk b = Any.leads_walk (view b)
