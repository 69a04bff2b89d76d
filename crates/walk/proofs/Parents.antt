-- The walk of a path's names, as the code's answers have it: what `paths` says of any view, by version 1's, at pages that are bytes.
use mathlib.Core.Path.{◌≡◌, refl}
use mathlib.Core.Logic.{◌≢◌}
use Prim.Native.Nat.{ℕ, ◌+◌, ◌-◌, ◌<◌, ◌≤◌}
use native.Mathlib.Omega.{arith}
use mathlib.Core.Bool.{true, not}
use lib.ListN.{length, take, drop}
use Rattle.std.specs.Prelude.{Result, IsErrAnd}
use Rattle.std.proofs.lemmas.Result.{err_from_is_err_and}
use Rattle.volume.specs.Bytes.{Bytes}
use Rattle.model.specs.Name.{padded}
use Rattle.model.specs.Version1.{view}
use Rattle.model.specs.Path.{Name, path_of, is_no_path}
use Rattle.model.specs.Walk.{Walked, arrived}
use Rattle.names.specs.Texts.{text_length}
use Rattle.paths.proofs.Parents as On
pub use Rattle.paths.proofs.Parents.{standing_fits, standing_short, standing_last}
use Rattle.paths.specs.declared.Stop.{Stop}
use Rattle.paths.specs.declared.Stop.TheVariants.{Missing, Blocked}
use Rattle.paths.specs.declared.Parent.{Parent}
use Rattle.paths.specs.Places.{stopped, parent_of}
use Rattle.walk.specs.Steps.{entered, walked_parent, Fits}

-- the walk stands in the directory on page p, before the name that begins at `from`
abbrev pub Standing : (b path : Bytes) (p from : ℕ) → Type 0
Standing b path p from = (p < 256) × On.Standing (view b) path p from

pub standing_first : (b path : Bytes) (p : ℕ) → p ≡ 0 → 2 ≤ length path → not (is_no_path (path_of path)) ≡ true → Standing b path p 1
standing_first b path p root l h = (omega arith, On.standing_first (view b) path p root l h)

-- one turn: the next name ends at `to` and is v
module _ {b path : Bytes} {p from : ℕ} (s : On.Standing (view b) path p from) (to : ℕ) (is : to ≡ from + text_length (drop from path))
    (most : to ≤ length path) (more : to ≢ length path) (v : Bytes) (name : v ≡ padded (take (to - from) (drop from path))) where
  pub standing_next : (q : ℕ) → q < 256 → arrived q ≡ entered b (record { begins = from; bytes = v }) p → Standing b path q (to + 1)
  standing_next q l step = (l, On.standing_next s to is most more name step refl)

  pub standing_stopped : (stop : Stop) → stopped stop ≡ entered b (record { begins = from; bytes = v }) p → stopped stop ≡ walked_parent b (path_of path) 0
  standing_stopped (Missing byte) step = On.standing_missing s to is most more name step refl
  standing_stopped (Blocked byte) step = On.standing_blocked s to is most more name step refl

-- where a step stops, the walk stops
pub stopped_on : (path : Bytes) (r : Result Parent Stop) (stop : Stop) {w : Walked (ℕ × Name)} → IsErrAnd r (λ y. y ≡ stop) → stopped stop ≡ w
    → Fits path r × (parent_of path r ≡ w)
stopped_on path r stop is e = let q = err_from_is_err_and r is in rw (q.1, q.2) (tt, e)
