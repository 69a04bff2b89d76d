-- The walk of a path's names, as the code's answers have it: what `paths` says of any view, by version 2's, at directories that are housed.
use mathlib.Core.Path.{◌≡◌, refl, sym, subst}
use mathlib.Core.Logic.{◌≢◌}
use Prim.Native.Nat.{ℕ, ◌+◌, ◌-◌, ◌≤◌}
use mathlib.Core.Bool.{true, not}
use lib.ListN.{length, take, drop}
use Rattle.std.specs.Prelude.{Result, IsErrAnd}
use Rattle.std.proofs.lemmas.Result.{err_from_is_err_and}
use Rattle.volume.specs.Bytes.{Bytes}
use Rattle.model.specs.Name.{padded}
use Rattle.model.specs.View.{View}
use Rattle.model.specs.Path.{Name, path_of, is_no_path}
use Rattle.model.specs.Walk.{Walked, arrived, missing, blocked}
use Rattle.model2.specs.Version2.{view2}
use Rattle.names.specs.Texts.{text_length}
use Rattle.shape.specs.declared.Shape.{Shape}
use Rattle.known2.specs.Known.{Known}
use Rattle.known2.specs.Housed.{Housed}
use Rattle.known2.proofs.Rows.{known_root}
use Rattle.paths.specs.declared.Stop.{Stop}
use Rattle.paths.specs.declared.Stop.TheVariants.{Missing, Blocked}
use Rattle.paths.specs.declared.Parent.{Parent}
use Rattle.paths.specs.Places.{stopped, parent_of}
use Rattle.paths.specs.Steps.{entered, walked_parent}
use Rattle.paths.proofs.Parents as On
use Rattle.walk2.specs.declared.Walk.{Walk}
use Rattle.walk2.specs.Steps.{Fits}

-- a step that stops ends the walk
abbrev pub Ends : Walked ℕ → Walked (ℕ × Name) → Type 0
Ends (arrived p) w = Unit {0}
Ends (missing byte) w = missing byte ≡ w
Ends (blocked byte) w = blocked byte ≡ w

-- as the step of the name that begins at `from` and ends at `to` does, if that is not the last one. Known wherever the walk stands, it lets the check find each
-- return of a step that stops by itself.
abbrev pub EndsAt : View → Bytes → (p from to : ℕ) → Type 0
EndsAt v path p from to = to ≤ length path → to ≢ length path
    → Ends (entered v (record { begins = from; bytes = padded (take (to - from) (drop from path)) }) p) (walked_parent v (path_of path) 0)

-- the walk stands in the directory p, before the name that begins at `from`
abbrev pub Standing : (b path : Bytes) (p from : ℕ) → Type 0
Standing b path p from = Housed (view2 b) p × On.Standing (view2 b) path p from × EndsAt (view2 b) path p from (from + text_length (drop from path))

ends_at : {v : View} {path : Bytes} {p from : ℕ} → On.Standing v path p from → EndsAt v path p from (from + text_length (drop from path))
ends_at {v} {path} {p} {from} s most more = go (entered v (record { begins = from; bytes = padded (take (from + text_length (drop from path) - from) (drop from path)) }) p) refl
  where
    go : (x : Walked ℕ) → x ≡ entered v (record { begins = from; bytes = padded (take (from + text_length (drop from path) - from) (drop from path)) }) p
        → Ends x (walked_parent v (path_of path) 0)
    go (arrived q) e = tt
    go (missing byte) e = On.standing_missing s _ refl most more refl e refl
    go (blocked byte) e = On.standing_blocked s _ refl most more refl e refl

pub standing_first : (b path : Bytes) {s : Shape} {n : ℕ} → Known b s n → (p : ℕ) → p ≡ 0 → 2 ≤ length path → not (is_no_path (path_of path)) ≡ true → Standing b path p 1
standing_first b path k p root l h =
    let s = On.standing_first (view2 b) path p root l h in
    (subst (λ (x : ℕ). Housed (view2 b) x) (sym root) (known_root k), s, ends_at s)

-- one turn: the next name ends at `to` and is v
module _ {b path : Bytes} {p from : ℕ} (s : On.Standing (view2 b) path p from) (to : ℕ) (is : to ≡ from + text_length (drop from path))
    (most : to ≤ length path) (more : to ≢ length path) (v : Bytes) (name : v ≡ padded (take (to - from) (drop from path))) where
  abbrev step : Walked ℕ
  step = entered (view2 b) (record { begins = from; bytes = v }) p

  pub standing_next : (walk : Walk) → Housed (view2 b) walk.0.0 → arrived walk.0.0 ≡ step → Standing b path walk.0.0 (to + 1)
  standing_next walk h e = let next = On.standing_next s to is most more name e refl in (h, next, ends_at next)

  pub standing_stopped : (stop : Stop) → stopped stop ≡ step → stopped stop ≡ walked_parent (view2 b) (path_of path) 0
  standing_stopped (Missing byte) e = On.standing_missing s to is most more name e refl
  standing_stopped (Blocked byte) e = On.standing_blocked s to is most more name e refl

-- where a step stops, the walk stops
pub stopped_on : (v : View) (path : Bytes) (r : Result Parent Stop) (stop : Stop) {w : Walked (ℕ × Name)} → IsErrAnd r (λ y. y ≡ stop) → stopped stop ≡ w
    → Fits v path r × (parent_of path r ≡ w)
stopped_on v path r stop is e = let q = err_from_is_err_and r is in rw (q.1, q.2) (tt, e)
