-- A name is fresh if it is legal and the entries before it, looked at from the last to the first, have another.
use mathlib.Core.Path.{◌≡◌, sym, ap, ◌∙◌}
use Prim.Native.Nat.{ℕ, suc, ◌-◌, ◌≤◌, ◌<◌}
use native.Mathlib.Omega.{arith}
use mathlib.Core.Bool.{Bool, true, false, not, ◌&&◌}
use Rattle.volume.specs.Bytes.{Bytes, byte_at}
use Rattle.volume.specs.Lists.{all}
use Rattle.model.specs.Entry.{name_at, entry_at}
use Rattle.model.specs.Name.{legal_name}
use Rattle.model.specs.Version1.{view}
use Rattle.model.specs.Judge.{fresh_name}
use Rattle.model.specs.Sound.{is_named}
use Rattle.fields.proofs.Plain.{told, untold}
use Rattle.fresh.specs.Earlier.{position, earlier}

-- ---- the entries before entry j

-- none of the entries before entry j of the directory on page d has the name n
abbrev pub apart : Bytes → Bytes → (d j : ℕ) → Bool
apart b n d j = all (λ at. not (is_named n (entry_at b at))) (earlier d j)

pub flags_here : (b : Bytes) (d i at : ℕ) → at ≡ position d i → 1 ≤ byte_at b (position d i) → 1 ≤ byte_at b at
flags_here b d i at here h = rw here h

-- the name of entry i of the directory on page d, which stands at `at`; it is legal or not, and so far apart from those before entry j
module _ (b : Bytes) (d i j at : ℕ) (legal : Bool) (here : at ≡ position d i) (tested : legal ≡ legal_name (name_at b at)) where
  pub illegal_name : not legal ≡ true → false ≡ fresh_name (view b) (earlier d i) (name_at b (position d i))
  unfolding fresh_name
  illegal_name t = rw (← here, untold tested t)

  module _ (so_far : apart b (name_at b (position d i)) d i ≡ apart b (name_at b (position d i)) d j) where
    next : 0 < j → apart b (name_at b (position d i)) d i
        ≡ (not (is_named (name_at b at) (entry_at b (position d (j - 1)))) && apart b (name_at b (position d i)) d (j - 1))
    unfolding all earlier
    next h = let e : j ≡ suc (j - 1) = omega arith in rw here (so_far ∙ ap (apart b (name_at b (position d i)) d) e)

    -- one turn: the entry before j stands at `place`, and has the name or not
    module _ (more : 0 < j) (place : ℕ) (there : place ≡ position d (j - 1)) (has : Bool) (asked : has ≡ is_named (name_at b at) (entry_at b place)) where
      pub name_taken : not legal ≡ false → has ≡ true → false ≡ fresh_name (view b) (earlier d i) (name_at b (position d i))
      unfolding fresh_name
      name_taken t e = sym (rw (next more, ← there, ← asked, e, ← here, told tested t))

      pub still_apart : has ≡ false → apart b (name_at b (position d i)) d i ≡ apart b (name_at b (position d i)) d (j - 1)
      still_apart e = next more ∙ rw (← there, ← asked, e)

    pub name_fresh : not legal ≡ false → j ≤ 0 → true ≡ fresh_name (view b) (earlier d i) (name_at b (position d i))
    unfolding fresh_name all earlier
    name_fresh t h = let e : j ≡ 0 = omega arith in sym (rw (so_far, e, ← here, told tested t))
