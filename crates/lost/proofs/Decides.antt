-- After the walk: a lost page decides, whatever the rest; without one the bits of the pages set aside and the count decide, in every version.
use mathlib.Core.Path.{◌≡◌, refl, sym, ap₂, ◌∙◌}
use Prim.Native.Nat.{ℕ}
use mathlib.Core.Bool.{Bool, ◌&&◌}
use mathlib.Core.Option.{Option, none, some}
use mathlib.Core.List.{List}
use lib.Dec.{eqb}
use Rattle.std.specs.Prelude.{if◌then◌else◌}
use Rattle.model.specs.View.{View, zero_bits, free_count}
use Rattle.model.specs.Sound.{marked_below}
use Rattle.model.specs.Judge as Model
use Rattle.model.specs.Judge.{bad_count, Judged, fault, clean, lost_or, judge_rest}
use Rattle.view_laws.proofs.Comes.{never}
use Rattle.lost.proofs.Lost.{lost_from}

lost_faulty : (m : List ℕ) {x : Model.Fault} (rest : Judged) (l : Option ℕ) → fault x ≡ lost_or (clean m) l → fault x ≡ lost_or rest l
unfolding lost_or
lost_faulty m rest none e = never (sym e)
lost_faulty m rest (some p) e = e

lost_clean : (m : List ℕ) (rest : Judged) (l : Option ℕ) → clean m ≡ lost_or (clean m) l → rest ≡ lost_or rest l
unfolding lost_or
lost_clean m rest none e = refl
lost_clean m rest (some p) e = never e

-- of any view, by the answer of the search

module _ (v : View) (m : List ℕ) where
  abbrev lowest : Option ℕ
  lowest = lost_from v.geometry v.bytes m v.pages v.geometry.aside

  abbrev verdict : (marked counted : Bool) → Judged
  verdict marked counted = if marked && counted then clean m else fault bad_count

  pub lost_decides : {x : Model.Fault} → fault x ≡ lost_or (clean m) lowest → fault x ≡ judge_rest v m
  unfolding judge_rest
  lost_decides lost = lost_faulty m _ lowest lost

  pub none_lost_decides : clean m ≡ lost_or (clean m) lowest → {marked counted : Bool} → marked_below v v.geometry.aside ≡ marked
      → eqb (free_count v) (zero_bits v v.pages) ≡ counted → verdict marked counted ≡ judge_rest v m
  unfolding judge_rest
  none_lost_decides lost k c =
      ap₂ verdict (sym k) (sym c)
      ∙ lost_clean m (verdict (marked_below v v.geometry.aside) (eqb (free_count v) (zero_bits v v.pages))) lowest lost
