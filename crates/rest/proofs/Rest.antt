-- After the walk: lost pages, bit 0 and the count, at version 1's view.
use mathlib.Core.Path.{◌≡◌, refl, sym, ap, ◌∙◌}
use mathlib.Core.Logic.{◌≢◌}
use Prim.Native.Nat.{ℕ}
use mathlib.Core.Bool.{true, false}
use mathlib.Core.List.{List}
use lib.ListN.{length}
use lib.Dec.{eqb}
use borrow.Author.Tests.{eq-eqb, ne_eqb}
use Rattle.volume.specs.Bytes.{Bytes}
use Rattle.model.specs.Layout.{version1, page_count}
use Rattle.model.specs.Layout as One
use Rattle.model.specs.Version1.{view}
use Rattle.model.specs.Judge as Model
use Rattle.model.specs.Judge.{Judged, bad_count, fault, clean, lost_or, judge_rest}
use Rattle.owning.specs.Marked.{Marked}
use Rattle.lost.proofs.Lost.{lost_from}
use Rattle.lost.proofs.Decides.{lost_decides, none_lost_decides}

module _ (b : Bytes) (m : List ℕ) (marked : Marked b m) where
  searched : {j : Judged} → j ≡ lost_or (clean m) (lost_from version1 b m (length m) 1) → j ≡ lost_or (clean m) (lost_from version1 b m (page_count b) 1)
  searched lost = lost ∙ ap (λ (n : ℕ). lost_or (clean m) (lost_from version1 b m n 1)) marked.each

  pub rest_faulty : {x : Model.Fault} → fault x ≡ lost_or (clean m) (lost_from version1 b m (length m) 1) → fault x ≡ judge_rest (view b) m
  rest_faulty lost = lost_decides (view b) m (searched lost)

  module _ (lost : clean m ≡ lost_or (clean m) (lost_from version1 b m (length m) 1)) (set : ℕ) (bit : set ≡ One.page_bit b 0) where
    pub rest_unmarked : set ≢ 1 → fault bad_count ≡ judge_rest (view b) m
    rest_unmarked h = none_lost_decides (view b) m (searched lost) {marked = false} (ne_eqb _ _ (λ z. h (bit ∙ z))) refl

    module _ (one : set ≡ 1) (zeros : ℕ) (bits : zeros ≡ One.zero_bits b (length m)) (free : ℕ) (byte : free ≡ One.free_count b) where
      zeros_are : zeros ≡ One.zero_bits b (page_count b)
      zeros_are = bits ∙ ap (λ (n : ℕ). One.zero_bits b n) marked.each

      header_marked : eqb (One.page_bit b 0) 1 ≡ true
      header_marked = eq-eqb _ _ (sym bit ∙ one)

      pub rest_miscounted : free ≢ zeros → fault bad_count ≡ judge_rest (view b) m
      rest_miscounted h =
          none_lost_decides (view b) m (searched lost) {marked = true} {counted = false} header_marked (ne_eqb _ _ (λ z. h (byte ∙ z ∙ sym zeros_are)))

      pub rest_clean : free ≡ zeros → clean m ≡ judge_rest (view b) m
      rest_clean h =
          none_lost_decides (view b) m (searched lost) {marked = true} {counted = true} header_marked (eq-eqb _ _ (sym byte ∙ h ∙ zeros_are))
