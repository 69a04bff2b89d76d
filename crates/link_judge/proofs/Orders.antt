-- The tests of two rows, and of a row after those that were judged.
use mathlib.Core.Path.{◌≡◌}
use mathlib.Core.Bool.{true, false}
use Prim.Native.Nat.{ℕ, ◌≤◌, ◌<◌}
use lib.Dec.{ltb}
use borrow.Author.Tests.{lt-ltb, le-ltb, eq-eqb, ne_eqb}
use Rattle.std.specs.Prelude.{Some, None, is_some}
use Rattle.link_list.specs.declared.Row.{Row}
use Rattle.link_list.specs.Coding.{in_range, above}
use Rattle.link_list.specs.Judging.{follows}
use Rattle.link_judge.specs.declared.Judged.{Judged}
use Rattle.link_judge.specs.declared.RowFault.TheVariants.{Broken, NotAbove}
use Rattle.link_judge.specs.Judged.{before_of, judged_next}

module _ (low high : Row) where
  pub above_lower : low.count < high.count → above low high ≡ true
  unfolding above
  above_lower h = rw (lt-ltb low.count high.count h)

  pub above_higher : high.count ≤ low.count → (low.count ≡ high.count → ⊥) → above low high ≡ false
  unfolding above
  above_higher h n = rw (le-ltb low.count high.count h, ne_eqb low.count high.count n)

  pub above_same : high.count ≤ low.count → low.count ≡ high.count → above low high ≡ ltb low.value high.value
  unfolding above
  above_same h e = rw (le-ltb low.count high.count h, eq-eqb low.count high.count e)

module _ (j : Judged) (i : ℕ) (r : Row) where
  pub judged_stays : is_some j.fault ≡ true → judged_next j i r ≡ j
  unfolding judged_next
  judged_stays n = rw n

  pub judged_range : is_some j.fault ≡ false → in_range r ≡ false → judged_next j i r ≡ record { fault = Some (Broken i); last = j.last }
  unfolding judged_next
  judged_range z e = rw (z, e)

  pub judged_order : is_some j.fault ≡ false → in_range r ≡ true → follows (before_of j.last) r ≡ false → judged_next j i r ≡ record { fault = Some (NotAbove i); last = j.last }
  unfolding judged_next
  judged_order z e f = rw (z, e, f)

  pub judged_good : is_some j.fault ≡ false → in_range r ≡ true → follows (before_of j.last) r ≡ true → judged_next j i r ≡ record { fault = None; last = Some r }
  unfolding judged_next
  judged_good z e f = rw (z, e, f)
