-- What a reading and a finding make of a file's bytes, by what the judging of it says.
use mathlib.Core.Path.{◌≡◌, refl, sym, ap, ◌∙◌}
use Prim.Native.Nat.{ℕ, zero, suc, ◌+◌, ◌/◌, ◌≤◌, ◌<◌}
use native.Mathlib.Omega.{arith}
use mathlib.Core.Option.{Option}
use mathlib.Core.List.{List}
use lib.ListN.{length}
use lib.Dec.{ltb}
use native.Mathlib.Decide.{dec_lt}
use Rattle.std.specs.Prelude.{if◌then◌else◌}
use borrow.Author.Tests.{lt-ltb, le-ltb}
use Rattle.volume.specs.Bytes.{Bytes, put}
use Rattle.model.specs.Call.{Refusal, refusal, Answer, refused, granted}
use Rattle.model.specs.Refusal.{settle}
use Rattle.link_list.specs.declared.Row.{Row}
use Rattle.link_list.specs.Judging.{read_list}
use Rattle.link_list.specs.Links.{rows_in, bad_line, figure_of}
use Rattle.link_rows.specs.Told.{steps_from, numbers_of, counted}
use Rattle.link_judge.specs.Judged.{rows_from, rows_of}
use Rattle.link_rows.proofs.Readings.{steps_read, reading_rows, reading_bad}
use Rattle.link_reads.specs.Reads.{read_in, numbers_in, find_in}

from_long : (ns : List ℕ) (left i : ℕ) → length (rows_from ns left i) ≡ left
unfolding rows_from
from_long ns zero i = refl
from_long ns (suc left) i = ap suc (from_long ns left (i + 1))

pub rows_long : (ns : List ℕ) → length (rows_of ns) ≡ length ns / 3
unfolding rows_of
rows_long ns = from_long ns (length ns / 3) 0

module _ (v : Bytes) (ns : List ℕ) where
  pub read_rows : (n : ℕ) → granted n ≡ counted 0 (read_list v) → n ≤ length ns / 3 → (ns' : List ℕ) → ns' ≡ put 0 (numbers_of (steps_from v n 0)) ns
      → (granted n ≡ read_in v ns) × (ns' ≡ numbers_in v ns)
  unfolding read_in numbers_in bad_line rows_in settle
  read_rows n e l ns' q =
      let r = reading_rows (read_list v) n e in
      let enough = le-ltb (length (rows_of ns)) (length r.0) (omega (arith, rows_long ns, r.2)) in
      let steps : steps_from v n 0 ≡ r.0 = ap (λ (k : ℕ). steps_from v k 0) r.2 ∙ steps_read v r.0 r.1 in
      rw (r.1, enough) (ap (λ (k : ℕ). granted k) r.2, q ∙ ap (λ (rs : List Row). put 0 (numbers_of rs) ns) steps)

  pub read_short : (n : ℕ) → granted n ≡ counted 0 (read_list v) → length ns / 3 < n → (refused (refusal 24) ≡ read_in v ns) × (ns ≡ numbers_in v ns)
  unfolding read_in numbers_in bad_line rows_in settle
  read_short n e l =
      let r = reading_rows (read_list v) n e in
      let short = lt-ltb (length (rows_of ns)) (length r.0) (omega (arith, rows_long ns, r.2)) in
      rw (r.1, short) (refl, refl)

  pub read_bad : (f : Refusal) → refused f ≡ counted 0 (read_list v) → (refused f ≡ read_in v ns) × (ns ≡ numbers_in v ns)
  unfolding read_in numbers_in bad_line rows_in settle
  read_bad f e = rw (reading_bad (read_list v) f e) (refl, refl)

-- ---- by the judging alone: each return of `read_file` is one of these cases, and the check tells which by the code's tests, whatever they are called

abbrev pub told_by : Answer ℕ → (room : ℕ) → Answer ℕ
told_by (refused f) room = refused f
told_by (granted n) room = if ltb (room / 3) n then refused (refusal 24) else granted n

abbrev pub numbers_by : Answer ℕ → Bytes → List ℕ → List ℕ
numbers_by (refused f) v ns = ns
numbers_by (granted n) v ns = if ltb (length ns / 3) n then ns else put 0 (numbers_of (steps_from v n 0)) ns

module _ (v : Bytes) (ns : List ℕ) where
  read_by : (a : Answer ℕ) → a ≡ counted 0 (read_list v) → (told_by a (length ns) ≡ read_in v ns) × (numbers_by a v ns ≡ numbers_in v ns)
  read_by (refused f) e = read_bad v ns f e
  read_by (granted n) e = elim (dec_lt (length ns / 3) n) [
    | yes l ↦ rw (lt-ltb (length ns / 3) n l) (read_short v ns n e l)
    | no l ↦ let h : n ≤ length ns / 3 = omega (arith, l) in rw (le-ltb (length ns / 3) n h) (read_rows v ns n e h _ refl)
  ]

  pub read_in_is : read_in v ns ≡ told_by (counted 0 (read_list v)) (length ns)
  read_in_is = sym (read_by _ refl).0

  pub numbers_in_is : numbers_in v ns ≡ numbers_by (counted 0 (read_list v)) v ns
  numbers_in_is = sym (read_by _ refl).1

module _ (v : Bytes) (count value : ℕ) where
  pub find_rows : (n : ℕ) → granted n ≡ counted 0 (read_list v) → (o : Option ℕ) → o ≡ figure_of count value (steps_from v n 0) → granted o ≡ find_in v count value
  unfolding find_in bad_line rows_in settle
  find_rows n e o q =
      let r = reading_rows (read_list v) n e in
      let steps : steps_from v n 0 ≡ r.0 = ap (λ (k : ℕ). steps_from v k 0) r.2 ∙ steps_read v r.0 r.1 in
      rw r.1 (ap (λ (p : Option ℕ). granted p) (q ∙ ap (figure_of count value) steps))

  pub find_bad : (f : Refusal) → refused f ≡ counted 0 (read_list v) → refused f ≡ find_in v count value
  unfolding find_in bad_line settle
  find_bad f e = rw (reading_bad (read_list v) f e) refl
