-- The numbers after a reading are those of the list after it: three numbers are a row, so rows put at the front of the numbers stand at the front of the
-- list, and past them both are as they were.
use mathlib.Core.Path.{◌≡◌, refl, sym, ap, ◌∙◌}
use Prim.Native.Nat.{ℕ, zero, suc, ◌+◌, ◌*◌, ◌/◌, ◌≤◌}
use native.Mathlib.Omega.{arith}
use mathlib.Core.List.{List, [], ◌∷◌, ◌++◌}
use lib.ListN.{length, get_or, drop}
use lib.Dec.{nltb→le}
use Rattle.volume.specs.Bytes.{Bytes, put}
use Rattle.model.specs.Image.{tree_of}
use Rattle.model.specs.Refusal.{Line, Passes}
use Rattle.model.specs.Meaning.{image_lines}
use Rattle.laws.proofs.Lines.{passed, settle_both}
use Rattle.laws.proofs.Passed.{image_passed}
use Rattle.link_list.specs.declared.Row.{Row}
use Rattle.link_list.specs.Links.{read_links, reading, rows_in, judged_lines, short_line, link_lines, list_filled, link_list}
use Rattle.link_rows.specs.Told.{numbers_of}
use Rattle.link_judge.specs.Judged.{row_numbered, rows_from, rows_of}
use Rattle.link_numbers.proofs.Puts.{put_nil}
use Rattle.link_reads.proofs.InFile.{rows_long}
use Rattle.link_looks.specs.Looks.{numbers_after}

module _ (a b c : ℕ) (ns : List ℕ) where
  shifted : (i : ℕ) → row_numbered (a ∷ b ∷ c ∷ ns) (i + 1) ≡ row_numbered ns i
  shifted i =
      let x : 3 * (i + 1) ≡ suc (suc (suc (3 * i))) = omega arith in
      let y : 3 * (i + 1) + 1 ≡ suc (suc (suc (3 * i + 1))) = omega arith in
      let z : 3 * (i + 1) + 2 ≡ suc (suc (suc (3 * i + 2))) = omega arith in
      let at : ℕ → ℕ = λ k. get_or (a ∷ b ∷ c ∷ ns) k 0 in
      let p : at (3 * (i + 1)) ≡ get_or ns (3 * i) 0 = ap at x in
      let q : at (3 * (i + 1) + 1) ≡ get_or ns (3 * i + 1) 0 = ap at y in
      let r : at (3 * (i + 1) + 2) ≡ get_or ns (3 * i + 2) 0 = ap at z in
      λ j. record { count = p j; value = q j; figure = r j }

  shift : (left i : ℕ) → rows_from (a ∷ b ∷ c ∷ ns) left (i + 1) ≡ rows_from ns left i
  unfolding rows_from
  shift zero i = refl
  shift (suc left) i = λ j. shifted i j ∷ shift left (i + 1) j

  rows_cons : rows_of (a ∷ b ∷ c ∷ ns) ≡ record { count = a; value = b; figure = c } ∷ rows_of ns
  unfolding rows_of rows_from
  rows_cons =
      let e : suc (suc (suc (length ns))) / 3 ≡ suc (length ns / 3) = omega arith in
      ap (λ (k : ℕ). rows_from (a ∷ b ∷ c ∷ ns) k 0) e ∙ ap (λ (rs : List Row). record { count = a; value = b; figure = c } ∷ rs) (shift (length ns / 3) 0)

put_three : (x y z : ℕ) (ms : List ℕ) (a b c : ℕ) (ns : List ℕ) → put 0 (x ∷ y ∷ z ∷ ms) (a ∷ b ∷ c ∷ ns) ≡ x ∷ y ∷ z ∷ put 0 ms ns
put_three x y z ms a b c ns =
    let e : 0 + suc (suc (suc (length ms))) ≡ suc (suc (suc (0 + length ms))) = omega arith in
    ap (λ (k : ℕ). x ∷ y ∷ z ∷ (ms ++ drop k (a ∷ b ∷ c ∷ ns))) e

rows_put : (rs : List Row) (ns : List ℕ) → 3 * length rs ≤ length ns → rows_of (put 0 (numbers_of rs) ns) ≡ rs ++ drop (length rs) (rows_of ns)
unfolding numbers_of
rows_put [] ns h = ap rows_of (put_nil 0 ns)
rows_put (r ∷ rs) [] h = absurd (omega arith)
rows_put (r ∷ rs) (a ∷ []) h = absurd (omega arith)
rows_put (r ∷ rs) (a ∷ b ∷ []) h = absurd (omega arith)
rows_put (r ∷ rs) (a ∷ b ∷ c ∷ ns) h =
    ap rows_of (put_three r.count r.value r.figure (numbers_of rs) a b c ns)
    ∙ rows_cons r.count r.value r.figure (put 0 (numbers_of rs) ns)
    ∙ ap (λ (qs : List Row). r ∷ qs) (rows_put rs ns (omega arith) ∙ ap (λ (qs : List Row). rs ++ drop (suc (length rs)) qs) (sym (rows_cons a b c ns)))

-- what passes one list of lines after another passes the second
passes_last : (ls ms : List Line) → Passes (ls ++ ms) → Passes ms
passes_last [] ms e = e
passes_last (l ∷ ls) ms e = passes_last ls ms (passed l (ls ++ ms) e).1

pub numbers_list : (d b : Bytes) (ns : List ℕ) → rows_of (numbers_after d b ns) ≡ link_list (read_links d (rows_of ns)) b
unfolding numbers_after link_list link_lines list_filled
numbers_list d b ns =
    let t = tree_of b in
    let rs : List Row = rows_in (reading d t) in
    let ls : List Line = image_lines b ++ link_lines (read_links d (rows_of ns)) t in
    settle_both (λ (ms : List ℕ) (qs : List Row). rows_of ms ≡ qs) ls (λ f. ns) (put 0 (numbers_of rs) ns) (λ f. rows_of ns) (rs ++ drop (length rs) (rows_of ns)) (λ f. refl)
    (λ p. let long = (passed (short_line (rows_of ns) rs) [] (passes_last (judged_lines d t) (short_line (rows_of ns) rs ∷ []) (image_passed b (link_lines (read_links d (rows_of ns)) t) p).1)).0 in
    rows_put rs ns (omega (arith, nltb→le (length (rows_of ns)) (length rs) long, rows_long ns)))
