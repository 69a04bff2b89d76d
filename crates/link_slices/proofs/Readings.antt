-- What is found in a file's bytes is what a reading makes of them, and what is found in a directory what the call makes of it, for any list.
use mathlib.Core.Path.{◌≡◌, refl, sym, ap, ◌∙◌}
use Prim.Native.Nat.{ℕ, zero, suc, ◌+◌, ◌≤◌, ◌<◌}
use native.Mathlib.Omega.{arith}
use mathlib.Core.List.{List, [], ◌∷◌, ◌++◌}
use lib.ListN.{length, set, take, drop}
use borrow.Author.Tests.{lt-ltb, le-ltb}
use Rattle.std.specs.Prelude.{Result, Ok, Err, IsErrAnd}
use Rattle.std.proofs.lemmas.Result.{err_from_is_err_and}
use Rattle.volume.specs.Bytes.{Bytes}
use Rattle.model.specs.Image.{tree_of}
use Rattle.model.specs.Call.{Refusal, refusal, refused, granted}
use Rattle.model.specs.Refusal.{settle, content_in, node}
use Rattle.model.specs.Meaning.{image_lines}
use Rattle.laws.proofs.Lines.{settle_refused}
use Rattle.link_list.specs.declared.Row.{Row}
use Rattle.link_list.specs.Judging.{read_list}
use Rattle.link_list.specs.Links.{read_links, links_path, reading, rows_in, file_lines, bad_line, short_line, link_lines, link_told, list_filled, link_answer, link_list}
use Rattle.link_list.proofs.Writing.{settle_passed}
use Rattle.link_judge.specs.declared.RowFault.{RowFault}
use Rattle.link_judge.specs.Judged.{row_refusal}
use Rattle.link_rows.specs.Told.{step_at, steps_from, counted}
use Rattle.link_rows.proofs.Readings.{steps_read, reading_rows, reading_bad}
use Rattle.refusals.specs.declared.Refusal.{Refusal as Base}
use Rattle.refusals.specs.Told.{told}
use Rattle.link_answers.specs.declared.LinkRefusal.{LinkRefusal}
use Rattle.link_answers.specs.declared.LinkRefusal.TheVariants.{Base as OfBase, ListTooShort}
use Rattle.link_answers.specs.Answers.{link_refusal, row_refused}
use Rattle.link_answers.proofs.Exits.{row_same}
use Rattle.link_files.specs.Loaded.{file_loaded}
use Rattle.link_files.proofs.Whole.{above, passes}
use Rattle.link_slices.specs.declared.Found.{Found}
use Rattle.link_slices.specs.Reading.{placed, rows_read, list_read, FoundIn, FoundFor}

-- ---- rows put one at a time, the next at i

unfoldable pub filled : Bytes → (left i at : ℕ) → List Row → List Row
filled v zero i at list = list
filled v (suc left) i at list = filled v left (i + 1) (step_at v at).next (set list i (step_at v at).row)

filled_behind : (v : Bytes) (left i at : ℕ) (r : Row) (list : List Row) → filled v left (i + 1) at (r ∷ list) ≡ r ∷ filled v left i at list
unfolding filled
filled_behind v zero i at r list = refl
filled_behind v (suc left) i at r list =
    let e : i + 1 ≡ suc i = omega arith in
    ap (λ (k : ℕ). filled v left (i + 1 + 1) (step_at v at).next (set (r ∷ list) k (step_at v at).row)) e
    ∙ filled_behind v left (i + 1) (step_at v at).next r (set list i (step_at v at).row)

filled_from : (v : Bytes) (left at : ℕ) (list : List Row) → left ≤ length list → filled v left 0 at list ≡ steps_from v left at ++ drop left list
unfolding filled steps_from
filled_from v zero at list h = refl
filled_from v (suc left) at [] h = absurd (omega arith)
filled_from v (suc left) at (r ∷ list) h =
    filled_behind v left 0 (step_at v at).next (step_at v at).row list
    ∙ ap (λ (rs : List Row). (step_at v at).row ∷ rs) (filled_from v left (step_at v at).next list (omega arith))

pub filled_placed : (v : Bytes) (count : ℕ) (list : List Row) → count ≤ length list → filled v count 0 0 list ≡ placed v count list
unfolding placed
filled_placed v count list h = filled_from v count 0 list h

-- ---- by the file's bytes

module _ (v : Bytes) (list : List Row) where
  pub rows_found : (n : ℕ) → granted n ≡ counted 0 (read_list v) → n ≤ length list → (granted n ≡ rows_read v list) × (placed v n list ≡ list_read v list)
  unfolding placed rows_read list_read bad_line rows_in settle
  rows_found n e l =
      let r = reading_rows (read_list v) n e in
      let enough = le-ltb (length list) (length r.0) (omega (arith, r.2)) in
      let steps : steps_from v n 0 ≡ r.0 = ap (λ (k : ℕ). steps_from v k 0) r.2 ∙ steps_read v r.0 r.1 in
      rw (r.1, enough) (ap (λ (k : ℕ). granted k) r.2, ap (λ (rs : List Row). rs ++ drop n list) steps ∙ ap (λ (k : ℕ). r.0 ++ drop k list) r.2)

  pub short_found : (n : ℕ) → granted n ≡ counted 0 (read_list v) → length list < n → (refused (refusal 24) ≡ rows_read v list) × (list ≡ list_read v list)
  unfolding rows_read list_read bad_line rows_in settle
  short_found n e l =
      let r = reading_rows (read_list v) n e in
      let short = lt-ltb (length list) (length r.0) (omega (arith, r.2)) in
      rw (r.1, short) (refl, refl)

  pub bad_found : (f : Refusal) → refused f ≡ counted 0 (read_list v) → (refused f ≡ rows_read v list) × (list ≡ list_read v list)
  unfolding rows_read list_read bad_line rows_in settle
  bad_found f e = rw (reading_bad (read_list v) f e) (refl, refl)

-- ---- in the code's words

module _ (v : Bytes) (room : ℕ) where
  pub found_rows : (n : ℕ) → granted n ≡ counted 0 (read_list v) → n ≤ room → FoundIn v room (Ok n)
  found_rows n e l = record { few = l; right = λ list k. rows_found v list n e (omega (arith, k)) }

  pub found_short : (n : ℕ) → granted n ≡ counted 0 (read_list v) → room < n → FoundIn v room (Err ListTooShort)
  found_short n e l = record { few = tt; right = λ list k. short_found v list n e (omega (arith, k)) }

  -- the exit of a `?`
  pub found_bad : (r : Result ℕ LinkRefusal) (f : RowFault) → IsErrAnd r (λ y. y ≡ row_refused f) → refused (row_refusal f) ≡ counted 0 (read_list v) → FoundIn v room r
  found_bad r f is e =
      let p = err_from_is_err_and r is in
      rw (p.1, p.2) (record { few = tt; right = λ list k. bad_found v list (link_refusal (row_refused f)) (ap (λ (x : Refusal). refused x) (row_same f) ∙ e) })

-- ---- in a directory

module _ (d b : Bytes) (list : List Row) where
  abbrev content : Bytes
  content = content_in (node (links_path d) (tree_of b))

  abbrev rs : List Row
  rs = rows_in (reading d (tree_of b))

  pub loaded_found : (v : Bytes) → granted v ≡ file_loaded d b → (rows_read v list ≡ link_answer (read_links d list) b) × (list_read v list ≡ link_list (read_links d list) b)
  unfolding rows_read list_read link_answer link_list link_lines link_told list_filled
  loaded_found v e =
      let p = passes d b v e in
      let ms = short_line list rs ∷ [] in
      let answered = above d b refused ms (granted (length rs)) ∙ settle_passed _ refused _ p.0 in
      let kept = above d b (λ f. list) ms (rs ++ drop (length rs) list) ∙ settle_passed _ (λ f. list) _ p.0 in
      rw p.1 (sym answered, sym kept)

  pub refused_found : (f : Refusal) → refused f ≡ file_loaded d b → (refused f ≡ link_answer (read_links d list) b) × (list ≡ link_list (read_links d list) b)
  unfolding file_loaded link_answer link_list link_lines
  refused_found f e =
      let ls = image_lines b ++ file_lines d (tree_of b) in
      let ms = short_line list rs ∷ [] in
      (sym (above d b refused ms _ ∙ settle_refused ls content f refused _ (sym e)), sym (above d b (λ r. list) ms _ ∙ settle_refused ls content f (λ r. list) _ (sym e)))

module _ (d b : Bytes) (room : ℕ) (bytes : Bytes) where
  pub found_loaded : (n : ℕ) → granted (take n bytes) ≡ file_loaded d b → n ≤ length bytes → (count : ℕ) → FoundIn (take n bytes) room (Ok count) → FoundFor d b room bytes (Ok (record { size = n; count = count }))
  found_loaded n h l count f = record {
    inside = l;
    few = f.few;
    right = λ list k. let loaded = loaded_found d b list (take n bytes) h in ((f.right list k).0 ∙ loaded.0, (f.right list k).1 ∙ loaded.1);
  }

  -- the exits of a `?`
  pub found_not : (r : Result Found LinkRefusal) (q : LinkRefusal) → IsErrAnd r (λ y. y ≡ q) → (n : ℕ) → granted (take n bytes) ≡ file_loaded d b → FoundIn (take n bytes) room (Err q) → FoundFor d b room bytes r
  found_not r q is n h f =
      let p = err_from_is_err_and r is in
      rw (p.1, p.2) (λ list k. let loaded = loaded_found d b list (take n bytes) h in ((f.right list k).0 ∙ loaded.0, (f.right list k).1 ∙ loaded.1))

  pub found_refused : (r : Result Found LinkRefusal) (q : Base) → IsErrAnd r (λ y. y ≡ OfBase q) → refused (told q) ≡ file_loaded d b → FoundFor d b room bytes r
  found_refused r q is e = let p = err_from_is_err_and r is in rw (p.1, p.2) (λ list k. refused_found d b list (told q) e)
