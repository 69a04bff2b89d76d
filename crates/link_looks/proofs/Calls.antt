-- A link call that judges the whole file, by the file's bytes: its lines are the image's, the file's own, and what is asked of the bytes.
use mathlib.Core.Path.{◌≡◌, sym, ◌∙◌}
use Prim.Native.Nat.{ℕ}
use mathlib.Core.List.{List, [], ◌∷◌, ◌++◌}
use lib.ListN.{length}
use Rattle.volume.specs.Bytes.{Bytes, put}
use Rattle.model.specs.Image.{tree_of}
use Rattle.model.specs.Call.{Refusal, refused, granted}
use Rattle.model.specs.Refusal.{content_in, node}
use Rattle.model.specs.Meaning.{image_lines}
use Rattle.laws.proofs.Lines.{settle_append, settle_refused}
use Rattle.link_list.specs.Links.{read_links, find_link, check_links, links_path, reading, rows_in, file_lines, bad_line, short_line, record_lines, figure_of, link_lines, link_told, link_answer}
use Rattle.link_list.proofs.Writing.{settle_passed}
use Rattle.link_rows.specs.Told.{numbers_of}
use Rattle.link_judge.specs.Judged.{rows_of}
use Rattle.link_files.specs.Loaded.{file_loaded}
use Rattle.link_files.proofs.Whole.{above, under, passes}
use Rattle.link_reads.specs.Reads.{read_in, numbers_in, find_in}
use Rattle.link_checks.specs.Checks.{checked_rows, check_in}
use Rattle.link_looks.specs.Looks.{numbers_after}

module _ (d b : Bytes) where
  abbrev content : Bytes
  content = content_in (node (links_path d) (tree_of b))

  pub loaded_read : (v : Bytes) → granted v ≡ file_loaded d b → (ns : List ℕ)
      → (read_in v ns ≡ link_answer (read_links d (rows_of ns)) b) × (numbers_in v ns ≡ numbers_after d b ns)
  unfolding read_in numbers_in link_answer numbers_after link_lines link_told
  loaded_read v e ns =
      let p = passes d b v e in
      let ms = short_line (rows_of ns) (rows_in (reading d (tree_of b))) ∷ [] in
      let answered = above d b refused ms (granted (length (rows_in (reading d (tree_of b))))) ∙ settle_passed _ refused _ p.0 in
      let kept = above d b (λ f. ns) ms (put 0 (numbers_of (rows_in (reading d (tree_of b)))) ns) ∙ settle_passed _ (λ f. ns) _ p.0 in
      rw p.1 (sym answered, sym kept)

  pub refused_read : (f : Refusal) → refused f ≡ file_loaded d b → (ns : List ℕ) → (refused f ≡ link_answer (read_links d (rows_of ns)) b) × (ns ≡ numbers_after d b ns)
  unfolding file_loaded link_answer numbers_after link_lines
  refused_read f e ns =
      let ls = image_lines b ++ file_lines d (tree_of b) in
      let ms = short_line (rows_of ns) (rows_in (reading d (tree_of b))) ∷ [] in
      (sym (above d b refused ms _ ∙ settle_refused ls content f refused _ (sym e)), sym (above d b (λ r. ns) ms _ ∙ settle_refused ls content f (λ r. ns) _ (sym e)))

  pub loaded_find : (v : Bytes) → granted v ≡ file_loaded d b → (count value : ℕ) → find_in v count value ≡ link_answer (find_link d count value) b
  unfolding find_in link_answer link_lines link_told
  loaded_find v e count value =
      let p = passes d b v e in
      let x = granted (figure_of count value (rows_in (reading d (tree_of b)))) in
      rw p.1 (sym (under d b refused x ∙ settle_passed _ refused _ p.0))

  pub refused_find : (f : Refusal) → refused f ≡ file_loaded d b → (count value : ℕ) → refused f ≡ link_answer (find_link d count value) b
  unfolding file_loaded link_answer link_lines
  refused_find f e count value = sym (under d b refused _ ∙ settle_refused (image_lines b ++ file_lines d (tree_of b)) content f refused _ (sym e))

  pub loaded_check : (v : Bytes) → granted v ≡ file_loaded d b → check_in v d b ≡ link_answer (check_links d) b
  unfolding check_in checked_rows link_answer link_lines link_told
  loaded_check v e =
      let p = passes d b v e in
      let ms = record_lines 0 d (tree_of b) (rows_in (reading d (tree_of b))) in
      rw p.1 (sym (above d b refused ms (granted tt) ∙ settle_passed _ refused _ p.0 ∙ settle_append refused (bad_line (reading d (tree_of b))) ms (granted tt)))

  pub refused_check : (f : Refusal) → refused f ≡ file_loaded d b → refused f ≡ link_answer (check_links d) b
  unfolding file_loaded link_answer link_lines link_told
  refused_check f e =
      sym (above d b refused (record_lines 0 d (tree_of b) (rows_in (reading d (tree_of b)))) (granted tt) ∙ settle_refused (image_lines b ++ file_lines d (tree_of b)) content f refused _ (sym e))
