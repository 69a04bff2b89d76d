-- What the calls that judge the whole file share: the image's lines and the file's own stand above what is asked of the bytes.
use mathlib.Core.Path.{◌≡◌, sym, ap, ◌∙◌}
use mathlib.Core.List.{List, ◌++◌}
use Rattle.volume.specs.Bytes.{Bytes}
use Rattle.model.specs.Image.{tree_of}
use Rattle.model.specs.Call.{Refusal, refused, granted}
use Rattle.model.specs.Refusal.{Line, content_in, node, settle, Passes}
use Rattle.model.specs.Meaning.{image_lines}
use Rattle.laws.proofs.Lines.{granted_passed, settle_append}
use Rattle.link_list.specs.Links.{links_path, reading, file_lines, bad_line, judged_lines}
use Rattle.link_list.proofs.Writing.{settle_passed}
use Rattle.link_files.specs.Loaded.{file_loaded}

module _ (d b : Bytes) where
  abbrev content : Bytes
  content = content_in (node (links_path d) (tree_of b))

  -- the image's lines and the file's stand above all others
  pub above : {A : Type 0} (g : Refusal → A) (ms : List Line) (x : A)
      → settle (image_lines b ++ (judged_lines d (tree_of b) ++ ms)) g x ≡ settle (image_lines b ++ file_lines d (tree_of b)) g (settle (bad_line (reading d (tree_of b)) ++ ms) g x)
  unfolding judged_lines
  above g ms x =
      let i = image_lines b in
      let f = file_lines d (tree_of b) in
      let e = bad_line (reading d (tree_of b)) in
      settle_append g i ((f ++ e) ++ ms) x
      ∙ ap (settle i g) (settle_append g (f ++ e) ms x ∙ settle_append g f e (settle ms g x) ∙ ap (settle f g) (sym (settle_append g e ms x)))
      ∙ sym (settle_append g i f (settle (e ++ ms) g x))

  -- the same where nothing else is asked
  pub under : {A : Type 0} (g : Refusal → A) (x : A)
      → settle (image_lines b ++ judged_lines d (tree_of b)) g x ≡ settle (image_lines b ++ file_lines d (tree_of b)) g (settle (bad_line (reading d (tree_of b))) g x)
  unfolding judged_lines
  under g x =
      settle_append g (image_lines b) (file_lines d (tree_of b) ++ bad_line (reading d (tree_of b))) x
      ∙ ap (settle (image_lines b) g) (settle_append g (file_lines d (tree_of b)) (bad_line (reading d (tree_of b))) x)
      ∙ sym (settle_append g (image_lines b) (file_lines d (tree_of b)) (settle (bad_line (reading d (tree_of b))) g x))

  pub passes : (v : Bytes) → granted v ≡ file_loaded d b → Passes (image_lines b ++ file_lines d (tree_of b)) × (v ≡ content)
  unfolding file_loaded
  passes v e =
      let p = granted_passed (image_lines b ++ file_lines d (tree_of b)) content v (sym e) in
      (p, let q : v ≡ content = cc (e ∙ settle_passed (image_lines b ++ file_lines d (tree_of b)) refused (granted content) p) in q)
