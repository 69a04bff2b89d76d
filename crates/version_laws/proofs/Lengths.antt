-- No call changes the length of an image, if format does not: any other leaves the tree's N and page code, and a sound image is as long as these say.
use mathlib.Core.Path.{◌≡◌, refl, sym, ap, ap₂, ◌∙◌}
use Prim.Native.Nat.{ℕ, ◌*◌}
use mathlib.Core.Bool.{not}
use lib.ListN.{length}
use lib.Dec.{T}
use Rattle.volume.specs.Bytes.{Bytes}
use Rattle.model.specs.Tree.{Tree}
use Rattle.model.specs.Call.{format_as, verdict, find, list, read, make_file, make_directory, write, remove_file, remove_directory, set_lock, store_as}
use Rattle.model.specs.Version.{Version, Calls}
use Rattle.model.specs.RefusalOf.{Passes, numbers_for, refusals}
use Rattle.model.specs.MeaningOf.{sound, in_parent, tree_of, is_format, lines, changed, effect}
use Rattle.model.specs.DemandsOf.{Formats}
use Rattle.version_laws.proofs.Passed.{sound_passed}

module _ (w : Version) where
  same_shape : (c : Calls w) → T (not (is_format c)) → (t : Tree) → ((changed w c t).pages ≡ t.pages) × ((changed w c t).code ≡ t.code)
  unfolding is_format changed in_parent
  same_shape (format_as new) n t = absurd n
  same_shape verdict n t = (refl, refl)
  same_shape (find path) n t = (refl, refl)
  same_shape (list path i) n t = (refl, refl)
  same_shape (read path at room) n t = (refl, refl)
  same_shape (make_file path date) n t = (refl, refl)
  same_shape (make_directory path date) n t = (refl, refl)
  same_shape (write path at v) n t = (refl, refl)
  same_shape (remove_file path) n t = (refl, refl)
  same_shape (remove_directory path) n t = (refl, refl)
  same_shape (set_lock locked path) n t = (refl, refl)
  same_shape (store_as has path date v k buffer) n t = (refl, refl)

  module _ (long : (b : Bytes) → T (sound w b) → (tree_of w b).pages * (numbers_for w (tree_of w b)).page_size ≡ length b)
      (grants : (c : Calls w) (b : Bytes) → T (sound w b) → Passes (refusals w c (tree_of w b))
      → T (sound w (effect w c b)) × (tree_of w (effect w c b) ≡ changed w c (tree_of w b)))
      (formats : (new : w.New) (b : Bytes) → Formats w new b → length (w.formatted new b) ≡ length b) where
    other : (c : Calls w) (b : Bytes) → T (not (is_format c)) → Passes (lines w c b) → length (effect w c b) ≡ length b
    other c b n e =
        let p = sound_passed w c b n e in
        let g = grants c b p.0 p.1 in
        let s = same_shape c n (tree_of w b) in
        sym (long (effect w c b) g.0) ∙ ap (λ (t : Tree). t.pages * (numbers_for w t).page_size) g.1
        ∙ ap₂ (λ (pages code : ℕ). pages * (w.numbers pages code).page_size) s.0 s.1 ∙ long b p.0

    pub kept : (c : Calls w) (b : Bytes) → Passes (lines w c b) → length (effect w c b) ≡ length b
    unfolding lines is_format effect
    kept (format_as new) b e = formats new b e
    kept verdict b e = refl
    kept (find path) b e = refl
    kept (list path i) b e = refl
    kept (read path at room) b e = refl
    kept (make_file path date) b e = other (make_file path date) b tt e
    kept (make_directory path date) b e = other (make_directory path date) b tt e
    kept (write path at v) b e = other (write path at v) b tt e
    kept (remove_file path) b e = other (remove_file path) b tt e
    kept (remove_directory path) b e = other (remove_directory path) b tt e
    kept (set_lock locked path) b e = other (set_lock locked path) b tt e
    kept (store_as has path date v k buffer) b e = refl
