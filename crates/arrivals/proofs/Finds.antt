-- Find: at each place that a path leads to, what its entry says. A file's size is the length of its content, which the tree has.
use mathlib.Core.Path.{◌≡◌, refl, sym, ap, ◌∙◌}
use Prim.Native.Nat.{ℕ}
use mathlib.Core.Bool.{Bool}
use mathlib.Core.List.{[], ◌∷◌}
use lib.ListN.{replicate}
use lib.Dec.{leb-suc-zero}
use Rattle.volume.specs.Bytes.{Bytes}
use Rattle.model.specs.Entry.{a_file, a_directory}
use Rattle.model.specs.Tree.{Node}
use Rattle.model.specs.Image.{tree_in}
use Rattle.model.specs.Call.{find, is_file, is_directory, Refusal, refused, granted}
use Rattle.model.specs.Version.{Version}
use Rattle.model.specs.RefusalOf.{free_in, wanted, earlier, space_line, later, refusals, settle}
use Rattle.model.specs.MeaningOf.{found_at, told, is_format, tree_of, answer}
use Rattle.arrivals.specs.Places.{Spot, the_root, the_file, the_directory, numbers_on, placed}
use Rattle.arrivals.proofs.Arrivals.{node_at, file_node_lem, directory_node_lem}
use Rattle.arrivals.proofs.Settled.{Reads, opened, node_settled}
use Rattle.arrivals.proofs.Files.{content_long}

module _ {w : Version} (reads : Reads w) (b path : Bytes) where
  find_placed : answer w (find path) b ≡ opened refused (λ s. granted (found_at (numbers_on w b).page_size (node_at (w.see b) s))) (placed w b path)
  unfolding answer is_format refusals earlier later wanted told settle tree_in
  find_placed =
      node_settled w b path refused reads (find path) refl (λ n. space_line w (find path) (tree_of w b) ∷ []) (λ n. granted (found_at (numbers_on w b).page_size n)) refl
      ∙ rw (leb-suc-zero (free_in w (tree_of w b)))

  at_place : (s : Spot) → granted s ≡ placed w b path → granted (found_at (numbers_on w b).page_size (node_at (w.see b) s)) ≡ answer w (find path) b
  at_place s e = ap (opened refused (λ s. granted (found_at (numbers_on w b).page_size (node_at (w.see b) s)))) e ∙ sym find_placed

  pub find_refused : {m : Refusal} → refused m ≡ placed w b path → refused m ≡ answer w (find path) b
  find_refused e = ap (opened refused (λ s. granted (found_at (numbers_on w b).page_size (node_at (w.see b) s)))) e ∙ sym find_placed

  pub find_root : granted the_root ≡ placed w b path
      → granted (record { kind = is_directory; size = (numbers_on w b).page_size; date = replicate 8 0 }) ≡ answer w (find path) b
  unfolding found_at
  find_root e = at_place the_root e

  module _ {at begins start k : ℕ} {name date : Bytes} where
    pub find_file : {locked : Bool} → granted (the_file at begins start k) ≡ placed w b path → (w.see b).entry_at at ≡ a_file locked name date start k
        → granted (record { kind = is_file locked; size = k; date = date }) ≡ answer w (find path) b
    unfolding found_at
    find_file {locked} e is =
        ap (λ (n : ℕ). granted (record { kind = is_file locked; size = n; date = date })) (sym (content_long reads b path e))
        ∙ ap (λ (x : Node). granted (found_at (numbers_on w b).page_size x)) (sym (file_node_lem (w.see b) at begins start k is))
        ∙ at_place (the_file at begins start k) e

    pub find_directory : granted (the_directory at begins start k) ≡ placed w b path → (w.see b).entry_at at ≡ a_directory name date start k
        → granted (record { kind = is_directory; size = (numbers_on w b).page_size; date = date }) ≡ answer w (find path) b
    unfolding found_at
    find_directory e is =
        ap (λ (x : Node). granted (found_at (numbers_on w b).page_size x)) (sym (directory_node_lem (w.see b) at begins start k is))
        ∙ at_place (the_directory at begins start k) e
