-- Lock and unlock: at a file's place no line is left, and the byte that is set is the flags' of the entry that the path leads to.
use mathlib.Core.Path.{◌≡◌, refl, sym, ap, ◌∙◌}
use Prim.Native.Nat.{ℕ}
use mathlib.Core.Bool.{Bool}
use mathlib.Core.List.{List, [], ◌∷◌, ◌++◌}
use lib.ListN.{set}
use lib.Dec.{leb-suc-zero}
use Rattle.volume.specs.Bytes.{Bytes, byte_at}
use Rattle.model.specs.Tree.{Node}
use Rattle.model.specs.Path.{path_of}
use Rattle.model.specs.EffectOf.{with_lock, relocked}
use Rattle.model.specs.Call.{set_lock, Refusal, refusal, refused, granted}
use Rattle.model.specs.Version.{Version}
use Rattle.model.specs.RefusalOf.{Line, path_line, walk_lines, walked, node, wanted, free_in, space_line, earlier, later, refusals, settle}
use Rattle.model.specs.MeaningOf.{told, is_format, tree_of, effect, answer, after}
use Rattle.arrivals.specs.Places.{Spot, the_file, placed}
use Rattle.arrivals.proofs.Entries.{entry_position}
use Rattle.arrivals.proofs.Settled.{Reads, Refuses, placed_arrived}
use Rattle.arrivals.proofs.Files.{file_call, NoFile, refused_does, no_file_does, file_does}

module _ {w : Version} (reads : Reads w) (b path : Bytes) (k : Bool) where
  abbrev rest : Node → List Line
  rest n = space_line w (set_lock k path) (tree_of w b) ∷ []

  its_lines : refusals w (set_lock k path) (tree_of w b) ≡ path_line path ∷ (walk_lines (walked path (tree_of w b)) ++ file_call rest (node path (tree_of w b)))
  unfolding refusals earlier later
  its_lines = refl

  abbrev result : Node → Bytes
  result n = relocked w.see (path_of path) k b

  pub lock_refused : {m : Refusal} → refused m ≡ placed w b path → Refuses w (set_lock k path) b m
  unfolding answer after told effect is_format
  lock_refused e = (
    refused_does reads b path (set_lock k path) refl rest its_lines refused (λ n. granted (tt {0})) e,
    refused_does reads b path (set_lock k path) refl rest its_lines (λ m. b) result e,
  )

  pub lock_no_file : (s : Spot) → NoFile s → granted s ≡ placed w b path → Refuses w (set_lock k path) b (refusal 7)
  unfolding answer after told effect is_format
  lock_no_file s n e = (
    no_file_does reads b path (set_lock k path) refl rest its_lines refused (λ n. granted (tt {0})) s n e,
    no_file_does reads b path (set_lock k path) refl rest its_lines (λ m. b) result s n e,
  )

  pub lock_done : {entry begins start size : ℕ} → granted (the_file entry begins start size) ≡ placed w b path
      → {b' : Bytes} → b' ≡ set b entry (with_lock k (byte_at b entry)) → (granted (tt {0}) ≡ answer w (set_lock k path) b) × (b' ≡ after w (set_lock k path) b)
  unfolding answer after told effect is_format settle wanted relocked
  lock_done {entry} {begins} {start} {size} e set_there =
      let there = (placed_arrived w b path (the_file entry begins start size) e).at in (
        rw (leb-suc-zero (free_in w (tree_of w b))) at (file_does reads b path (set_lock k path) refl rest its_lines refused (λ n. granted (tt {0})) e there.1),
        set_there ∙ ap (λ (i : ℕ). set b i (with_lock k (byte_at b i))) (sym (entry_position there.0))
            ∙ (rw (leb-suc-zero (free_in w (tree_of w b))) at (file_does reads b path (set_lock k path) refl rest its_lines (λ m. b) result e there.1)),
      )
