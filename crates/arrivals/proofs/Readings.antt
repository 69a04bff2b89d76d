-- Read: at a file's place the content is what its chain holds up to the size, so the bytes from a position on are those of the chain.
use mathlib.Core.Path.{◌≡◌, refl, sym, ap, ◌∙◌}
use Prim.Native.Nat.{ℕ, ◌-◌, ◌≤◌, ◌<◌, min}
use native.Mathlib.Omega.{arith}
use mathlib.Core.List.{◌∷◌, ◌++◌, flat_map}
use lib.ListN.{length, take, drop, length-take, length-drop}
use lib.Seq.{take-take}
use lib.Dec.{leb-suc-zero}
use borrow.Author.Tests.{lt-ltb, le-ltb}
use Rattle.volume.specs.Bytes.{Bytes, put}
use Rattle.volume.specs.Chain.{chain}
use Rattle.volume.proofs.Occ.{Under}
use Rattle.volume.proofs.Splice.{drop_take}
use Rattle.volume.proofs.Stretches.{take_min}
use Rattle.model.specs.View.{next}
use Rattle.model.specs.Tree.{Node, file_node}
use Rattle.model.specs.Image.{content_on, content_of}
use Rattle.model.specs.Call.{read, Refusal, refusal, Answer, refused, granted}
use Rattle.model.specs.Version.{Version}
use Rattle.model.specs.RefusalOf.{Line, path_line, walk_lines, content_in, walked, node, wanted, free_in, space_line, earlier, later, refusals, settle}
use Rattle.model.specs.MeaningOf.{copied, told, filled, is_format, tree_of, lines, answer, buffer_after}
use Rattle.arrivals.specs.Places.{Spot, the_file, lock_in, date_in, placed}
use Rattle.arrivals.proofs.Entries.{file_inside}
use Rattle.arrivals.proofs.Settled.{Reads, placed_arrived}
use Rattle.arrivals.proofs.Files.{file_call, past_or, content_at, NoFile, content_long, refused_does, no_file_does, file_does}

-- the bytes that a read copies of content of length k, and how many they are
module _ (xs room : Bytes) (k at count : ℕ) (long : length (take k xs) ≡ k) (is : count ≡ min (length room) (k - at)) where
  copied_part : take count (drop at xs) ≡ copied (take k xs) at room
  copied_part =
      sym (take-take count (k - at) (drop at xs) (omega arith)) ∙ ap (take count) (sym (drop_take at k xs))
      ∙ take_min (length room) count (drop at (take k xs)) (omega (arith, length-drop at (take k xs)))

  copied_count : count ≡ length (copied (take k xs) at room)
  copied_count = omega (arith, length-take (length room) (drop at (take k xs)), length-drop at (take k xs))

-- the file's pages lie in the image
pub read_inside : (w : Version) (b path : Bytes) {entry begins start k : ℕ} → granted (the_file entry begins start k) ≡ placed w b path
    → Under (w.see b).pages (chain (next (w.see b)) ((w.see b).numbers.pages_for k) start)
read_inside w b path {entry} {begins} {start} {k} e = let a = placed_arrived w b path (the_file entry begins start k) e in file_inside a.facts a.at.0 a.at.1

-- ---- the answer and the buffer

-- a refusal leaves the buffer as it is
abbrev pub ReadRefuses : (w : Version) (b path : Bytes) (at : ℕ) (room : Bytes) → Refusal → Type 0
ReadRefuses w b path at room m = (refused m ≡ answer w (read path at room) b) × (room ≡ buffer_after w (read path at room) b)

module _ {w : Version} (reads : Reads w) (b path : Bytes) (at : ℕ) (room : Bytes) where
  abbrev space : Node → Line
  space n = space_line w (read path at room) (tree_of w b)

  its_lines : refusals w (read path at room) (tree_of w b)
      ≡ path_line path ∷ (walk_lines (walked path (tree_of w b)) ++ file_call (past_or at space) (node path (tree_of w b)))
  unfolding refusals earlier later
  its_lines = refl

  abbrev counted : Node → Answer ℕ
  counted n = granted (length (copied (content_in n) at room))

  abbrev held : Node → Bytes
  held n = put 0 (copied (content_in n) at room) room

  pub read_refused : {m : Refusal} → refused m ≡ placed w b path → ReadRefuses w b path at room m
  unfolding answer buffer_after told filled is_format
  read_refused e = (
    refused_does reads b path (read path at room) refl (past_or at space) its_lines refused counted e,
    refused_does reads b path (read path at room) refl (past_or at space) its_lines (λ m. room) held e,
  )

  pub read_no_file : (s : Spot) → NoFile s → granted s ≡ placed w b path → ReadRefuses w b path at room (refusal 7)
  unfolding answer buffer_after told filled is_format
  read_no_file s n e = (
    no_file_does reads b path (read path at room) refl (past_or at space) its_lines refused counted s n e,
    no_file_does reads b path (read path at room) refl (past_or at space) its_lines (λ m. room) held s n e,
  )

  module _ {entry begins start k : ℕ} (e : granted (the_file entry begins start k) ≡ placed w b path) where
    abbrev its : Node
    its = file_node (lock_in ((w.see b).entry_at entry)) (date_in ((w.see b).entry_at entry)) (content_at (w.see b) start k)

    -- what is left of the lines
    on_file : {A : Type 0} (f : Refusal → A) (x : Node → A)
        → settle (past_or at space its) f (x its) ≡ settle (lines w (read path at room) b) f (x (node path (tree_of w b)))
    unfolding is_format
    on_file f x = file_does reads b path (read path at room) refl (past_or at space) its_lines f x e (placed_arrived w b path (the_file entry begins start k) e).at.1

    pub read_past : k < at → ReadRefuses w b path at room (refusal 12)
    unfolding answer buffer_after told filled settle content_in
    read_past h = (rw (content_long reads b path e, lt-ltb k at h) at (on_file refused counted), rw (content_long reads b path e, lt-ltb k at h) at (on_file (λ m. room) held))

    -- a read wants no pages
    file_done : {A : Type 0} (f : Refusal → A) (x : Node → A) → at ≤ k → x its ≡ settle (lines w (read path at room) b) f (x (node path (tree_of w b)))
    unfolding settle wanted content_in
    file_done f x h = rw (content_long reads b path e, le-ltb k at h, leb-suc-zero (free_in w (tree_of w b))) at (on_file f x)

    module _ (h : at ≤ k) (count : ℕ) (least : count ≡ min (length room) (k - at)) where
      abbrev xs : Bytes
      xs = flat_map (content_on (w.see b)) (chain (next (w.see b)) ((w.see b).numbers.pages_for k) start)

      long : length (take k xs) ≡ k
      unfolding content_of
      long = content_long reads b path e

      pub read_answer : granted count ≡ answer w (read path at room) b
      unfolding answer told content_in content_of
      read_answer = ap granted (copied_count xs room k at count long least) ∙ file_done refused counted h

      pub read_buffer : (n : ℕ) → n ≡ (w.see b).numbers.pages_for k → {room' : Bytes}
          → room' ≡ put 0 (take count (drop at (flat_map (content_on (w.see b)) (chain (next (w.see b)) n start)))) room
          → room' ≡ buffer_after w (read path at room) b
      unfolding buffer_after filled content_in content_of
      read_buffer n many copy = (rw many at copy) ∙ ap (λ (v : Bytes). put 0 v room) (copied_part xs room k at count long least) ∙ file_done (λ m. room) held h
