-- Read, write and lock: they walk to a file and refuse a directory; read and write also refuse a position past its size, and then ask for pages. What is left
-- at a file's place is the call's own.
use mathlib.Core.Path.{◌≡◌, sym, ap, ◌∙◌}
use Prim.Native.Nat.{ℕ}
use mathlib.Core.Bool.{Bool}
use mathlib.Core.List.{List, [], ◌∷◌, ◌++◌}
use lib.ListN.{length}
use lib.Dec.{ltb}
use Rattle.volume.specs.Bytes.{Bytes}
use Rattle.volume.specs.Chain.{chain}
use Rattle.model.specs.Entry.{a_file}
use Rattle.model.specs.View.{View, next}
use Rattle.model.specs.Tree.{Node, file_node}
use Rattle.model.specs.Image.{content_of}
use Rattle.model.specs.Call.{Refusal, refusal, refused, granted}
use Rattle.model.specs.Version.{Version, Calls}
use Rattle.model.specs.RefusalOf.{Line, path_line, walk_lines, is_directory_node, content_in, walked, node, refusals, settle}
use Rattle.model.specs.MeaningOf.{tree_of, lines}
use Rattle.arrivals.specs.Places.{Spot, the_root, the_file, the_directory, placed}
use Rattle.arrivals.proofs.Arrivals.{node_at, file_node_lem, directory_node_lem}
use Rattle.arrivals.proofs.Entries.{file_size}
use Rattle.arrivals.proofs.Settled.{Reads, JudgesFirst, opened, placed_arrived, node_settled}

-- the lines of a call on a file: a directory is refused, and the rest is the call's own
abbrev pub file_call : (Node → List Line) → Node → List Line
file_call rest n = (is_directory_node n, refusal 7) ∷ rest n

-- 12, and then number 10
abbrev pub past_or : (from : ℕ) → (Node → Line) → Node → List Line
past_or from space n = (ltb (length (content_in n)) from, refusal 12) ∷ space n ∷ []

-- the content of a file by its start page and size
abbrev pub content_at : View → (start size : ℕ) → Bytes
content_at v start k = content_of v k (chain (next v) (v.numbers.pages_for k) start)

-- the root or a directory
abbrev pub NoFile : Spot → Type 0
NoFile the_root = Unit {0}
NoFile (the_file entry begins start size) = ⊥
NoFile (the_directory entry begins start size) = Unit {0}

module _ {w : Version} (reads : Reads w) where
  -- the content of a file that a path leads to is as long as its size
  pub content_long : (b path : Bytes) {entry begins start k : ℕ} → granted (the_file entry begins start k) ≡ placed w b path
      → length (content_at (w.see b) start k) ≡ k
  content_long b path {entry} {begins} {start} {k} e =
      let a = placed_arrived w b path (the_file entry begins start k) e in
      file_size a.facts a.at.0 (reads.readable b a.is_sound) a.at.1

  -- what a call does: f of a refusal, or x of what the path leads to
  module _ {A : Type 0} (b path : Bytes) (c : Calls w) (other : JudgesFirst w c) (rest : Node → List Line)
      (is : refusals w c (tree_of w b) ≡ path_line path ∷ (walk_lines (walked path (tree_of w b)) ++ file_call rest (node path (tree_of w b))))
      (f : Refusal → A) (x : Node → A) where
    abbrev does : A
    does = settle (lines w c b) f (x (node path (tree_of w b)))

    abbrev left : Spot → A
    left s = settle (file_call rest (node_at (w.see b) s)) f (x (node_at (w.see b) s))

    by_place : does ≡ opened f left (placed w b path)
    by_place = node_settled w b path f reads c other (file_call rest) x is

    pub refused_does : {m : Refusal} → refused m ≡ placed w b path → f m ≡ does
    refused_does e = ap (opened f left) e ∙ sym by_place

    at_place : (s : Spot) → granted s ≡ placed w b path → left s ≡ does
    at_place s e = ap (opened f left) e ∙ sym by_place

    pub no_file_does : (s : Spot) → NoFile s → granted s ≡ placed w b path → f (refusal 7) ≡ does
    unfolding settle is_directory_node
    no_file_does the_root u e = at_place the_root e
    no_file_does (the_file entry begins start k) u e = absurd u
    no_file_does (the_directory entry begins start k) u e =
        ap (λ (n : Node). settle (file_call rest n) f (x n))
        (sym (directory_node_lem (w.see b) entry begins start k (placed_arrived w b path (the_directory entry begins start k) e).at.1))
        ∙ at_place (the_directory entry begins start k) e

    pub file_does : {entry begins start k : ℕ} {locked : Bool} {name date : Bytes} → granted (the_file entry begins start k) ≡ placed w b path
        → (w.see b).entry_at entry ≡ a_file locked name date start k
        → settle (rest (file_node locked date (content_at (w.see b) start k))) f (x (file_node locked date (content_at (w.see b) start k))) ≡ does
    unfolding settle is_directory_node
    file_does {entry} {begins} {start} {k} e read =
        ap (λ (n : Node). settle (file_call rest n) f (x n)) (sym (file_node_lem (w.see b) entry begins start k read))
        ∙ at_place (the_file entry begins start k) e
