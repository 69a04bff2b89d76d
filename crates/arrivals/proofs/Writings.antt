-- Write: at a file's place the pages wanted are counted against the tree's free number, and what is written stands in the entry that the path leads to.
use mathlib.Core.Path.{◌≡◌, refl, sym, ◌∙◌}
use Prim.Native.Nat.{ℕ, ◌+◌, ◌-◌, ◌≤◌, ◌<◌, max}
use native.Mathlib.Omega.{arith}
use mathlib.Core.Bool.{Bool, true, false}
use mathlib.Core.List.{List, [], ◌∷◌, ◌++◌}
use lib.ListN.{length}
use lib.Dec.{ltb}
use borrow.Author.Tests.{lt-ltb, le-ltb, eq-eqb, ne_eqb}
use Rattle.volume.specs.Bytes.{Bytes}
use Rattle.model.specs.Entry.{a_file}
use Rattle.model.specs.Numbers.{Numbers}
use Rattle.model.specs.View.{View, EntryLayout}
use Rattle.model.specs.Tree.{Node, file_node}
use Rattle.model.specs.Path.{Path, path_of}
use Rattle.model.specs.Image.{tree_in}
use Rattle.model.specs.EffectOf.{rewritten, written}
use Rattle.model.specs.Call.{write, Refusal, refusal, refused, granted}
use Rattle.model.specs.Version.{Version}
use Rattle.model.specs.RefusalOf.{Line, path_line, walk_lines, is_locked_node, content_in, walked, node, wanted, free_in, earlier, later, refusals, settle}
use Rattle.model.specs.MeaningOf.{told, is_format, tree_of, effect, answer, after}
use Rattle.arrivals.specs.Places.{Spot, the_file, numbers_on, placed}
use Rattle.arrivals.proofs.Arrivals.{EntryOf}
use Rattle.arrivals.proofs.Entries.{entry_position}
use Rattle.arrivals.proofs.Settled.{Reads, Refuses, placed_arrived}
use Rattle.arrivals.proofs.Files.{file_call, past_or, content_at, NoFile, content_long, refused_does, no_file_does, file_does}

-- the pages that a write of n bytes from a place on wants, of a file of size k
abbrev pub more : Numbers → (k from n : ℕ) → ℕ
more m k from n = m.pages_for (max k (from + n)) - m.pages_for k

pub no_longer : (m : Numbers) (free k from n : ℕ) → from + n ≤ k → false ≡ ltb free (more m k from n)
no_longer m free k from n h =
    let e : max k (from + n) ≡ k = omega arith in
    sym (le-ltb free (more m k from n) (rw e (omega arith)))

-- a write of none changes nothing
pub none_written : (l : EntryLayout) (see : Bytes → View) (p : Path) (from : ℕ) (v b : Bytes) → length v ≡ 0 → b ≡ written l see p from v b
unfolding written
none_written l see p from v b h = sym (rw (eq-eqb (length v) 0 h))

pub bytes_written : (l : EntryLayout) (see : Bytes → View) {p : Path} {at begins : ℕ} (from : ℕ) (v b : Bytes) → EntryOf (see b) p at begins → 0 < length v
    → rewritten l see at from v b ≡ written l see p from v b
unfolding written
bytes_written l see from v b x h = sym (rw (ne_eqb (length v) 0 (λ e. omega arith), entry_position x))

-- ---- the answer and the image

module _ {w : Version} (reads : Reads w) (b path : Bytes) (from : ℕ) (v : Bytes) where
  abbrev space : Node → Line
  space n = (ltb (free_in w (tree_of w b)) (more (numbers_on w b) (length (content_in n)) from (length v)), refusal 10)

  abbrev rest : Node → List Line
  rest n = (is_locked_node n, refusal 25) ∷ past_or from space n

  its_lines : refusals w (write path from v) (tree_of w b) ≡ path_line path ∷ (walk_lines (walked path (tree_of w b)) ++ file_call rest (node path (tree_of w b)))
  unfolding refusals earlier later wanted tree_in
  its_lines = refl

  abbrev result : Node → Bytes
  result n = written w.entry w.see (path_of path) from v b

  pub write_refused : {m : Refusal} → refused m ≡ placed w b path → Refuses w (write path from v) b m
  unfolding answer after told effect is_format
  write_refused e = (
    refused_does reads b path (write path from v) refl rest its_lines refused (λ n. granted (tt {0})) e,
    refused_does reads b path (write path from v) refl rest its_lines (λ m. b) result e,
  )

  pub write_no_file : (s : Spot) → NoFile s → granted s ≡ placed w b path → Refuses w (write path from v) b (refusal 7)
  unfolding answer after told effect is_format
  write_no_file s n e = (
    no_file_does reads b path (write path from v) refl rest its_lines refused (λ n. granted (tt {0})) s n e,
    no_file_does reads b path (write path from v) refl rest its_lines (λ m. b) result s n e,
  )

  module _ {entry begins start k : ℕ} {locked : Bool} {name date : Bytes} (e : granted (the_file entry begins start k) ≡ placed w b path)
      (is : (w.see b).entry_at entry ≡ a_file locked name date start k) where
    -- what the lines behind 7 give is what the call gives
    answers : settle (rest (file_node locked date (content_at (w.see b) start k))) refused (granted (tt {0})) ≡ answer w (write path from v) b
    unfolding answer told is_format
    answers = file_does reads b path (write path from v) refl rest its_lines refused (λ n. granted (tt {0})) e is

    leaves : settle (rest (file_node locked date (content_at (w.see b) start k))) (λ m. b) (written w.entry w.see (path_of path) from v b)
        ≡ after w (write path from v) b
    unfolding after effect is_format
    leaves = file_does reads b path (write path from v) refl rest its_lines (λ m. b) result e is

    -- the code says r of the mark
    pub write_locked : {r : Bool} → r ≡ locked → r ≡ true → Refuses w (write path from v) b (refusal 25)
    unfolding settle is_locked_node
    write_locked marked true-is = let l = sym marked ∙ true-is in (rw l at answers, rw l at leaves)

    pub write_past : {r : Bool} → r ≡ locked → r ≡ false → k < from → Refuses w (write path from v) b (refusal 12)
    unfolding settle is_locked_node content_in
    write_past marked unmarked h =
        let u = sym marked ∙ unmarked in
        (rw (u, content_long reads b path e, lt-ltb k from h) at answers, rw (u, content_long reads b path e, lt-ltb k from h) at leaves)

-- ---- past the lines of the place, the lock and the position

pub record Passed (w : Version) (b path : Bytes) (from entry begins start k : ℕ) : Type 0 where
  pub there : granted (the_file entry begins start k) ≡ placed w b path
  pub name : Bytes
  pub date : Bytes
  pub is : (w.see b).entry_at entry ≡ a_file false name date start k
  pub inside : from ≤ k

-- the code says q of whether pages are lacking
module _ {w : Version} (reads : Reads w) {b path : Bytes} {from entry begins start k : ℕ} (p : Passed w b path from entry begins start k) (v : Bytes) {free : ℕ}
    (counts : free ≡ free_in w (tree_of w b)) {q : Bool} (counted : q ≡ ltb free (more (numbers_on w b) k from (length v))) where
  -- what the lines give
  lines_left : {A : Type 0} (f : Refusal → A) (x : A) → settle ((false, refusal 25) ∷ (ltb k from, refusal 12) ∷ (q, refusal 10) ∷ []) f x
      ≡ settle (rest reads b path from v (file_node false p.date (content_at (w.see b) start k))) f x
  unfolding settle is_locked_node content_in
  lines_left f x = rw (content_long reads b path p.there, ← counts, ← counted)

  pub write_lacking : q ≡ true → Refuses w (write path from v) b (refusal 10)
  unfolding settle
  write_lacking lacks =
      let room = le-ltb k from p.inside in (
        (rw (room, lacks) at (lines_left refused (granted (tt {0})))) ∙ answers reads b path from v p.there p.is,
        (rw (room, lacks) at (lines_left (λ m. b) (written w.entry w.see (path_of path) from v b))) ∙ leaves reads b path from v p.there p.is,
      )

  module _ (fits : q ≡ false) where
    done : (granted (tt {0}) ≡ answer w (write path from v) b) × (written w.entry w.see (path_of path) from v b ≡ after w (write path from v) b)
    unfolding settle
    done =
        let room = le-ltb k from p.inside in (
          (rw (room, fits) at (lines_left refused (granted (tt {0})))) ∙ answers reads b path from v p.there p.is,
          (rw (room, fits) at (lines_left (λ m. b) (written w.entry w.see (path_of path) from v b))) ∙ leaves reads b path from v p.there p.is,
        )

    pub write_nothing : length v ≡ 0 → (granted (tt {0}) ≡ answer w (write path from v) b) × (b ≡ after w (write path from v) b)
    write_nothing z = (done.0, none_written w.entry w.see (path_of path) from v b z ∙ done.1)

    pub write_done : (length v ≡ 0 → ⊥) → {b' : Bytes} → b' ≡ rewritten w.entry w.see entry from v b
        → (granted (tt {0}) ≡ answer w (write path from v) b) × (b' ≡ after w (write path from v) b)
    write_done some done-there = (
      done.0,
      done-there
          ∙ bytes_written w.entry w.see from v b (placed_arrived w b path (the_file entry begins start k) p.there).at.0 (omega arith) ∙ done.1,
    )
