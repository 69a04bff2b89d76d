-- What a version owes the laws of calls: what its images and its numbers are, and that a granted call does to the bytes what it does to the tree. The rest
-- is proved once, of any version.
use mathlib.Core.Path.{◌≡◌}
use Prim.Native.Nat.{ℕ, ◌+◌, ◌*◌, ◌≤◌, ◌<◌}
use mathlib.Core.Bool.{Bool}
use mathlib.Core.List.{List, ◌∷◌, ◌++◌}
use lib.ListN.{length}
use lib.Dec.{T}
use Rattle.volume.specs.Bytes.{Bytes}
use Rattle.volume.specs.Geometry as On
use Rattle.model.specs.Judge.{is_clean, judge_view}
use Rattle.model.specs.Tree.{Tree, tree_needs}
use Rattle.model.specs.Version.{Version, Calls}
use Rattle.model.specs.RefusalOf.{Passes, numbers_for, free_in, buffer_numbers, earlier, later, refusals, table_of, own_numbers}
use Rattle.model.specs.MeaningOf.{sound, tree_of, length_line, header_lines, lines, numbers, effect, changed}
use Rattle.model.specs.DemandsOf.{Formats, fresh_of, count_in, Owned}
use Rattle.version_laws.proofs.Lines.{line_numbers, Numbered, InOrder, above_ten, below_ten}

module _ (w : Version) where
  -- What `numbers` says of a call: its lines have these numbers in this order (but for 10, which stands among them also where no page can be
  -- wanted), a line that holds has one of them, and they rise in the call's table.
  pub record OwnNumbers (c : Calls w) : Type 0 where
    pub above : (t : Tree) → line_numbers (earlier w c t) ≡ above_ten (table_of w c) (buffer_numbers c ++ own_numbers w c)
    pub below : (t : Tree) → line_numbers (later w c t) ≡ below_ten (table_of w c) (own_numbers w c)
    pub given : (b : Bytes) → Numbered (numbers w c) (lines w c b)
    pub ordered : InOrder (table_of w c) (numbers w c)

  -- what a sound image counts: the header's count is the zero bits' and the tree's free number, and every page has one owner or is free
  pub record Counted (b : Bytes) : Type 0 where
    pub sum : count_in w b + (numbers_for w (tree_of w b)).aside + tree_needs (numbers_for w (tree_of w b)) (tree_of w b).root ≡ (tree_of w b).pages
    pub zeros : On.zero_bits (w.see b).geometry b (w.see b).pages ≡ count_in w b
    pub free : free_in w (tree_of w b) ≡ count_in w b
    pub owned : (p : ℕ) → (numbers_for w (tree_of w b)).aside ≤ p → p < (w.see b).pages → Owned w b p

  pub record Owed : Type 0 where
    -- a sound image is as long as its tree says
    pub long : (b : Bytes) → T (sound w b) → (tree_of w b).pages * (numbers_for w (tree_of w b)).page_size ≡ length b
    -- the judge tells no fault exactly of a sound one
    pub judged : (b : Bytes) → Passes (length_line w b ∷ header_lines w b) → is_clean (judge_view (w.see b)) ≡ sound w b
    pub counts : (b : Bytes) → T (sound w b) → Counted b
    pub numbered : (c : Calls w) → OwnNumbers c
    -- a granted call, and format on any image that it takes
    pub grants : (c : Calls w) (b : Bytes) → T (sound w b) → Passes (refusals w c (tree_of w b)) → T (sound w (effect w c b)) × (tree_of w (effect w c b) ≡ changed w c (tree_of w b))
    pub fresh : (new : w.New) (b : Bytes) → Formats w new b → T (sound w (w.formatted new b)) × (tree_of w (w.formatted new b) ≡ fresh_of w new (length b))
    pub kept : (c : Calls w) (b : Bytes) → Passes (lines w c b) → length (effect w c b) ≡ length b
