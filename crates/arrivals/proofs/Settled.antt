-- What a call does that takes a path is settled by the place that the path leads to: the lines above the walk and the walk itself are the place's refusals,
-- and at a place only the call's own lines are left.
use mathlib.Core.Path.{◌≡◌, refl, sym, ap, ◌∙◌}
use mathlib.Core.Bool.{Bool, true, false}
use mathlib.Core.Option.{none, some}
use mathlib.Core.List.{List, [], ◌∷◌, ◌++◌}
use lib.Dec.{T}
use Rattle.volume.specs.Bytes.{Bytes}
use Rattle.std.specs.Prelude.{if◌then◌else◌}
use Rattle.model.specs.Tree.{end, Node, directory_node}
use Rattle.model.specs.Path.{path_of}
use Rattle.model.specs.Image.{tree_in}
use Rattle.model.specs.Walk.{Walked, arrived, missing, blocked, arrived_or}
use Rattle.model.specs.Call.{Refusal, Answer, refused, granted}
use Rattle.model.specs.Version.{Version, Calls}
use Rattle.model.specs.RefusalOf.{Line, path_line, walk_lines, is_missing, is_blocked, stopped_at, walked, node, buffer_lines, refusals, settle, Passes}
use Rattle.model.specs.MeaningOf.{is_format, sound, tree_of, sound_line, length_line, header_lines, image_lines, lines, answer, after}
use Rattle.view_laws.proofs.Facts.{Facts}
use Rattle.view_laws.proofs.Walks.{map_walked}
use Rattle.version_laws.proofs.Lines.{settle_append, settle_both, not_granted}
use Rattle.version_laws.proofs.Passed.{image_passed}
use Rattle.version_laws.proofs.Steps.{sound_facts_lem}
use Rattle.arrivals.specs.Places.{Spot, located, walked_answer, first_lines, placed}
use Rattle.arrivals.proofs.Arrivals.{node_at, walk_located, At, located_at}
use Rattle.arrivals.proofs.Entries.{Readable}

-- an answer taken apart
abbrev pub opened : {A B : Type 0} → (Refusal → B) → (A → B) → Answer A → B
opened f y (refused m) = f m
opened f y (granted x) = y x

pub settle_opened : {A B : Type 0} (f : Refusal → B) (y : A → B) (ls : List Line) (a : Answer A)
    → opened f y (settle ls refused a) ≡ settle ls f (opened f y a)
unfolding settle
settle_opened f y [] a = refl
settle_opened f y (l ∷ ls) a = go l.0 (settle_opened f y ls a)
  where
    go : (c : Bool) → opened f y (settle ls refused a) ≡ settle ls f (opened f y a)
        → opened f y (if c then refused l.1 else settle ls refused a) ≡ (if c then f l.1 else settle ls f (opened f y a))
    go true e = refl
    go false e = e

-- ---- a place that was granted

pub settle_granted : {A : Type 0} (ls : List Line) (a : Answer A) (x : A) → granted x ≡ settle ls refused a → Passes ls × (granted x ≡ a)
unfolding settle
settle_granted [] a x e = (refl, e)
settle_granted (l ∷ ls) a x e = go l.0 e (settle_granted ls a x)
  where
    go : (c : Bool) → granted x ≡ (if c then refused l.1 else settle ls refused a) → (granted x ≡ settle ls refused a → Passes ls × (granted x ≡ a))
        → ((if c then some l.1 else settle ls some none) ≡ none) × (granted x ≡ a)
    go true u next = absurd (not_granted u)
    go false u next = next u

-- what a version owes: the view of a sound image is readable
pub record Reads (w : Version) : Type 0 where
  pub readable : (b : Bytes) → T (sound w b) → Readable (w.see b)

module _ (w : Version) where
  -- a refusal leaves the image as it is
  abbrev pub Refuses : Calls w → Bytes → Refusal → Type 0
  Refuses c b m = (refused m ≡ answer w c b) × (b ≡ after w c b)

  -- a call arrived at s: the image is sound, and this is what it has there
  pub record Arrived (b path : Bytes) (s : Spot) : Type 0 where
    pub is_sound : T (sound w b)
    pub facts : Facts (w.see b)
    pub at : At (w.see b) (path_of path) s

  pub placed_arrived : (b path : Bytes) (s : Spot) → granted s ≡ placed w b path → Arrived b path s
  unfolding placed walked_answer
  placed_arrived b path s e =
      let two = settle_granted (first_lines w b path) (walked_answer (located (w.see b) (path_of path))) s e in
      let h = (image_passed w b (path_line path ∷ []) two.0).0 in
      record {
        is_sound = h;
        facts = sound_facts_lem w b h;
        at = located_at (w.see b) (path_of path) s (go (located (w.see b) (path_of path)) two.1);
      }
    where
      go : (x : Walked Spot) → granted s ≡ walked_answer x → x ≡ arrived s
      go (arrived y) u = cc u
      go (missing i) u = absurd (not_granted u)
      go (blocked i) u = absurd (not_granted u)

  -- ---- the lines above the walk

  -- the image is judged before all else: the call is neither a format nor a store
  abbrev pub JudgesFirst : Calls w → Type 0
  JudgesFirst c = ◌≡◌ {A = Bool × List Line} (is_format c, buffer_lines c) (false, [])

  -- what passes the image's lines is sound
  pub lines_sound : (b : Bytes) → Passes (image_lines w b) → T (sound w b)
  unfolding settle
  lines_sound b p = (image_passed w b [] (settle_append some (image_lines w b) [] none ∙ p)).0

  module _ {A : Type 0} (b : Bytes) (f : Refusal → A) where
    -- behind the image's lines stand those of the tree
    pub behind_image : (c : Calls w) → JudgesFirst c → (x : A)
        → settle (lines w c b) f x ≡ settle (image_lines w b) f (settle (refusals w c (tree_of w b)) f x)
    unfolding lines settle
    behind_image c other x =
        let judges : is_format c ≡ false = ap (λ (p : Bool × List Line). p.0) other in
        let no_buffer : buffer_lines c ≡ [] = ap (λ (p : Bool × List Line). p.1) other in
        let ls : List Line = refusals w c (tree_of w b) in
        let first : settle (lines w c b) f x ≡ settle ((length_line w b ∷ header_lines w b) ++ (sound_line w b ∷ ls)) f x = rw (judges, no_buffer) in
        first
        ∙ settle_append f (length_line w b ∷ header_lines w b) (sound_line w b ∷ ls) x
        ∙ sym (settle_append f (length_line w b ∷ header_lines w b) (sound_line w b ∷ []) (settle ls f x))

    -- on a sound image the two do the same
    pub if_sound : {x y : A} → (T (sound w b) → x ≡ y) → settle (image_lines w b) f x ≡ settle (image_lines w b) f y
    if_sound {x} {y} h = settle_both (λ (p q : A). p ≡ q) (image_lines w b) f x f y (λ r. refl) (λ p. h (lines_sound b p))

  module _ {A : Type 0} (b path : Bytes) (f : Refusal → A) where
    -- y says what a call does at each place
    pub by_place : (c : Calls w) → JudgesFirst c → (x : A) (y : Spot → A)
        → (T (sound w b) → settle (refusals w c (tree_of w b)) f x ≡ settle (path_line path ∷ []) f (opened f y (walked_answer (located (w.see b) (path_of path)))))
        → settle (lines w c b) f x ≡ opened f y (placed w b path)
    unfolding placed
    by_place c other x y h =
        let z : A = opened f y (walked_answer (located (w.see b) (path_of path))) in
        behind_image b f c other x
        ∙ if_sound b f h
        ∙ sym (settle_append f (image_lines w b) (path_line path ∷ []) z)
        ∙ sym (settle_opened f y (first_lines w b path) (walked_answer (located (w.see b) (path_of path))))

    -- ---- the walk

    walk_settled : (rest : Node → List Line) (x : Node → A) (d : Node) (l : Walked Spot)
        → settle (walk_lines (map_walked (node_at (w.see b)) l) ++ rest (arrived_or d (map_walked (node_at (w.see b)) l))) f (x (arrived_or d (map_walked (node_at (w.see b)) l)))
        ≡ opened f (λ s. settle (rest (node_at (w.see b) s)) f (x (node_at (w.see b) s))) (walked_answer l)
    unfolding map_walked settle is_missing is_blocked stopped_at arrived_or walked_answer
    walk_settled rest x d (arrived s) = refl
    walk_settled rest x d (missing i) = refl
    walk_settled rest x d (blocked i) = refl

    -- a call that walks to what the path leads to, and then has lines of its own
    pub node_settled : Reads w → (c : Calls w) → JudgesFirst c → (rest : Node → List Line) (x : Node → A)
        → refusals w c (tree_of w b) ≡ path_line path ∷ (walk_lines (walked path (tree_of w b)) ++ rest (node path (tree_of w b)))
        → settle (lines w c b) f (x (node path (tree_of w b)))
        ≡ opened f (λ s. settle (rest (node_at (w.see b) s)) f (x (node_at (w.see b) s))) (placed w b path)
    unfolding settle tree_in
    node_settled reads c other rest x is = by_place c other (x (node path (tree_of w b))) (λ s. settle (rest (node_at (w.see b) s)) f (x (node_at (w.see b) s))) (λ h.
        ap (λ (ls : List Line). settle ls f (x (node path (tree_of w b)))) is
        ∙ ap (λ (y : A). settle (path_line path ∷ []) f y) (
        ap (λ (l : Walked Node). settle (walk_lines l ++ rest (arrived_or (directory_node [] end) l)) f (x (arrived_or (directory_node [] end) l)))
        (walk_located (w.see b) (reads.readable b h).headed (sound_facts_lem w b h).formed (path_of path))
        ∙ walk_settled rest x (directory_node [] end) (located (w.see b) (path_of path))))
