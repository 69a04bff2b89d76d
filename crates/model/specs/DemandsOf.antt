-- The demands of document 00, of a version w (paper 02 §12), as statements about `answer`, `after` and `buffer_after`. `Demands` has version 1's, with what is
-- said of version 1 alone.
use Rattle.std.specs.Prelude.{◌≡◌, ◌↔◌, ℕ, ◌+◌, ◌≤◌, ◌<◌, not, List, [], ◌∷◌, length, T}
use Rattle.std.proofs.Math.Option.{some, none}
use Rattle.volume.specs.Bytes.{Bytes}
use Rattle.volume.specs.Lists.{member}
use Rattle.volume.specs.Geometry as On
use Rattle.model.specs.Sound.{owners_in}
use Rattle.model.specs.Judge.{Fault, fault, is_clean, judge_view}
use Rattle.model.specs.Tree.{Tree, tree_needs}
use Rattle.model.specs.Call.{format_as, verdict, Told, buffer_before, Refusal, refusal, Answer, refused, granted}
use Rattle.model.specs.Version.{Version, Calls}
use Rattle.model.specs.RefusalOf.{buffer_lines, handed_lines, earlier, wanted, numbers_for, free_in, settle, Passes}
use Rattle.model.specs.MeaningOf.{sound, fresh_tree, shown, lent_shown, tree_answer, tree_buffer, tree_after, fault_told, is_format, tree_of, length_line, header_lines, answer, after, buffer_after, numbers}

module _ (w : Version) where
  -- ---- Demand 1: any input, an answer; a refusal has a number that this call can give and changes nothing.
  -- (That there is always an answer is the type of `answer`, which has no condition.)

  pub record Untouched (c : Calls w) (b : Bytes) (f : Refusal) : Type 0 where
    pub numbered : T (member f.number (numbers w c))
    pub image : after w c b ≡ b
    pub lent : buffer_after w c b ≡ buffer_before c

  abbrev pub Demand1 : Type 0
  Demand1 = (c : Calls w) (b : Bytes) (f : Refusal) → answer w c b ≡ refused f → Untouched c b f

  -- ---- Demand 2: bytes mean a tree; an image that is not sound is refused; on a sound one each call answers, and changes tree and bytes, as the
  -- plain tree does.

  -- by any call but format, and a store only with a buffer that is a page: with a number of the length or the header, or with the first fault by its
  -- number and place
  pub data Refuses (c : Calls w) (b : Bytes) : Type 0 where
    by_header : (f : Refusal) → settle (length_line w b ∷ header_lines w b) some none ≡ some f → answer w c b ≡ refused f → Refuses c b
    by_fault : Passes (length_line w b ∷ header_lines w b) → (f : Fault) → judge_view (w.see b) ≡ fault f → answer w c b ≡ refused (fault_told f) → Refuses c b

  -- A store's page and the bytes of it are not in the tree (paper 02 §11): `answer` and `buffer_after` give them, and the tree says the rest.
  pub record AsTree (c : Calls w) (b : Bytes) : Type 0 where
    pub answered : shown c (answer w c b) ≡ tree_answer w c (tree_of w b)
    pub lent : lent_shown c (buffer_after w c b) ≡ tree_buffer w c (tree_of w b)
    pub is_sound : T (sound w (after w c b))
    pub means : tree_of w (after w c b) ≡ tree_after w c (tree_of w b)

  -- the lines that format gives pass
  abbrev pub Formats : w.New → Bytes → Type 0
  Formats new b = Passes (length_line w b ∷ handed_lines w (format_as new) (length b))

  -- the tree of a fresh image, of what format is handed and the image's length
  abbrev pub fresh_of : w.New → (length : ℕ) → Tree
  fresh_of new n = fresh_tree w (w.pages_made new n) (w.code_after new)

  pub record Demand2 : Type 0 where
    -- no fault is told exactly if the image is sound (paper 02 §2)
    pub faultless : (b : Bytes) → Passes (length_line w b ∷ header_lines w b) → is_clean (judge_view (w.see b)) ≡ sound w b
    pub unsound : (c : Calls w) (b : Bytes) → T (not (is_format c)) → Passes (buffer_lines c) → T (not (sound w b)) → Refuses c b
    pub as_tree : (c : Calls w) (b : Bytes) → T (sound w b) → AsTree c b
    pub fresh : (new : w.New) (b : Bytes) → Formats new b → T (sound w (after w (format_as new) b)) × (tree_of w (after w (format_as new) b) ≡ fresh_of new (length b))

  -- ---- Demand 3: lists of calls on one image

  -- what a call gave back: its answer, and the lent buffer
  pub record Result (c : Calls w) : Type 0 where
    pub answered : Answer (Told c)
    pub lent : Bytes

  abbrev pub Results : List (Calls w) → Type 0
  Results [] = Unit {0}
  Results (c ∷ cs) = Result c × Results cs

  -- one call as its public contract promises it: image b before, b' after
  pub record Promised (c : Calls w) (b : Bytes) (r : Result c) (b' : Bytes) : Type 0 where
    pub answered : r.answered ≡ answer w c b
    pub lent : r.lent ≡ buffer_after w c b
    pub image : b' ≡ after w c b

  -- A list of calls, each of which gets the image as the last one left it. Any library whose calls meet their contracts runs so.
  abbrev pub Runs : Bytes → (cs : List (Calls w)) → Results cs → Bytes → Type 0
  Runs b [] rs b' = b' ≡ b
  Runs b (c ∷ cs) rs b' = (mid : Bytes) × Promised c b rs.0 mid × Runs mid cs rs.1 b'

  -- The replay looks at no answer and at no byte.
  unfoldable pub replay : List (Calls w) → Tree → Tree
  replay [] t = t
  replay (c ∷ cs) t = replay cs (tree_after w c t)

  unfoldable pub replay_results : (cs : List (Calls w)) → Tree → Results cs
  replay_results [] t = tt
  replay_results (c ∷ cs) t = (record { answered = tree_answer w c t; lent = tree_buffer w c t }, replay_results cs (tree_after w c t))

  -- what the replay decides of results: all but the page of a granted store, and the bytes of that
  abbrev pub shown_results : (cs : List (Calls w)) → Results cs → Results cs
  shown_results [] rs = tt
  shown_results (c ∷ cs) rs = (record { answered = shown c rs.0.answered; lent = lent_shown c rs.0.lent }, shown_results cs rs.1)

  -- Each call is refused for want of pages exactly when no earlier line stops it and it needs more than the free number before it.
  abbrev pub WantOfPages : (cs : List (Calls w)) → Results cs → Tree → Type 0
  WantOfPages [] rs t = Unit {0}
  WantOfPages (c ∷ cs) rs t =
      ((rs.0.answered ≡ refused (refusal 10)) ↔ (Passes (earlier w c t) × (free_in w t < wanted w c t)))
      × WantOfPages cs rs.1 (tree_after w c t)

  abbrev pub bit_of : Bytes → ℕ → ℕ
  bit_of b p = On.page_bit (w.see b).geometry b p

  abbrev pub count_in : Bytes → ℕ
  count_in b = On.free_count (w.see b).geometry b

  -- A page is free and nobody owns it, or it is marked and exactly one file or directory owns it, the one whose entry is at a position.
  pub data Owned (b : Bytes) (p : ℕ) : Type 0 where
    is_free : bit_of b p ≡ 0 → owners_in (w.see b) p ≡ [] → Owned b p
    is_owned : (position : ℕ) → bit_of b p ≡ 1 → owners_in (w.see b) p ≡ position ∷ [] → Owned b p

  -- what holds of the image after the list, t being the replayed tree
  pub record Account (b : Bytes) (t : Tree) : Type 0 where
    pub is_sound : T (sound w b)
    pub means : tree_of w b ≡ t
    -- the header's count, the zero bits and the verdict are the page total, less the pages set aside, less the pages that the tree needs
    pub counted : count_in b + (numbers_for w t).aside + tree_needs (numbers_for w t) t.root ≡ t.pages
    pub zeros : On.zero_bits (w.see b).geometry b (w.see b).pages ≡ count_in b
    pub told : answer w verdict b ≡ granted (record { pages = t.pages; free = count_in b })
    pub number : free_in w t ≡ count_in b
    pub pages : (p : ℕ) → (numbers_for w t).aside ≤ p → p < (w.see b).pages → Owned b p

  pub record Demanded (b : Bytes) (t : Tree) (cs : List (Calls w)) (rs : Results cs) (b' : Bytes) : Type 0 where
    pub account : Account b' (replay cs t)
    pub long : length b' ≡ length b
    pub answered : shown_results cs rs ≡ replay_results cs t
    pub want_of_pages : WantOfPages cs rs t

  -- a list starts from any sound image, or from a fresh one
  pub data Starts (b : Bytes) (t : Tree) : Type 0 where
    soundly : T (sound w b) → tree_of w b ≡ t → Starts b t
    freshly : (new : w.New) (old : Bytes) → Formats new old → b ≡ after w (format_as new) old → fresh_of new (length old) ≡ t → Starts b t

  abbrev pub Demand3 : Type 0
  Demand3 = (b : Bytes) (t : Tree) → Starts b t → (cs : List (Calls w)) (rs : Results cs) (b' : Bytes) → Runs b cs rs b' → Demanded b t cs rs b'
