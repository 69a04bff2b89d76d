-- One call of a version: on a sound image it answers as the plain tree says, and does to the tree what it does to the bytes; on any image a refusal has a
-- number of that call and changes nothing.
use mathlib.Core.Path.{◌≡◌, refl, sym, ap, ◌∙◌, subst}
use mathlib.Core.Logic.{◌↔◌}
use Prim.Native.Nat.{ℕ, ◌*◌, ◌<◌}
use mathlib.Core.Bool.{Bool, true, false, not, true≢false}
use mathlib.Core.Option.{Option, some, none}
use mathlib.Core.List.{List, [], ◌∷◌, ◌++◌, map}
use lib.ListN.{length}
use lib.Dec.{T, eqb, ltb, leb-suc-zero, ltb→lt, lt→ltb}
use Rattle.volume.specs.Bytes.{Bytes}
use Rattle.std.specs.Prelude.{if◌then◌else◌}
use Rattle.volume.specs.Lists.{conditions}
use Rattle.volume.proofs.Tests.{not_not_of, if_no, conditions_cons}
use Rattle.model.specs.Layout.{page_size}
use Rattle.model.specs.Sound.{sound_by, sound_facts}
use Rattle.model.specs.Judge.{Judged, fault, clean, is_clean, judge_view}
use Rattle.model.specs.Tree.{Tree}
use Rattle.model.specs.Call.{format_as, verdict, find, list, read, make_file, make_directory, write, remove_file, remove_directory, set_lock, store_as, Told, buffer_before, Refusal, refusal, Answer, refused, granted}
use Rattle.model.specs.Version.{Version, Calls}
use Rattle.model.specs.RefusalOf.{Line, settle, Passes, buffer_lines, buffer_numbers, handed_lines, numbers_for, free_in, wanted, make_lines, space_line, earlier, later, refusals, table_of, own_numbers}
use Rattle.model.specs.MeaningOf.{sound, without_page, shown, lent_shown, told, filled, changed, tree_answer, tree_buffer, tree_after, first_fault, tree_of, sound_line, length_line, header_lines, is_format, lines, effect, answer, after, buffer_after, told_on, filled_on, numbers}
use Rattle.model.specs.DemandsOf.{Untouched, Refuses, by_header, by_fault, AsTree, Formats, fresh_of}
use Rattle.view_laws.proofs.Facts.{Facts, to_facts}
use Rattle.version_laws.proofs.Lines.{passed, settle_skip, settle_holds, settle_append, settle_open, settle_both, settle_refused, settle_first, refused_numbered, NoTen, ten_given, above_ten_lem, below_ten_lem}
use Rattle.version_laws.proofs.Owed.{Owed}

-- what is granted a store, without its page
page_away : (ls : List Line) (p : ℕ) → without_page (settle ls refused (granted p)) ≡ settle ls refused (granted 0)
unfolding without_page
page_away ls p = settle_both (λ (x y : Answer ℕ). without_page x ≡ y) ls refused (granted p) refused (granted 0) (λ r. refl) (λ e. refl)

-- nothing is left of a store's buffer to compare
settle_same : {A : Type 0} (ls : List Line) (x : A) → settle ls (λ r. x) x ≡ x
settle_same ls x = settle_both (λ y z. y ≡ x) ls (λ r. x) x (λ r. x) x (λ r. refl) (λ e. refl)

-- a line that stands again further down, with nothing that holds between, is asked once
line_twice : {A : Type 0} (f : Refusal → A) (x : A) (c : Bool) (r : Refusal) (ls ms : List Line) → settle ls f x ≡ settle ((c, r) ∷ ms) f x
    → settle ((c, r) ∷ ls) f x ≡ settle ((c, r) ∷ ms) f x
unfolding settle
line_twice f x true r ls ms e = refl
line_twice f x false r ls ms e = e

-- a call that needs no page has pages enough
pub no_want : {A : Type 0} (f : Refusal → A) (x : A) (n : ℕ) (r : Refusal) → settle ((ltb n 0, r) ∷ []) f x ≡ x
unfolding settle
no_want f x n r = rw (leb-suc-zero n)

-- tests that are passed are lines that do not hold
tests_pass : (b : Bytes) (ts : List ((Bytes → Bool) × ℕ)) (rest : List Bool) → T (conditions (map (λ (x : (Bytes → Bool) × ℕ). x.0 b) ts ++ rest))
    → Passes (map (λ (x : (Bytes → Bool) × ℕ). (not (x.0 b), refusal x.1)) ts)
unfolding settle
tests_pass b [] rest h = refl
tests_pass b (t ∷ ts) rest h =
    let two = conditions_cons (t.0 b) (map (λ (x : (Bytes → Bool) × ℕ). x.0 b) ts ++ rest) h in
    go (t.0 b) two.0 (tests_pass b ts rest two.1)
  where
    go : (c : Bool) → T c → Passes (map (λ (x : (Bytes → Bool) × ℕ). (not (x.0 b), refusal x.1)) ts)
        → (if not c then some (refusal t.1) else settle (map (λ (x : (Bytes → Bool) × ℕ). (not (x.0 b), refusal x.1)) ts) some none) ≡ none
    go true h e = e
    go false h e = absurd h

-- a sound image has the length and the header
pub sound_headed : (w : Version) (b : Bytes) → T (sound w b) → Passes (length_line w b ∷ header_lines w b)
unfolding sound_by
sound_headed w b h = tests_pass b ((λ c. w.valid_length (length c), 1) ∷ w.header) (sound_facts (w.see b).pages (w.see b)) h

-- and the facts of its view
tests_behind : (cs ds : List Bool) → T (conditions (cs ++ ds)) → T (conditions ds)
tests_behind [] ds h = h
tests_behind (c ∷ cs) ds h = tests_behind cs ds (conditions_cons c (cs ++ ds) h).1

pub sound_facts_lem : (w : Version) (b : Bytes) → T (sound w b) → Facts (w.see b)
unfolding sound_by
sound_facts_lem w b h = to_facts (tests_behind (w.valid_length (length b) ∷ map (λ (x : (Bytes → Bool) × ℕ). x.0 b) w.header) (sound_facts (w.see b).pages (w.see b)) h)

module _ {w : Version} (o : Owed w) where
  -- ---- on a sound image only the plain tree's lines count

  module _ {A : Type 0} (b : Bytes) (h : T (sound w b)) (f : Refusal → A) (x : A) where
    pub image_skip : (ls : List Line) → settle (length_line w b ∷ (header_lines w b ++ (sound_line w b ∷ ls))) f x ≡ settle ls f x
    image_skip ls =
        settle_append f (length_line w b ∷ header_lines w b) (sound_line w b ∷ ls) x
        ∙ settle_open (length_line w b ∷ header_lines w b) f (settle (sound_line w b ∷ ls) f x) (sound_headed w b h)
        ∙ settle_skip f (not (sound w b)) (first_fault (judge_view (w.see b))) ls x (not_not_of (sound w b) h)

    -- format asks the length and what it is handed, the tree what it is handed alone
    format_skip : (new : w.New) → settle (length_line w b ∷ handed_lines w (format_as new) (length b)) f x
        ≡ settle (handed_lines w (format_as new) ((tree_of w b).pages * (numbers_for w (tree_of w b)).page_size) ++ ((ltb (free_in w (tree_of w b)) 0, refusal 10) ∷ [])) f x
    format_skip new =
        settle_skip f (not (w.valid_length (length b))) (refusal 1) (handed_lines w (format_as new) (length b)) x (passed _ _ (sound_headed w b h)).0
        ∙ ap (λ (n : ℕ). settle (handed_lines w (format_as new) n) f x) (sym (o.long b h))
        ∙ ap (settle (handed_lines w (format_as new) ((tree_of w b).pages * (numbers_for w (tree_of w b)).page_size)) f) (sym (no_want f x (free_in w (tree_of w b)) (refusal 10)))
        ∙ sym (settle_append f (handed_lines w (format_as new) ((tree_of w b).pages * (numbers_for w (tree_of w b)).page_size)) ((ltb (free_in w (tree_of w b)) 0, refusal 10) ∷ []) x)

    pub settled : (c : Calls w) → settle (lines w c b) f x ≡ settle (refusals w c (tree_of w b)) f x
    unfolding lines is_format refusals earlier later wanted
    settled (format_as new) = format_skip new
    settled verdict = image_skip (refusals w verdict (tree_of w b))
    settled (find path) = image_skip (refusals w (find path) (tree_of w b))
    settled (list path i) = image_skip (refusals w (list path i) (tree_of w b))
    settled (read path at room) = image_skip (refusals w (read path at room) (tree_of w b))
    settled (make_file path date) = image_skip (refusals w (make_file path date) (tree_of w b))
    settled (make_directory path date) = image_skip (refusals w (make_directory path date) (tree_of w b))
    settled (write path at v) = image_skip (refusals w (write path at v) (tree_of w b))
    settled (remove_file path) = image_skip (refusals w (remove_file path) (tree_of w b))
    settled (remove_directory path) = image_skip (refusals w (remove_directory path) (tree_of w b))
    settled (set_lock locked path) = image_skip (refusals w (set_lock locked path) (tree_of w b))
    settled (store_as has path date v k buffer) =
        line_twice f x (not (eqb (length buffer) page_size)) (refusal 29) _
        (make_lines w path date (tree_of w b) ++ (space_line w (store_as has path date v k buffer) (tree_of w b) ∷ later w (store_as has path date v k buffer) (tree_of w b)))
        (image_skip (refusals w (store_as has path date v k buffer) (tree_of w b)))

  -- ---- a call on a sound image

  answered_as : (c : Calls w) (b : Bytes) → T (sound w b) → shown c (answer w c b) ≡ tree_answer w c (tree_of w b)
  unfolding answer tree_answer told
  answered_as (format_as new) b h = settled b h refused (granted tt) (format_as new)
  answered_as verdict b h = settled b h refused (granted (told w verdict (tree_of w b))) verdict
  answered_as (find path) b h = settled b h refused (granted (told w (find path) (tree_of w b))) (find path)
  answered_as (list path i) b h = settled b h refused (granted (told w (list path i) (tree_of w b))) (list path i)
  answered_as (read path at room) b h = settled b h refused (granted (told w (read path at room) (tree_of w b))) (read path at room)
  answered_as (make_file path date) b h = settled b h refused (granted tt) (make_file path date)
  answered_as (make_directory path date) b h = settled b h refused (granted tt) (make_directory path date)
  answered_as (write path at v) b h = settled b h refused (granted tt) (write path at v)
  answered_as (remove_file path) b h = settled b h refused (granted tt) (remove_file path)
  answered_as (remove_directory path) b h = settled b h refused (granted tt) (remove_directory path)
  answered_as (set_lock locked path) b h = settled b h refused (granted tt) (set_lock locked path)
  answered_as (store_as has path date v k buffer) b h =
      ap without_page (settled b h refused (granted (told_on w (store_as has path date v k buffer) b)) (store_as has path date v k buffer))
      ∙ page_away (refusals w (store_as has path date v k buffer) (tree_of w b)) (told_on w (store_as has path date v k buffer) b)

  lent_as : (c : Calls w) (b : Bytes) → T (sound w b) → lent_shown c (buffer_after w c b) ≡ tree_buffer w c (tree_of w b)
  unfolding buffer_after tree_buffer filled
  lent_as (format_as new) b h = settled b h (λ f. []) [] (format_as new)
  lent_as verdict b h = settled b h (λ f. []) [] verdict
  lent_as (find path) b h = settled b h (λ f. []) [] (find path)
  lent_as (list path i) b h = settled b h (λ f. []) [] (list path i)
  lent_as (read path at room) b h = settled b h (λ f. room) (filled w (read path at room) (tree_of w b)) (read path at room)
  lent_as (make_file path date) b h = settled b h (λ f. []) [] (make_file path date)
  lent_as (make_directory path date) b h = settled b h (λ f. []) [] (make_directory path date)
  lent_as (write path at v) b h = settled b h (λ f. []) [] (write path at v)
  lent_as (remove_file path) b h = settled b h (λ f. []) [] (remove_file path)
  lent_as (remove_directory path) b h = settled b h (λ f. []) [] (remove_directory path)
  lent_as (set_lock locked path) b h = settled b h (λ f. []) [] (set_lock locked path)
  lent_as (store_as has path date v k buffer) b h = sym (settle_same (refusals w (store_as has path date v k buffer) (tree_of w b)) [])

  pub as_tree_lem : (c : Calls w) (b : Bytes) → T (sound w b) → AsTree w c b
  unfolding answer after buffer_after tree_answer tree_after tree_buffer
  as_tree_lem c b h =
      let ls : List Line = refusals w c (tree_of w b) in
      let R : Bytes → Tree → Type 0 = λ a t. T (sound w a) × (tree_of w a ≡ t) in
      let r : R (settle ls (λ f. b) (effect w c b)) (settle ls (λ f. tree_of w b) (changed w c (tree_of w b))) =
      settle_both R ls (λ f. b) (effect w c b) (λ f. tree_of w b) (changed w c (tree_of w b)) (λ f. (h, refl)) (o.grants c b h) in
      let e : settle (lines w c b) (λ f. b) (effect w c b) ≡ settle ls (λ f. b) (effect w c b) = settled b h (λ f. b) (effect w c b) c in
      record {
        answered = answered_as c b h;
        lent = lent_as c b h;
        is_sound = subst (λ (a : Bytes). T (sound w a)) (sym e) r.0;
        means = ap (tree_of w) e ∙ r.1;
      }

  -- ---- a call on any image

  pub untouched : (c : Calls w) (b : Bytes) (f : Refusal) → answer w c b ≡ refused f → Untouched w c b f
  unfolding answer after buffer_after
  untouched c b f e = record {
    numbered = refused_numbered (numbers w c) (lines w c b) (told_on w c b) f ((o.numbered c).given b) e;
    image = settle_refused (lines w c b) (told_on w c b) f (λ r. b) (effect w c b) e;
    lent = settle_refused (lines w c b) (told_on w c b) f (λ r. buffer_before c) (filled_on w c b) e;
  }

  -- an image that is not sound is refused by every call but format, if a store's buffer is a page
  pub unsound : (c : Calls w) (b : Bytes) → T (not (is_format c)) → Passes (buffer_lines c) → T (not (sound w b)) → Refuses w c b
  unfolding answer lines is_clean
  unsound c b n lent u = go (settle head some none) refl
    where
      head : List Line
      head = length_line w b ∷ header_lines w b

      rest : List Line
      rest = sound_line w b ∷ refusals w c (tree_of w b)

      -- the answer by the image's own lines
      answered : answer w c b ≡ settle head refused (settle rest refused (granted (told_on w c b)))
      answered =
          settle_append refused (buffer_lines c) _ (granted (told_on w c b))
          ∙ settle_open (buffer_lines c) refused _ lent
          ∙ ap (λ (ls : List Line). settle (length_line w b ∷ ls) refused (granted (told_on w c b))) (if_no (is_format c) (handed_lines w c (length b)) (header_lines w b ++ rest) n)
          ∙ settle_append refused head rest (granted (told_on w c b))

      -- what is not sound is not judged clean
      faulty : Passes head → (j : Judged) → judge_view (w.see b) ≡ j → is_clean j ≡ false → answer w c b ≡ refused (first_fault j) → Refuses w c b
      faulty p (fault f) e k t = by_fault p f e t
      faulty p (clean marks) e k t = absurd (true≢false k)

      not_sound : sound w b ≡ false
      not_sound = no (sound w b) u
        where
          no : (s : Bool) → T (not s) → s ≡ false
          no true h = absurd h
          no false h = refl

      go : (r : Option Refusal) → settle head some none ≡ r → Refuses w c b
      go (some f) e = by_header f e (answered ∙ settle_first head f refused _ e)
      go none e = faulty e (judge_view (w.see b)) refl (o.judged b e ∙ not_sound)
          (answered ∙ settle_open head refused _ e ∙ settle_holds refused (not (sound w b)) (first_fault (judge_view (w.see b))) (refusals w c (tree_of w b)) (granted (told_on w c b)) u)

  -- format on an image that it takes
  pub after_format : (new : w.New) (b : Bytes) → Formats w new b → T (sound w (after w (format_as new) b)) × (tree_of w (after w (format_as new) b) ≡ fresh_of w new (length b))
  unfolding after lines is_format effect
  after_format new b e =
      subst (λ (b' : Bytes). T (sound w b') × (tree_of w b' ≡ fresh_of w new (length b)))
      (sym (settle_open (length_line w b ∷ handed_lines w (format_as new) (length b)) (λ f. b) (w.formatted new b) e)) (o.fresh new b e)

  -- ---- refused for want of pages

  no_ten_earlier : (c : Calls w) (t : Tree) → NoTen (earlier w c t)
  no_ten_earlier c t = above_ten_lem (table_of w c) (earlier w c t) (buffer_numbers c ++ own_numbers w c) ((o.numbered c).above t)

  no_ten_later : (c : Calls w) (t : Tree) → NoTen (later w c t)
  no_ten_later c t = below_ten_lem (table_of w c) (later w c t) (own_numbers w c) ((o.numbered c).below t)

  pub want_of_pages_lem : (c : Calls w) (t : Tree) → (tree_answer w c t ≡ refused (refusal 10)) ↔ (Passes (earlier w c t) × (free_in w t < wanted w c t))
  unfolding tree_answer refusals
  want_of_pages_lem c t =
      let e = ten_given (earlier w c t) (ltb (free_in w t) (wanted w c t)) (later w c t) (told w c t) (no_ten_earlier c t) (no_ten_later c t) in
      (λ h. ((e.0 h).0, ltb→lt (free_in w t) (wanted w c t) (e.0 h).1), λ p. e.1 (p.0, lt→ltb (free_in w t) (wanted w c t) p.1))
