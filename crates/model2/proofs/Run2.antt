-- What a row of version 2 computes with: to unfold `computing2` is to unfold it all. And lists of calls, run as in crates/model/proofs/Run.antt: each call
-- gets the image as the last one left it, so a list of cases is one equation between what it computes to and what is stated, and that is `refl`.
use mathlib.Core.Path.{◌≡◌, refl, sym, ap, ◌∙◌}
use Prim.Native.Nat.{ℕ}
use mathlib.Core.Bool.{Bool, true, false}
use mathlib.Core.List.{List, [], ◌∷◌, ◌++◌, flat_map}
use Rattle.volume.specs.Bytes.{Bytes, same}
use Rattle.std.specs.Prelude.{if◌then◌else◌}
use Rattle.volume.specs.Lists.{all, any, keep, last_or, distinct, count_from, first}
use Rattle.volume.specs.Chain.{chain, beyond, spread, linked}
use Rattle.volume.specs.Geometry as On
use Rattle.model.specs.Name.{legal_byte, legal_rest, legal_name, legal_text, padded, unpadded}
use Rattle.model.specs.Date.{is_bcd, bcd, between, is_leap, days_in, good_date}
use Rattle.model.specs.Sound.{pages_of, good_entry, is_named, same_name, names_apart, good_directory, reached_by, reached, sound_by, owners_in}
use Rattle.model.specs.Judge.{then_judge, judge_page, judge_chain, fresh_name, judge_entry, judge_entries, judge_directory, lost_or, judge_rest, is_clean, judge_view}
use Rattle.model.specs.Tree.{empty_row, width, held, lookup, free_number_of, needs_of, fill, extend, rewrite, relock, vacate, inside}
use Rattle.model.specs.Path.{before, texts, names_from, path_to, path_of, is_no_path, is_root}
use Rattle.model.specs.Image.{content_of, entry_row, row_of, row_at, tree_in}
use Rattle.model.specs.Walk.{enter, walk, node_named, in_walked, walk_to, entry_named, enter_on, walk_on, arrived_or, change_at}
use Rattle.model.specs.Call.{verdict, read, Verdict, Told, buffer_before, Refusal, Answer, refused, granted}
use Rattle.model.specs.Version.{Calls}
use Rattle.model.specs.EffectOf as Effect
use Rattle.model.specs.RefusalOf as Refuse
use Rattle.model.specs.RefusalOf.{Line, settle}
use Rattle.model.specs.MeaningOf as Mean
use Rattle.model.specs.DemandsOf.{Result, Results}
use Rattle.model.specs.Text.{text}
use Rattle.model2.specs.Layout.{pages_for, valid_length, fit_code, is_version2, fit_header}
use Rattle.model2.specs.Entry.{entry_at, new_entry}
use Rattle.model2.specs.Version2.{entries_on, place_on}
use Rattle.model2.specs.Format.{formatted}
use Rattle.model2.specs.Calls.{v2}

-- the calls of version 2
abbrev pub Call2 : Type 0
Call2 = Calls v2

-- the image after a list of calls
unfoldable pub run : List Call2 → Bytes → Bytes
run [] b = b
run (c ∷ cs) b = run cs (Mean.after v2 c b)

-- what each call of a list gives back
unfoldable pub results : (cs : List Call2) → Bytes → Results v2 cs
results [] b = tt
results (c ∷ cs) b = (record { answered = Mean.answer v2 c b; lent = Mean.buffer_after v2 c b }, results cs (Mean.after v2 c b))

-- ---- the same, with the lines of each call asked once

-- what one call gives back, and the image after it
unfoldable pub turn : (c : Call2) → Bytes → Result v2 c × Bytes
turn c b =
    settle (Mean.lines v2 c b) (λ f. (record { answered = refused f; lent = buffer_before c }, b))
    (record { answered = granted (Mean.told_on v2 c b); lent = Mean.filled_on v2 c b }, Mean.effect v2 c b)

unfoldable pub turns : (cs : List Call2) → Bytes → Results v2 cs × Bytes
turns [] b = (tt, b)
turns (c ∷ cs) b =
    let now = turn c b in
    let rest = turns cs now.1 in
    ((now.0, rest.0), rest.1)

settle_through : {A B : Type 0} (g : A → B) (ls : List Line) (f : Refusal → A) (x : A) → g (settle ls f x) ≡ settle ls (λ r. g (f r)) (g x)
unfolding settle
settle_through g [] f x = refl
settle_through g (l ∷ ls) f x = go l.0 (settle_through g ls f x)
  where
    go : (c : Bool) → g (settle ls f x) ≡ settle ls (λ r. g (f r)) (g x)
        → g (if c then f l.1 else settle ls f x) ≡ (if c then g (f l.1) else settle ls (λ r. g (f r)) (g x))
    go true e = refl
    go false e = e

turn_is : (c : Call2) (b : Bytes) → turn c b ≡ (record { answered = Mean.answer v2 c b; lent = Mean.buffer_after v2 c b }, Mean.after v2 c b)
unfolding turn Mean.answer Mean.buffer_after Mean.after
turn_is c b =
    let stays : Refusal → Result v2 c × Bytes = λ f. (record { answered = refused f; lent = buffer_before c }, b) in
    let goes : Result v2 c × Bytes = (record { answered = granted (Mean.told_on v2 c b); lent = Mean.filled_on v2 c b }, Mean.effect v2 c b) in
    let p : (turn c b).0.answered ≡ Mean.answer v2 c b = settle_through (λ (r : Result v2 c × Bytes). r.0.answered) (Mean.lines v2 c b) stays goes in
    let q : (turn c b).0.lent ≡ Mean.buffer_after v2 c b = settle_through (λ (r : Result v2 c × Bytes). r.0.lent) (Mean.lines v2 c b) stays goes in
    let r : (turn c b).1 ≡ Mean.after v2 c b = settle_through (λ (r : Result v2 c × Bytes). r.1) (Mean.lines v2 c b) stays goes in
    λ i. (record { answered = p i; lent = q i }, r i)

turns_are : (cs : List Call2) (b : Bytes) → turns cs b ≡ (results cs b, run cs b)
unfolding turns results run
turns_are [] b = refl
turns_are (c ∷ cs) b =
    ap (λ (s : Result v2 c × Bytes). ((s.0, (turns cs s.1).0), (turns cs s.1).1)) (turn_is c b)
    ∙ ap (λ (r : Results v2 cs × Bytes). ((record { answered = Mean.answer v2 c b; lent = Mean.buffer_after v2 c b }, r.0), r.1)) (turns_are cs (Mean.after v2 c b))

unfoldable pub computing2 : Unit {0}
unfolding flat_map same all any keep last_or distinct count_from first chain beyond spread On.page_bit On.zero_bits On.lowest_free On.mark On.unmark On.taken
    On.released On.grown On.gained On.joint_of On.written legal_byte legal_rest legal_name legal_text padded unpadded is_bcd bcd between is_leap days_in good_date
    pages_of good_entry is_named same_name names_apart good_directory reached_by reached sound_by owners_in then_judge judge_page judge_chain fresh_name judge_entry
    judge_entries judge_directory lost_or judge_rest judge_view is_clean empty_row width held needs_of free_number_of lookup fill extend rewrite relock vacate inside
    before texts names_from path_to path_of is_no_path is_root content_of entry_row row_of row_at tree_in enter walk node_named in_walked walk_to entry_named enter_on
    walk_on arrived_or change_at text Effect.is_vacant Effect.lowest_vacant Effect.with_lock Effect.lengthened Effect.lengthened_if_full Effect.made
    Effect.rewritten Effect.written Effect.relocked Effect.removed Refuse.is_missing Refuse.is_blocked Refuse.stopped_at Refuse.is_there
    Refuse.is_directory_node Refuse.is_locked_node Refuse.content_in Refuse.row_in settle Refuse.wanted Refuse.make_lines Refuse.earlier Refuse.later
    Refuse.refusals Refuse.table_order Refuse.own_numbers Mean.found_at Mean.listed Mean.in_parent Mean.is_format Mean.told Mean.filled Mean.changed
    Mean.tree_answer Mean.tree_after Mean.lines Mean.numbers Mean.effect Mean.answer Mean.after Mean.buffer_after pages_for valid_length fit_code is_version2
    fit_header entry_at new_entry linked entries_on place_on formatted run results turn turns
computing2 = tt

-- the number of the first line that holds, 0 for none
abbrev pub told_by : List Line → ℕ
told_by ls = settle ls (λ f. f.number) 0

-- ---- cases

-- a call, and what it must give back
pub record Step : Type 0 where
  pub call : Call2
  pub given : Result v2 call

abbrev pub calls : List Step → List Call2
calls [] = []
calls (s ∷ ss) = s.call ∷ calls ss

abbrev pub given : (ss : List Step) → Results v2 (calls ss)
given [] = tt
given (s ∷ ss) = (s.given, given ss)

-- steps from an image, what to look at in the image after them, and what must be seen there
pub record Case : Type 1 where
  pub start : Bytes
  pub steps : List Step
  pub Seen : Type 0
  pub look : Bytes → Seen
  pub seen : Seen

-- a call with this answer; its buffer, if it has one, stays
infix 68 ◌gives◌
abbrev pub ◌gives◌ : (c : Call2) → Answer (Told c) → Step
c gives a = record { call = c; given = record { answered = a; lent = buffer_before c } }

-- a read that copies n bytes, after which the buffer is `filled`
abbrev pub reads : (path : Bytes) (position : ℕ) (buffer : Bytes) (n : ℕ) (filled : Bytes) → Step
reads path position buffer n filled = record { call = read path position buffer; given = record { answered = granted n; lent = filled } }

-- a refusal with all three numbers of its place; one with no place; and one with the byte of the path at which the walk stops
abbrev pub refusal_of : {A : Type 0} → (number x y z : ℕ) → Answer A
refusal_of n x y z = refused (record { number = n; place = (x, y, z) })

abbrev pub refusal : {A : Type 0} → ℕ → Answer A
refusal n = refusal_of n 0 0 0

abbrev pub refusal_at : {A : Type 0} → (number byte : ℕ) → Answer A
refusal_at n i = refusal_of n i 0 0

abbrev pub done : Answer (Unit {0})
done = granted tt

abbrev pub sized : (pages free : ℕ) → Answer Verdict
sized pages free = granted (record { pages = pages; free = free })

-- steps of which only the answers are looked at, and steps after which `look` shows `seen` in the image
abbrev pub answered : Bytes → List Step → Case
answered b steps = record { start = b; steps = steps; Seen = Unit {0}; look = λ after. tt; seen = tt }

abbrev pub shown : {A : Type 0} → Bytes → List Step → (Bytes → A) → A → Case
shown {A} b steps look seen = record { start = b; steps = steps; Seen = A; look = look; seen = seen }

-- the image that is there after some steps
abbrev pub leaves : Bytes → List Step → (after : Bytes) → Case
leaves b steps after = shown b steps (λ x. same x after) true

-- an image that is refused by this number, with the three numbers of its place; and one that is sound
abbrev pub unsound : Bytes → (number x y z : ℕ) → Case
unsound b n x y z = answered b (verdict gives refusal_of n x y z ∷ [])

abbrev pub sounds : Bytes → (pages free : ℕ) → Case
sounds b pages free = answered b (verdict gives sized pages free ∷ [])

-- each case of a list gives back and shows what it must
unfoldable pub Hold : List Case → Type 0
Hold [] = Unit {0}
Hold (c ∷ cs) = (results (calls c.steps) c.start ≡ given c.steps) × (c.look (run (calls c.steps) c.start) ≡ c.seen) × Hold cs

-- ---- the same as one equation, which computes

abbrev pub Outcomes : List Case → Type 0
Outcomes [] = Unit {0}
Outcomes (c ∷ cs) = Results v2 (calls c.steps) × c.Seen × Outcomes cs

unfoldable pub computed : (cs : List Case) → Outcomes cs
computed [] = tt
computed (c ∷ cs) = let done = turns (calls c.steps) c.start in (done.0, c.look done.1, computed cs)

unfoldable pub stated : (cs : List Case) → Outcomes cs
stated [] = tt
stated (c ∷ cs) = (given c.steps, c.seen, stated cs)

pub hold : (cs : List Case) → computed cs ≡ stated cs → Hold cs
unfolding Hold computed stated
hold [] e = tt
hold (c ∷ cs) e =
    let t = turns_are (calls c.steps) c.start in (
      sym (ap (λ (d : Results v2 (calls c.steps) × Bytes). d.0) t) ∙ ap (λ (o : Outcomes (c ∷ cs)). o.0) e,
      sym (ap (λ (d : Results v2 (calls c.steps) × Bytes). c.look d.1) t) ∙ ap (λ (o : Outcomes (c ∷ cs)). o.1) e,
      hold cs (ap (λ (o : Outcomes (c ∷ cs)). o.2) e),
    )
