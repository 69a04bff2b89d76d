-- Lists of calls run by the definitions: each call gets the image as the last one left it, so a list of cases is one equation between what it computes
-- to and what is stated, and that equation is `refl`.
use mathlib.Core.Path.{◌≡◌, refl, sym, ap, ◌∙◌}
use Prim.Native.Nat.{ℕ}
use mathlib.Core.Bool.{Bool, true, false}
use mathlib.Core.List.{List, [], ◌∷◌, ◌++◌, flat_map}
use Rattle.volume.specs.Bytes.{Bytes, same}
use Rattle.std.specs.Prelude.{if◌then◌else◌}
use Rattle.volume.specs.Lists.{all, any, keep, last_or, distinct, count_from, first}
use Rattle.volume.specs.Chain.{chain, beyond, spread}
use Rattle.volume.specs.Geometry as On
use Rattle.model.specs.Layout.{pages_for, valid_length, valid_header}
use Rattle.model.specs.Name.{legal_byte, legal_rest, legal_name, legal_text, padded, unpadded}
use Rattle.model.specs.Date.{is_bcd, bcd, between, is_leap, days_in, good_date}
use Rattle.model.specs.Entry.{entries, entry_at, new_entry}
use Rattle.model.specs.Sound.{pages_of, good_entry, is_named, same_name, names_apart, good_directory, reached_by, reached, sound_by, owners_in}
use Rattle.model.specs.Judge.{then_judge, judge_page, judge_chain, fresh_name, judge_entry, judge_entries, judge_directory, lost_or, judge_rest, is_clean, judge_view}
use Rattle.model.specs.Tree.{empty_row, width, held, lookup, free_number_of, needs_of}
use Rattle.model.specs.Path.{before, texts, names_from, path_to, path_of, is_no_path, is_root}
use Rattle.model.specs.Image.{content_of, entry_row, row_of, row_at, tree_in}
use Rattle.model.specs.Walk.{enter, walk, node_named, in_walked, walk_to, entry_named, enter_on, walk_on, arrived_or}
use Rattle.model.specs.Effect.{formatted, is_vacant, written, with_lock}
use Rattle.model.specs.Call.{Call, verdict, read, Verdict, Told, buffer_before, Refusal, Answer, refused, granted}
use Rattle.model.specs.Refusal.{Line, is_missing, is_blocked, stopped_at, is_there, is_directory_node, is_locked_node, content_in, row_in, settle}
use Rattle.model.specs.Meaning.{filled, is_format, lines, effect, answer, after, buffer_after, told_on, filled_on}
use Rattle.model.specs.Demands.{Result, Results}
use Rattle.model.specs.Text.{text}
use Rattle.model.specs.EffectOf
use Rattle.model.specs.MeaningOf
use Rattle.model.specs.RefusalOf

-- the image after a list of calls
unfoldable pub run : List Call → Bytes → Bytes
run [] b = b
run (c ∷ cs) b = run cs (after c b)

-- what each call of a list gives back
unfoldable pub results : (cs : List Call) → Bytes → Results cs
results [] b = tt
results (c ∷ cs) b = (record { answered = answer c b; lent = buffer_after c b }, results cs (after c b))

-- ---- the same, with the lines of each call asked once: a third less to compute

-- what one call gives back, and the image after it
unfoldable pub turn : (c : Call) → Bytes → Result c × Bytes
turn c b =
    settle (lines c b) (λ f. (record { answered = refused f; lent = buffer_before c }, b))
    (record { answered = granted (told_on c b); lent = filled_on c b }, effect c b)

unfoldable pub turns : (cs : List Call) → Bytes → Results cs × Bytes
turns [] b = (tt, b)
turns (c ∷ cs) b =
    let now = turn c b in
    let rest = turns cs now.1 in
    ((now.0, rest.0), rest.1)

settle_through : {A B : Type 0} (g : A → B) (ls : List Line) (f : Refusal → A) (x : A) → g (settle ls f x) ≡ settle ls (λ r. g (f r)) (g x)
unfolding settle
settle_through g [] f x = refl
settle_through g (l ∷ ls) f x = go l.0 (settle_through g ls f x)
  where
    go : (c : Bool) → g (settle ls f x) ≡ settle ls (λ r. g (f r)) (g x)
        → g (if c then f l.1 else settle ls f x) ≡ (if c then g (f l.1) else settle ls (λ r. g (f r)) (g x))
    go true e = refl
    go false e = e

turn_is : (c : Call) (b : Bytes) → turn c b ≡ (record { answered = answer c b; lent = buffer_after c b }, after c b)
unfolding turn MeaningOf.answer MeaningOf.buffer_after MeaningOf.after
turn_is c b =
    let stays : Refusal → Result c × Bytes = λ f. (record { answered = refused f; lent = buffer_before c }, b) in
    let goes : Result c × Bytes = (record { answered = granted (told_on c b); lent = filled_on c b }, effect c b) in
    let p : (turn c b).0.answered ≡ answer c b = settle_through (λ (r : Result c × Bytes). r.0.answered) (lines c b) stays goes in
    let q : (turn c b).0.lent ≡ buffer_after c b = settle_through (λ (r : Result c × Bytes). r.0.lent) (lines c b) stays goes in
    let r : (turn c b).1 ≡ after c b = settle_through (λ (r : Result c × Bytes). r.1) (lines c b) stays goes in
    λ i. (record { answered = p i; lent = q i }, r i)

turns_are : (cs : List Call) (b : Bytes) → turns cs b ≡ (results cs b, run cs b)
unfolding turns results run
turns_are [] b = refl
turns_are (c ∷ cs) b =
    ap (λ (s : Result c × Bytes). ((s.0, (turns cs s.1).0), (turns cs s.1).1)) (turn_is c b)
    ∙ ap (λ (r : Results cs × Bytes). ((record { answered = answer c b; lent = buffer_after c b }, r.0), r.1)) (turns_are cs (after c b))

-- Everything that a list of calls computes with: to unfold this is to unfold them all.
unfoldable pub computing : Unit {0}
unfolding flat_map same all any keep last_or distinct count_from first chain beyond spread On.page_bit On.zero_bits On.lowest_free On.mark On.unmark
    On.taken On.released On.grown On.gained On.joint_of On.written pages_for valid_length valid_header legal_byte legal_rest legal_name legal_text padded
    unpadded is_bcd bcd between is_leap days_in good_date entries entry_at new_entry pages_of good_entry is_named same_name names_apart good_directory reached_by
    reached sound_by owners_in then_judge judge_page judge_chain fresh_name judge_entry judge_entries judge_directory lost_or judge_rest judge_view is_clean
    empty_row width held needs_of free_number_of lookup before texts names_from path_to path_of is_no_path is_root content_of entry_row row_of row_at tree_in enter walk
    node_named in_walked walk_to entry_named enter_on walk_on arrived_or formatted is_vacant EffectOf.lowest_vacant EffectOf.made EffectOf.rewritten EffectOf.written EffectOf.removed with_lock EffectOf.relocked
    is_missing is_blocked stopped_at is_there is_directory_node is_locked_node content_in row_in RefusalOf.wanted RefusalOf.make_lines RefusalOf.earlier RefusalOf.later RefusalOf.refusals settle MeaningOf.found_at MeaningOf.listed
    MeaningOf.told MeaningOf.filled is_format MeaningOf.lines MeaningOf.effect MeaningOf.answer MeaningOf.after MeaningOf.buffer_after text run results turn turns
computing = tt

-- ---- cases

-- a call, and what it must give back
pub record Step : Type 0 where
  pub call : Call
  pub given : Result call

abbrev pub calls : List Step → List Call
calls [] = []
calls (s ∷ ss) = s.call ∷ calls ss

abbrev pub given : (ss : List Step) → Results (calls ss)
given [] = tt
given (s ∷ ss) = (s.given, given ss)

-- steps from an image, what to look at in the image after them, and what must be seen there
pub record Case : Type 1 where
  pub start : Bytes
  pub steps : List Step
  pub Seen : Type 0
  pub look : Bytes → Seen
  pub seen : Seen

-- ---- how a case is written

-- a call with this answer; its buffer, if it has one, stays
infix 68 ◌gives◌
abbrev pub ◌gives◌ : (c : Call) → Answer (Told c) → Step
c gives a = record { call = c; given = record { answered = a; lent = buffer_before c } }

-- a read that copies n bytes, after which the buffer is `filled`
abbrev pub reads : (path : Bytes) (position : ℕ) (buffer : Bytes) (n : ℕ) (filled : Bytes) → Step
reads path position buffer n filled = record { call = read path position buffer; given = record { answered = granted n; lent = filled } }

-- A refusal with all three numbers of its place, not by the definitions' own words for it; and one with no place.
abbrev pub numbered : (number x y z : ℕ) → Refusal
numbered n x y z = record { number = n; place = (x, y, z) }

abbrev pub refusal : {A : Type 0} → ℕ → Answer A
refusal n = refused (numbered n 0 0 0)

-- with the byte of the path at which the walk stops
abbrev pub refusal_at : {A : Type 0} → (number byte : ℕ) → Answer A
refusal_at n i = refused (numbered n i 0 0)

abbrev pub done : Answer (Unit {0})
done = granted tt

abbrev pub sized : (pages free : ℕ) → Answer Verdict
sized pages free = granted (record { pages = pages; free = free })

-- steps of which only the answers are looked at, and steps after which `look` shows `seen` in the image
abbrev pub answered : Bytes → List Step → Case
answered b steps = record { start = b; steps = steps; Seen = Unit {0}; look = λ after. tt; seen = tt }

abbrev pub shown : {A : Type 0} → Bytes → List Step → (Bytes → A) → A → Case
shown {A} b steps look seen = record { start = b; steps = steps; Seen = A; look = look; seen = seen }

-- an image that is refused by this number, with the three numbers of its place (paper 02 §2)
abbrev pub unsound : Bytes → (number x y z : ℕ) → Case
unsound b n x y z = answered b (verdict gives refused (numbered n x y z) ∷ [])

-- ---- the cases hold

-- each case of a list gives back and shows what it must
unfoldable pub Hold : List Case → Type 0
Hold [] = Unit {0}
Hold (c ∷ cs) = (results (calls c.steps) c.start ≡ given c.steps) × (c.look (run (calls c.steps) c.start) ≡ c.seen) × Hold cs

-- ---- the same as one equation, which computes

abbrev pub Outcomes : List Case → Type 0
Outcomes [] = Unit {0}
Outcomes (c ∷ cs) = Results (calls c.steps) × c.Seen × Outcomes cs

unfoldable pub computed : (cs : List Case) → Outcomes cs
computed [] = tt
computed (c ∷ cs) = let done = turns (calls c.steps) c.start in (done.0, c.look done.1, computed cs)

unfoldable pub stated : (cs : List Case) → Outcomes cs
stated [] = tt
stated (c ∷ cs) = (given c.steps, c.seen, stated cs)

pub hold : (cs : List Case) → computed cs ≡ stated cs → Hold cs
unfolding Hold computed stated
hold [] e = tt
hold (c ∷ cs) e =
    let t = turns_are (calls c.steps) c.start in (
      sym (ap (λ (d : Results (calls c.steps) × Bytes). d.0) t) ∙ ap (λ (o : Outcomes (c ∷ cs)). o.0) e,
      sym (ap (λ (d : Results (calls c.steps) × Bytes). c.look d.1) t) ∙ ap (λ (o : Outcomes (c ∷ cs)). o.1) e,
      hold cs (ap (λ (o : Outcomes (c ∷ cs)). o.2) e),
    )

pub hold_append : (cs ds : List Case) → Hold cs → Hold ds → Hold (cs ++ ds)
unfolding Hold
hold_append [] ds h k = k
hold_append (c ∷ cs) ds h k = (h.0, h.1, hold_append cs ds h.2 k)
