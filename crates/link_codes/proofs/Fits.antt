-- A refusal of the link list has a code that tells it. 21, 22 and 23 have room for any place. Every other refusal is the verdict's, or that of a walk
-- in the tree of an image: for a writing's make and write this is the image that the calls before them leave.
use mathlib.Core.Path.{◌≡◌, refl, sym, ap, ◌∙◌, subst}
use Prim.Native.Nat.{ℕ, ◌+◌, ◌*◌, ◌≤◌, min}
use native.Mathlib.Omega.{arith}
use mathlib.Core.Bool.{Bool, true, false, not, ◌||◌}
use mathlib.Core.Option.{Option, none, some}
use mathlib.Core.List.{List, [], ◌∷◌, ◌++◌}
use lib.Dec.{T, eqb, eqb→eq}
use borrow.Author.Tests.{lt-ltb}
use Rattle.volume.specs.Bytes.{Bytes}
use Rattle.std.specs.Prelude.{if◌then◌else◌}
use Rattle.volume.specs.Lists.{all, any}
use Rattle.volume.proofs.Tests.{and_both, both_and}
use Rattle.model.specs.Layout.{page_count}
use Rattle.model.specs.Sound.{sound}
use Rattle.model.specs.Tree.{Tree}
use Rattle.model.specs.Image.{tree_of}
use Rattle.model.specs.Call.{Call, verdict, make_file, write, Verdict, Refusal, refusal, Answer, refused, granted}
use Rattle.model.specs.Refusal.{Line, refusals, settle}
use Rattle.model.specs.Meaning.{is_format, fault_told, answer, after, tree_after}
use Rattle.model.specs.Demands.{Unsound, by_length, by_header, by_fault, replay}
use Rattle.laws.proofs.Facts.{valid_sized, sound_facts_lem}
use Rattle.laws.proofs.Steps.{as_tree_lem}
use Rattle.laws.proofs.Headline.{demand_2}
use Rattle.link_list.specs.declared.Row.{Row}
use Rattle.link_list.specs.Coding.{file_of}
use Rattle.link_list.specs.Judging.{Reading, bad, rows, bad_row}
use Rattle.link_list.specs.Links.{LinkCall, read_links, write_links, find_link, check_links, LinkTold, links_path, reading, rows_in, file_lines, bad_line, judged_lines, record_lines, removal, bad_row_line, room_lines, old_lines, link_lines, link_told, link_answer, tree_link_answer, run_after}
use Rattle.link_list.proofs.Refusals.{Broken, file_broken, list_broken}
use Rattle.link_list.proofs.Steps.{run_sound}
use Rattle.link_list.proofs.Headline.{link_demand}
use Rattle.code_laws.proofs.Stops.{to_stops, directory_stops}
use Rattle.code_laws.proofs.Room.{in_code, answer_passes, AllPass, all_append, settle_in, own_in, answer_in}
use Rattle.codes.specs.Codes.{refusal_code}
use Rattle.codes.proofs.Fits.{in_code_lem, apart, shallow, roomy1}
use Rattle.link_codes.specs.Codes.{points_to_row, most_row, link_code, link_code_of, LinkFits, AnswerFits, LinkApart}

-- ---- what fits

unfoldable link_in : Refusal → Bool
link_in m = points_to_row m || in_code m

base_in : (m : Refusal) → T (in_code m) → T (link_in m)
unfolding link_in
base_in m h = go (points_to_row m)
  where
    go : (c : Bool) → T (c || in_code m)
    go true = tt
    go false = h

-- 21 and 22
broken_in : (f : Refusal) → Broken f → T (link_in f)
unfolding link_in points_to_row any
broken_in f h = go (eqb f.number 21) (eqb f.number 22) h
  where
    go : (x y : Bool) → T (x || (y || false)) → T (x || y || eqb f.number 23 || in_code f)
    go true y u = tt
    go false true u = tt
    go false false u = absurd u

all_base : (ls : List Line) → AllPass in_code ls → AllPass link_in ls
unfolding all
all_base [] h = tt
all_base (l ∷ ls) h =
    let two = and_both (in_code l.1) (all (λ (m : Line). in_code m.1) ls) h in
    both_and (link_in l.1) (all (λ (m : Line). link_in m.1) ls) (base_in l.1 two.0) (all_base ls two.1)

-- ---- the lines of a link call

bad_in : (x : Reading) → ((f : Refusal) → x ≡ bad f → Broken f) → AllPass link_in (bad_line x)
unfolding bad_line all
bad_in (bad f) h = both_and (link_in f) true (broken_in f (h f refl)) tt
bad_in (rows rs) h = tt

bad_row_in : (o : Option Refusal) → ((f : Refusal) → o ≡ some f → Broken f) → AllPass link_in (bad_row_line o)
unfolding bad_row_line all
bad_row_in (some f) h = both_and (link_in f) true (broken_in f (h f refl)) tt
bad_row_in none h = tt

record_in : (i : ℕ) (d : Bytes) (t : Tree) (rs : List Row) → AllPass link_in (record_lines i d t rs)
unfolding record_lines all link_in points_to_row
record_in i d t [] = tt
record_in i d t (r ∷ rs) = record_in (i + 1) d t rs

few : (b : Bytes) → T (sound b) → page_count b ≤ 256
few b h = (valid_sized b (sound_facts_lem h).fits).high

module _ (b : Bytes) (h : T (sound b)) where
  file_in : (d : Bytes) → AllPass link_in (file_lines d (tree_of b))
  unfolding file_lines all in_code
  file_in d = all_base (file_lines d (tree_of b)) (rw (lt-ltb _ _ (to_stops (tree_of b) (shallow b (few b h)) (links_path d))) tt)

  judged_in : (d : Bytes) → AllPass link_in (judged_lines d (tree_of b))
  unfolding judged_lines
  judged_in d = all_append link_in (file_lines d (tree_of b)) (bad_line (reading d (tree_of b))) (file_in d) (bad_in (reading d (tree_of b)) (file_broken _))

  old_in : (d date : Bytes) → AllPass link_in (old_lines d date (tree_of b))
  unfolding old_lines all in_code
  old_in d date = all_base (old_lines d date (tree_of b)) (rw (lt-ltb _ _ (directory_stops (tree_of b) (shallow b (few b h)) d)) tt)

  -- the trees that a writing's make and write are asked of are those of the images that they get
  room_in : (d date : Bytes) (rs : List Row) → AllPass link_in (room_lines d date rs (tree_of b))
  unfolding room_lines
  room_in d date rs =
      let makes : Call = make_file (links_path d) date in
      let writes : Call = write (links_path d) 0 (file_of rs) in
      let cleared : Bytes = run_after (removal d (tree_of b)) b in
      let t : Tree = replay (removal d (tree_of b)) (tree_of b) in
      let r = run_sound (removal d (tree_of b)) b h in
      let s = as_tree_lem makes cleared r.0 in
      let make_in : AllPass in_code (refusals makes t) = subst (λ (u : Tree). AllPass in_code (refusals makes u)) r.1 (own_in roomy1 makes (tree_of cleared) (shallow cleared (few cleared r.0))) in
      let write-in : AllPass in_code (refusals writes (tree_after makes t)) =
      subst (λ (u : Tree). AllPass in_code (refusals writes u)) (s.means ∙ ap (tree_after makes) r.1) (own_in roomy1 writes (tree_of (after makes cleared)) (shallow (after makes cleared) (few (after makes cleared) s.is_sound))) in
      all_append link_in (refusals makes t) (refusals writes (tree_after makes t)) (all_base (refusals makes t) make_in) (all_base (refusals writes (tree_after makes t)) write-in)

  lines_in : (c : LinkCall) → AllPass link_in (link_lines c (tree_of b))
  unfolding link_lines all link_in points_to_row in_code
  lines_in (read_links d list) = all_append link_in (judged_lines d (tree_of b)) _ (judged_in d) tt
  lines_in (write_links d date list) =
      all_append link_in (old_lines d date (tree_of b)) (bad_row_line (bad_row list) ++ room_lines d date list (tree_of b)) (old_in d date)
      (all_append link_in (bad_row_line (bad_row list)) (room_lines d date list (tree_of b)) (bad_row_in (bad_row list) (list_broken list)) (room_in d date list))
  lines_in (find_link d count value) = judged_in d
  lines_in (check_links d) =
      let rs = rows_in (reading d (tree_of b)) in
      all_append link_in (judged_lines d (tree_of b)) (record_lines 0 d (tree_of b) rs) (judged_in d) (record_in 0 d (tree_of b) rs)

  tree_in : (c : LinkCall) → T (answer_passes link_in (tree_link_answer c (tree_of b)))
  unfolding tree_link_answer
  tree_in c = settle_in link_in (link_lines c (tree_of b)) (granted (link_told c (tree_of b))) (lines_in c) tt

-- ---- the calls

link_in_lem : (c : LinkCall) (b : Bytes) → T (answer_passes link_in (link_answer c b))
unfolding is_format settle
link_in_lem c b = go (sound b) refl
  where
    judged : (f : Refusal) → answer verdict b ≡ refused f → T (answer_passes link_in (link_answer c b))
    judged f e =
        subst (λ (a : Answer (LinkTold c)). T (answer_passes link_in a)) (sym (link_demand.unsound c b f e))
        (base_in f (subst (λ (a : Answer Verdict). T (answer_passes in_code a)) e (answer_in roomy1 verdict b)))

    unsound : Unsound verdict b → T (answer_passes link_in (link_answer c b))
    unsound (by_length n e) = judged (refusal 1) e
    unsound (by_header v n e) = judged (refusal 2) e
    unsound (by_fault v w f j e) = judged (fault_told f) e

    go : (s : Bool) → sound b ≡ s → T (answer_passes link_in (link_answer c b))
    go true e =
        let h : T (sound b) = subst T (sym e) tt in
        subst (λ (a : Answer (LinkTold c)). T (answer_passes link_in a)) (sym (link_demand.as_tree c b h).answered) (tree_in b h c)
    go false e = unsound (demand_2.unsound verdict b tt refl (subst (λ (x : Bool). T (not x)) (sym e) tt))

in_fits : (m : Refusal) → T (link_in m) → LinkFits m
unfolding link_in LinkFits
in_fits m h n = (in_code_lem m (go (points_to_row m) h n)).place
  where
    go : (c : Bool) → T (c || in_code m) → T (not c) → T (in_code m)
    go true u k = absurd k
    go false u k = u

-- an answer that is the link list's fits, as the code's functions ask it
pub link_fits : (c : LinkCall) (b : Bytes) {a : Answer (LinkTold c)} → a ≡ link_answer c b → AnswerFits a
link_fits c b {a} e = go a (subst (λ (x : Answer (LinkTold c)). T (answer_passes link_in x)) (sym e) (link_in_lem c b))
  where
    go : (x : Answer (LinkTold c)) → T (answer_passes link_in x) → AnswerFits x
    go (refused m) h = in_fits m h
    go (granted x) h = tt

pub link_coded : {A : Type 0} {x y : Answer A} {n : ℕ} → n ≡ link_code_of x → x ≡ y → n ≡ link_code_of y
link_coded e is = e ∙ ap link_code_of is

-- ---- what the code tells

row_number : (m : Refusal) → T (points_to_row m) → (21 ≤ m.number) × (m.number ≤ 23)
unfolding points_to_row
row_number m h = let n = m.number in go n (eqb n 21) (eqb→eq n 21) (eqb n 22) (eqb→eq n 22) (eqb n 23) (eqb→eq n 23) h
  where
    go : (n : ℕ) → (x : Bool) → (T x → n ≡ 21) → (y : Bool) → (T y → n ≡ 22) → (z : Bool) → (T z → n ≡ 23) → T (x || y || z) → (21 ≤ n) × (n ≤ 23)
    go n true a y b z c u = (omega (arith, a tt), omega (arith, a tt))
    go n false a true b z c u = (omega (arith, b tt), omega (arith, b tt))
    go n false a false b true c u = (omega (arith, c tt), omega (arith, c tt))
    go n false a false b false c u = absurd u

told_apart : (m : Refusal) → T (link_in m) → LinkApart (link_code m) m
unfolding link_in link_code
told_apart m h = go (points_to_row m) refl h
  where
    go : (p : Bool) → points_to_row m ≡ p → T (p || in_code m) → LinkApart (if p then m.number + 256 * min m.place.0 most_row else refusal_code m) m
    go true e u =
        let n = row_number m (subst T (sym e) tt) in
        record { refuses = omega arith; number = omega arith; row = λ _. omega arith; base = λ k. absurd (subst (λ (x : Bool). T (not x)) e k) }
    go false e u =
        let a = apart m (in_code_lem m u) in
        record { refuses = a.refuses; number = a.number; row = λ k. absurd (subst T e k); base = λ _. a }

-- The code of a refused call is not 0, and it tells number and place.
pub link_code_apart : (c : LinkCall) (b : Bytes) (m : Refusal) → link_answer c b ≡ refused m → LinkApart (link_code_of (link_answer c b)) m
unfolding link_code_of
link_code_apart c b m e =
    subst (λ (a : Answer (LinkTold c)). LinkApart (link_code_of a) m) (sym e)
    (told_apart m (subst (λ (a : Answer (LinkTold c)). T (answer_passes link_in a)) e (link_in_lem c b)))
