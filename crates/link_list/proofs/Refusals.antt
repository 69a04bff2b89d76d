-- A refused call has one of its numbers: each line has, but for those of a writing's make and write, of which 9 and 10 alone can hold.
use mathlib.Core.Path.{◌≡◌, refl, sym, ap, ◌∙◌, subst}
use Prim.Native.Nat.{ℕ, zero, suc, ◌+◌, ◌-◌}
use mathlib.Core.Bool.{Bool, true, false, not, ◌||◌, ◌&&◌}
use mathlib.Core.Option.{Option, none, some, none-ne-some, some-ne-none}
use mathlib.Core.List.{List, [], ◌∷◌, ◌++◌}
use lib.ListN.{length}
use lib.Dec.{T, eqb, eqb→eq}
use Rattle.volume.specs.Bytes.{Bytes}
use Rattle.std.specs.Prelude.{if◌then◌else◌}
use Rattle.volume.specs.Lists.{all, any, member}
use Rattle.volume.proofs.Tests.{and_both, both_and}
use Rattle.model.specs.Sound.{sound}
use Rattle.model.specs.Judge.{bad_entry, bad_chain, owned_twice, marked_free, lost_page, bad_count, Judged, fault, clean, judge}
use Rattle.model.specs.Tree.{Tree}
use Rattle.model.specs.Image.{tree_of}
use Rattle.model.specs.Call.{Call, make_file, write, Refusal, refusal_at, Answer, refused, granted}
use Rattle.model.specs.Refusal.{Line, refusals, settle, Passes}
use Rattle.model.specs.Meaning.{first_fault, image_lines, tree_after}
use Rattle.model.specs.Demands.{replay}
use Rattle.laws.proofs.Lines.{settle_append, settle_refused, Numbered, refused_numbered}
use Rattle.laws.proofs.Passed.{image_passed}
use Rattle.link_list.specs.declared.Row.{Row}
use Rattle.link_list.specs.Coding.{Taken, in_range, take_row, file_of}
use Rattle.link_list.specs.Judging.{follows, Reading, bad, rows, row, read_row, read_from, read_list, bad_from, bad_row}
use Rattle.link_list.specs.Links.{LinkCall, read_links, write_links, find_link, check_links, list_before, links_path, reading, rows_in, file_lines, bad_line, judged_lines, record_lines, removal, bad_row_line, room_lines, old_lines, link_lines, link_told, list_filled, turns_of, link_answer, link_list, run_after, link_after}
use Rattle.link_list.specs.Demand.{own_link_numbers, link_numbers, LinkUntouched}
use Rattle.link_list.proofs.Rows.{holds}
use Rattle.link_list.proofs.Writing.{Old, old_passed, Cleared, cleared, room, make_numbered, made_stands, write_numbered}

-- ---- lines one after another

numbered_append : (ns : List ℕ) (ls ms : List Line) → Numbered ns ls → Numbered ns ms → Numbered ns (ls ++ ms)
unfolding all
numbered_append ns [] ms h k = k
numbered_append ns (l ∷ ls) ms h k =
    let two = and_both (member l.1.number ns || not l.0) (all (λ (m : Line). member m.1.number ns || not m.0) ls) h in
    both_and (member l.1.number ns || not l.0) (all (λ (m : Line). member m.1.number ns || not m.0) (ls ++ ms)) two.0 (numbered_append ns ls ms two.1 k)

-- the later lines need be numbered only where the earlier ones pass
numbered_then : {A : Type 0} (ns : List ℕ) (ls ms : List Line) (x : A) (f : Refusal) → Numbered ns ls
    → (Passes ls → settle ms refused (granted x) ≡ refused f → T (member f.number ns))
    → settle (ls ++ ms) refused (granted x) ≡ refused f → T (member f.number ns)
unfolding settle all
numbered_then ns [] ms x f h k e = k refl e
numbered_then {A} ns (l ∷ ls) ms x f h k e =
    let two = and_both (member l.1.number ns || not l.0) (all (λ (m : Line). member m.1.number ns || not m.0) ls) h in
    go l.0 l.1 two.0 e k (numbered_then ns ls ms x f two.1)
  where
    one : (a : Bool) → T (a || false) → T a
    one true u = tt
    one false u = u

    go : (c : Bool) (s : Refusal) → T (member s.number ns || not c) → (if c then refused s else settle (ls ++ ms) refused (granted x)) ≡ refused f
        → ((if c then some s else settle ls some none) ≡ none → settle ms refused (granted x) ≡ refused f → T (member f.number ns))
        → ((Passes ls → settle ms refused (granted x) ≡ refused f → T (member f.number ns)) → settle (ls ++ ms) refused (granted x) ≡ refused f → T (member f.number ns))
        → T (member f.number ns)
    go true s t u w next = let q : s ≡ f = cc u in subst (λ (y : Refusal). T (member y.number ns)) q (one (member s.number ns) t)
    go false s t u w next = next w u

-- ---- the image's lines

image_numbered : (ns : List ℕ) (b : Bytes) → Numbered (1 ∷ 2 ∷ 16 ∷ 17 ∷ 18 ∷ 20 ∷ 19 ∷ 3 ∷ ns) (image_lines b)
unfolding all any
image_numbered ns b = go (judge b)
  where
    go : (j : Judged) → T ((member (first_fault j).number (1 ∷ 2 ∷ 16 ∷ 17 ∷ 18 ∷ 20 ∷ 19 ∷ 3 ∷ ns) || not (not (sound b))) && true)
    go (fault (bad_entry d i)) = tt
    go (fault (bad_chain d i passed)) = tt
    go (fault (owned_twice p)) = tt
    go (fault (marked_free p)) = tt
    go (fault (lost_page p)) = tt
    go (fault bad_count) = tt
    go (clean marks) = tt

-- ---- 21 and 22

abbrev pub Broken : Refusal → Type 0
Broken f = T (member f.number (21 ∷ 22 ∷ []))

abbrev is_bad : Reading → Bool
is_bad (bad f) = true
is_bad (rows rs) = false

not_rows : (rs : List Row) (f : Refusal) → rows rs ≡ bad f → ⊥
not_rows rs f e = subst (λ (x : Reading). T (not (is_bad x))) e tt

row_broken : (r : Row) (rest : Reading) (f : Refusal) → ((g : Refusal) → rest ≡ bad g → Broken g) → row r rest ≡ bad f → Broken f
unfolding row
row_broken r (bad g) f h e = h f e
row_broken r (rows rs) f h e = absurd (not_rows (r ∷ rs) f e)

read_broken : (most size i : ℕ) (before : Option Row) (v : Bytes) (f : Refusal) → read_from most size i before v ≡ bad f → Broken f
unfolding read_from read_row any
read_broken zero size i before v f e = absurd (not_rows [] f e)
read_broken (suc most) size i before v f e = go (eqb (length v) 0) (take_row v) (λ r w. read_broken most size (i + 1) (some r) w) e
  where
    given : (r : Refusal) → bad r ≡ bad f → Broken r → Broken f
    given r u h = let q : r ≡ f = cc u in subst Broken q h

    stands : (c : Bool) (t : Row × Bytes) → ((r : Row) (w : Bytes) (g : Refusal) → read_from most size (i + 1) (some r) w ≡ bad g → Broken g)
        → (if c then row t.0 (read_from most size (i + 1) (some t.0) t.1) else bad (refusal_at 22 i)) ≡ bad f → Broken f
    stands true t ih u = row_broken t.0 (read_from most size (i + 1) (some t.0) t.1) f (ih t.0 t.1) u
    stands false t ih u = given (refusal_at 22 i) u tt

    taken : (o : Taken Row) → ((r : Row) (w : Bytes) (g : Refusal) → read_from most size (i + 1) (some r) w ≡ bad g → Broken g)
        → read_row i (size - length v) before (λ r rest. read_from most size (i + 1) (some r) rest) o ≡ bad f → Broken f
    taken none ih u = given (refusal_at 21 (size - length v)) u tt
    taken (some t) ih u = stands (follows before t.0) t ih u

    go : (z : Bool) (o : Taken Row) → ((r : Row) (w : Bytes) (g : Refusal) → read_from most size (i + 1) (some r) w ≡ bad g → Broken g)
        → (if z then rows [] else read_row i (size - length v) before (λ r rest. read_from most size (i + 1) (some r) rest) o) ≡ bad f → Broken f
    go true o ih u = absurd (not_rows [] f u)
    go false o ih u = taken o ih u

pub file_broken : (v : Bytes) (f : Refusal) → read_list v ≡ bad f → Broken f
unfolding read_list
file_broken v f e = read_broken (length v) (length v) 0 none v f e

bad_broken : (i : ℕ) (before : Option Row) (rs : List Row) (f : Refusal) → bad_from i before rs ≡ some f → Broken f
unfolding bad_from any
bad_broken i before [] f e = absurd (none-ne-some f e)
bad_broken i before (r ∷ rs) f e = go (in_range r) (follows before r) e (bad_broken (i + 1) (some r) rs f)
  where
    given : (g : Refusal) → some g ≡ some f → Broken g → Broken f
    given g u h = let q : g ≡ f = cc u in subst Broken q h

    go : (x y : Bool) → (if x then (if y then bad_from (i + 1) (some r) rs else some (refusal_at 22 i)) else some (refusal_at 21 i)) ≡ some f
        → (bad_from (i + 1) (some r) rs ≡ some f → Broken f) → Broken f
    go true true u next = next u
    go true false u next = given (refusal_at 22 i) u tt
    go false y u next = given (refusal_at 21 i) u tt

pub list_broken : (rs : List Row) (f : Refusal) → bad_row rs ≡ some f → Broken f
unfolding bad_row
list_broken rs f e = bad_broken 0 none rs f e

-- one of two numbers is one of a list that has both
one_of : (x y n : ℕ) → T (member n (x ∷ y ∷ [])) → (ns : List ℕ) → T (member x ns) → T (member y ns) → T (member n ns)
unfolding any
one_of x y n h ns a b = go (eqb n x) (eqb→eq n x) (eqb n y) (eqb→eq n y) h
  where
    go : (c : Bool) → (T c → n ≡ x) → (e : Bool) → (T e → n ≡ y) → T (c || (e || false)) → T (member n ns)
    go true p e q u = subst (λ (m : ℕ). T (member m ns)) (sym (p tt)) a
    go false p true q u = subst (λ (m : ℕ). T (member m ns)) (sym (q tt)) b
    go false p false q u = absurd u

first_or : (a b : Bool) → T a → T ((a || b) && true)
first_or true b h = tt
first_or false b h = absurd h

bad_numbered : (ns : List ℕ) → T (member 21 ns) → T (member 22 ns) → (x : Reading) → ((f : Refusal) → x ≡ bad f → Broken f) → Numbered ns (bad_line x)
unfolding bad_line all
bad_numbered ns a b (bad f) h = first_or (member f.number ns) (not true) (one_of 21 22 f.number (h f refl) ns a b)
bad_numbered ns a b (rows rs) h = tt

bad_row_numbered : (ns : List ℕ) → T (member 21 ns) → T (member 22 ns) → (o : Option Refusal) → ((f : Refusal) → o ≡ some f → Broken f) → Numbered ns (bad_row_line o)
unfolding bad_row_line all
bad_row_numbered ns a b (some f) h = first_or (member f.number ns) (not true) (one_of 21 22 f.number (h f refl) ns a b)
bad_row_numbered ns a b none h = tt

record_numbered : (ns : List ℕ) → T (member 23 ns) → (i : ℕ) (d : Bytes) (t : Tree) (rs : List Row) → Numbered ns (record_lines i d t rs)
unfolding record_lines all
record_numbered ns h i d t [] = tt
record_numbered ns h i d t (r ∷ rs) = rw (holds (member 23 ns) h) (record_numbered ns h (i + 1) d t rs)

-- ---- the calls

-- what judges the whole file
judged_numbered : (ns : List ℕ) → T (all (λ n. member n ns) (4 ∷ 5 ∷ 6 ∷ 7 ∷ [])) → T (member 21 ns) → T (member 22 ns) → (d : Bytes) (t : Tree) → Numbered ns (judged_lines d t)
unfolding judged_lines file_lines all
judged_numbered ns h a b d t =
    let two = and_both (member 4 ns) _ h in
    let three = and_both (member 5 ns) _ two.1 in
    let four = and_both (member 6 ns) _ three.1 in
    let five = and_both (member 7 ns) _ four.1 in
    let file : Numbered ns (file_lines d t) = rw (holds (member 4 ns) two.0, holds (member 5 ns) three.0, holds (member 6 ns) four.0, holds (member 7 ns) five.0) tt in
    numbered_append ns (file_lines d t) (bad_line (reading d t)) file (bad_numbered ns a b (reading d t) (file_broken _))

old_numbered : (ns : List ℕ) → T (all (λ n. member n ns) (4 ∷ 11 ∷ 5 ∷ 6 ∷ 7 ∷ 25 ∷ [])) → (d date : Bytes) (t : Tree) → Numbered ns (old_lines d date t)
unfolding old_lines all
old_numbered ns h d date t =
    let a = and_both (member 4 ns) _ h in
    let b = and_both (member 11 ns) _ a.1 in
    let c = and_both (member 5 ns) _ b.1 in
    let e = and_both (member 6 ns) _ c.1 in
    let f = and_both (member 7 ns) _ e.1 in
    let g = and_both (member 25 ns) _ f.1 in
    rw (holds (member 4 ns) a.0, holds (member 11 ns) b.0, holds (member 5 ns) c.0, holds (member 6 ns) e.0, holds (member 7 ns) f.0, holds (member 25 ns) g.0) tt

room_refused : (b : Bytes) → T (sound b) → (d date : Bytes) (rs : List Row) → Passes (old_lines d date (tree_of b)) → (f : Refusal)
    → ◌≡◌ {A = Answer (Unit {0})} (settle (room_lines d date rs (tree_of b)) refused (granted tt)) (refused f) → T (member f.number room)
unfolding room_lines
room_refused b h d date rs p f e =
    let o = old_passed d date (tree_of b) p in
    let t : Tree = replay (removal d (tree_of b)) (tree_of b) in
    let c : Cleared d t = cleared b h d date o in
    let makes : Call = make_file (links_path d) date in
    let writes : Call = write (links_path d) 0 (file_of rs) in
    numbered_then room (refusals makes t) (refusals writes (tree_after makes t)) tt f (make_numbered d date o.is_path o.good t c)
    (λ q. refused_numbered room (refusals writes (tree_after makes t)) tt f (write_numbered d date o.is_path (file_of rs) (tree_after makes t) (made_stands d date o.is_path t c q))) e

link_numbered : (c : LinkCall) (b : Bytes) (f : Refusal) → link_answer c b ≡ refused f → T (member f.number (link_numbers c))
unfolding link_answer link_lines link_told own_link_numbers any all
link_numbered (read_links d list) b f e =
    let ns = link_numbers (read_links d list) in
    let t = tree_of b in
    refused_numbered ns (image_lines b ++ link_lines (read_links d list) t) _ f
    (numbered_append ns (image_lines b) (link_lines (read_links d list) t) (image_numbered (own_link_numbers (read_links d list)) b) (numbered_append ns (judged_lines d t) _ (judged_numbered ns tt tt tt d t) tt)) e
link_numbered (find_link d count value) b f e =
    let ns = link_numbers (find_link d count value) in
    let t = tree_of b in
    refused_numbered ns (image_lines b ++ link_lines (find_link d count value) t) _ f (numbered_append ns (image_lines b) (judged_lines d t) (image_numbered (own_link_numbers (find_link d count value)) b) (judged_numbered ns tt tt tt d t)) e
link_numbered (check_links d) b f e =
    let ns = link_numbers (check_links d) in
    let t = tree_of b in
    refused_numbered ns (image_lines b ++ link_lines (check_links d) t) _ f
    (numbered_append ns (image_lines b) (link_lines (check_links d) t) (image_numbered (own_link_numbers (check_links d)) b)
    (numbered_append ns (judged_lines d t) (record_lines 0 d t (rows_in (reading d t))) (judged_numbered ns tt tt tt d t) (record_numbered ns tt 0 d t (rows_in (reading d t))))) e
link_numbered (write_links d date list) b f e =
    let ns = link_numbers (write_links d date list) in
    let t = tree_of b in
    let last = bad_row_line (bad_row list) ++ room_lines d date list t in
    numbered_then ns (image_lines b) (old_lines d date t ++ last) tt f (image_numbered (own_link_numbers (write_links d date list)) b)
    (λ p. numbered_then ns (old_lines d date t) last tt f (old_numbered ns tt d date t)
    (λ q. numbered_then ns (bad_row_line (bad_row list)) (room_lines d date list t) tt f (bad_row_numbered ns tt tt (bad_row list) (list_broken list))
    (λ _ k. one_of 9 10 f.number (room_refused b (image_passed b [] p).0 d date list q f k) ns tt tt))) e

pub link_untouched : (c : LinkCall) (b : Bytes) (f : Refusal) → link_answer c b ≡ refused f → LinkUntouched c b f
unfolding link_answer link_after link_list
link_untouched c b f e =
    let ls = image_lines b ++ link_lines c (tree_of b) in
    record {
      numbered = link_numbered c b f e;
      image = settle_refused ls (link_told c (tree_of b)) f (λ r. b) (run_after (turns_of c (tree_of b)) b) e;
      list = settle_refused ls (link_told c (tree_of b)) f (λ r. list_before c) (list_filled c (tree_of b)) e;
    }
