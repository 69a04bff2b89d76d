-- Lists of refusal lines: the first that holds is given, so what stands above a line decides whether it is reached.
use mathlib.Core.Path.{◌≡◌, refl, sym, ap, subst, ◌∙◌}
use mathlib.Core.Logic.{◌↔◌}
use Prim.Native.Nat.{ℕ, suc}
use native.Mathlib.Omega.{arith}
use mathlib.Core.Bool.{Bool, true, false, not, ◌||◌, true≢false}
use mathlib.Core.Option.{none, some, some-ne-none}
use mathlib.Core.List.{List, [], ◌∷◌, ◌++◌, map}
use lib.Dec.{T, eqb, ltb, eqb→eq}
use borrow.Author.Tests.{le-ltb}
use Rattle.std.specs.Prelude.{if◌then◌else◌}
use Rattle.volume.specs.Lists.{all, any, keep, member}
use Rattle.volume.proofs.Tests.{and_both, both_and}
use Rattle.model.specs.Call.{Refusal, refusal, Answer, refused, granted}
use Rattle.model.specs.Judge.{bad_entry, bad_chain, owned_twice, marked_free, lost_page, bad_count, Judged, fault, clean}
use Rattle.model.specs.RefusalOf.{Line, settle, Passes}
use Rattle.model.specs.MeaningOf.{first_fault}

-- ---- passing

pub passed : (l : Line) (ls : List Line) → Passes (l ∷ ls) → T (not l.0) × Passes ls
unfolding settle
passed l ls e = go l.0 e
  where
    go : (c : Bool) → (if c then some l.1 else settle ls some none) ≡ none → T (not c) × Passes ls
    go true u = absurd (some-ne-none l.1 u)
    go false u = (tt, u)

pub passes_right : (ls ms : List Line) → Passes (ls ++ ms) → Passes ms
passes_right [] ms e = e
passes_right (l ∷ ls) ms e = passes_right ls ms (passed l (ls ++ ms) e).1

pub passes_left : (ls ms : List Line) → Passes (ls ++ ms) → Passes ls
unfolding settle
passes_left [] ms e = refl
passes_left (l ∷ ls) ms e = go l.0 e (passes_left ls ms)
  where
    go : (c : Bool) → (if c then some l.1 else settle (ls ++ ms) some none) ≡ none → (Passes (ls ++ ms) → Passes ls) → (if c then some l.1 else settle ls some none) ≡ none
    go true u next = u
    go false u next = next u

module _ {A : Type 0} (f : Refusal → A) where
  pub settle_skip : (c : Bool) (r : Refusal) (ls : List Line) (x : A) → T (not c) → settle ((c, r) ∷ ls) f x ≡ settle ls f x
  unfolding settle
  settle_skip true r ls x h = absurd h
  settle_skip false r ls x h = refl

  pub settle_holds : (c : Bool) (r : Refusal) (ls : List Line) (x : A) → T c → settle ((c, r) ∷ ls) f x ≡ f r
  unfolding settle
  settle_holds true r ls x h = refl
  settle_holds false r ls x h = absurd h

  pub settle_append : (ls ms : List Line) (x : A) → settle (ls ++ ms) f x ≡ settle ls f (settle ms f x)
  unfolding settle
  settle_append [] ms x = refl
  settle_append (l ∷ ls) ms x = ap (λ (y : A). if l.0 then f l.1 else y) (settle_append ls ms x)

-- what passes settles to what comes after it
pub settle_open : {A : Type 0} (ls : List Line) (f : Refusal → A) (x : A) → Passes ls → settle ls f x ≡ x
unfolding settle
settle_open [] f x e = refl
settle_open {A} (l ∷ ls) f x e = go l.0 e (settle_open ls f x)
  where
    go : (c : Bool) → (if c then some l.1 else settle ls some none) ≡ none → (Passes ls → settle ls f x ≡ x) → (if c then f l.1 else settle ls f x) ≡ x
    go true u next = absurd (some-ne-none l.1 u)
    go false u next = next u

-- two ways to settle the same lines stay related
pub settle_both : {A B : Type 0} (R : A → B → Type 0) (ls : List Line) (f : Refusal → A) (x : A) (g : Refusal → B) (y : B)
    → ((r : Refusal) → R (f r) (g r)) → (Passes ls → R x y) → R (settle ls f x) (settle ls g y)
unfolding settle
settle_both R [] f x g y h k = k refl
settle_both R (l ∷ ls) f x g y h k = go l.0 l.1 (λ w. settle_both R ls f x g y h w) k
  where
    go : (c : Bool) (r : Refusal) → ((Passes ls → R x y) → R (settle ls f x) (settle ls g y))
        → ((if c then some r else settle ls some none) ≡ none → R x y)
        → R (if c then f r else settle ls f x) (if c then g r else settle ls g y)
    go true r next w = h r
    go false r next w = next w

pub not_granted : {A : Type 0} {x : A} {r : Refusal} → ◌≡◌ {A = Answer A} (granted x) (refused r) → ⊥
not_granted {A} {x} {r} e = let bad : ◌≡◌ {A = Bool} true false = ap is_granted e in true≢false bad
  where
    is_granted : Answer A → Bool
    is_granted (refused s) = false
    is_granted (granted y) = true

-- what is granted has passed
pub granted_passed : {A : Type 0} (ls : List Line) (x y : A) → settle ls refused (granted x) ≡ granted y → Passes ls
unfolding settle
granted_passed [] x y e = refl
granted_passed {A} (l ∷ ls) x y e = go l.0 l.1 e (granted_passed ls x y)
  where
    go : (c : Bool) (s : Refusal) → (if c then refused s else settle ls refused (granted x)) ≡ granted y → (settle ls refused (granted x) ≡ granted y → Passes ls)
        → (if c then some s else settle ls some none) ≡ none
    go true s u next = absurd (not_granted (sym u))
    go false s u next = next u

-- ---- which refusal

-- a refused call gives what another way to settle gives for that refusal
pub settle_refused : {A B : Type 0} (ls : List Line) (x : A) (r : Refusal) (g : Refusal → B) (y : B)
    → settle ls refused (granted x) ≡ refused r → settle ls g y ≡ g r
unfolding settle
settle_refused [] x r g y e = absurd (not_granted e)
settle_refused {A} (l ∷ ls) x r g y e = go l.0 l.1 e (settle_refused ls x r g y)
  where
    go : (c : Bool) (s : Refusal) → (if c then refused s else settle ls refused (granted x)) ≡ refused r → (settle ls refused (granted x) ≡ refused r → settle ls g y ≡ g r)
        → (if c then g s else settle ls g y) ≡ g r
    go true s u next = ap g (cc u)
    go false s u next = next u

-- the line that holds first decides
pub settle_first : {A : Type 0} (ls : List Line) (r : Refusal) (f : Refusal → A) (x : A) → settle ls some none ≡ some r → settle ls f x ≡ f r
unfolding settle
settle_first [] r f x e = absurd (some-ne-none r (sym e))
settle_first {A} (l ∷ ls) r f x e = go l.0 l.1 e (settle_first ls r f x)
  where
    go : (c : Bool) (s : Refusal) → (if c then some s else settle ls some none) ≡ some r → (settle ls some none ≡ some r → settle ls f x ≡ f r)
        → (if c then f s else settle ls f x) ≡ f r
    go true s u next = ap f (cc u)
    go false s u next = next u

-- each line that holds has one of these numbers
abbrev pub Numbered : List ℕ → List Line → Type 0
Numbered ns ls = T (all (λ (l : Line). member l.1.number ns || not l.0) ls)

pub refused_numbered : {A : Type 0} (ns : List ℕ) (ls : List Line) (x : A) (r : Refusal) → Numbered ns ls → settle ls refused (granted x) ≡ refused r → T (member r.number ns)
unfolding settle all
refused_numbered ns [] x r h e = absurd (not_granted e)
refused_numbered {A} ns (l ∷ ls) x r h e =
    let two = and_both (member l.1.number ns || not l.0) (all (λ (m : Line). member m.1.number ns || not m.0) ls) h in
    go l.0 l.1 two.0 e (refused_numbered ns ls x r two.1)
  where
    first_of : (a : Bool) → T (a || false) → T a
    first_of true h = tt
    first_of false h = h

    go : (c : Bool) (s : Refusal) → T (member s.number ns || not c) → (if c then refused s else settle ls refused (granted x)) ≡ refused r
        → (settle ls refused (granted x) ≡ refused r → T (member r.number ns)) → T (member r.number ns)
    go true s t u next = let e : s ≡ r = cc u in subst (λ (y : Refusal). T (member y.number ns)) e (first_of (member s.number ns) t)
    go false s t u next = next u

-- ---- number 10 among the lines

-- the numbers of lines, in order
abbrev pub line_numbers : List Line → List ℕ
line_numbers ls = map (λ (l : Line). l.1.number) ls

-- no line gives number 10
abbrev pub NoTen : List Line → Type 0
NoTen ls = T (all (λ n. not (eqb n 10)) (line_numbers ls))

not_ten : {A : Type 0} (ls : List Line) (x : A) → NoTen ls → settle ls refused (granted x) ≡ refused (refusal 10) → ⊥
unfolding settle all
not_ten [] x h e = not_granted e
not_ten {A} (l ∷ ls) x h e =
    let two = and_both (not (eqb l.1.number 10)) (all (λ n. not (eqb n 10)) (line_numbers ls)) h in
    go l.0 l.1 two.0 e (not_ten ls x two.1)
  where
    go : (c : Bool) (s : Refusal) → T (not (eqb s.number 10)) → (if c then refused s else settle ls refused (granted x)) ≡ refused (refusal 10)
        → (settle ls refused (granted x) ≡ refused (refusal 10) → ⊥) → ⊥
    go true s t u next = let e : s ≡ refusal 10 = cc u in subst (λ (y : Refusal). T (not (eqb y.number 10))) e t
    go false s t u next = next u

-- the line of number 10 is given exactly if those above it pass and its condition holds
pub ten_given : {A : Type 0} (ls : List Line) (c : Bool) (rest : List Line) (x : A) → NoTen ls → NoTen rest
    → (settle (ls ++ ((c, refusal 10) ∷ rest)) refused (granted x) ≡ refused (refusal 10)) ↔ (Passes ls × T c)
unfolding settle all
ten_given [] true rest x h k = (λ e. (refl, tt), λ p. refl)
ten_given [] false rest x h k = (λ e. absurd (not_ten rest x k e), λ p. absurd p.1)
ten_given {A} (l ∷ ls) c rest x h k =
    let two = and_both (not (eqb l.1.number 10)) (all (λ n. not (eqb n 10)) (line_numbers ls)) h in
    go l.0 l.1 two.0 (ten_given ls c rest x two.1 k)
  where
    go : (d : Bool) (s : Refusal) → T (not (eqb s.number 10))
        → (settle (ls ++ ((c, refusal 10) ∷ rest)) refused (granted x) ≡ refused (refusal 10)) ↔ (Passes ls × T c)
        → ((if d then refused s else settle (ls ++ ((c, refusal 10) ∷ rest)) refused (granted x)) ≡ refused (refusal 10)) ↔ (((if d then some s else settle ls some none) ≡ none) × T c)
    go true s t next =
        (λ u. absurd (let e : s ≡ refusal 10 = cc u in subst (λ (y : Refusal). T (not (eqb y.number 10))) e t), λ p. absurd (some-ne-none s p.0))
    go false s t next = next

-- ---- the order of a table

-- how many numbers of a table stand above this one
unfoldable pub rank_in : List ℕ → ℕ → ℕ
rank_in [] n = 0
rank_in (m ∷ ms) n = let rest = rank_in ms n in if eqb m n then 0 else suc rest

unfoldable pub rising : List ℕ → Bool
rising [] = true
rising (x ∷ []) = true
rising (x ∷ y ∷ ys) = let rest = rising (y ∷ ys) in if ltb x y then rest else false

-- the numbers stand in the table's order, none twice
abbrev pub InOrder : (table : List ℕ) → List ℕ → Type 0
InOrder table ns = T (rising (map (rank_in table) ns))

-- those above number 10 in the table, and those below it
abbrev pub above_ten : (table : List ℕ) → List ℕ → List ℕ
above_ten table ns = keep (λ n. ltb (rank_in table n) (rank_in table 10)) ns

abbrev pub below_ten : (table : List ℕ) → List ℕ → List ℕ
below_ten table ns = keep (λ n. ltb (rank_in table 10) (rank_in table n)) ns

-- a test that 10 fails keeps no 10
without_ten : (f : ℕ → Bool) → f 10 ≡ false → (ns : List ℕ) → T (all (λ n. not (eqb n 10)) (keep f ns))
unfolding all keep
without_ten f fails [] = tt
without_ten f fails (n ∷ ns) = go (f n) refl (without_ten f fails ns)
  where
    apart : (c : Bool) → eqb n 10 ≡ c → f n ≡ true → T (not c)
    apart false e h = tt
    apart true e h = absurd (true≢false (sym h ∙ ap f (eqb→eq n 10 (subst T (sym e) tt)) ∙ fails))

    go : (c : Bool) → f n ≡ c → T (all (λ m. not (eqb m 10)) (keep f ns)) → T (all (λ m. not (eqb m 10)) (if c then n ∷ keep f ns else keep f ns))
    go true e h = both_and (not (eqb n 10)) (all (λ m. not (eqb m 10)) (keep f ns)) (apart (eqb n 10) refl e) h
    go false e h = h

-- 10 itself stands neither above nor below 10
ten_apart : (table : List ℕ) → ltb (rank_in table 10) (rank_in table 10) ≡ false
ten_apart table = le-ltb (rank_in table 10) (rank_in table 10) (omega arith)

pub above_ten_lem : (table : List ℕ) (ls : List Line) (ns : List ℕ) → line_numbers ls ≡ above_ten table ns → NoTen ls
above_ten_lem table ls ns e =
    subst (λ (ms : List ℕ). T (all (λ n. not (eqb n 10)) ms)) (sym e) (without_ten (λ n. ltb (rank_in table n) (rank_in table 10)) (ten_apart table) ns)

pub below_ten_lem : (table : List ℕ) (ls : List Line) (ns : List ℕ) → line_numbers ls ≡ below_ten table ns → NoTen ls
below_ten_lem table ls ns e =
    subst (λ (ms : List ℕ). T (all (λ n. not (eqb n 10)) ms)) (sym e) (without_ten (λ n. ltb (rank_in table 10) (rank_in table n)) (ten_apart table) ns)

-- ---- the numbers of faults

-- what is a member stays one behind others
member_behind : (n : ℕ) (ms ns : List ℕ) → member n ns ≡ true → member n (ms ++ ns) ≡ true
unfolding any
member_behind n [] ns e = e
member_behind n (m ∷ ms) ns e = ap (λ (c : Bool). eqb n m || c) (member_behind n ms ns e) ∙ or_true (eqb n m)
  where
    or_true : (c : Bool) → (c || true) ≡ true
    or_true true = refl
    or_true false = refl

-- every fault's number stands where 3 stood, whatever numbers stand above and below
pub fault_numbered : (ms ns : List ℕ) (j : Judged) → member (first_fault j).number (ms ++ (16 ∷ 17 ∷ 18 ∷ 20 ∷ 19 ∷ 3 ∷ ns)) ≡ true
unfolding any
fault_numbered ms ns (fault (bad_entry d i)) = member_behind 16 ms _ refl
fault_numbered ms ns (fault (bad_chain d i passed)) = member_behind 17 ms _ refl
fault_numbered ms ns (fault (owned_twice p)) = member_behind 18 ms _ refl
fault_numbered ms ns (fault (marked_free p)) = member_behind 20 ms _ refl
fault_numbered ms ns (fault (lost_page p)) = member_behind 19 ms _ refl
fault_numbered ms ns (fault bad_count) = member_behind 3 ms _ refl
fault_numbered ms ns (clean marks) = member_behind 3 ms _ refl
