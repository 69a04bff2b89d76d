-- Bytes put one after another are put at once, and a number's bytes are so put.
use mathlib.Core.Path.{◌≡◌, refl, sym, ap, subst, ◌∙◌}
use mathlib.Core.Bool.{Bool, true, false}
use Prim.Native.Nat.{ℕ, zero, suc, ◌+◌, ◌-◌, ◌/◌, ◌%◌, ◌^◌, ◌≤◌, ◌<◌}
use native.Mathlib.Nat.{pow-suc}
use native.Mathlib.Omega.{arith}
use mathlib.Core.List.{List, [], ◌∷◌, ◌++◌}
use lib.ListN.{length, set, length-set}
use lib.Seq.{drop-nil, set_comm}
use lib.Dec.{ltb}
use borrow.Author.Tests.{lt-ltb, le-ltb}
use Rattle.volume.specs.Bytes.{Bytes, put}
use Rattle.std.specs.Prelude.{if◌then◌else◌}
use Rattle.link_list.specs.Coding.{groups}

-- ---- bytes put one after another

put_suc : (k : ℕ) (w : List ℕ) (x : ℕ) (xs : List ℕ) → put (suc k) w (x ∷ xs) ≡ x ∷ put k w xs
put_suc k w x xs = let e : suc k + length w ≡ suc (k + length w) = omega arith in rw e

pub put_cons : (k a : ℕ) (w xs : List ℕ) → k < length xs → put k (a ∷ w) xs ≡ put (k + 1) w (set xs k a)
put_cons k a w [] h = absurd (omega arith)
put_cons zero a w (x ∷ xs) h =
    let e : 0 + suc (length w) ≡ suc (length w) = omega arith in
    let f : 1 + length w ≡ suc (length w) = omega arith in
    rw (e, f)
put_cons (suc k) a w (x ∷ xs) h =
    let e : suc (k + 1) ≡ suc k + 1 = omega arith in
    put_suc k (a ∷ w) x xs ∙ ap (λ (ys : List ℕ). x ∷ ys) (put_cons k a w xs (omega arith)) ∙ sym (put_suc (k + 1) w x (set xs k a))
    ∙ ap (λ (j : ℕ). put j w (x ∷ set xs k a)) e

pub put_nil : (k : ℕ) (xs : List ℕ) → put k [] xs ≡ xs
put_nil zero xs = refl
put_nil (suc k) [] = drop-nil (suc k + 0)
put_nil (suc k) (x ∷ xs) = put_suc k [] x xs ∙ ap (λ (ys : List ℕ). x ∷ ys) (put_nil k xs)

pub put_length : (at : ℕ) (v b : Bytes) → at + length v ≤ length b → length (put at v b) ≡ length b
put_length at [] b h = ap length (put_nil at b)
put_length at (x ∷ v) b h =
    ap length (put_cons at x v b (omega arith)) ∙ put_length (at + 1) v (set b at x) (omega (arith, length-set b at x)) ∙ length-set b at x

pub put_after : (at : ℕ) (u v b : Bytes) → at + length u ≤ length b → put (at + length u) v (put at u b) ≡ put at (u ++ v) b
put_after at [] v b h =
    let e : at + 0 ≡ at = omega arith in
    ap (λ (c : Bytes). put (at + 0) v c) (put_nil at b) ∙ ap (λ (k : ℕ). put k v b) e
put_after at (x ∷ u) v b h =
    let e : at + suc (length u) ≡ at + 1 + length u = omega arith in
    ap (λ (c : Bytes). put (at + suc (length u)) v c) (put_cons at x u b (omega arith))
    ∙ ap (λ (k : ℕ). put k v (put (at + 1) u (set b at x))) e
    ∙ put_after (at + 1) u v (set b at x) (omega (arith, length-set b at x))
    ∙ sym (put_cons at x (u ++ v) b (omega arith))

pub put_snoc : (at : ℕ) (u : Bytes) (x : ℕ) (b : Bytes) → at + length u < length b → put at (u ++ (x ∷ [])) b ≡ put at u (set b (at + length u) x)
put_snoc at [] x b h =
    let e : at + 0 ≡ at = omega arith in
    put_cons at x [] b (omega arith) ∙ put_nil (at + 1) (set b at x) ∙ ap (λ (k : ℕ). set b k x) (sym e) ∙ sym (put_nil at (set b (at + 0) x))
put_snoc at (y ∷ u) x b h =
    let e : at + 1 + length u ≡ at + suc (length u) = omega arith in
    put_cons at y (u ++ (x ∷ [])) b (omega arith)
    ∙ put_snoc (at + 1) u x (set b at y) (omega (arith, length-set b at y))
    ∙ ap (λ (k : ℕ). put (at + 1) u (set (set b at y) k x)) e
    ∙ ap (put (at + 1) u) (set_comm b at (at + suc (length u)) y x (λ q. omega arith))
    ∙ sym (put_cons at y u (set b (at + suc (length u)) x) (omega (arith, length-set b (at + suc (length u)) x)))

-- ---- a number

pub groups_short : (k n : ℕ) → length (groups k n) ≤ k
unfolding groups
groups_short zero n = omega arith
groups_short (suc k) n = go (ltb n 128) (groups_short k (n / 128))
  where
    go : (z : Bool) → length (groups k (n / 128)) ≤ k → length (if z then n ∷ [] else (128 + n % 128) ∷ groups k (n / 128)) ≤ suc k
    go true h = omega arith
    go false h = omega arith

-- the bytes that a number has left, of at most 8, from `at` on
pub groups_more : (left n : ℕ) → 1 ≤ left → 128 ≤ n → groups left n ≡ (128 + n % 128) ∷ groups (left - 1) (n / 128)
unfolding groups
groups_more left n l h = let e : left ≡ suc (left - 1) = omega arith in ap (λ (k : ℕ). groups k n) e ∙ rw (le-ltb n 128 h)

pub groups_last : (left n : ℕ) → 1 ≤ left → n < 128 → groups left n ≡ n ∷ []
unfolding groups
groups_last left n l h = let e : left ≡ suc (left - 1) = omega arith in ap (λ (k : ℕ). groups k n) e ∙ rw (lt-ltb n 128 h)

pub fewer_left : (left n : ℕ) → n < 128 ^ left → 1 ≤ n → 1 ≤ left
fewer_left zero n h l = absurd (omega (arith, h))
fewer_left (suc left) n h l = omega arith

pub rest_below : (left n : ℕ) → 1 ≤ left → n < 128 ^ left → n / 128 < 128 ^ (left - 1)
rest_below left n l h =
    let p : 128 ^ left ≡ 128 ^ suc (left - 1) = let e : left ≡ suc (left - 1) = omega arith in ap (λ (m : ℕ). 128 ^ m) e in
    omega (arith, p, pow-suc 128 (left - 1), h)

-- where a number stands that is being put: so many of its bytes are left, the next one at `place`
pub record Putting (at n place rest : ℕ) (b₀ b : Bytes) : Type 0 where
  pub behind : (at ≤ place) × (place ≤ at + 7)
  pub below : rest < 128 ^ (8 - (place - at))
  pub long : length b ≡ length b₀
  pub ends : place + length (groups (8 - (place - at)) rest) ≡ at + length (groups 8 n)
  pub same : put place (groups (8 - (place - at)) rest) b ≡ put at (groups 8 n) b₀

pub putting_first : (at n : ℕ) (b : Bytes) → n < 128 ^ 8 → Putting at n at n b b
putting_first at n b h =
    let e : 8 - (at - at) ≡ 8 = omega arith in
    record { behind = (omega arith, omega arith); below = rw e h; long = refl; ends = rw e; same = rw e }

pub putting_next : (at n place rest : ℕ) (b₀ b : Bytes) → at + 8 ≤ length b₀ → Putting at n place rest b₀ b → 128 ≤ rest
    → Putting at n (place + 1) (rest / 128) b₀ (set b place (128 + rest % 128))
putting_next at n place rest b₀ b h p l =
    let left : ℕ = 8 - (place - at) in
    let from = p.behind.0 in
    let to = p.behind.1 in
    let fewer : left - 1 ≡ 8 - (place + 1 - at) = omega arith in
    let more = groups_more left rest (omega arith) l in
    let smaller : rest / 128 < 128 ^ (8 - (place + 1 - at)) = subst (λ (k : ℕ). rest / 128 < 128 ^ k) fewer (rest_below left rest (omega arith) p.below) in
    let again = fewer_left (8 - (place + 1 - at)) (rest / 128) smaller (omega arith) in
    let longer : length (groups left rest) ≡ suc (length (groups (left - 1) (rest / 128))) = ap length more in
    let counted : length (groups (left - 1) (rest / 128)) ≡ length (groups (8 - (place + 1 - at)) (rest / 128)) = ap (λ (k : ℕ). length (groups k (rest / 128))) fewer in
    record {
      behind = (omega arith, omega arith);
      below = smaller;
      long = length-set b place (128 + rest % 128) ∙ p.long;
      ends = omega (arith, longer, counted, p.ends);
      same = ap (λ (k : ℕ). put (place + 1) (groups k (rest / 128)) (set b place (128 + rest % 128))) (sym fewer)
          ∙ sym (put_cons place (128 + rest % 128) (groups (left - 1) (rest / 128)) b (omega (arith, p.long))) ∙ ap (λ (v : Bytes). put place v b) (sym more) ∙ p.same;
    }

pub putting_last : (at n place rest : ℕ) (b₀ b : Bytes) → at + 8 ≤ length b₀ → Putting at n place rest b₀ b → rest < 128
    → (place + 1 ≡ at + length (groups 8 n)) × (set b place rest ≡ put at (groups 8 n) b₀)
putting_last at n place rest b₀ b h p l =
    let left : ℕ = 8 - (place - at) in
    let from = p.behind.0 in
    let to = p.behind.1 in
    let one = groups_last left rest (omega arith) l in
    let short : length (groups left rest) ≡ 1 = ap length one in
    (omega (arith, short, p.ends), sym (put_cons place rest [] b (omega (arith, p.long)) ∙ put_nil (place + 1) (set b place rest)) ∙ ap (λ (v : Bytes). put place v b) (sym one) ∙ p.same)
