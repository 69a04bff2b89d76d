-- A file, a row at a time: a row has three bytes at least, so what is left gets shorter, and the rows counted so far with those that are left are those
-- of the file.
use mathlib.Core.Path.{◌≡◌, refl, sym, ap, subst, ◌∙◌}
use mathlib.Core.Bool.{Bool, true, false, not}
use mathlib.Core.Option as Model
use mathlib.Core.Option.{none, some, some-injective, none-ne-some}
use Prim.Native.Nat.{ℕ, zero, suc, ◌+◌, ◌-◌, ◌*◌, ◌%◌, ◌≤◌, ◌<◌}
use native.Mathlib.Omega.{arith}
use mathlib.Core.List.{List, [], ◌∷◌}
use lib.ListN.{length, drop, length-drop, drop_of_length-le}
use lib.Seq.{drop-drop}
use lib.Dec.{T, eqb, ltb}
use borrow.Author.Tests.{ne_eqb, not-true, not-false}
use Rattle.volume.specs.Bytes.{Bytes}
use Rattle.std.specs.Prelude.{if◌then◌else◌, Option, Some, None}
use Rattle.model.specs.Call.{Refusal, refusal_at, Answer, refused, granted}
use Rattle.laws.proofs.Lines.{not_granted}
use Rattle.link_list.specs.declared.Row.{Row}
use Rattle.link_list.specs.Coding.{Taken, joined, take_number, in_range, and_then, kept, take_row}
use Rattle.link_list.specs.Judging.{follows, Reading, bad, rows, row, read_row, read_from, read_list}
use Rattle.link_judge.specs.Judged.{before_of}
use Rattle.link_rows.specs.declared.Step.{Step}
use Rattle.link_rows.specs.Told.{row_told, RowFits, step_of, step_at, steps_from, counted}

-- ---- what is left is shorter

behind : {A : Type 0} (x y : A × Bytes) → some x ≡ some y → x.1 ≡ y.1
behind {A} x y e = ap (λ (t : A × Bytes). t.1) (some-injective x y e)

shorter_joined : (low : ℕ) (t : Taken ℕ) (n : ℕ) (w : Bytes) (k : ℕ) → ((m : ℕ) (u : Bytes) → t ≡ some (m, u) → length u < k) → joined low t ≡ some (n, w) → length w < k
unfolding joined
shorter_joined low none n w k h e = absurd (none-ne-some (n, w) e)
shorter_joined low (some t) n w k h e = go (eqb t.0 0) e
  where
    go : (z : Bool) → if◌then◌else◌ {A = Taken ℕ} z none (some (low + 128 * t.0, t.1)) ≡ some (n, w) → length w < k
    go true u = absurd (none-ne-some (n, w) u)
    go false u = let q : t.1 ≡ w = behind (low + 128 * t.0, t.1) (n, w) u in subst (λ (x : Bytes). length x < k) q (h t.0 t.1 refl)

number_shorter : (most : ℕ) (v : Bytes) (n : ℕ) (w : Bytes) → take_number most v ≡ some (n, w) → length w < length v
unfolding take_number
number_shorter zero v n w e = absurd (none-ne-some (n, w) e)
number_shorter (suc most) [] n w e = absurd (none-ne-some (n, w) e)
number_shorter (suc most) (c ∷ v) n w e = go (ltb c 128) e (number_shorter most v)
  where
    go : (z : Bool) → if◌then◌else◌ {A = Taken ℕ} z (some (c, v)) (joined (c % 128) (take_number most v)) ≡ some (n, w)
        → ((m : ℕ) (u : Bytes) → take_number most v ≡ some (m, u) → length u < length v) → length w < suc (length v)
    go true u ih = let q : v ≡ w = behind (c, v) (n, w) u in let l : length v ≡ length w = ap length q in omega arith
    go false u ih = let l = shorter_joined (c % 128) (take_number most v) n w (length v) ih u in omega arith

and_then_lem : {A : Type 0} (t : Taken A) (f : A → Bytes → Taken Row) (x : Row × Bytes) → and_then t f ≡ some x → (y : A) × (w : Bytes) × (t ≡ some (y, w)) × (f y w ≡ some x)
unfolding and_then
and_then_lem none f x e = absurd (none-ne-some x e)
and_then_lem (some t) f x e = (t.0, t.1, refl, e)

kept_behind : (q : Row) (v : Bytes) (r : Row) (w : Bytes) → kept q v ≡ some (r, w) → v ≡ w
unfolding kept
kept_behind q v r w e = go (in_range q) e
  where
    go : (z : Bool) → if◌then◌else◌ {A = Taken Row} z (some (q, v)) none ≡ some (r, w) → v ≡ w
    go true u = behind (q, v) (r, w) u
    go false u = absurd (none-ne-some (r, w) u)

pub row_shorter : (v : Bytes) (r : Row) (w : Bytes) → take_row v ≡ some (r, w) → length w < length v
unfolding take_row
row_shorter v r w e =
    let a = and_then_lem (take_number 8 v) _ (r, w) e in
    let b = and_then_lem (take_number 8 a.1) _ (r, w) a.3 in
    let c = and_then_lem (take_number 8 b.1) _ (r, w) b.3 in
    let la = number_shorter 8 v a.0 a.1 a.2 in
    let lb = number_shorter 8 a.1 b.0 b.1 b.2 in
    let lc = number_shorter 8 b.1 c.0 c.1 c.2 in
    let q : c.1 ≡ w = kept_behind (record { count = a.0; value = b.0; figure = c.0 }) c.1 r w c.3 in
    let l : length c.1 ≡ length w = ap length q in
    omega arith

-- ---- where a file that is read stands

-- i rows and `at` bytes of v are behind
unfoldable pub counted_at : Bytes → (i at : ℕ) → Option Row → Answer ℕ
counted_at v i at last = counted i (read_from (length v - i) (length v) i (before_of last) (drop at v))

counted_row : (i : ℕ) (r : Row) (rest : Reading) → counted i (row r rest) ≡ counted (i + 1) rest
unfolding counted row
counted_row i r (bad f) = refl
counted_row i r (rows rs) = let e : i + suc (length rs) ≡ i + 1 + length rs = omega arith in ap (λ (n : ℕ). granted n) e

pub counted_first : (v : Bytes) → counted_at v 0 0 None ≡ counted 0 (read_list v)
unfolding counted_at read_list
counted_first v = let e : length v - 0 ≡ length v = omega arith in ap (λ (n : ℕ). counted 0 (read_from n (length v) 0 none v)) e

pub counted_end : (v : Bytes) (i at : ℕ) (last : Option Row) {x : Answer ℕ} → length v ≤ at → counted_at v i at last ≡ x → granted i ≡ x
unfolding counted_at counted read_from
counted_end v i at last h e = sym (rw (drop_of_length-le v h) (go (length v - i))) ∙ e
  where
    plain : i + 0 ≡ i
    plain = omega arith

    go : (most : ℕ) → counted i (read_from most (length v) i (before_of last) []) ≡ granted i
    go zero = ap (λ (n : ℕ). granted n) plain
    go (suc most) = ap (λ (n : ℕ). granted n) plain

-- ---- what a row that was read says

-- a row that begins before the end was read as a, and all comes to x
pub record Reads (v : Bytes) (i at : ℕ) (last : Option Row) (a : Option Step) (x : Answer ℕ) : Type 0 where
  pub few : i ≤ at
  pub inside : at < length v
  pub says : (row_told v a ≡ take_row (drop at v)) × RowFits v a
  pub comes : counted_at v i at last ≡ x

module _ (v : Bytes) (i at : ℕ) (last : Option Row) where
  here : Taken Row → Reading
  here t = read_row i at (before_of last) (λ r rest. read_from (length v - (i + 1)) (length v) (i + 1) (some r) rest) t

  opened : i ≤ at → at < length v → counted_at v i at last ≡ counted i (here (take_row (drop at v)))
  unfolding counted_at read_from here
  opened l h =
      let more : length v - i ≡ suc (length v - (i + 1)) = omega arith in
      let some_left : length (drop at v) ≡ 0 → ⊥ = λ z. let q = length-drop at v in omega arith in
      let place : length v - length (drop at v) ≡ at = let q = length-drop at v in omega arith in
      rw (more, ne_eqb (length (drop at v)) 0 some_left, place)

module _ {v : Bytes} {i at : ℕ} {last : Option Row} {x : Answer ℕ} where
  pub counted_broken : Reads v i at last None x → refused (refusal_at 21 at) ≡ x
  unfolding here read_row counted
  counted_broken s = sym (opened v i at last s.few s.inside ∙ rw (sym s.says.0)) ∙ s.comes

  module _ {r : Row} {next : ℕ} (s : Reads v i at last (Some (record { row = r; next = next })) x) where
    -- what is left is shorter
    pub further : (at < next) × (next ≤ length v)
    further =
        let l = row_shorter (drop at v) r (drop next v) (sym s.says.0) in
        let n = s.says.1 in
        (omega (arith, l, length-drop at v, length-drop next v), n)

    module _ {f : Bool} (tested : f ≡ follows (before_of last) r) where
      pub counted_low : not f ≡ true → refused (refusal_at 22 i) ≡ x
      unfolding here read_row counted
      counted_low h = sym (opened v i at last s.few s.inside ∙ rw (sym s.says.0, sym tested ∙ not-true f h)) ∙ s.comes

      pub counted_next : not f ≡ false → counted_at v (i + 1) next (Some r) ≡ x
      unfolding here read_row counted_at
      counted_next h = sym (opened v i at last s.few s.inside ∙ rw (sym s.says.0, sym tested ∙ not-false f h) (counted_row i r _)) ∙ s.comes

-- ---- what is left is the file from a byte on

abbrev Suffix : (v w : Bytes) → Type 0
Suffix v w = (m : ℕ) × (m ≤ length v) × (w ≡ drop m v)

suffix_joined : (low : ℕ) (t : Taken ℕ) (n : ℕ) (v w : Bytes) → ((m : ℕ) (u : Bytes) → t ≡ some (m, u) → Suffix v u) → joined low t ≡ some (n, w) → Suffix v w
unfolding joined
suffix_joined low none n v w h e = absurd (none-ne-some (n, w) e)
suffix_joined low (some t) n v w h e = go (eqb t.0 0) e
  where
    go : (z : Bool) → if◌then◌else◌ {A = Taken ℕ} z none (some (low + 128 * t.0, t.1)) ≡ some (n, w) → Suffix v w
    go true u = absurd (none-ne-some (n, w) u)
    go false u = subst (Suffix v) (behind (low + 128 * t.0, t.1) (n, w) u) (h t.0 t.1 refl)

number_suffix : (most : ℕ) (v : Bytes) (n : ℕ) (w : Bytes) → take_number most v ≡ some (n, w) → Suffix v w
unfolding take_number
number_suffix zero v n w e = absurd (none-ne-some (n, w) e)
number_suffix (suc most) [] n w e = absurd (none-ne-some (n, w) e)
number_suffix (suc most) (c ∷ v) n w e = go (ltb c 128) e (number_suffix most v)
  where
    longer : Suffix v w → Suffix (c ∷ v) w
    longer s = (suc s.0, let l = s.1 in omega arith, s.2)

    go : (z : Bool) → if◌then◌else◌ {A = Taken ℕ} z (some (c, v)) (joined (c % 128) (take_number most v)) ≡ some (n, w)
        → ((m : ℕ) (u : Bytes) → take_number most v ≡ some (m, u) → Suffix v u) → Suffix (c ∷ v) w
    go true u ih = longer (0, omega arith, sym (behind (c, v) (n, w) u))
    go false u ih = longer (suffix_joined (c % 128) (take_number most v) n v w ih u)

suffix_of : (u v w : Bytes) → Suffix u v → Suffix v w → Suffix u w
suffix_of u v w s t =
    let l : length v ≡ length u - s.0 = ap length s.2 ∙ length-drop s.0 u in
    let a = s.1 in
    let b = t.1 in
    (s.0 + t.0, omega arith, t.2 ∙ ap (drop t.0) s.2 ∙ drop-drop t.0 s.0 u)

row_suffix : (v : Bytes) (r : Row) (w : Bytes) → take_row v ≡ some (r, w) → Suffix v w
unfolding take_row
row_suffix v r w e =
    let a = and_then_lem (take_number 8 v) _ (r, w) e in
    let b = and_then_lem (take_number 8 a.1) _ (r, w) a.3 in
    let c = and_then_lem (take_number 8 b.1) _ (r, w) b.3 in
    let q : c.1 ≡ w = kept_behind (record { count = a.0; value = b.0; figure = c.0 }) c.1 r w c.3 in
    subst (Suffix v) q (suffix_of v a.1 c.1 (number_suffix 8 v a.0 a.1 a.2)
    (suffix_of a.1 b.1 c.1 (number_suffix 8 a.1 b.0 b.1 b.2) (number_suffix 8 b.1 c.0 c.1 c.2)))

suffix_place : (v w : Bytes) (at : ℕ) → at ≤ length v → Suffix (drop at v) w → w ≡ drop (length v - length w) v
suffix_place v w at h s =
    let d : length (drop at v) ≡ length v - at = length-drop at v in
    let whole : w ≡ drop (at + s.0) v = s.2 ∙ drop-drop s.0 at v in
    let l : length w ≡ length v - (at + s.0) = ap length whole ∙ length-drop (at + s.0) v in
    let m = s.1 in
    let k : at + s.0 ≡ length v - length w = omega arith in
    whole ∙ ap (λ (n : ℕ). drop n v) k

-- ---- the rows that a file is read as are those at its steps

rows_or : Reading → List Row
rows_or (bad f) = []
rows_or (rows rs) = rs

abbrev is_rows : Reading → Bool
is_rows (bad f) = false
is_rows (rows rs) = true

bad_not : (f : Refusal) (rs : List Row) → bad f ≡ rows rs → ⊥
bad_not f rs e = subst (λ (x : Reading). T (is_rows x)) (sym e) tt

steps_nil : (v : Bytes) (at : ℕ) (rs : List Row) → rows [] ≡ rows rs → steps_from v (length rs) at ≡ rs
unfolding steps_from rows_or
steps_nil v at rs e = let z : rs ≡ [] = sym (ap rows_or e) in rw z

steps_cons : (v : Bytes) (at : ℕ) (r : Row) (w : Bytes) (rest : Reading) (rs : List Row) → take_row (drop at v) ≡ some (r, w)
    → ((qs : List Row) → rest ≡ rows qs → steps_from v (length qs) (length v - length w) ≡ qs) → row r rest ≡ rows rs → steps_from v (length rs) at ≡ rs
unfolding steps_from step_at step_of row rows_or
steps_cons v at r w (bad f) rs t ih e = absurd (bad_not f rs e)
steps_cons v at r w (rows qs) rs t ih e =
    let z : rs ≡ r ∷ qs = sym (ap rows_or e) in
    rw (z, t) (ap (λ (xs : List Row). r ∷ xs) (ih qs refl))

steps_from_lem : (most size i : ℕ) (before : Model.Option Row) (v : Bytes) (at : ℕ) (rs : List Row) → at ≤ length v → read_from most size i before (drop at v) ≡ rows rs → steps_from v (length rs) at ≡ rs
unfolding read_from read_row
steps_from_lem zero size i before v at rs h e = steps_nil v at rs e
steps_from_lem (suc most) size i before v at rs h e = go (eqb (length (drop at v)) 0) (take_row (drop at v)) refl (λ r w l qs. steps_from_lem most size (i + 1) (some r) v (length v - length w) qs l) e
  where
    stands : (c : Bool) (t : Row × Bytes) → take_row (drop at v) ≡ some t
        → ((r : Row) (w : Bytes) → length v - length w ≤ length v → (qs : List Row) → read_from most size (i + 1) (some r) (drop (length v - length w) v) ≡ rows qs → steps_from v (length qs) (length v - length w) ≡ qs)
        → (if c then row t.0 (read_from most size (i + 1) (some t.0) t.1) else bad (refusal_at 22 i)) ≡ rows rs → steps_from v (length rs) at ≡ rs
    stands true t k ih u =
        let place : t.1 ≡ drop (length v - length t.1) v = suffix_place v t.1 at h (row_suffix (drop at v) t.0 t.1 k) in
        steps_cons v at t.0 t.1 (read_from most size (i + 1) (some t.0) t.1) rs k
        (λ qs q. ih t.0 t.1 (omega arith) qs (ap (read_from most size (i + 1) (some t.0)) (sym place) ∙ q)) u
    stands false t k ih u = absurd (bad_not (refusal_at 22 i) rs u)

    taken : (o : Taken Row) → take_row (drop at v) ≡ o
        → ((r : Row) (w : Bytes) → length v - length w ≤ length v → (qs : List Row) → read_from most size (i + 1) (some r) (drop (length v - length w) v) ≡ rows qs → steps_from v (length qs) (length v - length w) ≡ qs)
        → read_row i (size - length (drop at v)) before (λ r rest. read_from most size (i + 1) (some r) rest) o ≡ rows rs → steps_from v (length rs) at ≡ rs
    taken none k ih u = absurd (bad_not (refusal_at 21 (size - length (drop at v))) rs u)
    taken (some t) k ih u = stands (follows before t.0) t k ih u

    go : (z : Bool) (o : Taken Row) → take_row (drop at v) ≡ o
        → ((r : Row) (w : Bytes) → length v - length w ≤ length v → (qs : List Row) → read_from most size (i + 1) (some r) (drop (length v - length w) v) ≡ rows qs → steps_from v (length qs) (length v - length w) ≡ qs)
        → (if z then rows [] else read_row i (size - length (drop at v)) before (λ r rest. read_from most size (i + 1) (some r) rest) o) ≡ rows rs → steps_from v (length rs) at ≡ rs
    go true o k ih u = steps_nil v at rs u
    go false o k ih u = taken o k ih u

pub steps_read : (v : Bytes) (rs : List Row) → read_list v ≡ rows rs → steps_from v (length rs) 0 ≡ rs
unfolding read_list
steps_read v rs e = steps_from_lem (length v) (length v) 0 none v 0 rs (omega arith) e

-- ---- what a judging says of the rows

pub reading_rows : (x : Reading) (n : ℕ) → granted n ≡ counted 0 x → (rs : List Row) × (x ≡ rows rs) × (n ≡ length rs)
unfolding counted
reading_rows (bad f) n e = absurd (not_granted e)
reading_rows (rows rs) n e = (rs, refl, let q : n ≡ 0 + length rs = cc e in omega (arith, q))

pub reading_bad : (x : Reading) (f : Refusal) → refused f ≡ counted 0 x → x ≡ bad f
unfolding counted
reading_bad (bad g) f e = let q : g ≡ f = cc (sym e) in ap (λ (y : Refusal). bad y) q
reading_bad (rows rs) f e = absurd (not_granted (sym e))
