-- Where the entries of version 2 lie: in steps of 32, on page 0 behind the bitmap and on any other page from its first byte on. So an entry is on its page,
-- behind the header's fields, apart from every other and from all links, and is known by its 32 bytes.
use mathlib.Core.Path.{◌≡◌, sym, ap, ◌∙◌}
use mathlib.Core.Logic.{◌≢◌, inl, inr}
use Prim.Native.Nat.{ℕ, zero, suc, ◌+◌, ◌-◌, ◌*◌, ◌/◌, ◌%◌, ◌≤◌, ◌<◌}
use native.Mathlib.Nat.{mul-le-mul_left, mul-suc}
use native.Mathlib.Omega.{arith}
use native.Mathlib.Decide.{dec_lt}
use mathlib.Core.Bool.{Bool}
use mathlib.Core.List.{map}
use lib.ListN.{length}
use lib.Dec.{eqb-suc-zero}
use Rattle.volume.specs.Bytes.{Bytes, byte_at, part}
use Rattle.volume.specs.Lists.{count_from}
use Rattle.volume.proofs.Occ.{Mem, Nodup, nodup_cons, not_mem, mem_cons}
use Rattle.volume.proofs.Puts.{part_bytes}
use Rattle.volume.proofs.Fields.{place, wide}
use Rattle.model.specs.Entry.{vacant}
use Rattle.view_laws.proofs.Chained.{Slotted}
use Rattle.model.specs.Numbers.{Numbers}
use Rattle.model2.specs.Layout.{root_start, link_field, geometry_by}
use Rattle.model2.specs.Entry.{entry_at}
use Rattle.model2.specs.Version2.{entry_count, entries_start, entries_on}
use Rattle.laws2.proofs.Lawful2.{Tabled, home2, page_of, home_header, home_behind, link_in_lem, link_place, lawful2, kept_behind, links2}

-- ---- positions in steps of 32

mem_steps : (s i n x : ℕ) → Mem x (map (λ j. s + 32 * j) (count_from i n)) → (j : ℕ) × (i ≤ j) × (j < i + n) × (x ≡ s + 32 * j)
unfolding count_from
mem_steps s i zero x m = absurd (omega arith)
mem_steps s i (suc n) x m = elim (mem_cons x (s + 32 * i) (map (λ j. s + 32 * j) (count_from (suc i) n)) m) [
  | inl e ↦ (i, omega arith, omega arith, e)
  | inr k ↦ let r = mem_steps s (suc i) n x k in (r.0, omega (arith, r.1), omega (arith, r.2), r.3)
]

nodup_steps : (s i n : ℕ) → Nodup (map (λ j. s + 32 * j) (count_from i n))
unfolding count_from
nodup_steps s i zero = λ p. omega arith
nodup_steps s i (suc n) = nodup_cons (s + 32 * i) (map (λ j. s + 32 * j) (count_from (suc i) n))
    (not_mem (s + 32 * i) (map (λ j. s + 32 * j) (count_from (suc i) n)) (λ m. let r = mem_steps s (suc i) n (s + 32 * i) m in omega (arith, r.1, r.3)))
    (nodup_steps s (suc i) n)

-- ---- an entry read

read_same : (b b' : Bytes) (at : ℕ) → length b' ≡ length b → ((i : ℕ) → at ≤ i → i < at + 32 → byte_at b' i ≡ byte_at b i) → entry_at b' at ≡ entry_at b at
unfolding entry_at
read_same b b' at e h =
    let f : byte_at b' at ≡ byte_at b at = h at (omega arith) (omega arith) in
    let n : part (at + 1) 16 b' ≡ part (at + 1) 16 b = part_bytes (at + 1) 16 b b' e (λ i l u. h i (omega arith) (omega arith)) in
    let d : part (at + 23) 8 b' ≡ part (at + 23) 8 b = part_bytes (at + 23) 8 b b' e (λ i l u. h i (omega arith) (omega arith)) in
    let s : byte_at b' (at + 17) ≡ byte_at b (at + 17) = h (at + 17) (omega arith) (omega arith) in
    let s₁ : byte_at b' (at + 17 + 1) ≡ byte_at b (at + 17 + 1) = h (at + 17 + 1) (omega arith) (omega arith) in
    let x : byte_at b' (at + 19) ≡ byte_at b (at + 19) = h (at + 19) (omega arith) (omega arith) in
    let x₁ : byte_at b' (at + 19 + 1) ≡ byte_at b (at + 19 + 1) = h (at + 19 + 1) (omega arith) (omega arith) in
    let y : byte_at b' (at + 21) ≡ byte_at b (at + 21) = h (at + 21) (omega arith) (omega arith) in
    let y₁ : byte_at b' (at + 21 + 1) ≡ byte_at b (at + 21 + 1) = h (at + 21 + 1) (omega arith) (omega arith) in
    rw (f, n, d, s, s₁, x, x₁, y, y₁)

pub zero_vacant : (b : Bytes) (at : ℕ) → byte_at b at ≡ 0 → entry_at b at ≡ vacant
unfolding entry_at
zero_vacant b at e = rw e

-- ---- on a page

module _ {two : Bool} {aside size N : ℕ} (t : Tabled two aside size N) (eights : N % 8 ≡ 0) where
  abbrev first : ℕ → ℕ
  first q = entries_start size N q

  pub record Lies (q x : ℕ) : Type 0 where
    pub number : ℕ
    pub at : x ≡ first q + 32 * number
    pub from : size * q ≤ x
    pub till : x + 32 ≤ size * q + size
    pub behind : 7 + N / 8 ≤ x

  pub lies : (q x : ℕ) → Mem x (entries_on size N q) → Lies q x
  unfolding entries_on
  lies zero x m =
      let r = mem_steps (root_start N) 0 ((size - root_start N) / 32) x m in
      let l = r.2 in
      let e = r.3 in
      record { number = r.0; at = e; from = omega arith; till = omega arith; behind = omega arith }
  lies (suc q) x m =
      let r = mem_steps (size * suc q) 0 (size / 32) x (rw (eqb-suc-zero q) at m) in
      let l = r.2 in
      let e = r.3 in
      let k : size ≤ size * suc q = omega (arith, mul-suc size q) in
      record { number = r.0; at = rw (eqb-suc-zero q) e; from = omega arith; till = omega arith; behind = omega (arith, t.large, t.few) }

  on_page : {q x i : ℕ} → Lies q x → x ≤ i → i < x + 32 → (size * q ≤ i) × (i < size * q + size)
  on_page a l u = (omega (arith, a.from, l), omega (arith, a.till, u))

  nodup_on : (q : ℕ) → Nodup (entries_on size N q)
  unfolding entries_on
  nodup_on q = nodup_steps (first q) 0 (entry_count size N q)

  pub slotted2 : (numbers : Numbers) (placed : Bytes → (directory entry : ℕ) → ℕ × ℕ) → Slotted (geometry_by two aside size) (home2 two aside size) N numbers (entries_on size N) entry_at placed
  slotted2 numbers placed = record {
    law = lawful2 t;
    high = t.some;
    links = links2 t;
    contents = λ q i h u k l.
        let k₁ : size * q ≤ i = omega arith in
        let l₁ : i < size * q + size = omega arith in
        let z = mul-le-mul_left {m = aside} {n = q} size h in
        (home_behind t q i h k₁ l₁, kept_behind t i (omega (arith, t.large, t.few, t.table, z, k₁)) (omega arith));
    each = nodup_on;
    apart = λ q r x m k.
        let a = lies q x m in
        let c = lies r x k in
        sym (page_of size q x a.from (omega (arith, a.till))) ∙ page_of size r x c.from (omega (arith, c.till));
    within = λ q x i real m l u.
        let a = lies q x m in
        let p = on_page a l u in (
          elim real.0 [
            | inl z ↦ home_header t i (omega (arith, p.1, ap (λ (n : ℕ). size * n) z)) ∙ sym z
            | inr h ↦ home_behind t q i h p.0 p.1
          ],
          kept_behind t i (omega (arith, a.behind, l)) (omega arith),
        );
    disjoint = λ q x y i m k ne l u w.
        let a = lies q x m in
        let c = lies q y k in
        let d : a.number ≢ c.number = λ z. ne (a.at ∙ ap (λ (j : ℕ). first q + 32 * j) z ∙ sym c.at) in
        omega (arith, a.at, c.at, d, l, u, w);
    fits = λ b q x real z m.
        let a = lies q x m in
        omega (arith, a.till, z, mul-suc size q, mul-le-mul_left {m = suc q} {n = N} size real.1);
    clear = λ q x i real m l u y.
        let a = lies q x m in
        let p = on_page a l u in
        let w = link_place two size q in
        elim real.0 [
          | inl z ↦ absurd (omega (arith, p.1, ap (λ (n : ℕ). size * n) z, w.0, y))
          | inr h ↦ elim (dec_lt i (place (link_field two size q) + wide (link_field two size q))) [
            | yes d ↦ absurd (omega (arith, (link_in_lem t q i real.1 y d).1, p.0, mul-le-mul_left {m = aside} {n = q} size h))
            | no d ↦ omega (arith, d)
          ]
        ];
    inside = λ q x h m. let a = lies q x m in (a.from, a.till);
    empty = zero_vacant;
    known = read_same;
  }
