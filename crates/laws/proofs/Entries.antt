-- The entries of a directory lie apart in its page, behind the header's fields, and what an entry is hangs on its 32 bytes alone.
use mathlib.Core.Path.{◌≡◌}
use mathlib.Core.Logic.{◌≢◌, inl, inr}
use Prim.Native.Nat.{ℕ, zero, suc, ◌+◌, ◌*◌, ◌/◌, ◌%◌, ◌≤◌, ◌<◌}
use native.Mathlib.Omega.{arith}
use native.Mathlib.Decide.{dec_lt}
use mathlib.Core.List.{map}
use lib.ListN.{length}
use lib.Dec.{eqb-suc-zero}
use Rattle.volume.specs.Bytes.{Bytes, byte_at}
use Rattle.volume.specs.Lists.{count_from}
use Rattle.volume.proofs.Occ.{Mem, Nodup, nodup_cons, not_mem, mem_cons}
use Rattle.volume.proofs.Puts.{part_bytes}
use Rattle.model.specs.Entry.{entry_count, entries_start, entries, name_at, start_at, date_at, entry_at}

-- ---- positions in steps of 32

mem_steps : (s i n x : ℕ) → Mem x (map (λ j. s + 32 * j) (count_from i n)) → (j : ℕ) × (i ≤ j) × (j < i + n) × (x ≡ s + 32 * j)
unfolding count_from
mem_steps s i zero x m = absurd (omega arith)
mem_steps s i (suc n) x m = elim (mem_cons x (s + 32 * i) (map (λ j. s + 32 * j) (count_from (suc i) n)) m) [
  | inl e ↦ (i, omega arith, omega arith, e)
  | inr k ↦ let r = mem_steps s (suc i) n x k in (r.0, omega (arith, r.1), omega (arith, r.2), r.3)
]

nodup_steps : (s i n : ℕ) → Nodup (map (λ j. s + 32 * j) (count_from i n))
unfolding count_from
nodup_steps s i zero = λ p. omega arith
nodup_steps s i (suc n) = nodup_cons (s + 32 * i) (map (λ j. s + 32 * j) (count_from (suc i) n))
    (not_mem (s + 32 * i) (map (λ j. s + 32 * j) (count_from (suc i) n)) (λ m. let r = mem_steps s (suc i) n (s + 32 * i) m in omega (arith, r.1, r.3)))
    (nodup_steps s (suc i) n)

pub nodup_entries : (p : ℕ) → Nodup (entries p)
unfolding entries
nodup_entries p = nodup_steps (entries_start p) 0 (entry_count p)

-- where an entry of the directory on page p lies
pub record Within (p at : ℕ) : Type 0 where
  pub low : 256 * p ≤ at
  pub high : at + 32 ≤ 256 * p + 256
  pub far : 64 ≤ at
  pub aligned : at % 32 ≡ 0

pub entry_within : (p at : ℕ) → Mem at (entries p) → Within p at
unfolding entries
entry_within zero at m =
    let r = mem_steps 64 0 6 at m in
    let l = r.2 in
    let e = r.3 in
    record { low = omega arith; high = omega arith; far = omega arith; aligned = omega arith }
entry_within (suc p) at m =
    let r = mem_steps (256 * suc p + 0) 0 8 at (rw (eqb-suc-zero p) at m) in
    let l = r.2 in
    let e = r.3 in
    record { low = omega arith; high = omega arith; far = omega arith; aligned = omega arith }

pub within_page : (p at : ℕ) → Within p at → (i : ℕ) → at ≤ i → i < at + 32 → i / 256 ≡ p
within_page p at w i l u = omega (arith, w.low, w.high)

-- two entries of a directory lie apart
pub entries_apart : (p x y : ℕ) → Mem x (entries p) → Mem y (entries p) → x ≢ y → (i : ℕ) → x ≤ i → i < x + 32 → y ≤ i → y + 32 ≤ i
unfolding entries
entries_apart p x y m k ne i l u v =
    let r = mem_steps (entries_start p) 0 (entry_count p) x m in
    let s = mem_steps (entries_start p) 0 (entry_count p) y k in
    let e = r.3 in
    let f = s.3 in
    elim (dec_lt x y) [ yes h ↦ omega arith | no h ↦ omega (arith, ne) ]

-- ---- an entry and its bytes

pub entry_same : (b b' : Bytes) (at : ℕ) → length b' ≡ length b → ((i : ℕ) → at ≤ i → i < at + 32 → byte_at b' i ≡ byte_at b i) → entry_at b' at ≡ entry_at b at
unfolding entry_at
entry_same b b' at e h =
    let f : byte_at b' at ≡ byte_at b at = h at (omega arith) (omega arith) in
    let n : name_at b' at ≡ name_at b at = part_bytes (at + 1) 16 b b' e (λ i l u. h i (omega arith) (omega arith)) in
    let d : date_at b' at ≡ date_at b at = part_bytes (at + 20) 8 b b' e (λ i l u. h i (omega arith) (omega arith)) in
    let s : start_at b' at ≡ start_at b at = h (at + 17) (omega arith) (omega arith) in
    let x : byte_at b' (at + 18) ≡ byte_at b (at + 18) = h (at + 18) (omega arith) (omega arith) in
    let y : byte_at b' (at + 19) ≡ byte_at b (at + 19) = h (at + 19) (omega arith) (omega arith) in
    rw (f, n, d, s, x, y)
