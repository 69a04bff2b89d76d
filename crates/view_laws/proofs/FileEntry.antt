-- A file's entry stays one when its lock, its start page and its size change: bits 7 and 0 of the flags say what it is, and a lock is bit 6.
use mathlib.Core.Path.{◌≡◌, refl, ap, ◌∙◌}
use Prim.Native.Nat.{ℕ, ◌+◌, ◌-◌, ◌*◌, ◌/◌, ◌%◌, ◌<◌}
use native.Mathlib.Omega.{arith}
use mathlib.Core.Bool.{Bool, true, false}
use lib.Dec.{T, eqb}
use Rattle.volume.specs.Bytes.{Bytes, bit}
use Rattle.std.specs.Prelude.{if◌then◌else◌}
use Rattle.model.specs.Entry.{Entry, vacant, a_file, a_directory}
use Rattle.model.specs.EffectOf.{with_lock}

unfoldable pub is_file_entry : Entry → Bool
is_file_entry vacant = false
is_file_entry (a_file locked name date start size) = true
is_file_entry (a_directory name date start size) = false

-- an entry as every version reads it, by bits 7, 0 and 6 of its flags
abbrev pub entry_by : (occupied directory locked : Bool) (name date : Bytes) (start size : ℕ) → Entry
entry_by o d l name date start size = if o then (if d then a_directory name date start size else a_file l name date start size) else vacant

pub still_file : (o d l l' : Bool) (name date : Bytes) (start start' size size' : ℕ) → T (is_file_entry (entry_by o d l name date start size))
    → entry_by o d l' name date start' size' ≡ a_file l' name date start' size'
unfolding is_file_entry
still_file true true l l' name date start start' size size' h = absurd h
still_file true false l l' name date start start' size size' h = refl
still_file false d l l' name date start start' size size' h = absurd h

-- ---- the flags byte

-- the byte without bit 6
low_bits : (x : ℕ) → x - 64 * bit 6 x ≡ 128 * (x / 128) + x % 64
low_bits x =
    let h : x / 64 / 2 ≡ x / 128 = omega arith in
    let l : x / 64 ≡ 2 * (x / 128) + x / 64 % 2 = omega (arith, h) in
    omega (arith, l)

-- bits 7 and 0 stay, and bit 6 is the mark
pub lock_bits : (k : Bool) (x : ℕ) → (bit 7 (with_lock k x) ≡ bit 7 x) × (bit 0 (with_lock k x) ≡ bit 0 x) × (bit 6 (with_lock k x) ≡ (if k then 1 else 0))
unfolding with_lock
lock_bits true x =
    let e : x - 64 * bit 6 x + 64 ≡ 128 * (x / 128) + (x % 64 + 64) = ap (λ (y : ℕ). y + 64) (low_bits x) ∙ omega arith in
    let h : (128 * (x / 128) + (x % 64 + 64)) / 128 ≡ x / 128 = omega arith in
    let m : (128 * (x / 128) + (x % 64 + 64)) / 64 ≡ 2 * (x / 128) + 1 = omega arith in
    let l : (128 * (x / 128) + (x % 64 + 64)) / 1 % 2 ≡ x / 1 % 2 = omega arith in
    (ap (λ (y : ℕ). y / 128 % 2) e ∙ ap (λ (y : ℕ). y % 2) h, ap (λ (y : ℕ). y / 1 % 2) e ∙ l, ap (λ (y : ℕ). y / 64 % 2) e ∙ ap (λ (y : ℕ). y % 2) m ∙ omega arith)
lock_bits false x =
    let e : x - 64 * bit 6 x + 0 ≡ 128 * (x / 128) + x % 64 = ap (λ (y : ℕ). y + 0) (low_bits x) ∙ omega arith in
    let h : (128 * (x / 128) + x % 64) / 128 ≡ x / 128 = omega arith in
    let m : (128 * (x / 128) + x % 64) / 64 ≡ 2 * (x / 128) = omega arith in
    let l : (128 * (x / 128) + x % 64) / 1 % 2 ≡ x / 1 % 2 = omega arith in
    (ap (λ (y : ℕ). y / 128 % 2) e ∙ ap (λ (y : ℕ). y % 2) h, ap (λ (y : ℕ). y / 1 % 2) e ∙ l, ap (λ (y : ℕ). y / 64 % 2) e ∙ ap (λ (y : ℕ). y % 2) m ∙ omega arith)

pub lock_small : (k : Bool) (x : ℕ) → x < 256 → with_lock k x < 256
unfolding with_lock
lock_small true x h = omega (arith, h, low_bits x)
lock_small false x h = omega (arith, h)

pub lock_mark : (k : Bool) → eqb (if k then 1 else 0) 1 ≡ k
lock_mark true = refl
lock_mark false = refl
