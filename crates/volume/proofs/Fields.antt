-- Numbers in an image: a field is one or two bytes of its own, so a number stored there is read back, and no other byte changes.
use mathlib.Core.Path.{◌≡◌, ap, ap₂, ◌∙◌}
use Prim.Native.Nat.{ℕ, ◌+◌, ◌*◌, ◌/◌, ◌%◌, ◌≤◌, ◌<◌}
use native.Mathlib.Omega.{arith}
use native.Mathlib.Decide.{ℕ_discrete}
use lib.ListN.{length, set, length-set}
use lib.Seq.{get_or-set_same, get_or-set_other}
use Rattle.volume.specs.Bytes.{Bytes, byte_at}
use Rattle.volume.specs.Field.{Field, byte, pair, load, store}

-- a field's position, and how many bytes it has
abbrev pub place : Field → ℕ
place (byte i) = i
place (pair i) = i

abbrev pub wide : Field → ℕ
wide (byte i) = 1
wide (pair i) = 2

-- byte i is none of the field's
abbrev pub Off : Field → ℕ → Type 0
Off f i = place f ≤ i → place f + wide f ≤ i

pub store_length : (f : Field) (n : ℕ) (b : Bytes) → length (store f n b) ≡ length b
store_length (byte i) n b = length-set b i n
store_length (pair i) n b = length-set (set b i (n % 256)) (i + 1) (n / 256) ∙ length-set b i (n % 256)

pub store_out : (f : Field) (n : ℕ) (b : Bytes) (j : ℕ) → Off f j → byte_at (store f n b) j ≡ byte_at b j
store_out (byte i) n b j h = get_or-set_other b i j n 0 (λ e. let l : i + 1 ≤ j = h (omega arith) in omega arith)
store_out (pair i) n b j h =
    get_or-set_other (set b i (n % 256)) (i + 1) j (n / 256) 0 (λ e. let l : i + 2 ≤ j = h (omega arith) in omega arith)
    ∙ get_or-set_other b i j (n % 256) 0 (λ e. let l : i + 2 ≤ j = h (omega arith) in omega arith)

pub load_store : (f : Field) (n : ℕ) (b : Bytes) → place f + wide f ≤ length b → load f (store f n b) ≡ n
load_store (byte i) n b h = get_or-set_same b i n 0 (omega arith)
load_store (pair i) n b h =
    let b₁ : Bytes = set b i (n % 256) in
    let x : byte_at (set b₁ (i + 1) (n / 256)) i ≡ n % 256 = get_or-set_other b₁ (i + 1) i (n / 256) 0 (omega arith) ∙ get_or-set_same b i (n % 256) 0 (omega arith) in
    let y : byte_at (set b₁ (i + 1) (n / 256)) (i + 1) ≡ n / 256 = get_or-set_same b₁ (i + 1) (n / 256) 0 (omega (arith, length-set b i (n % 256))) in
    ap₂ (λ (u v : ℕ). u + 256 * v) x y ∙ omega arith

-- equal bytes hold equal numbers, and zero bytes hold 0
pub load_same : (f : Field) (b b' : Bytes) → ((i : ℕ) → place f ≤ i → i < place f + wide f → byte_at b' i ≡ byte_at b i) → load f b' ≡ load f b
load_same (byte i) b b' h = h i (omega arith) (omega arith)
load_same (pair i) b b' h = ap₂ (λ (u v : ℕ). u + 256 * v) (h i (omega arith) (omega arith)) (h (i + 1) (omega arith) (omega arith))

pub load_zero : (f : Field) (b : Bytes) → ((i : ℕ) → place f ≤ i → i < place f + wide f → byte_at b i ≡ 0) → load f b ≡ 0
load_zero (byte i) b h = h i (omega arith) (omega arith)
load_zero (pair i) b h = ap₂ (λ (u v : ℕ). u + 256 * v) (h i (omega arith) (omega arith)) (h (i + 1) (omega arith) (omega arith))

pub store_zero : (f : Field) (b : Bytes) (j : ℕ) → place f + wide f ≤ length b → place f ≤ j → j < place f + wide f → byte_at (store f 0 b) j ≡ 0
store_zero (byte i) b j h k l = let e : j ≡ i = omega arith in ap (byte_at (set b i 0)) e ∙ get_or-set_same b i 0 0 (omega arith)
store_zero (pair i) b j h k l = elim (ℕ_discrete j i) [
  | yes e ↦ get_or-set_other (set b i 0) (i + 1) j 0 0 (omega arith) ∙ ap (byte_at (set b i 0)) e ∙ get_or-set_same b i 0 0 (omega arith)
  | no e ↦ let u : j ≡ i + 1 = omega arith in
      ap (byte_at (set (set b i 0) (i + 1) 0)) u ∙ get_or-set_same (set b i 0) (i + 1) 0 0 (omega (arith, length-set b i 0))
]
