-- Format: the pages set aside are zeroed one behind the other, which zeroes them all, and with the header's eight bytes put in front that is what the
-- definitions write.
use mathlib.Core.Path.{◌≡◌, sym, ap, ap₂, ◌∙◌}
use Prim.Native.Nat.{ℕ, zero, suc, ◌+◌, ◌-◌, ◌*◌, ◌/◌, ◌%◌, ◌^◌, ◌≤◌, ◌<◌}
use native.Mathlib.Nat.{mul-suc, mul-le-mul_left, mul_comm, mul-zero}
use native.Mathlib.Numerals.{add-one}
use native.Mathlib.Omega.{arith}
use mathlib.Core.Bool.{Bool, true, false}
use mathlib.Core.List.{[], ◌∷◌, ◌++◌}
use lib.ListN.{length, replicate, replicate-append-replicate}
use Rattle.volume.specs.Bytes.{Bytes, put, zeros, le16}
use Rattle.std.specs.Prelude.{if◌then◌else◌}
use Rattle.volume.specs.Geometry.{Geometry}
use Rattle.volume.proofs.Fills.{length_zeros}
use Rattle.volume.proofs.Splice.{splice_splice}
use Rattle.model2.specs.Layout.{page_size, page_count, is_wide, set_aside, geometry2}
use Rattle.model2.specs.Format.{formatted}
use Rattle.laws2.proofs.Bounds.{Allowed, bounds}
use Rattle.shape.specs.declared.Shape.{Shape}
use Rattle.shape.specs.Geometry.{geometry_of}

-- ---- zeroed page by page: i pages are done

pub none_zeroed : (size : ℕ) (d : Bytes) → d ≡ put 0 (zeros (size * 0)) d
unfolding zeros
none_zeroed size d = sym (ap (λ (n : ℕ). put 0 (replicate n 0) d) (mul-zero size))

pub page_zeroed : (size i : ℕ) (d : Bytes) {r r' : Bytes} → r ≡ put 0 (zeros (size * i)) d → r' ≡ put (size * i) (zeros size) r
    → r' ≡ put 0 (zeros (size * (i + 1))) d
unfolding zeros
page_zeroed size i d e e' =
    let x : size * (i + 1) ≡ size * i + size = ap (λ (n : ℕ). size * n) (add-one i) ∙ mul-suc size i ∙ omega arith in
    let at : 0 + length (replicate {A = ℕ} (size * i) 0) ≡ size * i = omega (arith, length_zeros (size * i)) in
    e' ∙ ap (λ (b : Bytes). put (size * i) (replicate size 0) b) e
    ∙ ap (λ (n : ℕ). put n (replicate size 0) (put 0 (replicate (size * i) 0) d)) (sym at)
    ∙ splice_splice d 0 (replicate (size * i) 0) (omega arith) (replicate size 0)
    ∙ ap (λ (v : Bytes). put 0 v d) (replicate-append-replicate (size * i) size 0 ∙ ap (λ (n : ℕ). replicate n 0) (sym x))

pub page_within : (size i aside : ℕ) → i < aside → size * i + size ≤ size * aside
page_within size i aside h = omega (arith, mul-suc size i, mul-le-mul_left {m = suc i} {n = aside} size h)

-- ---- the header in front

pub power_few : (c : ℕ) → c ≤ 3 → (1 ≤ 2 ^ c) × (2 ^ c ≤ 8)
power_few zero h = (omega arith, omega arith)
power_few (suc zero) h = (omega arith, omega arith)
power_few (suc (suc zero)) h = (omega arith, omega arith)
power_few (suc (suc (suc zero))) h = (omega arith, omega arith)
power_few (suc (suc (suc (suc c)))) h = absurd (omega arith)

-- eight bytes put over the first of so many zeros
header_put : (b : Bytes) (a₀ a₁ a₂ a₃ a₄ a₅ a₆ a₇ m n : ℕ) → m ≡ suc (suc (suc (suc (suc (suc (suc (suc n)))))))
    → put 0 (a₀ ∷ a₁ ∷ a₂ ∷ a₃ ∷ a₄ ∷ a₅ ∷ a₆ ∷ a₇ ∷ []) (put 0 (zeros m) b)
    ≡ put 0 (a₀ ∷ a₁ ∷ a₂ ∷ a₃ ∷ a₄ ∷ a₅ ∷ a₆ ∷ a₇ ∷ replicate n 0) b
unfolding zeros
header_put b a₀ a₁ a₂ a₃ a₄ a₅ a₆ a₇ m n e =
    ap (λ (k : ℕ). put 0 (a₀ ∷ a₁ ∷ a₂ ∷ a₃ ∷ a₄ ∷ a₅ ∷ a₆ ∷ a₇ ∷ []) (put 0 (replicate k 0) b)) e

-- the numbers of an allowed image, as far as the code asks
pub record Numbers (code : ℕ) (b : Bytes) (s : Shape) (pages : ℕ) : Type 0 where
  pub low : code ≤ 2
  pub large : 256 ≤ s.size
  pub aside : s.aside ≤ 3
  pub some : 8 ≤ pages
  pub few : pages ≤ 1024
  pub inside : s.size * s.aside ≤ length b
  pub first : s.size ≤ length b

-- the shape and the number of pages that are made for it
module _ {code : ℕ} (b : Bytes) (s : Shape) {pages : ℕ} (a : Allowed code (length b))
    (is : (geometry_of s ≡ geometry2 code (length b)) × (pages ≡ page_count code (length b))) where
  size_is : s.size ≡ page_size code
  size_is = ap (λ (g : Geometry). g.size) is.0

  aside_is : s.aside ≡ set_aside (length b)
  aside_is = ap (λ (g : Geometry). g.aside) is.0

  aside_few : (2 ≤ s.aside) × (s.aside ≤ 3)
  aside_few = let r = go (is_wide (length b)) in (omega (arith, aside_is, r.0), omega (arith, aside_is, r.1))
    where
      go : (two : Bool) → (2 ≤ (if two then 3 else 2)) × ((if two then 3 else 2) ≤ 3)
      go true = (omega arith, omega arith)
      go false = (omega arith, omega arith)

  pub numbers : Numbers code b s pages
  numbers =
      let m = bounds a in
      let fewer : s.aside ≤ pages = omega (arith, aside_few.1, m.some, is.1) in
      let more = mul-le-mul_left {m = s.aside} {n = pages} s.size fewer in
      let one = mul-le-mul_left {m = 1} {n = pages} s.size (omega (arith, m.some, is.1)) in
      let whole : s.size * pages ≡ length b = ap₂ (λ (x y : ℕ). x * y) size_is is.1 ∙ sym m.whole in
      record {
        low = m.low;
        large = omega (arith, m.large, size_is);
        aside = aside_few.1;
        some = omega (arith, m.some, is.1);
        few = omega (arith, m.few, is.1);
        inside = omega (arith, more, whole);
        first = omega (arith, one, whole);
      }

  pub format_done : {map free top : ℕ} {zeroed done : Bytes} → map ≡ pages / 8 → free ≡ pages - s.aside → top ≡ 2 ^ s.aside - 1
      → zeroed ≡ put 0 (zeros (s.size * s.aside)) b
      → done ≡ put (s.size * 0 + 0) (0x5A ∷ 2 ∷ map % 256 ∷ map / 256 ∷ free % 256 ∷ free / 256 ∷ code ∷ top ∷ []) zeroed → done ≡ formatted code b
  unfolding formatted
  format_done {map} {free} {top} {zeroed} {done} em ef et ez ed =
      let n : ℕ = s.aside * s.size - 8 in
      let large : 256 * 2 ≤ s.size * s.aside =
      omega (arith, (bounds a).large, size_is, aside_few.0, mul-le-mul_left {m = 2} {n = s.aside} s.size aside_few.0) in
      let whole : s.size * s.aside ≡ suc (suc (suc (suc (suc (suc (suc (suc n))))))) = omega (arith, large, mul_comm s.size s.aside) in
      let header : ℕ → ℕ → ℕ → ℕ → Bytes = λ x y z k. 0x5A ∷ 2 ∷ (le16 x ++ (le16 y ++ (code ∷ z ∷ replicate k 0))) in
      let x : map ≡ page_count code (length b) / 8 = em ∙ ap (λ (p : ℕ). p / 8) is.1 in
      let y : free ≡ page_count code (length b) - set_aside (length b) = ef ∙ ap₂ (λ (p q : ℕ). p - q) is.1 aside_is in
      let z : top ≡ 2 ^ set_aside (length b) - 1 = et ∙ ap (λ (q : ℕ). 2 ^ q - 1) aside_is in
      let k : n ≡ set_aside (length b) * page_size code - 8 = ap₂ (λ (p q : ℕ). p * q - 8) aside_is size_is in
      let front : s.size * 0 + 0 ≡ 0 = omega (arith, mul-zero s.size) in
      ed ∙ ap (λ (i : ℕ). put i (0x5A ∷ 2 ∷ map % 256 ∷ map / 256 ∷ free % 256 ∷ free / 256 ∷ code ∷ top ∷ []) zeroed) front
      ∙ ap (λ (c : Bytes). put 0 (0x5A ∷ 2 ∷ map % 256 ∷ map / 256 ∷ free % 256 ∷ free / 256 ∷ code ∷ top ∷ []) c) ez
      ∙ header_put b 0x5A 2 (map % 256) (map / 256) (free % 256) (free / 256) code top (s.size * s.aside) n whole
      ∙ ap₂ (λ (i j : ℕ). put 0 (header i j top n) b) x y
      ∙ ap₂ (λ (i j : ℕ). put 0 (header (page_count code (length b) / 8) (page_count code (length b) - set_aside (length b)) i j) b) z k
