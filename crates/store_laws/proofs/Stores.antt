-- Whole pages of one image stored over another: the pages stored have the first's bytes, all others the second's, so after all but the last of
-- them the old image differs from the new in free pages and the header's fields alone, and after the last not at all.
use mathlib.Core.Path.{◌≡◌, refl, sym, ap, ◌∙◌, subst}
use mathlib.Core.Logic.{◌≢◌, inl, inr}
use Prim.Native.Nat.{ℕ, zero, suc, ◌+◌, ◌-◌, ◌*◌, ◌/◌, ◌≤◌, ◌<◌}
use native.Mathlib.Omega.{arith}
use native.Mathlib.Decide.{ℕ_discrete}
use mathlib.Core.Bool.{Bool, true, false}
use mathlib.Core.List.{List, [], ◌∷◌, ◌++◌, map, append_assoc}
use lib.ListN.{length, take, length-append}
use lib.Seq.{ext_get_or}
use lib.Dec.{T, eqb, eqb→eq}
use borrow.Author.Tests.{eqb-false}
use Rattle.volume.specs.Bytes.{Bytes, byte_at, part}
use Rattle.std.specs.Prelude.{if◌then◌else◌}
use Rattle.volume.proofs.Occ.{occ, Mem, hit_refl, hit_ne, hit_cases, mem_head, mem_tail, mem_cons, mem_or_not, occ_append}
use Rattle.volume.proofs.Puts.{put_length, put_out, put_in, byte_part, part_length}
use Rattle.volume.proofs.Marks.{bit_byte}
use Rattle.model.specs.Layout.{version1, page_count, page_bit}
use Rattle.laws.proofs.Facts.{Facts, valid_sized}
use Rattle.model.specs.Store.{store_of, last_pages}
use Rattle.store_laws.specs.Pull.{put_page, after_stores}

-- pages of which none is the header or in use
abbrev pub Free : Bytes → List ℕ → Type 0
Free b qs = (q : ℕ) → Mem q qs → (1 ≤ q) × (q < page_count b) × (page_bit b q ≡ 0)

-- a byte of the header's fields that is neither the count nor of the bitmap in use
pub record Beside (b : Bytes) (i : ℕ) : Type 0 where
  pub field : i < 64
  pub count : i ≢ 3
  pub map : 4 ≤ i → 4 + page_count b / 8 ≤ i

-- c is b but for the bytes of the pages qs, the count and the bitmap, and what b marks c marks; a bitmap byte keeps what it may have above its 8 bits
pub record Pulled (b c : Bytes) (qs : List ℕ) : Type 0 where
  pub long : length c ≡ length b
  pub head : (i : ℕ) → Beside b i → byte_at c i ≡ byte_at b i
  pub tops : (i : ℕ) → i < 64 → i ≢ 3 → byte_at c i / 256 ≡ byte_at b i / 256
  pub rest : (i : ℕ) → 36 ≤ i → occ (i / 256) qs ≡ 0 → byte_at c i ≡ byte_at b i
  pub marks : (q : ℕ) → q < page_count b → page_bit b q ≡ 1 → page_bit c q ≡ 1

-- ---- lists

pub take_map : {A B : Type 0} (f : A → B) (k : ℕ) (xs : List A) → take k (map f xs) ≡ map f (take k xs)
take_map f zero xs = refl
take_map f (suc k) [] = refl
take_map {A} {B} f (suc k) (x ∷ xs) = ap {B = List B} (λ r. f x ∷ r) (take_map f k xs)

-- what all but the last have
mem_short : (k q z : ℕ) (xs : List ℕ) → k < length (xs ++ (z ∷ [])) → Mem q (take k (xs ++ (z ∷ []))) → Mem q xs
mem_short zero q z xs l m = absurd (omega arith)
mem_short (suc k) q z [] l m = absurd (omega arith)
mem_short (suc k) q z (x ∷ xs) l m = elim (mem_cons q x (take k (xs ++ (z ∷ []))) m) [
  | inl e ↦ subst (λ (y : ℕ). Mem y (x ∷ xs)) (sym e) (mem_head x xs)
  | inr n ↦ mem_tail q x xs (mem_short k q z xs (omega arith) n)
]

pub take_all : {A : Type 0} (k : ℕ) (xs : List A) → length xs ≤ k → take k xs ≡ xs
take_all zero [] l = refl
take_all zero (x ∷ xs) l = absurd (omega arith)
take_all (suc k) [] l = refl
take_all {A} (suc k) (x ∷ xs) l = ap {B = List A} (λ r. x ∷ r) (take_all k xs (omega arith))

-- ---- one store

module _ (d : Bytes) (N : ℕ) (whole : length d ≡ 256 * N) where
  page_length : (p : ℕ) → p < N → length (part (256 * p) 256 d) ≡ 256
  page_length p l = part_length (256 * p) 256 d (omega arith)

  module _ (b : Bytes) (p : ℕ) (l : p < N) (len : length b ≡ length d) where
    fits : 256 * p + length (part (256 * p) 256 d) ≤ length b
    fits = omega (arith, page_length p l)

    put_long : length (put_page b (store_of d p)) ≡ length b
    put_long = put_length (256 * p) (part (256 * p) 256 d) b fits

    put_here : (i : ℕ) → i / 256 ≡ p → byte_at (put_page b (store_of d p)) i ≡ byte_at d i
    put_here i e =
        let at : i ≡ 256 * p + (i - 256 * p) = omega arith in
        let u : i - 256 * p < 256 = omega arith in
        ap (byte_at (put_page b (store_of d p))) at
        ∙ put_in (256 * p) (part (256 * p) 256 d) b fits (i - 256 * p) (omega (arith, page_length p l))
        ∙ byte_part (256 * p) 256 (i - 256 * p) d u ∙ ap (byte_at d) (sym at)

    put_there : (i : ℕ) → i / 256 ≢ p → byte_at (put_page b (store_of d p)) i ≡ byte_at b i
    put_there i ne = put_out (256 * p) (part (256 * p) 256 d) b fits i (λ u. elim (ℕ_discrete (i / 256) p) [ yes e ↦ absurd (ne e) | no v ↦ omega (arith, page_length p l) ])

  -- ---- a list of stores

  -- c is b with the pages ps of d
  pub record Overlaid (b c : Bytes) (ps : List ℕ) : Type 0 where
    pub long : length c ≡ length b
    pub in_pages : (i : ℕ) → Mem (i / 256) ps → byte_at c i ≡ byte_at d i
    pub others : (i : ℕ) → occ (i / 256) ps ≡ 0 → byte_at c i ≡ byte_at b i

  pub overlaid_is : (ps : List ℕ) (b : Bytes) → ((q : ℕ) → Mem q ps → q < N) → length b ≡ length d → Overlaid b (after_stores (map (store_of d) ps) b) ps
  overlaid_is [] b under len = record { long = refl; in_pages = λ i m. absurd (omega arith); others = λ i z. refl }
  overlaid_is (p ∷ ps) b under len =
      let l = under p (mem_head p ps) in
      let b₁ : Bytes = put_page b (store_of d p) in
      let r = overlaid_is ps b₁ (λ q m. under q (mem_tail q p ps m)) (put_long b p l len ∙ len) in
      record {
        long = r.long ∙ put_long b p l len;
        in_pages = λ i m. elim (mem_or_not (i / 256) ps) [
          | inl k ↦ r.in_pages i k
          | inr z ↦ r.others i z ∙ elim (mem_cons (i / 256) p ps m) [ inl e ↦ put_here b p l len i e | inr k ↦ absurd (omega arith) ]
        ];
        others = λ i z. elim (hit_cases (i / 256) p) [
          | inl e ↦ absurd (omega (arith, e.1))
          | inr ne ↦ r.others i (omega arith) ∙ put_there b p l len i ne.0
        ];
      }

-- ---- the stores of a new file

-- d is b with something else on page t, on the free pages qs, in the count and in the bitmap; what b marks d marks
pub record Renewed (b d : Bytes) (t : ℕ) (qs : List ℕ) : Type 0 where
  pub long : length d ≡ length b
  pub head : (i : ℕ) → Beside b i → byte_at d i ≡ byte_at b i
  pub tops : (i : ℕ) → i < 64 → i ≢ 3 → byte_at d i / 256 ≡ byte_at b i / 256
  pub rest : (i : ℕ) → 36 ≤ i → occ (i / 256) qs ≡ 0 → i / 256 ≢ t → byte_at d i ≡ byte_at b i
  pub marks : (q : ℕ) → q < page_count b → page_bit b q ≡ 1 → page_bit d q ≡ 1

-- the pages of the last stores but the very last, which is the parent's
unfoldable before_last : (parent : ℕ) → List ℕ
before_last t = if eqb t 0 then [] else (0 ∷ [])

parent_last : (t : ℕ) → last_pages t ≡ before_last t ++ (t ∷ [])
unfolding last_pages before_last
parent_last t = go (eqb t 0) (eqb→eq t 0)
  where
    go : (c : Bool) → (T c → t ≡ 0) → (if c then 0 ∷ [] else (0 ∷ t ∷ [])) ≡ (if c then [] else (0 ∷ [])) ++ (t ∷ [])
    go true e = ap (λ (x : ℕ). x ∷ []) (sym (e tt))
    go false e = refl

before_is : (t q : ℕ) → Mem q (before_last t) → (q ≡ 0) × (t ≢ 0)
unfolding before_last
before_is t q = go (eqb t 0) (eqb-false t 0)
  where
    go : (c : Bool) → (c ≡ false → t ≢ 0) → Mem q (if c then [] else (0 ∷ [])) → (q ≡ 0) × (t ≢ 0)
    go true ne m = absurd (omega arith)
    go false ne m = elim (mem_cons q 0 [] m) [ inl e ↦ (e, ne refl) | inr k ↦ absurd (omega arith) ]

-- the header and the parent are among the last, and nothing else
last_mem : (t q : ℕ) → Mem q (last_pages t) → (q ≢ 0) → q ≡ t
last_mem t q m ne =
    elim (mem_or_not q (before_last t)) [
      | inl k ↦ absurd (ne (before_is t q k).0)
      | inr z ↦ elim (mem_cons q t [] (omega (arith, occ_append q (before_last t) (t ∷ []), ap (occ q) (parent_last t)))) [ inl e ↦ e | inr k ↦ absurd (omega arith) ]
    ]

header_last : (t : ℕ) → Mem 0 (last_pages t)
unfolding last_pages
header_last t = go (eqb t 0)
  where
    go : (c : Bool) → Mem 0 (if c then 0 ∷ [] else (0 ∷ t ∷ []))
    go true = mem_head 0 []
    go false = mem_head 0 (t ∷ [])

parent_mem : (t : ℕ) → Mem t (last_pages t)
parent_mem t = omega (arith, occ_append t (before_last t) (t ∷ []), ap (occ t) (parent_last t), hit_refl t)

module _ (b d : Bytes) (f : Facts b) (t : ℕ) (low : t < page_count b) (qs : List ℕ) (free : Free b qs) (r : Renewed b d t qs) where
  N : ℕ
  N = page_count b

  whole : length d ≡ 256 * page_count b
  whole = r.long ∙ (valid_sized b f.fits).whole

  last_under : (q : ℕ) → Mem q (last_pages t) → q < page_count b
  last_under q m = elim (ℕ_discrete q 0) [ yes e ↦ omega (arith, e, low) | no ne ↦ omega (arith, last_mem t q m ne, low) ]

  all_under : (q : ℕ) → Mem q (qs ++ last_pages t) → q < page_count b
  all_under q m = elim (mem_or_not q qs) [ inl k ↦ (free q k).1 | inr z ↦ last_under q (omega (arith, occ_append q qs (last_pages t))) ]

  -- a byte of the new image that is not of a page whose store comes last
  early : (i : ℕ) → 36 ≤ i → occ (i / 256) qs ≡ 0 → i / 256 ≢ t → byte_at d i ≡ byte_at b i
  early = r.rest

  short_under : (k : ℕ) → k < length (qs ++ last_pages t) → (q : ℕ) → Mem q (take k (qs ++ last_pages t)) → Mem q (qs ++ before_last t)
  short_under k l q m =
      let e : qs ++ last_pages t ≡ (qs ++ before_last t) ++ (t ∷ []) = ap (λ (x : List ℕ). qs ++ x) (parent_last t) ∙ sym (append_assoc qs (before_last t) (t ∷ [])) in
      mem_short k q t (qs ++ before_last t) (omega (arith, ap length e)) (subst (λ (x : List ℕ). Mem q (take k x)) e m)

  before_under : (q : ℕ) → Mem q (qs ++ before_last t) → q < page_count b
  before_under q m = elim (mem_or_not q qs) [
    | inl k ↦ (free q k).1
    | inr z ↦ omega (arith, (before_is t q (omega (arith, occ_append q qs (before_last t)))).0, low)
  ]

  -- a cartridge pulled before the last store
  pub stores_short : (k : ℕ) → k < length (qs ++ last_pages t) → Pulled b (after_stores (map (store_of d) (take k (qs ++ last_pages t))) b) qs
  stores_short k l =
      record {
        long = o.long;
        head = λ i u. elim (mem_or_not (i / 256) ps) [ inl m ↦ o.in_pages i m ∙ r.head i u | inr z ↦ o.others i z ];
        tops = λ i u n. elim (mem_or_not (i / 256) ps) [
          | inl m ↦ ap (λ (x : ℕ). x / 256) (o.in_pages i m) ∙ r.tops i u n
          | inr z ↦ ap (λ (x : ℕ). x / 256) (o.others i z)
        ];
        rest = λ i u z. elim (mem_or_not (i / 256) ps) [
          | inl m ↦
              let w = before_is t (i / 256) (omega (arith, short_under k l (i / 256) m, occ_append (i / 256) qs (before_last t), z)) in
              o.in_pages i m ∙ r.rest i u z (λ e. w.1 (sym e ∙ w.0))
          | inr n ↦ o.others i n
        ];
        marks = λ q u h. elim (mem_or_not 0 ps) [
          | inl m ↦ bit_byte version1 d c q (o.in_pages (4 + q / 8) (subst (λ (x : ℕ). Mem x ps) (zero_page q u) m)) ∙ r.marks q u h
          | inr z ↦ bit_byte version1 b c q (o.others (4 + q / 8) (ap (λ (x : ℕ). occ x ps) (sym (zero_page q u)) ∙ z)) ∙ h
        ];
      }
    where
      ps : List ℕ
      ps = take k (qs ++ last_pages t)

      c : Bytes
      c = after_stores (map (store_of d) (take k (qs ++ last_pages t))) b

      o : Overlaid d (page_count b) whole b (after_stores (map (store_of d) (take k (qs ++ last_pages t))) b) (take k (qs ++ last_pages t))
      o = overlaid_is d (page_count b) whole (take k (qs ++ last_pages t)) b (λ q m. before_under q (short_under k l q m)) (sym r.long)

      zero_page : (q : ℕ) → q < page_count b → 0 ≡ (4 + q / 8) / 256
      zero_page q u = omega (arith, (valid_sized b f.fits).high)

  -- after the last store
  pub stores_all : after_stores (map (store_of d) (qs ++ last_pages t)) b ≡ d
  stores_all =
      ext_get_or 0 c d (o.long ∙ sym r.long) (λ i l. elim (mem_or_not (i / 256) (qs ++ last_pages t)) [
        | inl m ↦ o.in_pages i m
        | inr z ↦
            let a = occ_append (i / 256) qs (last_pages t) in
            let ne0 : i / 256 ≢ 0 = λ e. omega (arith, a, z, header_last t, ap (λ (x : ℕ). occ x (last_pages t)) e) in
            let net : i / 256 ≢ t = λ e. omega (arith, a, z, parent_mem t, ap (λ (x : ℕ). occ x (last_pages t)) e) in
            o.others i z ∙ sym (r.rest i (omega (arith, ne0)) (omega (arith, a, z)) net)
      ])
    where
      c : Bytes
      c = after_stores (map (store_of d) (qs ++ last_pages t)) b

      o : Overlaid d (page_count b) whole b (after_stores (map (store_of d) (qs ++ last_pages t)) b) (qs ++ last_pages t)
      o = overlaid_is d (page_count b) whole (qs ++ last_pages t) b all_under (sym r.long)
