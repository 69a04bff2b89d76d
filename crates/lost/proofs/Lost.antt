-- The search for a lost page, in an image of any geometry: it goes by what is left of the pages to look at, and passes over pages that no bit marks.
use mathlib.Core.Path.{◌≡◌, refl, sym, ap, ◌∙◌}
use mathlib.Core.Logic.{◌≢◌}
use Prim.Native.Nat.{ℕ, zero, suc, ◌+◌, ◌-◌, ◌≤◌, ◌<◌, ◌*◌, min, max}
use native.Mathlib.Nat.{add-zero, zero-add}
use native.Mathlib.Numerals.{add-one}
use native.Mathlib.Omega.{arith}
use native.Mathlib.Decide.{dec_lt}
use mathlib.Core.Bool.{Bool, true, false, ◌&&◌}
use mathlib.Core.Option.{Option, none, some}
use mathlib.Core.List.{List}
use lib.ListN.{length, get_or}
use lib.Dec.{eqb}
use borrow.Author.Tests.{eq-eqb, ne_eqb}
use Rattle.volume.specs.Bytes.{Bytes}
use Rattle.std.specs.Prelude.{if◌then◌else◌}
use Rattle.volume.specs.Lists.{first, count_from}
use Rattle.volume.specs.Geometry.{Geometry, page_bit, bitmap_byte}
use Rattle.model.specs.Judge as Model
use Rattle.model.specs.Judge.{lost_page, fault, clean, lost_or}
use Rattle.shape.specs.declared.Shape.{Shape}
use Rattle.shape.specs.Geometry.{geometry_of}
use Rattle.shape_bitmap.specs.Words.{Clear}
use Rattle.lost.specs.Searched.{Searched, is_lost}
use Rattle.view_laws.proofs.Comes.{never}

-- the first of two answers
abbrev pub or_else : Option ℕ → Option ℕ → Option ℕ
or_else none r = r
or_else (some x) r = some x

first_split : (f : ℕ → Bool) (k m i : ℕ) → first f (count_from i (k + m)) ≡ or_else (first f (count_from i k)) (first f (count_from (i + k) m))
unfolding first count_from
first_split f zero m i = rw (add-zero i, zero-add m) refl
first_split f (suc k) m i =
    let e : suc k + m ≡ suc (k + m) = omega arith in
    let next : i + suc k ≡ suc i + k = omega arith in
    rw (e, next, first_split f k m (suc i)) (here (f i))
  where
    here : (t : Bool) → (if t then some i else or_else (first f (count_from (suc i) k)) (first f (count_from (suc i + k) m)))
        ≡ or_else (if t then some i else first f (count_from (suc i) k)) (first f (count_from (suc i + k) m))
    here true = refl
    here false = refl

module _ (g : Geometry) (b : Bytes) (marks : List ℕ) where
  -- the lowest lost page of n from p on
  abbrev pub lost_from : (n p : ℕ) → Option ℕ
  lost_from n p = first (is_lost g b marks) (count_from p (n - p))

  turn : (n p : ℕ) (c : Bool) → p < n → is_lost g b marks p ≡ c → lost_from n p ≡ (if c then some p else lost_from n (p + 1))
  unfolding first count_from
  turn n p c h l = let e : n - p ≡ suc (n - (p + 1)) = omega arith in rw (e, l, add-one p)

  lost_here : (n p : ℕ) → p < n → get_or marks p 0 ≡ 0 → page_bit g b p ≡ 1 → lost_from n p ≡ some p
  lost_here n p h m k = turn n p true h (rw (eq-eqb _ _ m, eq-eqb _ _ k))

  owned_here : (n p : ℕ) → p < n → get_or marks p 0 ≢ 0 → lost_from n p ≡ lost_from n (p + 1)
  owned_here n p h m = turn n p false h (rw (ne_eqb _ _ m))

  free_here : (n p : ℕ) → p < n → get_or marks p 0 ≡ 0 → page_bit g b p ≢ 1 → lost_from n p ≡ lost_from n (p + 1)
  free_here n p h m k = turn n p false h (rw (eq-eqb _ _ m, ne_eqb _ _ k))

  lost_none : (n p : ℕ) → n ≤ p → lost_from n p ≡ none
  unfolding first count_from
  lost_none n p h = let e : n - p ≡ 0 = omega arith in rw e

  -- the lowest of some is the lowest of all, and where there is none the search goes on behind them
  lost_on : (to n p : ℕ) → p ≤ to → to ≤ n → lost_from n p ≡ or_else (lost_from to p) (lost_from n to)
  lost_on to n p l h =
      let all : n - p ≡ (to - p) + (n - to) = omega arith in
      let end : p + (to - p) ≡ to = omega arith in
      ap (λ (k : ℕ). first (is_lost g b marks) (count_from p k)) all ∙ first_split (is_lost g b marks) (to - p) (n - to) p
      ∙ ap (λ (i : ℕ). or_else (lost_from to p) (first (is_lost g b marks) (count_from i (n - to)))) end

  -- the pages from `from` on, up to page p: the search goes on, or ends with page p, or with none
  module _ (from to p : ℕ) (so_far : lost_from to from ≡ lost_from to p) where
    pub page_lost : p < to → get_or marks p 0 ≡ 0 → (set : ℕ) → set ≡ page_bit g b p → set ≡ 1 → fault (lost_page p) ≡ lost_or (clean marks) (lost_from to from)
    unfolding lost_or
    page_lost h m set e k = rw (so_far, lost_here to p h m (sym e ∙ k))

    pub page_free : p < to → get_or marks p 0 ≡ 0 → (set : ℕ) → set ≡ page_bit g b p → set ≢ 1 → lost_from to from ≡ lost_from to (p + 1)
    page_free h m set e k = so_far ∙ free_here to p h m (λ (o : page_bit g b p ≡ 1). k (e ∙ o))

    pub page_owned : p < to → get_or marks p 0 ≢ 0 → lost_from to from ≡ lost_from to (p + 1)
    page_owned h m = so_far ∙ owned_here to p h m

    pub none_lost : to ≤ p → clean marks ≡ lost_or (clean marks) (lost_from to from)
    unfolding lost_or
    none_lost h = rw (so_far, lost_none to p h)

  -- behind the pages of byte q of the bitmap: those of the next byte, or none
  behind_byte : (n a q : ℕ) → a ≤ 8 → lost_from n (min (8 * q + 8) n) ≡ lost_from n (max a (8 * (q + 1)))
  behind_byte n a q low = elim (dec_lt (8 * q + 8) n) [
    | yes l ↦ let e : min (8 * q + 8) n ≡ max a (8 * (q + 1)) = omega (arith, l) in ap (lost_from n) e
    | no l ↦ lost_none n (min (8 * q + 8) n) (omega (arith, l)) ∙ sym (lost_none n (max a (8 * (q + 1))) (omega (arith, l)))
  ]

  unmarked_here : (n p : ℕ) → page_bit g b p ≡ 0 → lost_from n p ≡ lost_from n (p + 1)
  unmarked_here n p e = elim (dec_lt p n) [
    | yes l ↦ turn n p false l (not_marked (eqb (get_or marks p 0) 0))
    | no l ↦ lost_none n p (omega (arith, l)) ∙ sym (lost_none n (p + 1) (omega (arith, l)))
  ]
    where
      not_marked : (t : Bool) → (t && eqb (page_bit g b p) 1) ≡ false
      not_marked true = ne_eqb (page_bit g b p) 1 (λ (o : page_bit g b p ≡ 1). absurd (omega (arith, e, o)))
      not_marked false = refl

  unmarked_run : (k n p : ℕ) → ((j : ℕ) → p ≤ j → j < p + k → page_bit g b j ≡ 0) → lost_from n p ≡ lost_from n (p + k)
  unmarked_run zero n p h = ap (lost_from n) (sym (add-zero p))
  unmarked_run (suc k) n p h =
      let next : (p + 1) + k ≡ p + suc k = omega arith in
      unmarked_here n p (h p (omega arith) (omega arith)) ∙ unmarked_run k n (p + 1) (λ j l m. h j (omega arith) (omega arith)) ∙ ap (lost_from n) next

  -- k bytes of the bitmap from byte q on that mark no page
  unmarked_bytes : (n a : ℕ) {q k : ℕ} → Clear g b q k → lost_from n (max a (8 * q)) ≡ lost_from n (max a (8 * (q + k)))
  unmarked_bytes n a {q} {k} h =
      let e : max a (8 * q) + (max a (8 * (q + k)) - max a (8 * q)) ≡ max a (8 * (q + k)) = omega arith in
      unmarked_run (max a (8 * (q + k)) - max a (8 * q)) n (max a (8 * q)) (λ j l m. h.each j (omega arith) (omega arith)) ∙ ap (lost_from n) e

-- ---- the first of two answers decides

module _ (m : List ℕ) where
  some_faulty : {x : Model.Fault} (l r : Option ℕ) → fault x ≡ lost_or (clean m) l → fault x ≡ lost_or (clean m) (or_else l r)
  unfolding lost_or
  some_faulty none r e = never (sym e)
  some_faulty (some p) r e = e

  some_clean : (l r : Option ℕ) → clean m ≡ lost_or (clean m) l → or_else l r ≡ r
  unfolding lost_or
  some_clean none r e = refl
  some_clean (some p) r e = never e

-- ---- one byte of the bitmap a turn: the pages before byte `byte` have none that is lost

module _ (b : Bytes) (s : Shape) (m : List ℕ) (asked : Searched b s m) (byte : ℕ)
    (so_far : lost_from (geometry_of s) b m (length m) s.aside ≡ lost_from (geometry_of s) b m (length m) (max s.aside (8 * byte))) where
  -- the answer for the pages of that byte
  module _ (more : 8 * byte < length m) where
    abbrev from : ℕ
    from = max s.aside (8 * byte)

    abbrev to : ℕ
    to = min (8 * byte + 8) (length m)

    split : lost_from (geometry_of s) b m (length m) s.aside ≡ or_else (lost_from (geometry_of s) b m to from) (lost_from (geometry_of s) b m (length m) to)
    split = so_far ∙ lost_on (geometry_of s) b m to (length m) from (omega (arith, more, asked.low, asked.some)) (omega arith)

    pub byte_faulty : {x : Model.Fault} → fault x ≡ lost_or (clean m) (lost_from (geometry_of s) b m (min (8 * byte + 8) (length m)) (max s.aside (8 * byte)))
        → fault x ≡ lost_or (clean m) (lost_from (geometry_of s) b m (length m) s.aside)
    byte_faulty here =
        some_faulty m (lost_from (geometry_of s) b m to from) (lost_from (geometry_of s) b m (length m) to) here ∙ ap (lost_or (clean m)) (sym split)

    pub byte_clean : clean m ≡ lost_or (clean m) (lost_from (geometry_of s) b m (min (8 * byte + 8) (length m)) (max s.aside (8 * byte)))
        → (clear step : ℕ) → clear ≡ 0 → step ≡ max clear 1
        → lost_from (geometry_of s) b m (length m) s.aside ≡ lost_from (geometry_of s) b m (length m) (max s.aside (8 * (byte + step)))
    byte_clean here clear step c d =
        let next : byte + 1 ≡ byte + step = omega arith in
        split ∙ some_clean m (lost_from (geometry_of s) b m to from) (lost_from (geometry_of s) b m (length m) to) here
        ∙ behind_byte (geometry_of s) b m (length m) s.aside byte asked.low
        ∙ ap (λ (k : ℕ). lost_from (geometry_of s) b m (length m) (max s.aside (8 * k))) next

  pub bytes_clear : (clear step : ℕ) → Clear (geometry_of s) b byte clear → clear ≢ 0 → step ≡ max clear 1
      → lost_from (geometry_of s) b m (length m) s.aside ≡ lost_from (geometry_of s) b m (length m) (max s.aside (8 * (byte + step)))
  bytes_clear clear step c n d =
      let next : byte + clear ≡ byte + step = omega (arith, n) in
      so_far ∙ unmarked_bytes (geometry_of s) b m (length m) s.aside c
      ∙ ap (λ (k : ℕ). lost_from (geometry_of s) b m (length m) (max s.aside (8 * k))) next

  pub bytes_done : length m ≤ 8 * byte → clean m ≡ lost_or (clean m) (lost_from (geometry_of s) b m (length m) s.aside)
  unfolding lost_or
  bytes_done h = rw (so_far, lost_none (geometry_of s) b m (length m) (max s.aside (8 * byte)) (omega arith))

-- ---- the search begins, and what it reads lies in the image

module _ {b : Bytes} {s : Shape} {m : List ℕ} (asked : Searched b s m) where
  pub before_byte_0 : lost_from (geometry_of s) b m (length m) s.aside ≡ lost_from (geometry_of s) b m (length m) (max s.aside (8 * 0))
  before_byte_0 = let e : s.aside ≡ max s.aside (8 * 0) = omega arith in ap (lost_from (geometry_of s) b m (length m)) e

  pub bit_lies : {p : ℕ} → p < length m → bitmap_byte (geometry_of s) p < length b
  bit_lies {p} h = omega (arith, h, asked.lies)

  pub word_lies : (byte : ℕ) → 8 * byte < length m → s.map + byte + 8 ≤ length b
  word_lies byte h = omega (arith, h, asked.lies)
