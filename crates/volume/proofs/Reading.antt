-- Reading along a chain: what is wanted of the pages left, put behind what is there, is always the same.
use mathlib.Core.Path.{◌≡◌, refl, sym, ap, ◌∙◌}
use Prim.Native.Nat.{ℕ, ◌+◌, ◌-◌, ◌≤◌, ◌<◌, min}
use native.Mathlib.Nat.{sub-zero}
use native.Mathlib.Omega.{arith}
use mathlib.Core.List.{◌++◌, flat_map}
use lib.ListN.{length, take, drop, length-take, length-drop, drop_of_length-le}
use lib.Seq.{take-nil, drop-nil}
use Rattle.volume.specs.Bytes.{Bytes, put}
use Rattle.volume.specs.Chain.{chain}
use Rattle.volume.specs.Geometry as On
use Rattle.volume.specs.Geometry.{Geometry}
use Rattle.volume.proofs.Splice.{splice_nil}
use Rattle.volume.proofs.Puts.{part_length, part_part}
use Rattle.volume.proofs.Follow.{Lies, PageLies, Inside, chain_turn, each_next, each_here, each_first}
use Rattle.volume.proofs.Stretches.{take_min, put_two}

-- ---- one page

module _ (g : Geometry) (b d : Bytes) (p at done count : ℕ) where
  -- what is wanted of the page, put behind what is there
  abbrev on_page : Bytes
  on_page = put done (take (count - done) (drop at (On.content_on g b p))) d

  -- a place behind the page
  pub none_read : g.room ≤ at → d ≡ on_page
  none_read h =
      let short : length (On.content_on g b p) ≤ at = omega (arith, length-take g.room (drop (On.content g p) b)) in
      sym (ap (λ (w : Bytes). put done (take (count - done) w) d) (drop_of_length-le (On.content_on g b p) short)
      ∙ ap (λ (w : Bytes). put done w d) (take-nil (count - done)) ∙ splice_nil d done)

  -- the bytes of the image from f to e, put there
  pub some_read : PageLies g p b → g.room ≤ g.size → at ≤ g.room → (f e : ℕ) → f ≡ On.content g p + at → e ≡ f + min (g.room - at) (count - done)
      → put done (take (e - f) (drop f b)) d ≡ on_page
  some_read h fits k f e hf he = ap (λ (w : Bytes). put done w d) (ap (λ (i : ℕ). take i (drop f b)) many ∙ ap (λ (i : ℕ). take m (drop i b)) hf
      ∙ sym (part_part (On.content g p) g.room at m b (omega arith)) ∙ take_min (count - done) m (drop at (On.content_on g b p)) rest)
    where
      m : ℕ
      m = min (g.room - at) (count - done)

      many : e - f ≡ min (g.room - at) (count - done)
      many = omega arith

      rest : min (g.room - at) (count - done) ≡ min (count - done) (length (drop at (On.content_on g b p)))
      rest = omega (arith, length-drop at (On.content_on g b p), part_length (On.content g p) g.room b (omega (arith, h)))

-- ---- the chain

abbrev content : Geometry → Bytes → ℕ → ℕ → Bytes
content g b k p = flat_map (On.content_on g b) (chain (On.next g b) k p)

-- what is wanted of the k pages from p on, from a place on, put behind what is there
abbrev wanted : (g : Geometry) (b : Bytes) (k p at done count : ℕ) (d : Bytes) → Bytes
wanted g b k p at done count d = put done (take (count - done) (drop at (content g b k p))) d

pub record Reading (g : Geometry) (b : Bytes) (k p₀ from count : ℕ) (d₀ : Bytes) (i p at done : ℕ) (d : Bytes) : Type 0 where
  pub low : i ≤ k
  pub fits : done ≤ count
  pub pages : Inside g b (k - i) p
  pub size : length d ≡ length d₀
  pub same : wanted g b (k - i) p at done count d ≡ put 0 (take count (drop from (content g b k p₀))) d₀

module _ {g : Geometry} {b : Bytes} {k p₀ from count : ℕ} {d₀ : Bytes} where
  pub reading_first : Inside g b k p₀ → Reading g b k p₀ from count d₀ 0 p₀ from 0 d₀
  reading_first c = record {
    low = omega arith;
    fits = omega arith;
    pages = each_first (On.next g b) k p₀ c;
    size = refl;
    same = ap (λ (n : ℕ). wanted g b n p₀ from 0 count d₀) (sub-zero k) ∙ ap (λ (n : ℕ). put 0 (take n (drop from (content g b k p₀))) d₀) (sub-zero count);
  }

  module _ {i p at done : ℕ} {d : Bytes} (r : Reading g b k p₀ from count d₀ i p at done d) where
    pub reading_here : i < k → PageLies g p b × Lies (g.link p) b
    reading_here h = each_here (On.next g b) k i p h r.pages

    pub reading_turn : i < k → g.room ≤ g.size → count ≤ length d₀ → {d' : Bytes} {at' done' p' : ℕ} → length d' ≡ length d
        → d' ≡ put done (take (count - done) (drop at (On.content_on g b p))) d
        → done' ≡ done + min (g.room - at) (count - done) → at' ≡ at - g.room → p' ≡ On.next g b p
        → Reading g b k p₀ from count d₀ (i + 1) p' at' done' d'
    unfolding flat_map
    reading_turn h whole fits {d'} {at'} {done'} {p'} size ed edone eat ep = record {
      low = omega arith;
      fits = omega (arith, r.fits);
      pages = each_next (On.next g b) k i p p' h ep r.pages;
      size = size ∙ r.size;
      same = step ∙ r.same;
    }
      where
        full : length (On.content_on g b p) ≡ g.room
        full = part_length (On.content g p) g.room b (omega (arith, (reading_here h).0))

        cut : content g b (k - i) p ≡ On.content_on g b p ++ content g b (k - (i + 1)) p'
        cut = ap (flat_map (On.content_on g b)) (chain_turn (On.next g b) k i p p' h ep)

        step : wanted g b (k - (i + 1)) p' at' done' count d' ≡ wanted g b (k - i) p at done count d
        step =
            put_two count done at g.room done' at' (On.content_on g b p) (content g b (k - (i + 1)) p')
            d d' full (omega (arith, r.fits, r.size)) ed edone eat
            ∙ ap (λ (w : Bytes). put done (take (count - done) (drop at w)) d) (sym cut)

    pub reading_last : k ≤ i → d ≡ put 0 (take count (drop from (content g b k p₀))) d₀
    unfolding chain flat_map
    reading_last h =
        let z : k - i ≡ 0 = omega arith in
        sym (ap (λ (n : ℕ). wanted g b n p at done count d) z
        ∙ ap (λ (w : Bytes). put done (take (count - done) w) d) (drop-nil at)
        ∙ ap (λ (w : Bytes). put done w d) (take-nil (count - done)) ∙ splice_nil d done)
        ∙ r.same

    -- all that was wanted is there
    pub reading_done : done ≡ count → d ≡ put 0 (take count (drop from (content g b k p₀))) d₀
    reading_done e =
        let z : count - done ≡ 0 = omega arith in
        sym (ap (λ (n : ℕ). put done (take n (drop at (content g b (k - i) p))) d) z ∙ splice_nil d done) ∙ r.same
