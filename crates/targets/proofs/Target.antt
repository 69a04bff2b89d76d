-- The header page and the whole target: the bitmap's bytes are put one behind the other, and then page after page; `pages` holds the page of each place.
use mathlib.Core.Path.{◌≡◌, refl, sym, ap, ap₂, ◌∙◌, subst}
use Prim.Native.Nat.{ℕ, zero, suc, ◌+◌, ◌-◌, ◌*◌, ◌/◌, ◌≤◌, ◌<◌}
use native.Mathlib.Omega.{arith}
use native.Mathlib.Decide.{dec_lt}
use native.Mathlib.Numerals.{add-one}
use mathlib.Core.List.{List, [], ◌∷◌, ◌++◌, map, flat_map, append_assoc, append-nil}
use lib.ListN.{length, get_or, take, drop, set, length-set, length-append, length-map, length-drop, get_or-eq_default}
use lib.Seq.{take-append-add, take_all, take_at, length-take-le, drop-drop}
use lib.Dec.{T}
use borrow.Rule.Slice.PartMut.{put_mid}
use Rattle.volume.specs.Bytes.{Bytes, part, put}
use Rattle.volume.specs.Lists.{count_from, up_to}
use Rattle.volume.proofs.Splice.{splice_nil, splice_splice}
use Rattle.volume.proofs.Puts.{part_part, part_length, put_length}
use Rattle.volume.proofs.Tests.{occ_count_from}
use Rattle.model.specs.Layout.{page_count, page_bit}
use Rattle.model.specs.Entry.{entries}
use Rattle.model.specs.Sound.{sound}
use Rattle.laws.proofs.Facts.{Facts, Sized, valid_sized, sound_facts_lem}
use Rattle.audit.proofs.Owners.{length_count_from}
use Rattle.moves.specs.Tidy.{page_at, accepted, moved_entry, moved_page, bits_of, moved_bits, moved_header, moved}
use Rattle.moves.specs.Propose.{numbered}
use Rattle.moves.proofs.Places.{Accepted, accepted_is}
use Rattle.moves.proofs.Order.{length_numbered, numbered_at}
use Rattle.moves.proofs.Moved.{length_header, from_page, length_at}
use Rattle.proposals.specs.Steps.{Pages, bits_at}
use Rattle.moved_pages.proofs.Laid.{laid_turn}

-- ---- the bits

-- x is the bit of the page that comes to place q
abbrev pub Bit : Bytes → (pages : List ℕ) (q x : ℕ) → Type 0
Bit b pages q x = (x ≡ page_bit b (get_or pages q 0)) × (x < 2)

-- the bytes from k on are still to be put
pub record BitsLeft (b : Bytes) (pages : List ℕ) (used : ℕ) (d₀ : Bytes) (k : ℕ) (d : Bytes) : Type 0 where
  pub long : length d ≡ 256
  pub rest : put (4 + k) (map (bits_at b pages) (count_from k (used - k))) d ≡ put 4 (map (bits_at b pages) (up_to used)) d₀

module _ (b : Bytes) (pages : List ℕ) (used : ℕ) (d₀ : Bytes) where
  pub bits_first : length d₀ ≡ 256 → BitsLeft b pages used d₀ 0 d₀
  bits_first n = let z : used - 0 ≡ used = omega arith in record { long = n; rest = ap (λ (m : ℕ). put 4 (map (bits_at b pages) (count_from 0 m)) d₀) z }

  set_put_one : (i x : ℕ) (d : Bytes) → i < length d → set d i x ≡ put i (x ∷ []) d
  set_put_one zero x [] l = absurd (omega arith)
  set_put_one zero x (y ∷ d) l = refl
  set_put_one (suc i) x [] l = absurd (omega arith)
  set_put_one (suc i) x (y ∷ d) l =
      let e : suc i + 1 ≡ suc (i + 1) = omega arith in
      ap (λ (v : Bytes). y ∷ v) (set_put_one i x d (omega arith)) ∙ ap (λ (k : ℕ). take (suc i) (y ∷ d) ++ (x ∷ []) ++ drop k (y ∷ d)) (sym e)

  pub bits_turn : (k x : ℕ) (d : Bytes) → used ≤ 32 → k < used → x ≡ bits_at b pages k → BitsLeft b pages used d₀ k d → BitsLeft b pages used d₀ (k + 1) (set d (4 + k) x)
  unfolding count_from
  bits_turn k x d few l e inv =
      let f : ℕ → ℕ = bits_at b pages in
      let n : used - k ≡ suc (used - (k + 1)) = omega arith in
      let m : 4 + (k + 1) ≡ 4 + k + length (x ∷ []) = omega arith in
      let r : List ℕ = map f (count_from (k + 1) (used - (k + 1))) in
      record {
        long = length-set d (4 + k) x ∙ inv.long;
        rest = ap₂ (λ (i : ℕ) (v : Bytes). put i r v) m (set_put_one (4 + k) x d (omega (arith, inv.long)))
            ∙ splice_splice d (4 + k) (x ∷ []) (omega (arith, inv.long)) r
            ∙ ap₂ (λ (y i : ℕ). put (4 + k) (y ∷ map f (count_from i (used - (k + 1)))) d) e (add-one k)
            ∙ ap (λ (i : ℕ). put (4 + k) (map f (count_from k i)) d) (sym n)
            ∙ inv.rest;
      }

  pub bits_last : (k : ℕ) (d : Bytes) → used ≤ k → BitsLeft b pages used d₀ k d → d ≡ put 4 (map (bits_at b pages) (up_to used)) d₀
  unfolding count_from
  bits_last k d l inv =
      let n : used - k ≡ 0 = omega arith in
      sym (ap (λ (i : ℕ). put (4 + k) (map (bits_at b pages) (count_from k i)) d) n ∙ splice_nil d (4 + k)) ∙ inv.rest

-- eight bits, the lowest first
pub eight_bits : (b : Bytes) (pages : List ℕ) (k a0 a1 a2 a3 a4 a5 a6 a7 : ℕ)
    → Bit b pages (8 * k) a0 → Bit b pages (8 * k + 1) a1 → Bit b pages (8 * k + 2) a2 → Bit b pages (8 * k + 3) a3
    → Bit b pages (8 * k + 4) a4 → Bit b pages (8 * k + 5) a5 → Bit b pages (8 * k + 6) a6 → Bit b pages (8 * k + 7) a7
    → (a0 + 2 * a1 + 4 * a2 + 8 * a3 + 16 * (a4 + 2 * a5 + 4 * a6 + 8 * a7) ≡ bits_at b pages k) × (a0 + 2 * a1 + 4 * a2 + 8 * a3 + 16 * (a4 + 2 * a5 + 4 * a6 + 8 * a7) < 256)
unfolding bits_at bits_of count_from
eight_bits b pages k a0 a1 a2 a3 a4 a5 a6 a7 e0 e1 e2 e3 e4 e5 e6 e7 =
    let f : ℕ → ℕ = λ q. page_bit b (get_or pages q 0) in
    let s1 : f (8 * k + 1) ≡ f (suc (8 * k)) = let n : 8 * k + 1 ≡ suc (8 * k) = omega arith in ap f n in
    let s2 : f (8 * k + 2) ≡ f (suc (suc (8 * k))) = let n : 8 * k + 2 ≡ suc (suc (8 * k)) = omega arith in ap f n in
    let s3 : f (8 * k + 3) ≡ f (suc (suc (suc (8 * k)))) = let n : 8 * k + 3 ≡ suc (suc (suc (8 * k))) = omega arith in ap f n in
    let s4 : f (8 * k + 4) ≡ f (suc (suc (suc (suc (8 * k))))) = let n : 8 * k + 4 ≡ suc (suc (suc (suc (8 * k)))) = omega arith in ap f n in
    let s5 : f (8 * k + 5) ≡ f (suc (suc (suc (suc (suc (8 * k)))))) = let n : 8 * k + 5 ≡ suc (suc (suc (suc (suc (8 * k))))) = omega arith in ap f n in
    let s6 : f (8 * k + 6) ≡ f (suc (suc (suc (suc (suc (suc (8 * k))))))) = let n : 8 * k + 6 ≡ suc (suc (suc (suc (suc (suc (8 * k)))))) = omega arith in ap f n in
    let s7 : f (8 * k + 7) ≡ f (suc (suc (suc (suc (suc (suc (suc (8 * k)))))))) = let n : 8 * k + 7 ≡ suc (suc (suc (suc (suc (suc (suc (8 * k))))))) = omega arith in ap f n in
    (omega (arith, e0.0, e1.0, e2.0, e3.0, e4.0, e5.0, e6.0, e7.0, s1, s2, s3, s4, s5, s6, s7), omega (arith, e0.1, e1.1, e2.1, e3.1, e4.1, e5.1, e6.1, e7.1))

-- a page that was lent and came back stands where it stood
pub lent_page : (first e q : ℕ) (d y : Bytes) → first ≡ 256 * q → e ≡ first + 256 → length y ≡ 256 → put_mid first (e - first) d y ≡ put (256 * q) y d
lent_page first e q d y p w n =
    let m : e - first ≡ length y = omega arith in
    ap₂ (λ (a k : ℕ). take a d ++ (y ++ drop k (drop a d))) p m
    ∙ ap (λ (v : Bytes). take (256 * q) d ++ (y ++ v)) (drop-drop (length y) (256 * q) d)
    ∙ sym (append_assoc (take (256 * q) d) y (drop (256 * q + length y) d))

-- ---- the page of each place

map_same : (f g : ℕ → ℕ) (i n : ℕ) → ((q : ℕ) → i ≤ q → q < i + n → f q ≡ g q) → map f (count_from i n) ≡ map g (count_from i n)
unfolding count_from
map_same f g i zero h = refl
map_same f g i (suc n) h = ap₂ {C = List ℕ} (λ (x : ℕ) (l : List ℕ). x ∷ l) (h i (omega arith) (omega arith)) (map_same f g (suc i) n (λ q l u. h q (omega arith) (omega arith)))

-- what stands in the target before place q, and the pages from it on
pub record Laid (b : Bytes) (places : List ℕ) (q : ℕ) (d : Bytes) : Type 0 where
  pub long : length d ≡ length b
  pub rest : take (256 * q) d ++ flat_map (λ q. moved_page places b (page_at places q)) (count_from q (page_count b - q)) ≡ moved places b

module _ (b : Bytes) (places : List ℕ) (h : T (sound b)) (k : T (accepted b places)) where
  abbrev a : Accepted b places
  a = accepted_is b places k

  abbrev f : Facts b
  f = sound_facts_lem h

  abbrev s : Sized b
  s = valid_sized b f.fits

  -- the places turned about, whatever the row held
  module _ (row pages : List ℕ) (many : length row ≡ page_count b) (e : pages ≡ numbered 0 places row) where
    pub page_of : (q : ℕ) → q < page_count b → get_or pages q 0 ≡ page_at places q
    page_of q u =
        let r = a.renames.onto q u in
        ap (λ (l : List ℕ). get_or l q 0) e
        ∙ ap (λ (x : ℕ). get_or (numbered 0 places row) x 0) (sym r.1)
        ∙ numbered_at 0 places row a.once (λ x l. a.under x (omega arith)) (page_at places q) (omega (arith, r.0, a.many))
        ∙ omega arith

    pages_long : length pages ≡ page_count b
    pages_long = ap length e ∙ length_numbered 0 places row ∙ many

    pub pages_are : Pages b pages
    pages_are = record {
      each = pages_long;
      low = λ q. elim (dec_lt q (page_count b)) [
        | yes u ↦ omega (arith, page_of q u, (a.renames.onto q u).0)
        | no u ↦ let z : get_or pages q 0 ≡ 0 = get_or-eq_default pages 0 (omega (arith, pages_long)) in omega (arith, s.low)
      ];
    }

    bits_same : (i : ℕ) → i < page_count b / 8 → bits_at b pages i ≡ moved_bits places b i
    unfolding bits_at moved_bits
    bits_same i l = ap bits_of (map_same (λ q. page_bit b (get_or pages q 0)) (λ q. page_bit b (page_at places q)) (8 * i) 8 (λ q x y. ap (page_bit b) (page_of q (omega arith))))

    abbrev used : ℕ
    used = page_count b / 8

    -- the header page as it was written
    pub header_laid : take 64 (put 4 (map (bits_at b pages) (up_to used)) (part 0 256 b)) ++ flat_map (moved_entry places b) (entries 0) ≡ moved_header places b
    unfolding moved_header
    header_laid = ap (λ (v : Bytes). v ++ flat_map (moved_entry places b) (entries 0)) front
      where
        bits : List ℕ
        bits = map (moved_bits places b) (up_to used)

        n : length bits ≡ used
        n = length-map (up_to used) (moved_bits places b) ∙ length_count_from 0 used

        d : Bytes
        d = part 0 256 b

        four : length (take 4 d ++ bits) ≡ 4 + used
        four = omega (arith, length-append (take 4 d) bits, length-take-le 4 d (omega (arith, part_length 0 256 b (omega (arith, s.whole, s.low)))), n)

        many_left : 64 ≡ length (take 4 d ++ bits) + (60 - used)
        many_left = omega (arith, four, s.high)

        behind : take (60 - used) (drop (4 + length bits) d) ≡ part (4 + used) (60 - used) b
        behind =
            let z : 0 + (4 + used) ≡ 4 + used = omega arith in
            ap (λ (m : ℕ). take (60 - used) (drop (4 + m) d)) n
            ∙ part_part 0 256 (4 + used) (60 - used) b (omega (arith, s.high)) ∙ ap (λ (i : ℕ). part i (60 - used) b) z

        front : take 64 (put 4 (map (bits_at b pages) (up_to used)) (part 0 256 b)) ≡ part 0 4 b ++ map (moved_bits places b) (up_to used) ++ part (4 + used) (60 - used) b
        front =
            let same : map (bits_at b pages) (up_to used) ≡ map (moved_bits places b) (up_to used) = map_same (bits_at b pages) (moved_bits places b) 0 used (λ q x y. bits_same q (omega arith)) in
            ap (λ (l : List ℕ). take 64 (put 4 l (part 0 256 b))) same
            ∙ ap (λ (m : ℕ). take m (take 4 d ++ bits ++ drop (4 + length bits) d)) many_left
            ∙ take-append-add (take 4 d ++ bits) (drop (4 + length bits) d) (60 - used)
            ∙ ap₂ (λ (u v : Bytes). u ++ bits ++ v) (part_part 0 256 0 4 b (omega arith)) behind

  -- ---- the target

  pub laid_header : (d y : Bytes) → length d ≡ length b → y ≡ moved_header places b → Laid b places 1 (y ++ drop 256 d)
  unfolding moved
  laid_header d y n e =
      let m : length y ≡ 256 = ap length e ∙ length_header b f places a in
      record {
        long = omega (arith, length-append y (drop 256 d), length-drop 256 d, s.whole, s.low);
        rest = ap (λ (v : Bytes). v ++ flat_map (λ q. moved_page places b (page_at places q)) (count_from 1 (page_count b - 1))) (take_at y (drop 256 d) 256 m ∙ e);
      }

  -- the page that comes to a place from 1 on is no header
  pub page_low : (q : ℕ) → 1 ≤ q → q < page_count b → 1 ≤ page_at places q
  page_low q l u = from_page b f places a q l u

  laid_page : (q : ℕ) (d y : Bytes) → 1 ≤ q → q < page_count b → y ≡ moved_page places b (page_at places q) → Laid b places q d → Laid b places (q + 1) (put (256 * q) y d)
  unfolding flat_map count_from
  laid_page q d y l u e inv =
      let F : ℕ → Bytes = λ q. moved_page places b (page_at places q) in
      let m : length y ≡ 256 = ap length e ∙ length_at b f places a q (occ_count_from 1 (page_count b - 1) q l (omega arith)) in
      let n : page_count b - q ≡ suc (page_count b - (q + 1)) = omega arith in
      let k : 256 * (q + 1) ≡ 256 * q + 256 = omega arith in
      let lo : 256 * q + length y ≤ length d = omega (arith, inv.long, s.whole) in
      record {
        long = put_length (256 * q) y d lo ∙ inv.long;
        rest = ap (λ (i : ℕ). take i (put (256 * q) y d) ++ flat_map F (count_from (q + 1) (page_count b - (q + 1)))) k
            ∙ laid_turn (256 * q) 256 y d (flat_map F (count_from (q + 1) (page_count b - (q + 1)))) m (omega arith)
            ∙ ap₂ (λ (v : Bytes) (i : ℕ). take (256 * q) d ++ (v ++ flat_map F (count_from i (page_count b - (q + 1))))) e (add-one q)
            ∙ ap (λ (i : ℕ). take (256 * q) d ++ flat_map F (count_from q i)) (sym n)
            ∙ inv.rest;
      }

  pub laid_lent : (q first e : ℕ) (d y : Bytes) → 1 ≤ q → q < page_count b → first ≡ 256 * q → e ≡ first + 256 → y ≡ moved_page places b (page_at places q) → Laid b places q d → Laid b places (q + 1) (put_mid first (e - first) d y)
  laid_lent q first e d y l u p w v inv =
      let m : length y ≡ 256 = ap length v ∙ length_at b f places a q (occ_count_from 1 (page_count b - 1) q l (omega arith)) in
      subst (Laid b places (q + 1)) (sym (lent_page first e q d y p w m)) (laid_page q d y l u v inv)

  pub laid_last : (q : ℕ) (d : Bytes) → page_count b ≤ q → Laid b places q d → d ≡ moved places b
  unfolding flat_map count_from
  laid_last q d l inv =
      let F : ℕ → Bytes = λ q. moved_page places b (page_at places q) in
      let n : page_count b - q ≡ 0 = omega arith in
      sym (ap (λ (i : ℕ). take (256 * q) d ++ flat_map F (count_from q i)) n ∙ append-nil (take (256 * q) d) ∙ take_all (256 * q) d (omega (arith, inv.long, s.whole))) ∙ inv.rest
