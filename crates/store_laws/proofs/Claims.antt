-- Growth leaves in the header's fields what claiming its pages there does, and claiming asks only for these fields: so a copy of the header page
-- serves as well as the image.
use mathlib.Core.Path.{◌≡◌, refl, sym, ap, ap₂, ◌∙◌, subst}
use mathlib.Core.Logic.{◌≢◌}
use Prim.Native.Nat.{ℕ, zero, suc, ◌+◌, ◌-◌, ◌*◌, ◌/◌, ◌%◌, ◌^◌, ◌≤◌, ◌<◌}
use native.Mathlib.Nat.{zero-add, suc-add}
use native.Mathlib.Omega.{arith}
use native.Mathlib.Decide.{ℕ_discrete}
use mathlib.Core.List.{List, [], ◌∷◌, ◌++◌}
use lib.ListN.{length, get_or, set, replicate, length-set, length-replicate}
use lib.Seq.{get_or-set_same, get_or-set_other}
use Rattle.volume.specs.Bytes.{Bytes, byte_at, part, put, bit}
use Rattle.volume.specs.Lists.{last_or}
use Rattle.volume.proofs.Occ.{Mem, mem_head, mem_tail}
use Rattle.volume.specs.Field.{Field, byte, store}
use Rattle.volume.specs.Geometry as On
use Rattle.volume.proofs.Puts.{put_length, put_out, byte_part, part_length}
use Rattle.volume.proofs.Fields.{store_length}
use Rattle.volume.proofs.Marks.{mark_length, mark_other, mark_count, zeros_cong, lowest_le, lowest_cong, lowest_free_lem, bit_byte}
use Rattle.volume.proofs.Grow.{gained_cong}
use Rattle.model.specs.Layout.{version1}
use Rattle.model.proofs.Version1.{home, version1_lawful}
use Rattle.store_laws.specs.Claim.{claim, claimed}

-- the header's fields, and the reserved bytes behind them, are the same in both
pub record Alike (x y : Bytes) : Type 0 where
  pub left : 64 ≤ length x
  pub right : 64 ≤ length y
  pub each : (i : ℕ) → i < 64 → byte_at x i ≡ byte_at y i

-- a byte set to the same value in both
set_alike : (x y : Bytes) (j u v : ℕ) → j < 64 → u ≡ v → Alike x y → Alike (set x j u) (set y j v)
set_alike x y j u v l e a = record {
  left = omega (arith, length-set x j u, a.left);
  right = omega (arith, length-set y j v, a.right);
  each = λ i k. elim (ℕ_discrete i j) [
    | yes q ↦ ap (byte_at (set x j u)) q ∙ get_or-set_same x j u 0 (omega (arith, a.left)) ∙ e ∙ sym (ap (byte_at (set y j v)) q ∙ get_or-set_same y j v 0 (omega (arith, a.right)))
    | no q ↦ get_or-set_other x j i u 0 q ∙ a.each i k ∙ sym (get_or-set_other y j i v 0 q)
  ];
}

bits_alike : (x y : Bytes) → Alike x y → (q : ℕ) → q ≤ 256 → On.page_bit version1 x q ≡ On.page_bit version1 y q
bits_alike x y a q l = bit_byte version1 y x q (a.each (4 + q / 8) (omega arith))

pub claim_alike : (p : ℕ) (x y : Bytes) → p ≤ 256 → Alike x y → Alike (claim p x) (claim p y)
unfolding claim On.mark
claim_alike p x y l a =
    set_alike (On.mark version1 p x) (On.mark version1 p y) 3 (byte_at x 3 - 1) (byte_at y 3 - 1) (omega arith) (ap (λ (n : ℕ). n - 1) (a.each 3 (omega arith)))
    (set_alike x y (4 + p / 8) (byte_at x (4 + p / 8) + (1 - On.page_bit version1 x p) * 2 ^ (p % 8)) (byte_at y (4 + p / 8) + (1 - On.page_bit version1 y p) * 2 ^ (p % 8)) (omega arith)
    (ap₂ (λ (m c : ℕ). m + (1 - c) * 2 ^ (p % 8)) (a.each (4 + p / 8) (omega arith)) (bits_alike x y a p l)) a)

pub alike_then : {x y z : Bytes} → Alike x y → Alike y z → Alike x z
alike_then a c = record { left = a.left; right = c.right; each = λ i k. a.each i k ∙ c.each i k }

module _ (N : ℕ) (high : N ≤ 256) where
  pub lowest_alike : (x y : Bytes) → Alike x y → On.lowest_free version1 N x ≡ On.lowest_free version1 N y
  lowest_alike x y a = lowest_cong version1 N y x (λ q l. bits_alike x y a q (omega arith))

  pub claimed_alike : (k : ℕ) (x y : Bytes) → Alike x y → Alike (claimed N k x) (claimed N k y)
  unfolding claimed
  claimed_alike zero x y a = a
  claimed_alike (suc k) x y a =
      let p : ℕ = On.lowest_free version1 N x in
      let l : On.lowest_free version1 N x ≤ 256 = omega (arith, lowest_le version1 N x, high) in
      claimed_alike k (claim (On.lowest_free version1 N x) x) (claim (On.lowest_free version1 N y) y)
      (subst (λ (q : ℕ). Alike (claim (On.lowest_free version1 N x) x) (claim q y)) (lowest_alike x y a) (claim_alike (On.lowest_free version1 N x) x y l a))

  -- the pages gained, too, are known from the header's fields
  pub gained_alike : (k : ℕ) (x y : Bytes) → Alike x y → On.gained version1 N k x ≡ On.gained version1 N k y
  unfolding On.gained On.mark
  gained_alike zero x y a = refl
  gained_alike (suc k) x y a =
      let p : ℕ = On.lowest_free version1 N x in
      let l : On.lowest_free version1 N x ≤ 256 = omega (arith, lowest_le version1 N x, high) in
      let marked : Alike (On.mark version1 (On.lowest_free version1 N x) x) (On.mark version1 (On.lowest_free version1 N x) y) =
      set_alike x y (4 + p / 8) (byte_at x (4 + p / 8) + (1 - On.page_bit version1 x p) * 2 ^ (p % 8)) (byte_at y (4 + p / 8) + (1 - On.page_bit version1 y p) * 2 ^ (p % 8)) (omega arith)
      (ap₂ (λ (m c : ℕ). m + (1 - c) * 2 ^ (p % 8)) (a.each (4 + p / 8) (omega arith)) (bits_alike x y a p l)) a in
      ap (λ (r : List ℕ). On.lowest_free version1 N x ∷ r) (gained_alike k (On.mark version1 (On.lowest_free version1 N x) x) (On.mark version1 (On.lowest_free version1 N x) y) marked)
      ∙ ap (λ (q : ℕ). q ∷ On.gained version1 N k (On.mark version1 q y)) (lowest_alike x y a)

  -- growth from a joint behind the header's fields, on an image of N pages, with pages enough
  module _ (h : 1 ≤ N) where
    module _ (joint p : ℕ) (b : Bytes) (s : length b ≡ 256 * N) (far : 64 ≤ joint) (low : 1 ≤ p) (up : p < N) where
      -- the header's stores, and then the page's
      abbrev counted : Bytes
      counted = set (On.mark version1 p b) 3 (byte_at b 3 - 1)

      abbrev linked : Bytes
      linked = set counted (256 * p) 0

      counted_long : length counted ≡ 256 * N
      counted_long = length-set (On.mark version1 p b) 3 (byte_at b 3 - 1) ∙ mark_length version1 p b ∙ s

      linked_long : length linked ≡ 256 * N
      linked_long = length-set counted (256 * p) 0 ∙ counted_long

      fits : 256 * p + length (replicate {A = ℕ} 256 0) ≤ length linked
      fits = omega (arith, linked_long, length-replicate {A = ℕ} 256 0)

      step_alike : Alike (store (byte joint) p (On.taken version1 p b)) (claim p b)
      unfolding On.taken claim
      step_alike = record {
        left = omega (arith, length-set (put (256 * p) (replicate 256 0) linked) joint p, put_length (256 * p) (replicate 256 0) linked fits, linked_long);
        right = omega (arith, counted_long);
        each = λ i k.
            get_or-set_other (put (256 * p) (replicate 256 0) linked) joint i p 0 (λ e. omega (arith, e))
            ∙ put_out (256 * p) (replicate 256 0) linked fits i (λ u. omega arith)
            ∙ get_or-set_other counted (256 * p) i 0 0 (λ e. omega (arith, e));
      }

    taken_long : (b : Bytes) (p : ℕ) → length b ≡ 256 * N → 1 ≤ p → p < N → length (On.taken version1 p b) ≡ 256 * N
    unfolding On.taken
    taken_long b p s low up = put_length (256 * p) (replicate 256 0) (linked 64 p b s (omega arith) low up) (fits 64 p b s (omega arith) low up) ∙ linked_long 64 p b s (omega arith) low up

    -- a claim changes one bit
    claim_bit : (b : Bytes) (p q : ℕ) → length b ≡ 256 * N → p < N → q ≢ p → On.page_bit version1 (claim p b) q ≡ On.page_bit version1 b q
    unfolding claim
    claim_bit b p q s up ne =
        bit_byte version1 (On.mark version1 p b) (claim p b) q (get_or-set_other (On.mark version1 p b) 3 (4 + q / 8) (byte_at b 3 - 1) 0 (λ e. omega (arith, e)))
        ∙ mark_other version1 b p q (omega arith) ne

    claim_zeros : (b b₁ : Bytes) (p : ℕ) → length b ≡ 256 * N → ((q : ℕ) → q < N → On.page_bit version1 b₁ q ≡ On.page_bit version1 (claim p b) q)
        → p < N → On.page_bit version1 b p ≡ 0 → {k : ℕ} → suc k ≤ On.zero_bits version1 b N → k ≤ On.zero_bits version1 b₁ N
    unfolding claim
    claim_zeros b b₁ p s bits up z enough =
        let same = zeros_cong version1 (On.mark version1 p b) b₁ N (λ q l. bits q l
        ∙ bit_byte version1 (On.mark version1 p b) (claim p b) q (get_or-set_other (On.mark version1 p b) 3 (4 + q / 8) (byte_at b 3 - 1) 0 (λ e. omega (arith, e)))) in
        omega (arith, same, mark_count version1 b p N (omega arith) up z, enough)

    -- growth leaves the header's fields as claiming does
    pub grown_alike : (k joint : ℕ) (b : Bytes) → length b ≡ 256 * N → 64 ≤ joint → k ≤ On.zero_bits version1 b N → On.page_bit version1 b 0 ≡ 1
        → Alike (On.grown version1 N k (byte joint) b) (claimed N k b)
    unfolding On.grown claimed
    grown_alike zero joint b s far enough one = record { left = omega (arith, s); right = omega (arith, s); each = λ i k. refl }
    grown_alike (suc k) joint b s far enough one =
        let p : ℕ = On.lowest_free version1 N b in
        let l = lowest_free_lem version1 N b (omega (arith, enough)) in
        let low : 1 ≤ On.lowest_free version1 N b = free_past b (On.lowest_free version1 N b) one l.1 in
        let b₁ : Bytes = store (byte joint) p (On.taken version1 p b) in
        let st : Alike (store (byte joint) (On.lowest_free version1 N b) (On.taken version1 (On.lowest_free version1 N b) b)) (claim (On.lowest_free version1 N b) b) =
        step_alike joint (On.lowest_free version1 N b) b s far low l.0 in
        let long : length b₁ ≡ 256 * N = store_length (byte joint) p (On.taken version1 p b) ∙ taken_long b p s low l.0 in
        let bits : (q : ℕ) → q < N → On.page_bit version1 b₁ q ≡ On.page_bit version1 (claim p b) q = λ q u. bits_alike b₁ (claim p b) st q (omega arith) in
        let one₁ : On.page_bit version1 b₁ 0 ≡ 1 = bits 0 (omega arith) ∙ claim_bit b p 0 s l.0 (omega (arith, low)) ∙ one in
        alike_then (grown_alike k (256 * p) b₁ long (omega (arith, low)) (claim_zeros b b₁ p s bits l.0 l.1 enough) one₁) (claimed_alike k b₁ (claim p b) st)
      where
        free_past : (b : Bytes) (p : ℕ) → On.page_bit version1 b 0 ≡ 1 → On.page_bit version1 b p ≡ 0 → 1 ≤ p
        free_past b zero one z = absurd (omega (arith, one, z))
        free_past b (suc p) one z = omega arith

-- claims in two goes
pub claimed_add : (N j m : ℕ) (b : Bytes) → claimed N m (claimed N j b) ≡ claimed N (j + m) b
unfolding claimed
claimed_add N zero m b = ap (λ (k : ℕ). claimed N k b) (sym (zero-add m))
claimed_add N (suc j) m b = claimed_add N j m (claim (On.lowest_free version1 N b) b) ∙ ap (λ (k : ℕ). claimed N k b) (sym (suc-add j m))

-- bytes put behind the header's fields
pub put_alike : (at : ℕ) (w b : Bytes) → 64 ≤ at → at + length w ≤ length b → Alike (put at w b) b
put_alike at w b far h = record {
  left = omega (arith, put_length at w b h);
  right = omega arith;
  each = λ i k. put_out at w b h i (λ u. omega arith);
}

-- a copy of the header page
pub part_alike : (b : Bytes) → 256 ≤ length b → Alike (part 0 256 b) b
part_alike b h = record { left = omega (arith, part_length 0 256 b (omega arith)); right = omega arith; each = λ i k. byte_part 0 256 i b (omega arith) ∙ ap (byte_at b) (zero-add i) }

last_mem : (p : ℕ) (ps : List ℕ) → Mem (last_or p ps) (p ∷ ps)
unfolding last_or
last_mem p [] = mem_head p []
last_mem p (q ∷ ps) = mem_tail (last_or q ps) p (q ∷ ps) (last_mem q ps)

-- the joint of a chain lies behind the header's fields
pub joint_far : (x : ℕ) (ps : List ℕ) → 64 ≤ x → ((q : ℕ) → Mem q ps → 1 ≤ q) → (j : ℕ) × (On.joint_of version1 (byte x) ps ≡ byte j) × (64 ≤ j)
unfolding On.joint_of
joint_far x [] far low = (x, refl, far)
joint_far x (p ∷ ps) far low = (256 * last_or p ps, refl, omega (arith, low (last_or p ps) (last_mem p ps)))

-- ---- the pages gained in two goes

module _ (N : ℕ) (low : 1 ≤ N) (high : N ≤ 256) where
  gained_claim : (k p : ℕ) (b : Bytes) → length b ≡ 256 * N → On.gained version1 N k (claim p b) ≡ On.gained version1 N k (On.mark version1 p b)
  unfolding claim
  gained_claim k p b s =
      gained_cong (version1_lawful N low high) k (On.mark version1 p b) (claim p b) (mark_length version1 p b ∙ s)
      (length-set (On.mark version1 p b) 3 (byte_at b 3 - 1))
      (λ q l. bit_byte version1 (On.mark version1 p b) (claim p b) q (get_or-set_other (On.mark version1 p b) 3 (4 + q / 8) (byte_at b 3 - 1) 0 (λ e. omega (arith, e))))

  claim_long : (p : ℕ) (b : Bytes) → length (claim p b) ≡ length b
  unfolding claim
  claim_long p b = length-set (On.mark version1 p b) 3 (byte_at b 3 - 1) ∙ mark_length version1 p b

  pub gained_add : (j m : ℕ) (b : Bytes) → length b ≡ 256 * N → On.gained version1 N (j + m) b ≡ On.gained version1 N j b ++ On.gained version1 N m (claimed N j b)
  unfolding On.gained claimed
  gained_add zero m b s = ap (λ (k : ℕ). On.gained version1 N k b) (zero-add m)
  gained_add (suc j) m b s =
      let p : ℕ = On.lowest_free version1 N b in
      ap (λ (k : ℕ). On.gained version1 N k b) (suc-add j m)
      ∙ ap {B = List ℕ} (λ r. p ∷ r)
      (sym (gained_claim (j + m) p b s) ∙ gained_add j m (claim p b) (claim_long p b ∙ s)
      ∙ ap (λ (l : List ℕ). l ++ On.gained version1 N m (claimed N j (claim p b))) (gained_claim j p b s))

  -- the j-th page gained is the one that is claimed after j others
  pub gained_nth : (k j : ℕ) (b : Bytes) → length b ≡ 256 * N → j < k → get_or (On.gained version1 N k b) j 0 ≡ On.lowest_free version1 N (claimed N j b)
  unfolding On.gained claimed
  gained_nth zero j b s l = absurd (omega arith)
  gained_nth (suc k) zero b s l = refl
  gained_nth (suc k) (suc j) b s l =
      let p : ℕ = On.lowest_free version1 N b in
      ap (λ (r : List ℕ). get_or r j 0) (sym (gained_claim k p b s)) ∙ gained_nth k j (claim p b) (claim_long p b ∙ s) (omega arith)

-- claims change nothing behind the header's fields
pub claimed_far : (N k : ℕ) (h : Bytes) → N ≤ 256 → (i : ℕ) → 64 ≤ i → byte_at (claimed N k h) i ≡ byte_at h i
unfolding claimed claim On.mark
claimed_far N zero h high i l = refl
claimed_far N (suc k) h high i l =
    let p : ℕ = On.lowest_free version1 N h in
    claimed_far N k (claim p h) high i l
    ∙ get_or-set_other (On.mark version1 p h) 3 i (byte_at h 3 - 1) 0 (λ e. omega (arith, e))
    ∙ get_or-set_other h (4 + p / 8) i (byte_at h (4 + p / 8) + (1 - On.page_bit version1 h p) * 2 ^ (p % 8)) 0 (λ e. omega (arith, e, lowest_le version1 N h, high))

pub claimed_length : (N k : ℕ) (h : Bytes) → length (claimed N k h) ≡ length h
unfolding claimed claim
claimed_length N zero h = refl
claimed_length N (suc k) h =
    let p : ℕ = On.lowest_free version1 N h in
    claimed_length N k (claim p h) ∙ length-set (On.mark version1 p h) 3 (byte_at h 3 - 1) ∙ mark_length version1 p h

-- a claimed page lies in the image, if one is free, so of whole bitmap bytes only those in use change
pub claimed_beside : (N k : ℕ) (h : Bytes) → N ≤ 256 → N % 8 ≡ 0 → 64 ≤ length h → k ≤ On.zero_bits version1 h N
    → (i : ℕ) → i ≢ 3 → (4 ≤ i → 4 + N / 8 ≤ i) → byte_at (claimed N k h) i ≡ byte_at h i
unfolding claimed claim On.mark
claimed_beside N zero h high eights long enough i ne o = refl
claimed_beside N (suc k) h high eights long enough i ne o =
    let p : ℕ = On.lowest_free version1 N h in
    let f = lowest_free_lem version1 N h (omega (arith, enough)) in
    let same = zeros_cong version1 (On.mark version1 p h) (claim p h) N (λ q l.
    bit_byte version1 (On.mark version1 p h) (claim p h) q (get_or-set_other (On.mark version1 p h) 3 (4 + q / 8) (byte_at h 3 - 1) 0 (λ e. omega (arith, e)))) in
    let one = mark_count version1 h p N (omega (arith, f.0, high, long)) f.0 f.1 in
    claimed_beside N k (claim p h) high eights (omega (arith, length-set (On.mark version1 p h) 3 (byte_at h 3 - 1), mark_length version1 p h, long)) (omega (arith, same, one, enough)) i ne o
    ∙ get_or-set_other (On.mark version1 p h) 3 i (byte_at h 3 - 1) 0 ne
    ∙ get_or-set_other h (4 + p / 8) i (byte_at h (4 + p / 8) + (1 - On.page_bit version1 h p) * 2 ^ (p % 8)) 0 (λ e. omega (arith, e, f.0, eights, o (omega (arith, e))))

-- what a byte has above its 8 bits stays when one of them is set or cleared
marked_top : (r x : ℕ) → r < 8 → (x + (1 - bit r x) * 2 ^ r) / 256 ≡ x / 256
marked_top zero x l = omega arith
marked_top (suc zero) x l = omega arith
marked_top (suc (suc zero)) x l = omega arith
marked_top (suc (suc (suc zero))) x l = omega arith
marked_top (suc (suc (suc (suc zero)))) x l = omega arith
marked_top (suc (suc (suc (suc (suc zero))))) x l = omega arith
marked_top (suc (suc (suc (suc (suc (suc zero)))))) x l = omega arith
marked_top (suc (suc (suc (suc (suc (suc (suc zero))))))) x l = omega arith
marked_top (suc (suc (suc (suc (suc (suc (suc (suc r)))))))) x l = absurd (omega arith)

unmarked_top : (r x : ℕ) → r < 8 → (x - bit r x * 2 ^ r) / 256 ≡ x / 256
unmarked_top zero x l = omega arith
unmarked_top (suc zero) x l = omega arith
unmarked_top (suc (suc zero)) x l = omega arith
unmarked_top (suc (suc (suc zero))) x l = omega arith
unmarked_top (suc (suc (suc (suc zero)))) x l = omega arith
unmarked_top (suc (suc (suc (suc (suc zero))))) x l = omega arith
unmarked_top (suc (suc (suc (suc (suc (suc zero)))))) x l = omega arith
unmarked_top (suc (suc (suc (suc (suc (suc (suc zero))))))) x l = omega arith
unmarked_top (suc (suc (suc (suc (suc (suc (suc (suc r)))))))) x l = absurd (omega arith)

module _ (p : ℕ) (h : Bytes) (l : 4 + p / 8 < length h) (i : ℕ) where
  pub mark_top : byte_at (On.mark version1 p h) i / 256 ≡ byte_at h i / 256
  unfolding On.mark On.page_bit
  mark_top = elim (ℕ_discrete i (4 + p / 8)) [
    | yes e ↦
        ap (λ (j : ℕ). byte_at (On.mark version1 p h) j / 256) e
        ∙ ap (λ (x : ℕ). x / 256) (get_or-set_same h (4 + p / 8) (byte_at h (4 + p / 8) + (1 - On.page_bit version1 h p) * 2 ^ (p % 8)) 0 l)
        ∙ marked_top (p % 8) (byte_at h (4 + p / 8)) (omega arith) ∙ ap (λ (j : ℕ). byte_at h j / 256) (sym e)
    | no ne ↦ ap (λ (x : ℕ). x / 256) (get_or-set_other h (4 + p / 8) i (byte_at h (4 + p / 8) + (1 - On.page_bit version1 h p) * 2 ^ (p % 8)) 0 ne)
  ]

  pub unmark_top : byte_at (On.unmark version1 p h) i / 256 ≡ byte_at h i / 256
  unfolding On.unmark On.page_bit
  unmark_top = elim (ℕ_discrete i (4 + p / 8)) [
    | yes e ↦
        ap (λ (j : ℕ). byte_at (On.unmark version1 p h) j / 256) e
        ∙ ap (λ (x : ℕ). x / 256) (get_or-set_same h (4 + p / 8) (byte_at h (4 + p / 8) - On.page_bit version1 h p * 2 ^ (p % 8)) 0 l)
        ∙ unmarked_top (p % 8) (byte_at h (4 + p / 8)) (omega arith) ∙ ap (λ (j : ℕ). byte_at h j / 256) (sym e)
    | no ne ↦ ap (λ (x : ℕ). x / 256) (get_or-set_other h (4 + p / 8) i (byte_at h (4 + p / 8) - On.page_bit version1 h p * 2 ^ (p % 8)) 0 ne)
  ]

pub claimed_tops : (N k : ℕ) (h : Bytes) → N ≤ 256 → 64 ≤ length h → (i : ℕ) → i ≢ 3 → byte_at (claimed N k h) i / 256 ≡ byte_at h i / 256
unfolding claimed claim
claimed_tops N zero h high long i ne = refl
claimed_tops N (suc k) h high long i ne =
    let p : ℕ = On.lowest_free version1 N h in
    claimed_tops N k (claim p h) high (omega (arith, length-set (On.mark version1 p h) 3 (byte_at h 3 - 1), mark_length version1 p h, long)) i ne
    ∙ ap (λ (x : ℕ). x / 256) (get_or-set_other (On.mark version1 p h) 3 i (byte_at h 3 - 1) 0 ne)
    ∙ mark_top p h (omega (arith, lowest_le version1 N h, high, long)) i
