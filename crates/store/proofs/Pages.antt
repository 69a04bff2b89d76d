-- A page in the buffer: what is put over all of it takes its place, and what the content has for a page is what is copied.
use mathlib.Core.Path.{◌≡◌, sym, ap, ap₂, ◌∙◌}
use Prim.Native.Nat.{ℕ, suc, ◌+◌, ◌-◌, ◌*◌, ◌≤◌, ◌<◌, min}
use native.Mathlib.Nat.{zero-add}
use native.Mathlib.Omega.{arith}
use native.Mathlib.Decide.{dec_le}
use mathlib.Core.Bool.{Bool, true, false}
use lib.ListN.{length, set, take, drop, length-set, length-take, length-drop, length-replicate}
use lib.Seq.{ext_get_or, take_all}
use lib.Dec.{T, ltb, ltb→lt}
use borrow.Author.Tests.{lt-ltb, le-ltb}
use Rattle.volume.specs.Bytes.{Bytes, byte_at, part, put, zeros}
use Rattle.std.specs.Prelude.{if◌then◌else◌}
use Rattle.volume.specs.Geometry as On
use Rattle.volume.proofs.Puts.{put_length, put_in, byte_part, part_length}
use Rattle.volume.proofs.Marks.{zeros_cong, bit_byte, lowest_free_lem}
use Rattle.model.specs.Layout.{version1, page_count, pages_for, free_count, zero_bits}
use Rattle.model.specs.Entry.{new_entry}
use Rattle.store_laws.specs.Claim.{claim, claimed, page_after, link_after, content_page, started_entry}
use Rattle.store_laws.proofs.Claims.{claimed_add, claimed_length}
use Rattle.store.specs.Asked.{Storing}
use Rattle.store.proofs.Claims.{count_left, page_under}

-- all of the buffer is put over
put_whole : (w b : Bytes) → length w ≡ length b → put 0 w b ≡ w
put_whole w b e =
    let fits : 0 + length w ≤ length b = omega (arith, e) in
    ext_get_or 0 (put 0 w b) w (put_length 0 w b fits ∙ sym e) (λ i l.
    ap (byte_at (put 0 w b)) (sym (zero-add i)) ∙ put_in 0 w b fits i (omega (arith, l, put_length 0 w b fits, e)))

pub page_copied : (b y z : Bytes) (first p : ℕ) → first ≡ 256 * p → length y ≡ 256 → 256 * p + 256 ≤ length b → z ≡ put 0 (take (first + 256 - first) (drop first b)) y
    → z ≡ part (256 * p) 256 b
page_copied b y z first p e l h is =
    let q : first + 256 - first ≡ 256 = omega arith in
    is ∙ ap₂ {C = Bytes} (λ (n i : ℕ). put 0 (take n (drop i b)) y) q e
    ∙ put_whole (part (256 * p) 256 b) y (part_length (256 * p) 256 b h ∙ sym l)

-- ---- a page of the content

-- up to r bytes of what is left
cut : (r e n : ℕ) (x : Bytes) → e ≡ min n r → n ≡ length x → take e x ≡ take r x
cut r e n x s l = elim (dec_le n r) [
  | yes u ↦ take_all e x (omega arith) ∙ sym (take_all r x (omega arith))
  | no u ↦ (let q : e ≡ r = omega arith in ap (λ (k : ℕ). take k x) q)
]

zeros_long : (n : ℕ) → length (zeros n) ≡ n
unfolding zeros
zeros_long n = length-replicate {A = ℕ} n 0

module _ (x y v : Bytes) (link j end : ℕ) (l : length x ≡ 256) (e : y ≡ zeros (length x)) (s : end ≡ min (length v) (255 * j + 255)) where
  base_long : length (set y 0 link) ≡ 256
  base_long = length-set y 0 link ∙ ap length e ∙ zeros_long (length x) ∙ l

  pub fill_fits : 1 + length (take (end - 255 * j) (drop (255 * j) v)) ≤ length (set y 0 link)
  fill_fits = omega (arith, base_long, s, length-take (end - 255 * j) (drop (255 * j) v))

  module _ (z : Bytes) (is : z ≡ put 1 (take (end - 255 * j) (drop (255 * j) v)) (set y 0 link)) where
    pub fill_long : length z ≡ length x
    fill_long = ap length is ∙ put_length 1 (take (end - 255 * j) (drop (255 * j) v)) (set y 0 link) fill_fits ∙ base_long ∙ sym l

    pub fill_is : 255 * j ≤ length v → z ≡ content_page link v j
    unfolding content_page
    fill_is h =
        is ∙ ap (λ (w : Bytes). put 1 w (set y 0 link)) (cut 255 (end - 255 * j) (length v - 255 * j) (drop (255 * j) v) (omega (arith, s)) (sym (length-drop (255 * j) v)))
        ∙ ap (λ (w : Bytes). put 1 (part (255 * j) 255 v) (set w 0 link)) (e ∙ ap zeros l)

-- ---- the header page's copy

module _ (b : Bytes) (low : 256 ≤ length b) where
  copy_long : length (part 0 256 b) ≡ 256
  copy_long = part_length 0 256 b (omega (arith, low))

  copy_count : byte_at (part 0 256 b) 3 ≡ free_count b
  copy_count = byte_part 0 256 3 b (omega arith)

  -- a buffer that it is
  pub copied_long : {x : Bytes} → x ≡ part 0 256 b → 64 ≤ length x
  copied_long e = omega (arith, ap length e, copy_long)

  pub copied_count : {x : Bytes} → x ≡ part 0 256 b → (k : ℕ) → k ≤ free_count b → k ≤ byte_at x 3
  copied_count e k l = omega (arith, l, ap (λ (y : Bytes). byte_at y 3) e, copy_count)

  copy_free : (n : ℕ) → n ≤ 256 → zero_bits (part 0 256 b) n ≡ zero_bits b n
  copy_free n h = zeros_cong version1 b (part 0 256 b) n (λ q l.
      bit_byte version1 b (part 0 256 b) q (byte_part 0 256 (On.bitmap_byte version1 q) b (omega (arith, l, h)) ∙ ap (byte_at b) (zero-add (On.bitmap_byte version1 q))))

  pub claimed_long : (n k : ℕ) → length (claimed n k (part 0 256 b)) ≡ 256
  claimed_long n k = claimed_length n k (part 0 256 b) ∙ copy_long

  -- there is a page after j claims, if more than j are free
  pub copy_under : (n j : ℕ) → n ≤ 256 → j < zero_bits b n → page_after n j (part 0 256 b) < n
  copy_under n j h l = page_under n j (part 0 256 b) h (omega (arith, copy_long)) (omega (arith, l, copy_free n h))

  pub copy_left : (n j : ℕ) → byte_at (claimed n j (part 0 256 b)) 3 ≡ free_count b - j
  copy_left n j = count_left n j (part 0 256 b) (omega (arith, copy_long)) ∙ ap (λ (x : ℕ). x - j) copy_count

pub image_long : {b : Bytes} {size : ℕ} → Storing b size → 256 ≤ length b
image_long s = omega (arith, s.whole, s.low)

pub fewer_free : {b : Bytes} {size : ℕ} → Storing b size → (j : ℕ) → j < pages_for size → j ≤ free_count b
fewer_free s j l = omega (arith, l, s.counted)

-- one claim more
claimed_more : (n j : ℕ) (h : Bytes) → claim (page_after n j h) (claimed n j h) ≡ claimed n (suc j) h
unfolding claimed
claimed_more n j h = let e : j + 1 ≡ suc j = omega arith in claimed_add n j 1 h ∙ ap (λ (k : ℕ). claimed n k h) e

-- ---- a content page, as the code comes to it

module _ (b v x₁ x₂ : Bytes) (n j : ℕ) (s : Storing b (length v)) (l : j < pages_for (length v))
    (en : n ≡ page_count b) (e₁ : x₁ ≡ part 0 256 b) (e₂ : x₂ ≡ claimed n j x₁) where
  abbrev h : Bytes
  h = part 0 256 b

  abbrev long : 256 ≤ length b
  long = image_long s

  second : x₂ ≡ claimed (page_count b) j (part 0 256 b)
  second = e₂ ∙ ap₂ {C = Bytes} (λ (m : ℕ) (y : Bytes). claimed m j y) en e₁

  pub content_long : 64 ≤ length x₂
  content_long = omega (arith, ap length second, claimed_long b long (page_count b) j)

  pub content_counted : 0 < byte_at x₂ 3
  content_counted = omega (arith, ap (λ (y : Bytes). byte_at y 3) second, copy_left b long (page_count b) j, s.counted, l)

  pub content_page_lem : (here : ℕ) → here ≡ On.lowest_free version1 n x₂ → here ≡ page_after (page_count b) j (part 0 256 b)
  content_page_lem here eh = eh ∙ ap₂ (λ (m : ℕ) (y : Bytes). On.lowest_free version1 m y) en second

  module _ (x₃ : Bytes) (e₃ : x₃ ≡ claim (On.lowest_free version1 n x₂) x₂) where
    third : x₃ ≡ claimed (page_count b) (suc j) (part 0 256 b)
    third =
        e₃ ∙ ap₂ {C = Bytes} (λ (m : ℕ) (y : Bytes). claim (On.lowest_free version1 m y) y) en second
        ∙ claimed_more (page_count b) j (part 0 256 b)

    pub third_long : length x₃ ≡ 256
    third_long = ap length third ∙ claimed_long b long (page_count b) (suc j)

    pub link_is : (k link : ℕ) → k ≡ pages_for (length v) → link ≡ (if ltb (j + 1) k then On.lowest_free version1 n x₃ else 0)
        → link ≡ link_after (page_count b) (pages_for (length v)) j (part 0 256 b)
    unfolding link_after
    link_is k link ek to =
        let e : j + 1 ≡ suc j = omega arith in
        to ∙ (λ i. if ltb (e i) (ek i) then On.lowest_free version1 (en i) (third i) else 0)

-- the link is a byte
pub link_small : {b : Bytes} {size link : ℕ} (j : ℕ) → Storing b size → link ≡ link_after (page_count b) (pages_for size) j (part 0 256 b) → link < 256
unfolding link_after
link_small {b} {size} j s is = omega (arith, is, small (ltb (suc j) (pages_for size)) (ltb→lt (suc j) (pages_for size)))
  where
    small : (c : Bool) → (T c → suc j < pages_for size) → (if c then page_after (page_count b) (suc j) (part 0 256 b) else 0) < 256
    small true u = omega (arith, copy_under b (image_long s) (page_count b) (suc j) s.high (omega (arith, u tt, s.free)), s.high)
    small false u = omega arith

pub content_linked : (v : Bytes) (j : ℕ) {z : Bytes} {link to : ℕ} → z ≡ content_page link v j → link ≡ to → z ≡ content_page to v j
content_linked v j e l = e ∙ ap (λ (x : ℕ). content_page x v j) l

-- page j begins within the content, or at its end
pub begins_in : (v : Bytes) (j : ℕ) → j < pages_for (length v) → 255 * j ≤ length v
unfolding pages_for
begins_in v j l = omega arith

-- ---- the new entry

module _ (b : Bytes) (size n r : ℕ) (s : Storing b size) (en : n ≡ page_count b) (er : r ≡ On.lowest_free version1 n b) where
  some_page : 1 ≤ pages_for size
  unfolding pages_for
  some_page = omega arith

  pub start_small : r < 256
  start_small = omega (arith, er ∙ ap (λ (m : ℕ). On.lowest_free version1 m b) en, (lowest_free_lem version1 (page_count b) b (omega (arith, s.free, some_page))).0, s.high)

  pub entry_started : (name date w : Bytes) → w ≡ new_entry 0x80 name 0 size date → set w 17 r ≡ started_entry name date size (On.lowest_free version1 (page_count b) b)
  unfolding started_entry
  entry_started name date w e = ap₂ {C = Bytes} (λ (y : Bytes) (p : ℕ). set y 17 p) e (er ∙ ap (λ (m : ℕ). On.lowest_free version1 m b) en)

-- ---- the header, and the parent's page

module _ (b x₁ x₂ : Bytes) (n k : ℕ) (long : 256 ≤ length b) (en : n ≡ page_count b) (e₁ : x₁ ≡ part 0 256 b) (e₂ : x₂ ≡ claimed n k x₁) where
  header_is : x₂ ≡ claimed (page_count b) k (part 0 256 b)
  header_is = e₂ ∙ ap₂ {C = Bytes} (λ (m : ℕ) (y : Bytes). claimed m k y) en e₁

  pub header_long : length x₂ ≡ 256
  header_long = ap length header_is ∙ claimed_long b long (page_count b) k

  pub header_root : (at : ℕ) (w : Bytes) → at < 256 → (z : Bytes) → z ≡ put at w x₂
      → z ≡ (if ltb at 256 then put at w (claimed (page_count b) k (part 0 256 b)) else claimed (page_count b) k (part 0 256 b))
  header_root at w l z e = rw (lt-ltb at 256 l) (e ∙ ap (put at w) header_is)

  pub header_below : (at : ℕ) (w : Bytes) → 256 ≤ at → x₂ ≡ (if ltb at 256 then put at w (claimed (page_count b) k (part 0 256 b)) else claimed (page_count b) k (part 0 256 b))
  header_below at w l = rw (le-ltb at 256 l) header_is

-- the entry is put into a copy of the parent's page
pub parent_put : (b x w z : Bytes) (at p : ℕ) → x ≡ part (256 * p) 256 b → z ≡ put at w x → z ≡ put at w (part (256 * p) 256 b)
parent_put b x w z at p e is = is ∙ ap (put at w) e
