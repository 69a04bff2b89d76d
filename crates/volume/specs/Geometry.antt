-- Where an image keeps its pages, links, count and bitmap, and what becomes of them when pages are taken and given back.
-- Nothing here knows a version: a format says which geometry its images have, and the laws hold for each that is `Lawful` (proofs/Lawful).
use Rattle.std.specs.Prelude.{ℕ, zero, suc, ◌+◌, ◌-◌, ◌*◌, ◌/◌, ◌%◌, ◌^◌, Bool, List, [], ◌∷◌, ◌++◌, set, replicate, eqb}
use Rattle.std.proofs.Math.Option.{get_or}
use Rattle.volume.specs.Bytes.{Bytes, byte_at, bit, part, put}
use Rattle.volume.specs.Lists.{up_to, first, last_or}
use Rattle.volume.specs.Field.{Field, load, store}
use Rattle.volume.specs.Chain.{spread}

pub record Geometry : Type 0 where
  -- the pages below this one are set aside: the header, and a table of links where there is one
  pub aside : ℕ
  -- bytes of a page, of which the last `room` hold a file's content
  pub size : ℕ
  pub room : ℕ
  -- where the link of page p, the number of free pages and the bitmap stand
  pub link : (page : ℕ) → Field
  pub count : Field
  pub map : ℕ

module _ (g : Geometry) where
  -- the position of page p's first byte, and of its content's first
  abbrev pub start : ℕ → ℕ
  start p = g.size * p

  abbrev pub content : ℕ → ℕ
  content p = start p + (g.size - g.room)

  abbrev pub content_on : Bytes → ℕ → Bytes
  content_on b p = part (content p) g.room b

  -- the page that follows p
  abbrev pub next : Bytes → ℕ → ℕ
  next b p = load (g.link p) b

  abbrev pub free_count : Bytes → ℕ
  free_count b = load g.count b

  -- ---- the bitmap: page p is bit p mod 8 of bitmap byte p div 8, and 1 is allocated

  abbrev pub bitmap_byte : ℕ → ℕ
  bitmap_byte p = g.map + p / 8

  unfoldable pub page_bit : Bytes → ℕ → ℕ
  page_bit b p = bit (p % 8) (byte_at b (bitmap_byte p))

  abbrev pub is_free : Bytes → ℕ → Bool
  is_free b p = eqb (page_bit b p) 0

  -- the number of zero bits among the first n
  unfoldable pub zero_bits : Bytes → ℕ → ℕ
  zero_bits b zero = 0
  zero_bits b (suc n) = zero_bits b n + (1 - page_bit b n)

  -- the lowest free page of N, or N if there is none
  unfoldable pub lowest_free : ℕ → Bytes → ℕ
  lowest_free N b = get_or (first (is_free b) (up_to N)) N

  -- page p's bit set, and cleared
  unfoldable pub mark : ℕ → Bytes → Bytes
  mark p b = set b (bitmap_byte p) (byte_at b (bitmap_byte p) + (1 - page_bit b p) * 2 ^ (p % 8))

  unfoldable pub unmark : ℕ → Bytes → Bytes
  unmark p b = set b (bitmap_byte p) (byte_at b (bitmap_byte p) - page_bit b p * 2 ^ (p % 8))

  -- ---- pages taken and given back

  -- page p taken: marked and counted, its link 0, and all its bytes 0
  unfoldable pub taken : ℕ → Bytes → Bytes
  taken p b = put (start p) (replicate g.size 0) (store (g.link p) 0 (store g.count (free_count b - 1) (mark p b)))

  -- page p given back; its bytes stay
  unfoldable pub released : Bytes → ℕ → Bytes
  released b p = store g.count (free_count b + 1) (unmark p b)

  -- k pages more at the end of a chain, each the lowest free one of N at that moment; `joint` is where the next page's number goes
  unfoldable pub grown : (N k : ℕ) → Field → Bytes → Bytes
  grown N zero joint b = b
  grown N (suc k) joint b =
      let p = lowest_free N b in
      grown N k (g.link p) (store joint p (taken p b))

  -- the pages that growth by k takes, in order
  unfoldable pub gained : (N k : ℕ) → Bytes → List ℕ
  gained N zero b = []
  gained N (suc k) b = lowest_free N b ∷ gained N k (mark (lowest_free N b) b)

  -- the joint of a chain with these pages, whose first is named at `entry`
  unfoldable pub joint_of : Field → List ℕ → Field
  joint_of entry [] = entry
  joint_of entry (p ∷ ps) = g.link (last_or p ps)

  -- v put at place `from` of the content of the chain with the pages ps, which gains k pages; and w put at position `at`, for its size
  unfoldable pub written : (N : ℕ) (entry : Field) (ps : List ℕ) (k at : ℕ) (w : Bytes) (from : ℕ) (v b : Bytes) → Bytes
  written N entry ps k at w from v b = spread content g.room (ps ++ gained N k b) from v (put at w (grown N k (joint_of entry ps) b))
