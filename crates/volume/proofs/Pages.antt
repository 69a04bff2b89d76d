-- A page taken, a page given back, and the pages of a list given back: bits, counts, links and bytes.
-- Each is a mark, a number stored and a put at places that a lawful geometry keeps apart.
use mathlib.Core.Path.{◌≡◌, refl, ap, ◌∙◌}
use mathlib.Core.Logic.{◌≢◌, inl, inr}
use Prim.Native.Nat.{ℕ, suc, ◌+◌, ◌-◌, ◌*◌, ◌≤◌, ◌<◌}
use native.Mathlib.Omega.{arith}
use native.Mathlib.Nat.{mul-suc, mul-le-mul_left}
use native.Mathlib.Decide.{dec_lt, dec_le}
use mathlib.Core.List.{List, [], ◌∷◌, foldl}
use lib.ListN.{length, replicate, length-replicate, get_or-replicate}
use Rattle.volume.specs.Bytes.{Bytes, byte_at, put}
use Rattle.volume.specs.Field.{store}
use Rattle.volume.specs.Geometry.{Geometry, start, next, free_count, bitmap_byte, page_bit, zero_bits, mark, unmark, taken, released}
use Rattle.volume.proofs.Occ.{hit_cases, occ, Nodup, mem_head, mem_tail, mem_apart, nodup_head, nodup_tail}
use Rattle.volume.proofs.Puts.{not_inside, put_length, put_out, put_in}
use Rattle.volume.proofs.Fields.{place, wide, Off, store_length, store_out, load_store, load_same, store_zero, load_zero}
use Rattle.volume.proofs.Lawful.{Sized, Kept, Lawful}
use Rattle.volume.proofs.Marks.{mark_here, mark_other, mark_length, unmark_length, mark_out, unmark_out, unmark_here, unmark_other, bit_byte, zeros_cong}

module _ (g : Geometry) (home : ℕ → ℕ) (N : ℕ) where
  -- b' is b with page p taken
  pub record Taken (p : ℕ) (b b' : Bytes) : Type 0 where
    pub size : length b' ≡ length b
    pub bit_here : page_bit g b' p ≡ 1
    pub bits : (q : ℕ) → q < N → q ≢ p → page_bit g b' q ≡ page_bit g b q
    pub count : free_count g b' ≡ free_count g b - 1
    pub rest : (i : ℕ) → Kept g N i → home i ≢ p → byte_at b' i ≡ byte_at b i
    pub page : (i : ℕ) → start g p ≤ i → i < start g p + g.size → byte_at b' i ≡ 0
    pub ends : next g b' p ≡ 0

module _ (g : Geometry) (N : ℕ) where
  -- b' is b with page p given back
  pub record Released (p : ℕ) (b b' : Bytes) : Type 0 where
    pub size : length b' ≡ length b
    pub bit_here : page_bit g b' p ≡ 0
    pub bits : (q : ℕ) → q < N → q ≢ p → page_bit g b' q ≡ page_bit g b q
    pub count : free_count g b' ≡ free_count g b + 1
    pub rest : (i : ℕ) → Kept g N i → byte_at b' i ≡ byte_at b i

  -- b' is b with the pages ps given back
  pub record Freed (ps : List ℕ) (b b' : Bytes) : Type 0 where
    pub size : length b' ≡ length b
    pub bits : (q : ℕ) → q < N → page_bit g b' q + occ q ps ≡ page_bit g b q
    pub count : free_count g b' ≡ free_count g b + length ps
    pub rest : (i : ℕ) → Kept g N i → byte_at b' i ≡ byte_at b i

  -- images whose bitmaps' bytes agree have the same bits
  pub bits_same : (b b' : Bytes) → ((q : ℕ) → q < N → byte_at b' (bitmap_byte g q) ≡ byte_at b (bitmap_byte g q)) → (q : ℕ) → q < N → page_bit g b' q ≡ page_bit g b q
  bits_same b b' h q k = bit_byte g b b' q (h q k)

  pub zeros_same : (b b' : Bytes) → ((q : ℕ) → q < N → byte_at b' (bitmap_byte g q) ≡ byte_at b (bitmap_byte g q)) → zero_bits g b' N ≡ zero_bits g b N
  zeros_same b b' h = zeros_cong g b b' N (bits_same b b' h)

module _ (g : Geometry) (home : ℕ → ℕ) (N : ℕ) (law : Lawful g home N) where
  -- ---- where things are

  pub page_in : (p : ℕ) → p < N → start g p + g.size ≤ g.size * N
  page_in p h = omega (arith, mul-suc g.size p, mul-le-mul_left {m = suc p} {n = N} g.size h)

  pub count_in : place g.count + wide g.count ≤ g.size * N
  count_in = omega (arith, law.order, law.map_in)

  pub map_in : (p : ℕ) (b : Bytes) → Sized g N b → p ≤ N → bitmap_byte g p < length b
  map_in p b s h = omega (arith, law.map_in)

  -- bytes outside of a page, of a link, of the count and the bitmap, by the page that they belong to
  pub off_page : (p i : ℕ) → g.aside ≤ p → home i ≢ p → start g p ≤ i → start g p + g.size ≤ i
  off_page p i h ne = not_inside (start g p) g.size i (λ l k. ne (law.of_page p i h l k))

  pub off_link : (p i : ℕ) → p < N → home i ≢ p → Off (g.link p) i
  off_link p i h ne = not_inside (place (g.link p)) (wide (g.link p)) i (λ l k. ne (law.of_link p i h l k))

  pub kept : (i : ℕ) → home i ≢ 0 → Kept g N i
  kept i ne = record {
    count = not_inside (place g.count) (wide g.count) i (λ l k. ne (law.of_count i l k));
    map = λ q h e. ne (ap home e ∙ law.of_map q h);
  }

  pub page_kept : (p i : ℕ) → g.aside ≤ p → start g p ≤ i → i < start g p + g.size → Kept g N i
  page_kept p i a k l = kept i (λ e. omega (arith, law.of_page p i a k l, e, law.header, a))

  pub link_kept : (p i : ℕ) → g.aside ≤ p → p < N → place (g.link p) ≤ i → i < place (g.link p) + wide (g.link p) → Kept g N i
  link_kept p i a h k l = kept i (λ e. omega (arith, law.of_link p i h k l, e, law.header, a))

  -- ---- one page taken

  -- page p marked and counted, and then its link 0 and z written over it
  abbrev counted : ℕ → Bytes → Bytes
  counted p b = store g.count (free_count g b - 1) (mark g p b)

  abbrev whole : ℕ → Bytes → Bytes → Bytes
  whole p z b = put (start g p) z (store (g.link p) 0 (counted p b))

  module _ (p : ℕ) (z b : Bytes) (s : Sized g N b) (ha : g.aside ≤ p) (hp : p < N) (lz : length z ≡ g.size) where
    map_fits : bitmap_byte g p < length b
    map_fits = map_in p b s (omega arith)

    len : length (store (g.link p) 0 (counted p b)) ≡ length b
    len = store_length (g.link p) 0 (counted p b) ∙ store_length g.count (free_count g b - 1) (mark g p b) ∙ mark_length g p b

    fits : start g p + length z ≤ length (store (g.link p) 0 (counted p b))
    fits = omega (arith, len, page_in p hp)

    outside : (i : ℕ) → home i ≢ p → byte_at (whole p z b) i ≡ byte_at (counted p b) i
    outside i ne =
        put_out (start g p) z (store (g.link p) 0 (counted p b)) fits i (λ l. omega (arith, off_page p i ha ne l))
        ∙ store_out (g.link p) 0 (counted p b) i (off_link p i hp ne)

    -- page 0 is not p
    low : (i : ℕ) → home i ≡ 0 → home i ≢ p
    low i e u = omega (arith, law.header, e, u)

    bitmap : (q : ℕ) → q < N → byte_at (whole p z b) (bitmap_byte g q) ≡ byte_at (mark g p b) (bitmap_byte g q)
    bitmap q h =
        outside (bitmap_byte g q) (low (bitmap_byte g q) (law.of_map q h))
        ∙ store_out g.count (free_count g b - 1) (mark g p b) (bitmap_byte g q) (λ l. omega (arith, law.order))

    is_taken : ((i : ℕ) → i < g.size → byte_at z i ≡ 0) → Taken g home N p b (whole p z b)
    is_taken zeroed = record {
      size = put_length (start g p) z (store (g.link p) 0 (counted p b)) fits ∙ len;
      bit_here = bits_same g N (mark g p b) (whole p z b) bitmap p hp ∙ mark_here g b p map_fits;
      bits = λ q k ne. bits_same g N (mark g p b) (whole p z b) bitmap q k ∙ mark_other g b p q map_fits ne;
      count =
          load_same g.count (counted p b) (whole p z b) (λ i k l. outside i (low i (law.of_count i k l)))
          ∙ load_store g.count (free_count g b - 1) (mark g p b) (omega (arith, mark_length g p b, count_in));
      rest = λ i k ne. outside i ne ∙ store_out g.count (free_count g b - 1) (mark g p b) i k.count ∙ mark_out g p b i (k.map p hp);
      page = page;
      ends = load_zero (g.link p) (whole p z b) (λ i k l. elim (dec_le (start g p) i) [
        | yes u ↦ elim (dec_lt i (start g p + g.size)) [ yes v ↦ page i u v | no v ↦ beside i k l (λ w. omega arith) ]
        | no u ↦ beside i k l (λ w. omega arith)
      ]);
    }
      where
        page : (i : ℕ) → start g p ≤ i → i < start g p + g.size → byte_at (whole p z b) i ≡ 0
        page i k l =
            let at : i ≡ start g p + (i - start g p) = omega arith in
            ap (byte_at (whole p z b)) at
            ∙ put_in (start g p) z (store (g.link p) 0 (counted p b)) fits (i - start g p) (omega arith) ∙ zeroed (i - start g p) (omega arith)

        beside : (i : ℕ) → place (g.link p) ≤ i → i < place (g.link p) + wide (g.link p) → (start g p ≤ i → start g p + g.size ≤ i) → byte_at (whole p z b) i ≡ 0
        beside i k l o =
            put_out (start g p) z (store (g.link p) 0 (counted p b)) fits i (λ u. omega (arith, o u))
            ∙ store_zero (g.link p) (counted p b) i (omega (arith, len, store_length (g.link p) 0 (counted p b), law.links_in p hp)) k l

  pub taken_is : (p : ℕ) (b : Bytes) → Sized g N b → g.aside ≤ p → p < N → Taken g home N p b (taken g p b)
  unfolding taken
  taken_is p b s h k = is_taken p (replicate g.size 0) b s h k (length-replicate {A = ℕ} g.size 0) (λ i l. get_or-replicate {A = ℕ} g.size i 0 0 l)

  -- ---- one page given back

  pub released_is : (p : ℕ) (b : Bytes) → Sized g N b → p < N → Released g N p b (released g b p)
  unfolding released
  released_is p b s hp = record {
    size = store_length g.count n (unmark g p b) ∙ unmark_length g p b;
    bit_here = bits_same g N (unmark g p b) (store g.count n (unmark g p b)) bitmap p hp ∙ unmark_here g b p fits;
    bits = λ q l ne. bits_same g N (unmark g p b) (store g.count n (unmark g p b)) bitmap q l ∙ unmark_other g b p q fits ne;
    count = load_store g.count n (unmark g p b) (omega (arith, unmark_length g p b, count_in));
    rest = λ i k. store_out g.count n (unmark g p b) i k.count ∙ unmark_out g p b i (k.map p hp);
  }
    where
      n : ℕ
      n = free_count g b + 1

      fits : bitmap_byte g p < length b
      fits = map_in p b s (omega arith)

      bitmap : (q : ℕ) → q < N → byte_at (store g.count (free_count g b + 1) (unmark g p b)) (bitmap_byte g q) ≡ byte_at (unmark g p b) (bitmap_byte g q)
      bitmap q h = store_out g.count (free_count g b + 1) (unmark g p b) (bitmap_byte g q) (λ l. omega (arith, law.order))

  -- ---- the pages of a list given back

  -- a marked page given back: one less at p
  released_bits : (p : ℕ) (b b' : Bytes) → Released g N p b b' → page_bit g b p ≡ 1 → (q : ℕ) → q < N → page_bit g b' q + occ q (p ∷ []) ≡ page_bit g b q
  released_bits p b b' o one q l = elim (hit_cases q p) [
    | inl e ↦ omega (arith, e.1, ap (page_bit g b') e.0, o.bit_here, ap (page_bit g b) e.0)
    | inr e ↦ omega (arith, e.1, o.bits q l e.0)
  ]

  pub freed_is : (ps : List ℕ) (b : Bytes) → Sized g N b → ((p : ℕ) → 1 ≤ occ p ps → (p < N) × (page_bit g b p ≡ 1)) → Nodup ps
      → Freed g N ps b (foldl (released g) b ps)
  freed_is [] b s h d = record { size = refl; bits = λ q l. omega arith; count = omega arith; rest = λ i k. refl }
  freed_is (p ∷ ps) b s h d =
      let t = h p (mem_head p ps) in
      let o = released_is p b s t.0 in
      let apart : (q : ℕ) → 1 ≤ occ q ps → q ≢ p = λ q m. mem_apart q p ps m (nodup_head p ps d) in
      let under : (q : ℕ) → 1 ≤ occ q ps → q < N = λ q m. (h q (mem_tail q p ps m)).0 in
      let one : (q : ℕ) → 1 ≤ occ q ps → page_bit g (released g b p) q ≡ 1 = λ q m. o.bits q (under q m) (apart q m) ∙ (h q (mem_tail q p ps m)).1 in
      let r = freed_is ps (released g b p) (o.size ∙ s) (λ q m. (under q m, one q m)) (nodup_tail p ps d) in
      record {
        size = r.size ∙ o.size;
        bits = λ q l. omega (arith, r.bits q l, released_bits p b (released g b p) o t.1 q l);
        count = omega (arith, r.count, o.count);
        rest = λ i k. r.rest i k ∙ o.rest i k;
      }
