-- A chain grown by pages that are claimed, that is taken without their bytes being zeroed, and by a last one that is zeroed: it is what growth makes, but for
-- the content of the pages claimed, since count, bitmap, links and joint are read and stored outside of it.
use mathlib.Core.Path.{◌≡◌, refl, sym, ap, ◌∙◌, subst, subst₂}
use mathlib.Core.Logic.{◌≢◌, inl, inr}
use Prim.Native.Nat.{ℕ, suc, ◌+◌, ◌-◌, ◌≤◌, ◌<◌}
use native.Mathlib.Nat.{sub-zero}
use native.Mathlib.Omega.{arith}
use native.Mathlib.Decide.{dec_le, dec_lt, ℕ_discrete}
use mathlib.Core.List.{List, [], ◌∷◌, ◌++◌, append_assoc}
use lib.ListN.{length, take, replicate, length-replicate, length-append}
use lib.Seq.{take_at}
use Rattle.volume.specs.Bytes.{Bytes, byte_at}
use Rattle.volume.specs.Chain.{chain}
use Rattle.volume.specs.Field.{Field, store}
use Rattle.volume.specs.Geometry.{Geometry, start, content, next, free_count, bitmap_byte, page_bit, lowest_free, mark, taken, grown, gained}
use Rattle.volume.proofs.Occ.{Mem, mem_head, mem_tail, mem_cons, occ_append}
use Rattle.volume.proofs.Puts.{not_inside, put_out}
use Rattle.volume.proofs.Chains.{chain_frame}
use Rattle.volume.proofs.Fields.{place, wide, store_length, store_zero, load_same}
use Rattle.volume.proofs.Lawful.{Sized, Lawful}
use Rattle.volume.proofs.Marks.{mark_length, bit_byte, zeros_cong, lowest_cong, lowest_free_lem}
use Rattle.volume.proofs.Pages.{Taken, taken_is, page_in, count_in, map_in}
use Rattle.volume.proofs.Grow.{Room, Step, gained_next, room_next}
use Rattle.volume.proofs.Follow.{Lies}
use Rattle.volume.proofs.Stores.{claimed}
use Rattle.volume.proofs.Growing.{Growing, Adding, adding_first, adding_one, adding_link, adding_turn}
use Rattle.volume.proofs.Unzeroed.{OffContent, ButFor, but_more, but_put, but_store, but_mark}

module _ (g : Geometry) where
  -- a page's bytes before its content are its link
  abbrev pub LinkThenContent : Type 0
  LinkThenContent = (p i : ℕ) → start g p ≤ i → i < content g p → (place (g.link p) ≤ i) × (i < place (g.link p) + wide (g.link p))

  -- pages of an image of N, and none of those set aside
  pub record Within (N : ℕ) (qs : List ℕ) : Type 0 where
    pub page : (q : ℕ) → Mem q qs → (g.aside ≤ q) × (q < N)

  claimed_length : (p : ℕ) (b : Bytes) → length (claimed g p b) ≡ length b
  unfolding claimed
  claimed_length p b =
      store_length (g.link p) 0 (store g.count (free_count g b - 1) (mark g p b))
      ∙ store_length g.count (free_count g b - 1) (mark g p b) ∙ mark_length g p b

module _ {g : Geometry} {home : ℕ → ℕ} {N : ℕ} (law : Lawful g home N) {qs : List ℕ} (in_image : Within g N qs) where
  -- ---- bytes that are no content of the pages: those of other pages, and links

  pub off_others : (i : ℕ) → ((q : ℕ) → Mem q qs → home i ≢ q) → OffContent g qs i
  off_others i ne q m = not_inside (content g q) g.room i (λ l u. ne q m (law.of_page q i (in_image.page q m).0 (omega arith) (omega (arith, law.room))))

  off_header : (i : ℕ) → home i ≡ 0 → OffContent g qs i
  off_header i e = off_others i (λ q m u. omega (arith, e, u, law.header, (in_image.page q m).0))

  pub off_links : (p : ℕ) → g.aside ≤ p → p < N → (i : ℕ) → place (g.link p) ≤ i → i < place (g.link p) + wide (g.link p) → OffContent g qs i
  off_links p a h i l u q m = elim (ℕ_discrete q p) [
    | yes e ↦ subst (λ (x : ℕ). content g x ≤ i → content g x + g.room ≤ i) (sym e) (λ k. absurd (omega (arith, law.apart p i a h k l)))
    | no ne ↦ not_inside (content g q) g.room i (λ k v. ne (sym (law.of_page q i (in_image.page q m).0 (omega arith) (omega (arith, law.room))) ∙ law.of_link p i h l u))
  ]

  module _ {b b' : Bytes} (r : ButFor g qs b b') where
    pub but_bits : (q : ℕ) → q < N → page_bit g b' q ≡ page_bit g b q
    but_bits q h = bit_byte g b b' q (r.bytes (bitmap_byte g q) (off_header (bitmap_byte g q) (law.of_map q h)))

    but_count : free_count g b' ≡ free_count g b
    but_count = load_same g.count b b' (λ i l u. r.bytes i (off_header i (law.of_count i l u)))

    but_link : (p : ℕ) → g.aside ≤ p → p < N → next g b' p ≡ next g b p
    but_link p a h = load_same (g.link p) b b' (λ i l u. r.bytes i (off_links p a h i l u))

    pub but_chain : (k p : ℕ) → ((q : ℕ) → Mem q (chain (next g b) k p) → (g.aside ≤ q) × (q < N)) → chain (next g b') k p ≡ chain (next g b) k p
    but_chain k p h = sym (chain_frame (next g b) (next g b') k p (λ q m. sym (but_link q (h q m).0 (h q m).1))).0

    but_room : {k own : ℕ} {joint : Field} → ((i : ℕ) → place joint ≤ i → i < place joint + wide joint → OffContent g qs i)
        → Room g home N k joint own b → Room g home N k joint own b'
    but_room {k} {own} {joint} off c =
        let aside : (q : ℕ) → q < g.aside → page_bit g b' q ≡ page_bit g b q = λ q h. elim (dec_lt q N) [
          | yes l ↦ but_bits q l
          | no l ↦ bit_byte g b b' q (r.bytes (bitmap_byte g q) (λ x m. absurd (omega (arith, in_image.page x m))))
        ] in
        record {
          size = r.size ∙ c.size;
          aside = λ q h. aside q h ∙ c.aside q h;
          enough = omega (arith, c.enough, zeros_cong g b b' N but_bits);
          held = record {
            inside = omega (arith, c.held.inside, r.size);
            bytes = c.held.bytes;
            page = c.held.page;
            marked = but_bits own c.held.page ∙ c.held.marked;
          };
          empty = load_same joint b b' (λ i l u. r.bytes i (off i l u)) ∙ c.empty;
        }

    -- ---- a page taken in both

    module _ (p : ℕ) (s : Sized g N b) (h : p < N) where
      but_claimed : ButFor g qs (claimed g p b) (claimed g p b')
      unfolding claimed
      but_claimed =
          let m = but_mark r p (map_in g home N law p b s (omega arith)) (off_header (bitmap_byte g p) (law.of_map p h)) in
          let c = but_store m g.count (free_count g b - 1) (omega (arith, mark_length g p b, count_in g home N law)) in
          let b₁ : Bytes = store g.count (free_count g b - 1) (mark g p b) in
          let size : length b₁ ≡ length b = store_length g.count (free_count g b - 1) (mark g p b) ∙ mark_length g p b in
          subst (λ (x : ℕ). ButFor g qs (store (g.link p) 0 b₁) (store (g.link p) 0 (store g.count (x - 1) (mark g p b')))) (sym but_count)
          (but_store c (g.link p) 0 (omega (arith, size, law.links_in p h)))

      fits : start g p + length {A = ℕ} (replicate g.size 0) ≤ length (claimed g p b)
      fits = omega (arith, length-replicate {A = ℕ} g.size 0, claimed_length g p b, page_in g home N law p h)

      but_taken : ButFor g qs (taken g p b) (taken g p b')
      unfolding taken claimed
      but_taken = but_put but_claimed (start g p) (replicate g.size 0) fits

      -- zeroed in the first alone
      but_left : LinkThenContent g → g.aside ≤ p → ButFor g (p ∷ qs) (taken g p b) (claimed g p b')
      unfolding taken claimed
      but_left then a = record {
        size = claimed_length g p b' ∙ r.size ∙ sym t.size;
        bytes = λ i o.
            let other : (start g p ≤ i → start g p + g.size ≤ i) → byte_at (claimed g p b') i ≡ byte_at (taken g p b) i = λ out.
            but_claimed.bytes i (λ q m. o q (mem_tail q p qs m))
            ∙ sym (put_out (start g p) (replicate g.size 0) (claimed g p b) fits i (λ l. omega (arith, length-replicate {A = ℕ} g.size 0, out l))) in
            elim (dec_le (start g p) i) [
              | yes l ↦ elim (dec_lt i (content g p)) [
                | yes u ↦ (let k = then p i l u in
                    store_zero (g.link p) (store g.count (free_count g b' - 1) (mark g p b')) i
                    (omega (arith, claimed_length g p b', store_length (g.link p) 0 (store g.count (free_count g b' - 1) (mark g p b')), r.size, law.links_in p h)) k.0 k.1
                    ∙ sym (t.page i l (omega (arith, law.room))))
                | no u ↦ other (λ v. omega (arith, law.room, o p (mem_head p qs) (omega arith)))
              ]
              | no l ↦ other (λ v. absurd (omega arith))
            ];
      }
        where
          t : Taken g home N p b (taken g p b)
          t = taken_is g home N law p b s a h

-- ---- the chain

module _ {g : Geometry} {n : ℕ} where
  but_growing : {qs : List ℕ} {b b' : Bytes} {k : ℕ} {joint : Field} (c : Growing g n k joint b) → Within g n qs
      → ((i : ℕ) → place joint ≤ i → i < place joint + wide joint → OffContent g qs i) → ButFor g qs b b' → Growing g n k joint b'
  but_growing c w off r = record {
    home = c.home;
    lawful = c.lawful;
    words = record { few = c.words.few; bytes = omega (arith, c.words.bytes, r.size) };
    fits = c.fits;
    links = c.links;
    counted = omega (arith, c.counted, but_count c.lawful w r);
    own = c.own;
    room = but_room c.lawful w r off c.room;
  }

  module _ {joint : Field} {b : Bytes} (c : Growing g n 1 joint b) where
    abbrev page : ℕ
    page = lowest_free g n b

    page_is : (g.aside ≤ page) × (page < n) × Step g c.home n page joint b (store joint page (taken g page b))
    page_is = let t = room_next c.lawful 0 joint c.own b c.room in (t.0, t.1, t.3)

    page_within : {qs : List ℕ} → Within g n qs → Within g n (page ∷ qs)
    page_within {qs} w = record {
      page = λ q m. elim (mem_cons q page qs m) [
        | inl e ↦ (omega (arith, e, page_is.0), omega (arith, e, page_is.1))
        | inr k ↦ w.page q k
      ];
    }

    -- one page more in both, claimed or zeroed in the second
    module _ {qs : List ℕ} (w : Within g n qs) {b' : Bytes} (r : ButFor g qs b b') where
      same_page : lowest_free g n b' ≡ page
      same_page = lowest_cong g n b b' (but_bits c.lawful w r)

      in_taken : place joint + wide joint ≤ length (taken g page b)
      in_taken = omega (arith, c.room.held.inside, (taken_is g c.home n c.lawful page b c.room.size page_is.0 page_is.1).size)

      but_one : ButFor g qs (grown g n 1 joint b) (grown g n 1 joint b')
      unfolding grown
      but_one =
          subst (λ (p : ℕ). ButFor g qs (store joint page (taken g page b)) (store joint p (taken g p b'))) (sym same_page)
          (but_store (but_taken c.lawful w r page c.room.size page_is.1) joint page in_taken)

      but_claim : LinkThenContent g → ButFor g (page ∷ qs) (grown g n 1 joint b) (store joint page (claimed g page b'))
      unfolding grown
      but_claim then = but_store (but_left c.lawful w r page c.room.size page_is.1 then page_is.0) joint page in_taken

    -- a page claimed is marked as one taken
    pub claimed_bits : LinkThenContent g → {p : ℕ} {b' : Bytes} → p ≡ page → b' ≡ store joint p (claimed g p b)
        → (q : ℕ) → q < n → page_bit g b' q ≡ page_bit g (grown g n 1 joint b) q
    claimed_bits then {p} {b'} ep e q h =
        let none : Within g n [] = record { page = λ x m. absurd (omega arith) } in
        let self : ButFor g [] b b = record { size = refl; bytes = λ i o. refl } in
        ap (λ (d : Bytes). page_bit g d q) (e ∙ ap (λ (x : ℕ). store joint x (claimed g x b)) ep)
        ∙ but_bits c.lawful (page_within none) (but_claim none self then) q h

-- i pages are claimed
pub record Claiming (g : Geometry) (n count : ℕ) (joint₀ : Field) (b₀ : Bytes) (i : ℕ) (joint : Field) (b : Bytes) : Type 0 where
  -- the image if they were zeroed too
  pub zeroed : Bytes
  pub adding : Adding g n count joint₀ b₀ i joint zeroed
  pub pages : List ℕ
  pub many : length pages ≡ i
  pub order : gained g n count b₀ ≡ pages ++ gained g n (count - i) zeroed
  pub within : Within g n pages
  pub off : (j : ℕ) → place joint ≤ j → j < place joint + wide joint → OffContent g pages j
  pub same : ButFor g pages zeroed b

module _ {g : Geometry} {n count : ℕ} {joint₀ : Field} {b₀ : Bytes} where
  pub claiming_first : Growing g n count joint₀ b₀ → Claiming g n count joint₀ b₀ 0 joint₀ b₀
  claiming_first c = record {
    zeroed = b₀;
    adding = adding_first c;
    pages = [];
    many = refl;
    order = ap (λ (k : ℕ). gained g n k b₀) (sym (sub-zero count));
    within = record { page = λ q m. absurd (omega arith) };
    off = λ j l u q m. absurd (omega arith);
    same = record { size = refl; bytes = λ i o. refl };
  }

  module _ {i : ℕ} {joint : Field} {b : Bytes} (r : Claiming g n count joint₀ b₀ i joint b) where
    pub claiming_size : length b ≡ length b₀
    claiming_size = r.same.size ∙ r.adding.size

    module _ (h : i < count) where
      one : Growing g n 1 joint r.zeroed
      one = adding_one r.adding h

      pub claiming_one : Growing g n 1 joint b
      claiming_one = but_growing one r.within r.off r.same

      pub claiming_link : {p : ℕ} → p ≡ lowest_free g n b → Lies (g.link p) b₀
      claiming_link e = adding_link r.adding h (e ∙ same_page one r.within r.same)

      claiming_next : LinkThenContent g → let p = lowest_free g n r.zeroed in
          Claiming g n count joint₀ b₀ (i + 1) (g.link p) (store joint p (claimed g p b))
      unfolding grown gained
      claiming_next then =
          let p = lowest_free g n r.zeroed in
          let t = page_is one in
          let d : Bytes = grown g n 1 joint r.zeroed in
          let both : List ℕ = r.pages ++ (p ∷ []) in
          let among : (q : ℕ) → Mem q both → Mem q (p ∷ r.pages) = λ q m. omega (arith, occ_append q r.pages (p ∷ [])) in
          let all : (q : ℕ) → Mem q (p ∷ r.pages) → Mem q both = λ q m. omega (arith, occ_append q r.pages (p ∷ [])) in
          let w : Within g n both = record { page = λ q m. (page_within one r.within).page q (among q m) } in
          let left : count - i ≡ suc (count - (i + 1)) = omega arith in
          record {
            zeroed = d;
            adding = adding_turn r.adding h refl refl refl;
            pages = both;
            many = length-append r.pages (p ∷ []) ∙ omega (arith, r.many);
            order = r.order ∙ ap (λ (k : ℕ). r.pages ++ gained g n k r.zeroed) left
                ∙ ap (λ (xs : List ℕ). r.pages ++ (p ∷ xs))
                (sym (gained_next one.lawful (count - (i + 1)) p joint r.zeroed d one.room.size t.1
                (lowest_free_lem g n r.zeroed (omega (arith, one.room.enough))).1 t.2))
                ∙ sym (append_assoc r.pages (p ∷ []) (gained g n (count - (i + 1)) d));
            within = w;
            off = off_links one.lawful w p t.0 t.1;
            same = but_more all (but_claim one r.within r.same then);
          }

      pub claiming_turn : LinkThenContent g → {p : ℕ} {joint' : Field} {b' : Bytes} → p ≡ lowest_free g n b → joint' ≡ g.link p
          → b' ≡ store joint p (claimed g p b) → Claiming g n count joint₀ b₀ (i + 1) joint' b'
      claiming_turn then {p} {joint'} {b'} ep ej eb =
          let e : p ≡ lowest_free g n r.zeroed = ep ∙ same_page one r.within r.same in
          subst₂ (λ (j : Field) (d : Bytes). Claiming g n count joint₀ b₀ (i + 1) j d) (sym (ej ∙ ap g.link e))
          (sym (eb ∙ ap (λ (x : ℕ). store joint x (claimed g x b)) e)) (claiming_next then)

    -- the last page, which is zeroed
    pub claiming_last : i + 1 ≡ count → {b' : Bytes} → b' ≡ grown g n 1 joint b
        → ButFor g (take (count - 1) (gained g n count b₀)) (grown g n count joint₀ b₀) b'
    claiming_last e {b'} eb =
        let last : count - i ≡ 1 = omega arith in
        let many : length r.pages ≡ count - 1 = omega (arith, r.many) in
        let front : take (count - 1) (gained g n count b₀) ≡ r.pages =
        ap (take (count - 1)) r.order ∙ take_at r.pages (gained g n (count - i) r.zeroed) (count - 1) many in
        subst (λ (qs : List ℕ). ButFor g qs (grown g n count joint₀ b₀) b') (sym front)
        (subst₂ (ButFor g r.pages) (ap (λ (k : ℕ). grown g n k joint r.zeroed) (sym last) ∙ r.adding.same) (sym eb)
        (but_one (one (omega arith)) r.within r.same))

-- no page at all
pub claiming_none : (g : Geometry) (n count : ℕ) (joint : Field) (b : Bytes) → count ≡ 0
    → ButFor g (take (count - 1) (gained g n count b)) (grown g n count joint b) b
unfolding grown
claiming_none g n count joint b e =
    subst (λ (d : Bytes). ButFor g (take (count - 1) (gained g n count b)) d b) (ap (λ (k : ℕ). grown g n k joint b) (sym e))
    (record { size = refl; bytes = λ i o. refl })
