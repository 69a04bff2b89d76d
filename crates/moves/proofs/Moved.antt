-- The moved image, page by page: every page of a file or directory stands at its new place, and its links and entries follow. So the root means and
-- owns what it did.
use mathlib.Core.Path.{◌≡◌, refl, sym, ap, ◌∙◌, subst}
use Prim.Native.Nat.{ℕ, zero, suc, ◌+◌, ◌-◌, ◌*◌, ◌/◌, ◌%◌, ◌≤◌, ◌<◌}
use native.Mathlib.Omega.{arith}
use mathlib.Core.List.{List, [], ◌∷◌, ◌++◌, map, flat_map}
use lib.ListN.{length, get_or, take, drop, length-append}
use lib.Seq.{take_all, take_at, drop-append-add}
use lib.Dec.{eqb, leb, eqb→eq}
use Rattle.volume.specs.Bytes.{Bytes, byte_at, part}
use Rattle.volume.specs.Lists.{count_from, up_to}
use Rattle.volume.specs.Geometry as On
use Rattle.volume.proofs.Occ.{Mem, mem_head}
use Rattle.volume.proofs.Tests.{conditions_cons, count_from_occ}
use Rattle.volume.proofs.Puts.{byte_part, part_part, part_length}
use Rattle.volume.proofs.Flat.{flat_map_length}
use Rattle.model.specs.Layout.{page_count, valid_length, link}
use Rattle.model.specs.Entry.{entry_count, entries, Entry, vacant, a_file, a_directory, entry_at}
use Rattle.model.specs.Version1.{view}
use Rattle.model.specs.Sound.{pages_of, pages_at, reached_entries}
use Rattle.model.specs.Image.{content_on}
use Rattle.laws.proofs.Facts.{Sized, valid_sized, Facts}
use Rattle.laws.proofs.Entries.{entry_within}
use Rattle.moves.specs.Tidy.{place_of, page_at, moved_entry, moved_as, first_entry, owner_entry, moved_page, moved_bits, moved_header, moved}
use Rattle.audit.proofs.Owners.{get_d_count_from, length_count_from, owner_is}
use Rattle.moves.proofs.Renamed.{position, map_mem, DirectoryMoved, FilePageMoved, EntryMoved, Moves, directory_moves}
use Rattle.moves.proofs.Places.{Renaming, Accepted}
use Rattle.moves.proofs.Bytewise.{part_flat_map, length-map, entry_moves, length_moved_entry, count_of, start_of, length_entries, get_d_entries}

module _ (b : Bytes) (f : Facts b) (places : List ℕ) (a : Accepted b places) where
  abbrev s : Sized b
  s = valid_sized b f.fits

  abbrev to : ℕ → ℕ
  to = place_of places

  abbrev b' : Bytes
  b' = moved places b

  abbrev ren : Renaming (page_count b) (place_of places) (page_at places)
  ren = a.renames

  -- N is a multiple of 8
  pub eights : page_count b % 8 ≡ 0
  unfolding valid_length
  eights =
      let n = length b in
      let x = conditions_cons (eqb (n % 2048) 0) (leb 2048 n ∷ leb n 65536 ∷ []) f.fits in
      let e : n % 2048 ≡ 0 = eqb→eq (n % 2048) 0 x.0 in
      let q : n ≡ 2048 * (n / 2048) = omega arith in
      let r : page_count b ≡ 8 * (n / 2048) = omega (arith, s.whole) in
      omega arith

  -- ---- lengths

  entry_in : (p at : ℕ) → p < page_count b → Mem at (entries p) → at + 32 ≤ length b
  entry_in p at l m = let w = entry_within p at m in omega (arith, w.high, s.whole)

  length_moved_entries : (p : ℕ) → p < page_count b → length (flat_map (moved_entry places b) (entries p)) ≡ 32 * entry_count p
  length_moved_entries p l =
      flat_map_length (moved_entry places b) 32 (entries p) (λ at m. length_moved_entry places b at (entry_in p at l m)) ∙ ap (λ (n : ℕ). 32 * n) (length_entries p)

  length_as : (p : ℕ) → 1 ≤ p → p < page_count b → (e : Entry) → length (moved_as places b p e) ≡ 256
  unfolding moved_as
  length_as p l u vacant = part_length (256 * p) 256 b (omega (arith, s.whole))
  length_as p l u (a_file locked name date start size) = ap suc (part_length (256 * p + 1) 255 b (omega (arith, s.whole)))
  length_as p l u (a_directory name date start size) = length_moved_entries p u ∙ ap (λ (n : ℕ). 32 * n) (count_of p l)

  length_page : (p : ℕ) → 1 ≤ p → p < page_count b → length (moved_page places b p) ≡ 256
  unfolding moved_page
  length_page p l u = length_as p l u (owner_entry b p)

  abbrev used : ℕ
  used = page_count b / 8

  -- page 0 up to the root's entries
  abbrev pub front : Bytes
  front = part 0 4 b ++ map (moved_bits places b) (up_to used) ++ part (4 + used) (60 - used) b

  pub fields_length : length (part 0 4 b ++ map (moved_bits places b) (up_to used)) ≡ 4 + used
  fields_length = omega (
    arith,
    length-append (part 0 4 b) (map (moved_bits places b) (up_to used)),
    length-map (moved_bits places b) (up_to used),
    length_count_from 0 used,
    part_length 0 4 b (omega (arith, s.whole, s.low)),
  )

  pub length_front : length front ≡ 64
  length_front = omega (
    arith,
    length-append (part 0 4 b ++ map (moved_bits places b) (up_to used)) (part (4 + used) (60 - used) b),
    fields_length,
    part_length (4 + used) (60 - used) b (omega (arith, s.whole, s.low, s.high)),
    s.high,
  )

  pub header_split : moved_header places b ≡ front ++ flat_map (moved_entry places b) (entries 0)
  unfolding moved_header
  header_split = refl

  pub length_header : length (moved_header places b) ≡ 256
  length_header = omega (
    arith,
    ap length header_split,
    length-append front (flat_map (moved_entry places b) (entries 0)),
    length_front,
    length_moved_entries 0 (omega (arith, s.low)),
  )

  -- ---- the other pages

  -- what stands at a place from 1 on is a page from 1 on
  pub from_page : (q : ℕ) → 1 ≤ q → q < page_count b → 1 ≤ page_at places q
  from_page q l u = go (page_at places q) refl
    where
      go : (p : ℕ) → page_at places q ≡ p → 1 ≤ p
      go zero e = let r = (ren.onto q u).1 in absurd (omega (arith, r, ap (place_of places) e, ren.stays))
      go (suc p) e = omega arith

  pub length_at : (q : ℕ) → Mem q (count_from 1 (page_count b - 1)) → length (moved_page places b (page_at places q)) ≡ 256
  length_at q m =
      let r = count_from_occ 1 (page_count b - 1) q m in
      let u : q < page_count b = omega (arith, r.0, r.1) in
      length_page (page_at places q) (from_page q r.0 u) (ren.onto q u).0

  pub moved_length : length (moved places b) ≡ length b
  unfolding moved
  moved_length = omega (
    arith,
    length-append (moved_header places b) (flat_map (λ q. moved_page places b (page_at places q)) (count_from 1 (page_count b - 1))),
    length_header,
    flat_map_length (λ q. moved_page places b (page_at places q)) 256 (count_from 1 (page_count b - 1)) length_at,
    length_count_from 1 (page_count b - 1),
    s.whole,
    s.low,
  )

  pub pages : page_count b' ≡ page_count b
  pages = ap (λ (n : ℕ). n / 256) moved_length

  -- ---- pages

  pub header_page : part 0 256 (moved places b) ≡ moved_header places b
  unfolding moved
  header_page = take_at (moved_header places b) (flat_map (λ q. moved_page places b (page_at places q)) (count_from 1 (page_count b - 1))) 256 length_header

  page_here : (q : ℕ) → 1 ≤ q → q < page_count b → part (256 * q) 256 (moved places b) ≡ moved_page places b (page_at places q)
  unfolding moved
  page_here q l u =
      let F : Bytes = flat_map (λ q. moved_page places b (page_at places q)) (count_from 1 (page_count b - 1)) in
      let e : 256 * q ≡ length (moved_header places b) + 256 * (q - 1) = omega (arith, length_header) in
      let i : q - 1 < page_count b - 1 = omega arith in
      let g : get_or (count_from 1 (page_count b - 1)) (q - 1) 0 ≡ q = get_d_count_from 1 (page_count b - 1) (q - 1) i ∙ omega arith in
      ap (λ (k : ℕ). take 256 (drop k (moved_header places b ++ F))) e
      ∙ ap (take 256) (drop-append-add (moved_header places b) F (256 * (q - 1)))
      ∙ part_flat_map (λ q. moved_page places b (page_at places q)) 256 (count_from 1 (page_count b - 1)) (q - 1) (omega (arith, length_count_from 1 (page_count b - 1))) length_at
      ∙ ap (λ (x : ℕ). moved_page places b (page_at places x)) g

  pub place_low : (p : ℕ) → 1 ≤ p → p < page_count b → 1 ≤ to p
  place_low p l u = go (to p) refl
    where
      go : (q : ℕ) → to p ≡ q → 1 ≤ q
      go zero e = absurd (omega (arith, ren.back p u, ap (page_at places) (e ∙ sym ren.stays), ren.back 0 (omega (arith, s.low))))
      go (suc q) e = omega arith

  pub page_moved : (p : ℕ) → 1 ≤ p → p < page_count b → part (256 * to p) 256 (moved places b) ≡ moved_page places b p
  page_moved p l u = page_here (to p) (place_low p l u) (ren.low p u) ∙ ap (moved_page places b) (ren.back p u)

  -- ---- directories

  pub entry_of : (p i : ℕ) → p < page_count b → i < entry_count p → part (32 * i) 32 (flat_map (moved_entry places b) (entries p)) ≡ moved_entry places b (position p i)
  entry_of p i l u =
      part_flat_map (moved_entry places b) 32 (entries p) i (omega (arith, length_entries p)) (λ at m. length_moved_entry places b at (entry_in p at l m))
      ∙ ap (moved_entry places b) (get_d_entries p i u)

  pub position_in : (p i : ℕ) → p < page_count b → Mem i (up_to (entry_count p)) → position p i + 32 ≤ length b
  unfolding entries
  position_in p i l m = entry_in p (position p i) l (map_mem (position p) (up_to (entry_count p)) i m)

  pub root_moved : DirectoryMoved b b' to 0
  root_moved = record {
    count = ap entry_count ren.stays;
    each = λ i m.
        let r = count_from_occ 0 6 i m in
        let z = ren.stays in
        let at : position (to 0) i ≡ 0 + (64 + 32 * i) = ap (λ (p : ℕ). position p i) z ∙ omega arith in
        let n : 64 + 32 * i ≡ length front + 32 * i = omega (arith, length_front) in
        entry_moves places b b' (position 0 i) (position (to 0) i) (position_in 0 i (omega (arith, s.low)) m)
        (ap (λ (k : ℕ). part k 32 b') at
        ∙ sym (part_part 0 256 (64 + 32 * i) 32 b' (omega (arith, r.1)))
        ∙ ap (part (64 + 32 * i) 32) (header_page ∙ header_split)
        ∙ ap (λ (k : ℕ). take 32 (drop k (front ++ flat_map (moved_entry places b) (entries 0)))) n
        ∙ ap (take 32) (drop-append-add front (flat_map (moved_entry places b) (entries 0)) (32 * i))
        ∙ entry_of 0 i (omega (arith, s.low)) (omega (arith, r.1)));
    stands = λ i m.
        let r = count_from_occ 0 6 i m in
        let z = ren.stays in
        let page : position 0 i / 256 ≡ 0 = omega (arith, r.1) in
        ap (λ (p : ℕ). position p i) z ∙ sym (ap (λ (p : ℕ). 256 * to p + position 0 i % 256) page ∙ omega (arith, z, r.1));
  }

  below_moved : (p : ℕ) → 1 ≤ p → p < page_count b → moved_page places b p ≡ flat_map (moved_entry places b) (entries p) → DirectoryMoved b b' to p
  below_moved p l u e =
      let l' = place_low p l u in
      record {
        count = count_of (to p) l' ∙ sym (count_of p l);
        each = λ i m.
            let r = count_from_occ 0 (entry_count p) i m in
            let c = count_of p l in
            let at : position (to p) i ≡ 256 * to p + 32 * i = omega (arith, start_of (to p) l') in
            entry_moves places b b' (position p i) (position (to p) i) (position_in p i u m)
            (ap (λ (k : ℕ). part k 32 b') at
            ∙ sym (part_part (256 * to p) 256 (32 * i) 32 b' (omega (arith, r.1, c)))
            ∙ ap (part (32 * i) 32) (page_moved p l u ∙ e)
            ∙ entry_of p i u (omega (arith, r.1)));
        stands = λ i m.
            let r = count_from_occ 0 (entry_count p) i m in
            let c = count_of p l in
            let old = start_of p l in
            let new = start_of (to p) l' in
            let page : position p i / 256 ≡ p = omega (arith, r.1) in
            sym (ap (λ (x : ℕ). 256 * to x + position p i % 256) page ∙ omega (arith, r.1));
      }

  -- ---- files

  file_moved : (p : ℕ) → 1 ≤ p → p < page_count b → moved_page places b p ≡ to (link b p) ∷ content_on (view b) p → FilePageMoved b b' to p
  file_moved p l u e =
      let z : 256 * to p ≡ 256 * to p + 0 = omega arith in
      record {
        next = ap (byte_at b') z ∙ sym (byte_part (256 * to p) 256 0 b' (omega arith)) ∙ ap (λ (v : Bytes). byte_at v 0) (page_moved p l u ∙ e);
        content =
            sym (part_part (256 * to p) 256 1 255 b' (omega arith)) ∙ ap (part 1 255) (page_moved p l u ∙ e)
            ∙ take_all 255 (content_on (view b) p) (omega (arith, part_length (256 * p + 1) 255 b (omega (arith, s.whole))));
      }

  -- ---- all that is reached

  page_as : (at q : ℕ) → Mem at (reached_entries b) → Mem q (pages_at (view b) at) → moved_page places b q ≡ moved_as places b q (entry_at b at)
  unfolding moved_page owner_entry
  page_as at q m k = ap (λ (l : List ℕ). moved_as places b q (first_entry b l)) (owner_is b f at q m k).2

  pub entry_moved : (at : ℕ) → Mem at (reached_entries b) → (e : Entry) → entry_at b at ≡ e → EntryMoved b b' to e
  unfolding moved_as pages_of
  entry_moved at m vacant q = tt
  entry_moved at m (a_file locked name date start size) q = λ p k.
      let k' : Mem p (pages_at (view b) at) = subst (λ (e : Entry). Mem p (pages_of (view b) e)) (sym q) k in
      let o = owner_is b f at p m k' in
      file_moved p o.0 o.1 (page_as at p m k' ∙ ap (moved_as places b p) q)
  entry_moved at m (a_directory name date start size) q =
      let k' : Mem start (pages_at (view b) at) = subst (λ (e : Entry). Mem start (pages_of (view b) e)) (sym q) (mem_head start []) in
      let o = owner_is b f at start m k' in
      below_moved start o.0 o.1 (page_as at start m k' ∙ ap (moved_as places b start) q)

  pub root_moves : Moves b b' to (page_count b) 0
  root_moves = directory_moves b b' to (page_count b) 0 ren.stays root_moved f.formed (λ x m. entry_moved x m (entry_at b x) refl)
