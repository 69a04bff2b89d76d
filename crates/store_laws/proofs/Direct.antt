-- The pages of the stores as the code works them out: the header's copy with the pages claimed, each content page from its stretch of the content and the
-- page claimed after it, the parent's page with the new entry. They are the pages of the image that make and write leave, byte for byte.
use mathlib.Core.Path.{◌≡◌, refl, sym, ap, ◌∙◌, subst}
use mathlib.Core.Logic.{◌≢◌}
use Prim.Native.Nat.{ℕ, zero, suc, ◌+◌, ◌-◌, ◌*◌, ◌/◌, ◌≤◌, ◌<◌}
use native.Mathlib.Nat.{zero-add, add-zero}
use native.Mathlib.Omega.{arith}
use native.Mathlib.Decide.{dec_lt, ℕ_discrete}
use mathlib.Core.Bool.{Bool, true, false}
use mathlib.Core.List.{List, [], ◌∷◌, ◌++◌, flat_map}
use lib.ListN.{length, get_or, set, drop, replicate, length-set, length-take, length-drop, length-append, length-replicate, get_or-replicate, get_or-append}
use lib.Seq.{ext_get_or, get_or-append-add, get_or-set_same, get_or-set_other}
use lib.Dec.{T, eqb, ltb}
use borrow.Author.Tests.{lt-ltb, le-ltb, eq-eqb, ne_eqb}
use Rattle.volume.specs.Bytes.{Bytes, byte_at, part, put, zeros}
use Rattle.std.specs.Prelude.{if◌then◌else◌}
use Rattle.volume.specs.Chain.{chain, beyond}
use Rattle.volume.specs.Geometry as On
use Rattle.volume.proofs.Occ.{occ, Mem, not_mem}
use Rattle.volume.proofs.Puts.{put_length, put_out, put_in, byte_part, part_length}
use Rattle.model.specs.Layout.{version1, page_count, link}
use Rattle.model.specs.Entry.{entries, start_at, new_entry}
use Rattle.model.specs.Store.{store_of, last_pages}
use Rattle.laws.proofs.Facts.{Facts}
use Rattle.laws.proofs.Slots.{size}
use Rattle.laws.proofs.Entries.{Within, entry_within}
use Rattle.laws.proofs.NewEntry.{new_length}
use Rattle.store_laws.specs.Claim.{claimed, page_after, link_after, content_page, started_entry}
use Rattle.store_laws.proofs.Claims.{Alike, lowest_alike, claimed_alike, part_alike, gained_nth, claimed_far, claimed_length}
use Rattle.store_laws.proofs.Nth.{chain_next, chain_end, flat_map_nth, mem_nth}
use Rattle.store_laws.proofs.Stored.{StoredOn}

module _ (b d name date v : Bytes) (f : Facts b) (t at k : ℕ) (qs : List ℕ) (on : StoredOn b d name date v t at k qs) (enough : length v ≤ 255 * k) where
  abbrev N : ℕ
  N = page_count b

  -- the copy of the header page
  abbrev h : Bytes
  h = part 0 256 b

  high : page_count b ≤ 256
  high = (size f).high

  whole : length b ≡ 256 * page_count b
  whole = (size f).whole

  long : length d ≡ 256 * page_count b
  long = on.renewed.long ∙ whole

  copy_alike : Alike (part 0 256 b) b
  copy_alike = part_alike b (omega (arith, whole, (size f).low))

  -- ---- the pages of the content

  pub nth_page : (j : ℕ) → j < k → get_or qs j 0 ≡ page_after (page_count b) j (part 0 256 b)
  nth_page j l =
      ap (λ (r : List ℕ). get_or r j 0) on.gains ∙ gained_nth (page_count b) (omega (arith, (size f).low)) high k j b whole l
      ∙ sym (lowest_alike (page_count b) high (claimed (page_count b) j (part 0 256 b)) (claimed (page_count b) j b) (claimed_alike (page_count b) high j (part 0 256 b) b copy_alike))

  nth_of : (j : ℕ) → get_or qs j 0 ≡ get_or (chain (link d) k (start_at d at)) j 0
  nth_of j = ap (λ (r : List ℕ). get_or r j 0) (sym on.linked)

  nth_link : (j : ℕ) → j < k → byte_at d (256 * get_or qs j 0) ≡ link_after (page_count b) k j (part 0 256 b)
  unfolding link_after
  nth_link j l = elim (dec_lt (suc j) k) [
    | yes u ↦ rw (lt-ltb (suc j) k u) (ap (link d) (nth_of j) ∙ chain_next (link d) k (start_at d at) j u ∙ sym (nth_of (suc j)) ∙ nth_page (suc j) u)
    | no u ↦ rw (le-ltb (suc j) k (omega arith)) (ap (link d) (nth_of j) ∙ last k (omega arith) on.ends)
  ]
    where
      last : (m : ℕ) → m ≡ suc j → beyond (link d) m (start_at d at) ≡ 0 → link d (get_or (chain (link d) m (start_at d at)) j 0) ≡ 0
      last m e z =
          ap (λ (x : ℕ). link d (get_or (chain (link d) x (start_at d at)) j 0)) e ∙ chain_end (link d) j (start_at d at)
          ∙ ap (λ (x : ℕ). beyond (link d) x (start_at d at)) (sym e) ∙ z

  module _ (j : ℕ) (l : j < k) where
    abbrev p : ℕ
    p = get_or qs j 0

    -- the bytes for page j
    abbrev u : Bytes
    u = part (255 * j) 255 v

    abbrev to : ℕ
    to = link_after (page_count b) k j (part 0 256 b)

    abbrev base : Bytes
    base = set (zeros 256) 0 (link_after (page_count b) k j (part 0 256 b))

    mem : Mem (get_or qs j 0) qs
    mem = mem_nth qs j (omega (arith, on.many))

    under : get_or qs j 0 < page_count b
    under = (on.free (get_or qs j 0) mem).1

    room_of : (q : ℕ) → Mem q qs → length (On.content_on version1 d q) ≡ 255
    room_of q m = part_length (256 * q + 1) 255 d (omega (arith, long, (on.free q m).1))

    u_long : length (part (255 * j) 255 v) ≤ 255
    u_long = omega (arith, length-take 255 (drop (255 * j) v))

    zeros_long : length (zeros 256) ≡ 256
    unfolding zeros
    zeros_long = length-replicate {A = ℕ} 256 0

    base_long : length base ≡ 256
    base_long = length-set (zeros 256) 0 to ∙ zeros_long

    fits : 1 + length (part (255 * j) 255 v) ≤ length base
    fits = omega (arith, base_long, u_long)

    -- byte i of the page's content, in the image and on the page as worked out
    in_image : (i : ℕ) → i < 255 → byte_at d (256 * get_or qs j 0 + 1 + i) ≡ byte_at (put 0 v (replicate (255 * k) 0)) (255 * j + i)
    in_image i h =
        sym (byte_part (256 * get_or qs j 0 + 1) 255 i d h)
        ∙ sym (flat_map_nth (On.content_on version1 d) 255 qs j i room_of (omega (arith, on.many)) h)
        ∙ ap (λ (x : Bytes). byte_at x (255 * j + i)) on.content

    zero_at : (i : ℕ) → i < 255 → byte_at (zeros 256) (1 + i) ≡ 0
    unfolding zeros
    zero_at i h = get_or-replicate {A = ℕ} 256 (1 + i) 0 0 (omega arith)

    spread_fits : 0 + length v ≤ length (replicate {A = ℕ} (255 * k) 0)
    spread_fits = omega (arith, length-replicate {A = ℕ} (255 * k) 0, enough)

    same_byte : (i : ℕ) → i < 255 → byte_at (put 0 v (replicate (255 * k) 0)) (255 * j + i) ≡ byte_at (put 1 (part (255 * j) 255 v) base) (1 + i)
    same_byte i h = elim (dec_lt (255 * j + i) (length v)) [
      | yes m ↦
          let e : 255 * j + i ≡ 0 + (255 * j + i) = omega arith in
          ap (byte_at (put 0 v (replicate (255 * k) 0))) e ∙ put_in 0 v (replicate (255 * k) 0) spread_fits (255 * j + i) m
          ∙ sym (put_in 1 (part (255 * j) 255 v) base fits i (omega (arith, length-take 255 (drop (255 * j) v), length-drop (255 * j) v)) ∙ byte_part (255 * j) 255 i v h)
      | no m ↦
          put_out 0 v (replicate (255 * k) 0) spread_fits (255 * j + i) (λ x. omega arith)
          ∙ get_or-replicate {A = ℕ} (255 * k) (255 * j + i) 0 0 (omega (arith, l, h))
          ∙ sym (put_out 1 (part (255 * j) 255 v) base fits (1 + i) (λ x. omega (arith, length-take 255 (drop (255 * j) v), length-drop (255 * j) v))
          ∙ get_or-set_other (zeros 256) 0 (1 + i) to 0 (λ x. omega (arith, x)) ∙ zero_at i h)
    ]

    pub content_page_lem : part (256 * get_or qs j 0) 256 d ≡ content_page (link_after (page_count b) k j (part 0 256 b)) v j
    unfolding content_page
    content_page_lem =
        ext_get_or 0 (part (256 * get_or qs j 0) 256 d) (put 1 (part (255 * j) 255 v) base) (page_long ∙ sym (put_length 1 (part (255 * j) 255 v) base fits ∙ base_long))
        (λ i m. at_byte i (omega (arith, page_long)))
      where
        page_long : length (part (256 * get_or qs j 0) 256 d) ≡ 256
        page_long = part_length (256 * get_or qs j 0) 256 d (omega (arith, long, under))

        at_byte : (i : ℕ) → i < 256 → byte_at (part (256 * get_or qs j 0) 256 d) i ≡ byte_at (put 1 (part (255 * j) 255 v) base) i
        at_byte zero m =
            byte_part (256 * get_or qs j 0) 256 0 d m ∙ ap (byte_at d) (add-zero (256 * get_or qs j 0)) ∙ nth_link j l
            ∙ sym (put_out 1 (part (255 * j) 255 v) base fits 0 (λ x. omega arith) ∙ get_or-set_same (zeros 256) 0 to 0 (omega (arith, zeros_long)))
        at_byte (suc i) m =
            let e : 256 * get_or qs j 0 + suc i ≡ 256 * get_or qs j 0 + 1 + i = omega arith in
            let e' : 1 + i ≡ suc i = omega arith in
            byte_part (256 * get_or qs j 0) 256 (suc i) d m ∙ ap (byte_at d) e ∙ in_image i (omega arith) ∙ same_byte i (omega arith)
            ∙ ap (byte_at (put 1 (part (255 * j) 255 v) base)) e'

  -- ---- the header's page, and the page with the new entry

  within : Within t at
  within = entry_within t at on.spot

  header_byte : (i : ℕ) → i < 64 → byte_at d i ≡ byte_at (claimed (page_count b) k (part 0 256 b)) i
  header_byte i l = on.header.each i l ∙ sym ((claimed_alike (page_count b) high k (part 0 256 b) b copy_alike).each i l)

  header_out : occ 0 qs ≡ 0
  header_out = not_mem 0 qs (λ m. omega (arith, (on.free 0 m).0))

  parent_out : occ t qs ≡ 0
  parent_out = not_mem t qs (λ m. omega (arith, (on.free t m).2, on.marked))

  copy_long : length (part 0 256 b) ≡ 256
  copy_long = part_length 0 256 b (omega (arith, whole, (size f).low))

  claimed_long : length (claimed (page_count b) k (part 0 256 b)) ≡ 256
  claimed_long = claimed_length (page_count b) k (part 0 256 b) ∙ copy_long

  -- a byte of the header page that is not of the new entry
  header_rest : (i : ℕ) → i < 256 → (at ≤ i → at + 32 ≤ i) → byte_at d i ≡ byte_at (claimed (page_count b) k (part 0 256 b)) i
  header_rest i l o = elim (dec_lt i 64) [
    | yes u ↦ header_byte i u
    | no u ↦
        let z : i / 256 ≡ 0 = omega arith in
        on.others i (omega arith) (ap (λ (x : ℕ). occ x qs) z ∙ header_out) o
        ∙ sym (claimed_far (page_count b) k (part 0 256 b) high i (omega arith) ∙ byte_part 0 256 i b l ∙ ap (byte_at b) (zero-add i))
  ]

  pub header_page : t ≢ 0 → part 0 256 d ≡ claimed (page_count b) k (part 0 256 b)
  header_page ne =
      ext_get_or 0 (part 0 256 d) (claimed (page_count b) k (part 0 256 b)) (d_long ∙ sym claimed_long) (λ i m.
      let l : i < 256 = omega (arith, m, d_long) in
      byte_part 0 256 i d l ∙ ap (byte_at d) (zero-add i) ∙ header_rest i l (λ u. omega (arith, within.low, ne, u, l)))
    where
      d_long : length (part 0 256 d) ≡ 256
      d_long = part_length 0 256 d (omega (arith, long, (size f).low))

  module _ (named : length name ≡ 16) (dated : length date ≡ 8) where
    -- the new entry as the code works it out
    abbrev new : Bytes
    new = started_entry name date (length v) (On.lowest_free version1 (page_count b) b)

    entry_long : length (new_entry 0x80 name 0 (length v) date) ≡ 32
    entry_long = new_length 0x80 name (length v) date named dated

    started_long : length new ≡ 32
    unfolding started_entry
    started_long = length-set (new_entry 0x80 name 0 (length v) date) 17 (On.lowest_free version1 (page_count b) b) ∙ entry_long

    entry_byte : (i : ℕ) → i < 32 → byte_at d (at + i) ≡ byte_at new i
    unfolding started_entry
    entry_byte i l = elim (ℕ_discrete i 17) [
      | yes e ↦
          ap (λ (x : ℕ). byte_at d (at + x)) e ∙ on.start
          ∙ sym (ap (byte_at new) e ∙ get_or-set_same (new_entry 0x80 name 0 (length v) date) 17 (On.lowest_free version1 (page_count b) b) 0 (omega (arith, entry_long)))
      | no ne ↦ on.entry i l ne ∙ sym (get_or-set_other (new_entry 0x80 name 0 (length v) date) 17 i (On.lowest_free version1 (page_count b) b) 0 ne)
    ]

    -- the parent's page is x with the new entry, if x has all its other bytes
    with_entry : (x : Bytes) → length x ≡ 256 → ((i : ℕ) → i < 256 → (at ≤ 256 * t + i → at + 32 ≤ 256 * t + i) → byte_at d (256 * t + i) ≡ byte_at x i)
        → part (256 * t) 256 d ≡ put (at - 256 * t) new x
    with_entry x xl same =
        ext_get_or 0 (part (256 * t) 256 d) (put (at - 256 * t) new x) (d_long ∙ sym (put_length (at - 256 * t) new x fits ∙ xl)) (λ i m.
        let l : i < 256 = omega (arith, m, d_long) in
        byte_part (256 * t) 256 i d l ∙ at_byte i l)
      where
        d_long : length (part (256 * t) 256 d) ≡ 256
        d_long = part_length (256 * t) 256 d (omega (arith, long, on.page))

        fits : at - 256 * t + length new ≤ length x
        fits = omega (arith, xl, started_long, within.low, within.high)

        in_entry : (i : ℕ) → at ≤ 256 * t + i → 256 * t + i < at + 32 → byte_at d (256 * t + i) ≡ byte_at (put (at - 256 * t) new x) i
        in_entry i l u =
            let e : 256 * t + i ≡ at + (256 * t + i - at) = omega arith in
            let e' : i ≡ at - 256 * t + (256 * t + i - at) = omega (arith, within.low) in
            ap (byte_at d) e ∙ entry_byte (256 * t + i - at) (omega arith)
            ∙ sym (ap (byte_at (put (at - 256 * t) new x)) e' ∙ put_in (at - 256 * t) new x fits (256 * t + i - at) (omega (arith, started_long)))

        beside : (i : ℕ) → i < 256 → (at ≤ 256 * t + i → at + 32 ≤ 256 * t + i) → byte_at d (256 * t + i) ≡ byte_at (put (at - 256 * t) new x) i
        beside i m o = same i m o ∙ sym (put_out (at - 256 * t) new x fits i (λ u. omega (arith, o (omega (arith, within.low)), started_long, within.low)))

        at_byte : (i : ℕ) → i < 256 → byte_at d (256 * t + i) ≡ byte_at (put (at - 256 * t) new x) i
        at_byte i m = elim (dec_lt (256 * t + i) at) [
          | yes l ↦ beside i m (λ u. omega arith)
          | no l ↦ elim (dec_lt (256 * t + i) (at + 32)) [ yes u ↦ in_entry i (omega arith) u | no u ↦ beside i m (λ z. omega arith) ]
        ]

    pub parent_page_lem : t ≢ 0 → part (256 * t) 256 d ≡ put (at - 256 * t) new (part (256 * t) 256 b)
    parent_page_lem ne =
        with_entry (part (256 * t) 256 b) (part_length (256 * t) 256 b (omega (arith, whole, on.page))) (λ i l o.
        let z : (256 * t + i) / 256 ≡ t = omega arith in
        on.others (256 * t + i) (omega (arith, ne)) (ap (λ (y : ℕ). occ y qs) z ∙ parent_out) o ∙ sym (byte_part (256 * t) 256 i b l))

    pub header_entry : t ≡ 0 → part 0 256 d ≡ put at new (claimed (page_count b) k (part 0 256 b))
    header_entry e =
        let z : 256 * t ≡ 0 = omega (arith, e) in
        let a : at - 256 * t ≡ at = omega (arith, e) in
        subst (λ (y : ℕ). part y 256 d ≡ put (at - 256 * t) new (claimed (page_count b) k (part 0 256 b))) z
        (with_entry (claimed (page_count b) k (part 0 256 b)) claimed_long (λ i l o.
        let y : 256 * t + i ≡ i = omega (arith, e) in
        ap (byte_at d) y ∙ header_rest i l (λ u. omega (arith, o (omega (arith, u, e)), e))))
        ∙ ap (λ (y : ℕ). put y new (claimed (page_count b) k (part 0 256 b))) a
