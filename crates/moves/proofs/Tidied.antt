-- The moved image is sound and means the same tree: the root's directory moved as a whole, and each bit went with its page, so the marks are again
-- the pages that are owned.
use mathlib.Core.Path.{◌≡◌, refl, sym, ap, ap₂, ◌∙◌, subst}
use mathlib.Core.Logic.{inl, inr}
use Prim.Native.Nat.{ℕ, zero, suc, ◌+◌, ◌-◌, ◌*◌, ◌/◌, ◌%◌, ◌^◌, ◌≤◌, ◌<◌}
use native.Mathlib.Omega.{arith}
use native.Mathlib.Nat.{div-one}
use lib.Pow.{shr-shr}
use mathlib.Core.List.{List, [], ◌∷◌, ◌++◌, map, flat_map}
use lib.ListN.{length, get_or}
use lib.Seq.{get_or-append-add}
use lib.Dec.{T, eqb, eqb→eq}
use Rattle.volume.specs.Bytes.{Bytes, byte_at, part, bit}
use Rattle.volume.specs.Lists.{count_from, up_to}
use Rattle.volume.specs.Geometry as On
use Rattle.volume.proofs.Occ.{hit, hit_refl, hit_ne, hit_cases, occ, Mem, mem_head, mem_tail, not_mem, sum, sum_occ, under_of_mem, under_cons}
use Rattle.volume.proofs.Tests.{conditions_cons, cons_conditions, no_conditions, eq-eqb}
use Rattle.volume.proofs.Puts.{byte_part, part_length}
use Rattle.volume.proofs.Marks.{bit_low}
use Rattle.model.specs.Layout.{version1, page_count, valid_length, valid_header, free_count, page_bit, zero_bits}
use Rattle.model.specs.Entry.{entries}
use Rattle.model.specs.Version1.{view}
use Rattle.model.specs.Sound.{good_directory, reached, owned, sound, reached_entries, owned_pages}
use Rattle.model.specs.Tree.{Row, Tree}
use Rattle.model.specs.Image.{row_at, tree_of, tree_in}
use Rattle.laws.proofs.Facts.{Sized, valid_sized, FactsTo, Facts, sound_facts_lem, facts_sound}
use Rattle.moves.specs.Tidy.{place_of, page_at, accepted, moved_entry, bits_of, moved_bits, moved}
use Rattle.audit.proofs.Owners.{get_d_count_from, length_count_from}
use Rattle.moves.proofs.Renamed.{carried_to, mem_map}
use Rattle.moves.proofs.Places.{Renaming, Accepted, accepted_is}
use Rattle.moves.proofs.Bytewise.{length-map, get_d_map}
use Rattle.moves.proofs.Moved.{eights, front, fields_length, length_front, header_split, from_page, moved_length, pages, header_page, place_low, root_moves}

-- ---- bits

bit_zero : (x : ℕ) → bit 0 x ≡ x % 2
bit_zero x = ap (λ (y : ℕ). y % 2) (div-one x)

bit_suc : (i x : ℕ) → bit (suc i) x ≡ bit i (x / 2)
bit_suc i x = let e : suc i ≡ 1 + i = omega arith in ap (λ (k : ℕ). x / 2 ^ k % 2) e ∙ ap (λ (y : ℕ). y % 2) (sym (shr-shr x 1 i))

-- the bits of a number are those that it was made of
bits_of_lem : (xs : List ℕ) (i : ℕ) → i < length xs → ((x : ℕ) → Mem x xs → x < 2) → bit i (bits_of xs) ≡ get_or xs i 0
unfolding bits_of
bits_of_lem [] i l h = absurd (omega arith)
bits_of_lem (x ∷ xs) zero l h = omega (arith, bit_zero (x + 2 * bits_of xs), h x (mem_head x xs))
bits_of_lem (x ∷ xs) (suc i) l h =
    let e : (x + 2 * bits_of xs) / 2 ≡ bits_of xs = omega (arith, h x (mem_head x xs)) in
    bit_suc i (x + 2 * bits_of xs) ∙ ap (bit i) e ∙ bits_of_lem xs i (omega arith) (λ y m. h y (mem_tail y x xs m))

zeros_marked : (b : Bytes) (xs : List ℕ) (n : ℕ) → ((q : ℕ) → q < n → occ q xs ≡ page_bit b q) → zero_bits b n + sum (λ p. occ p xs) n ≡ n
unfolding On.zero_bits
zeros_marked b xs zero h = refl
zeros_marked b xs (suc n) h = omega (arith, zeros_marked b xs n (λ q l. h q (omega arith)), h n (omega arith), bit_low version1 b n)

pub get_d_left : (xs ys : List ℕ) (i : ℕ) → i < length xs → get_or (xs ++ ys) i 0 ≡ get_or xs i 0
get_d_left [] ys i l = absurd (omega arith)
get_d_left (x ∷ xs) ys zero l = refl
get_d_left (x ∷ xs) ys (suc i) l = get_d_left xs ys i (omega arith)

-- counts under an injective renaming
occ_map : (to : ℕ → ℕ) (p : ℕ) (xs : List ℕ) → ((x : ℕ) → Mem x xs → to p ≡ to x → p ≡ x) → occ (to p) (map to xs) ≡ occ p xs
occ_map to p [] h = refl
occ_map to p (x ∷ xs) h = elim (hit_cases p x) [
  | inl e ↦ omega (arith, e.1, ap (λ (y : ℕ). hit (to p) (to y)) (sym e.0), hit_refl (to p), occ_map to p xs (λ y m. h y (mem_tail y x xs m)))
  | inr n ↦ omega (arith, n.1, hit_ne (to p) (to x) (λ e. n.0 (h x (mem_head x xs) e)), occ_map to p xs (λ y m. h y (mem_tail y x xs m)))
]

module _ (b : Bytes) (f : Facts b) (places : List ℕ) (a : Accepted b places) where
  abbrev s : Sized b
  s = valid_sized b f.fits

  abbrev to : ℕ → ℕ
  to = place_of places

  abbrev b' : Bytes
  b' = moved places b

  abbrev ren : Renaming (page_count b) (place_of places) (page_at places)
  ren = a.renames

  abbrev used : ℕ
  used = page_count b / 8

  abbrev head : Bytes
  head = front b f places a

  -- ---- the header

  pub header_byte : (i : ℕ) → i < 64 → byte_at b' i ≡ byte_at head i
  header_byte i l =
      let z : i ≡ 0 + i = omega arith in
      ap (byte_at b') z ∙ sym (byte_part 0 256 i b' (omega arith)) ∙ ap (λ (v : Bytes). byte_at v i) ((header_page b f places a) ∙ (header_split b f places a))
      ∙ get_d_left head (flat_map (moved_entry places b) (entries 0)) i (omega (arith, (length_front b f places a)))

  pub field_byte : (i : ℕ) → i < 4 → byte_at b' i ≡ byte_at b i
  field_byte i l =
      let four : length (part 0 4 b) ≡ 4 = part_length 0 4 b (omega (arith, s.whole, s.low)) in
      let z : 0 + i ≡ i = omega arith in
      header_byte i (omega arith)
      ∙ get_d_left (part 0 4 b ++ map (moved_bits places b) (up_to used)) (part (4 + used) (60 - used) b) i (omega (arith, (fields_length b f places a)))
      ∙ get_d_left (part 0 4 b) (map (moved_bits places b) (up_to used)) i (omega (arith, four))
      ∙ byte_part 0 4 i b l ∙ ap (byte_at b) z

  map_byte : (k : ℕ) → k < used → byte_at b' (4 + k) ≡ moved_bits places b k
  map_byte k l =
      let four : length (part 0 4 b) ≡ 4 = part_length 0 4 b (omega (arith, s.whole, s.low)) in
      let e : 4 + k ≡ length (part 0 4 b) + k = omega (arith, four) in
      let u = s.high in
      header_byte (4 + k) (omega arith)
      ∙ get_d_left (part 0 4 b ++ map (moved_bits places b) (up_to used)) (part (4 + used) (60 - used) b) (4 + k) (omega (arith, (fields_length b f places a)))
      ∙ ap (byte_at (part 0 4 b ++ map (moved_bits places b) (up_to used))) e
      ∙ get_or-append-add (part 0 4 b) (map (moved_bits places b) (up_to used)) k 0
      ∙ get_d_map (moved_bits places b) (up_to used) k (omega (arith, length_count_from 0 used))
      ∙ ap (moved_bits places b) (get_d_count_from 0 used k l ∙ omega arith)

  bits_low : (qs : List ℕ) (x : ℕ) → Mem x (map (λ q. page_bit b (page_at places q)) qs) → x < 2
  bits_low qs x m = let r = mem_map (λ q. page_bit b (page_at places q)) qs x m in omega (arith, r.2, bit_low version1 b (page_at places r.0))

  -- the bit at place q is that of the page that moved there
  bit_moved : (q : ℕ) → q < page_count b → page_bit b' q ≡ page_bit b (page_at places q)
  unfolding On.page_bit moved_bits
  bit_moved q u =
      let k : ℕ = q / 8 in
      let bits : List ℕ = map (λ q. page_bit b (page_at places q)) (count_from (8 * k) 8) in
      let low : k < used = omega (arith, (eights b f places a)) in
      let e : 8 * k + q % 8 ≡ q = omega arith in
      ap (bit (q % 8)) (map_byte k low)
      ∙ bits_of_lem bits (q % 8) (omega (arith, length-map (λ q. page_bit b (page_at places q)) (count_from (8 * k) 8), length_count_from (8 * k) 8)) (bits_low (count_from (8 * k) 8))
      ∙ get_d_map (λ q. page_bit b (page_at places q)) (count_from (8 * k) 8) (q % 8) (omega (arith, length_count_from (8 * k) 8))
      ∙ ap (λ (x : ℕ). page_bit b (page_at places x)) (get_d_count_from (8 * k) 8 (q % 8) (omega arith) ∙ e)

  headed : T (valid_header b')
  unfolding valid_header
  headed =
      let t1 = conditions_cons (eqb (byte_at b 0) 0x5A) _ f.headed in
      let t2 = conditions_cons (eqb (byte_at b 1) 1) _ t1.1 in
      let t3 = conditions_cons (eqb (byte_at b 2) (page_count b / 8)) [] t2.1 in
      cons_conditions _ _ (eq-eqb (field_byte 0 (omega arith) ∙ eqb→eq (byte_at b 0) 0x5A t1.0))
      (cons_conditions _ _ (eq-eqb (field_byte 1 (omega arith) ∙ eqb→eq (byte_at b 1) 1 t2.0))
      (cons_conditions _ [] (eq-eqb (field_byte 2 (omega arith) ∙ eqb→eq (byte_at b 2) (page_count b / 8) t3.0 ∙ ap (λ (n : ℕ). n / 8) (sym (pages b f places a)))) no_conditions))

  -- ---- the facts

  injective : (p x : ℕ) → p < page_count b → x < page_count b → to p ≡ to x → p ≡ x
  injective p x l u e = sym (ren.back p l) ∙ ap (page_at places) e ∙ ren.back x u

  occ_moved : (q : ℕ) → q < page_count b → occ q (map to (owned_pages b)) ≡ occ (page_at places q) (owned_pages b)
  occ_moved q u =
      let r = ren.onto q u in
      ap (λ (x : ℕ). occ x (map to (owned_pages b))) (sym r.1)
      ∙ occ_map to (page_at places q) (owned_pages b) (λ x m e. injective (page_at places q) x r.0 (f.inside x m).1 e)

  exact_moved : (q : ℕ) → 1 ≤ q → q < page_count b → occ q (map to (owned_pages b)) ≡ page_bit b' q
  exact_moved q l u =
      let r = ren.onto q u in
      occ_moved q u ∙ f.exact (page_at places q) ((from_page b f places a) q l u) r.0 ∙ sym (bit_moved q u)

  bit_first : page_bit b' 0 ≡ 1
  bit_first =
      let l : 0 < page_count b = omega (arith, s.low) in
      let e : page_at places 0 ≡ 0 = ap (page_at places) (sym ren.stays) ∙ ren.back 0 l in
      bit_moved 0 l ∙ ap (page_bit b) e ∙ f.bit_zero

  inside_moved : (q : ℕ) → Mem q (map to (owned_pages b)) → (1 ≤ q) × (q < page_count b)
  inside_moved q m =
      let r = mem_map to (owned_pages b) q m in
      let i = f.inside r.0 r.1 in
      (omega (arith, r.2, (place_low b f places a) r.0 i.0 i.1), omega (arith, r.2, ren.low r.0 i.1))

  -- the header and the owned (pages b f places a) are marked, and the zero bits are the others
  zeros_of : (c : Bytes) (ps : List ℕ) → page_bit c 0 ≡ 1 → ((q : ℕ) → Mem q ps → (1 ≤ q) × (q < page_count b)) → ((q : ℕ) → 1 ≤ q → q < page_count b → occ q ps ≡ page_bit c q)
      → zero_bits c (page_count b) + 1 + length ps ≡ page_count b
  zeros_of c ps one inside exact =
      let z = zeros_marked c (0 ∷ ps) (page_count b) (λ q l. elim (hit_cases q 0) [
        | inl e ↦
            let none : occ 0 ps ≡ 0 = not_mem 0 ps (λ m. omega (arith, (inside 0 m).0)) in
            omega (arith, e.1, ap (λ (x : ℕ). occ x ps) e.0, ap (page_bit c) e.0, one, none)
        | inr ne ↦ omega (arith, ne.1, exact q (omega (arith, ne.0)) l)
      ]) in
      let t = sum_occ (0 ∷ ps) (page_count b) (under_cons (page_count b) 0 ps (omega (arith, s.low)) (under_of_mem (page_count b) ps (λ q m. (inside q m).1))) in
      omega (arith, z, t)

  counted : free_count b' ≡ zero_bits b' (page_count b)
  counted = omega (
    arith,
    field_byte 3 (omega arith),
    f.counted,
    zeros_of b (owned_pages b) f.bit_zero f.inside f.exact,
    zeros_of b' (map to (owned_pages b)) bit_first inside_moved exact_moved,
    length-map to (owned_pages b),
  )

  owns : owned (page_count b) (view b') 0 ≡ map to (owned_pages b)
  owns = ap (owned (page_count b) (view b')) (sym ren.stays) ∙ (root_moves b f places a).owns

  facts : FactsTo (page_count b) b'
  facts = record {
    fits = subst (λ (n : ℕ). T (valid_length n)) (sym (moved_length b f places a)) f.fits;
    headed = headed;
    bit_zero = bit_first;
    counted = counted ∙ ap (zero_bits b') (sym (pages b f places a));
    formed = subst (λ (p : ℕ). T (good_directory (page_count b) (view b') p)) ren.stays (root_moves b f places a).good;
    inside = λ q m. let r = inside_moved q (subst (Mem q) owns m) in (r.0, omega (arith, r.1, (pages b f places a)));
    exact = λ q l u. ap (occ q) owns ∙ exact_moved q l (omega (arith, (pages b f places a)));
  }

  -- each entry stands where its page came to
  pub entries_moved : reached_entries b' ≡ map (carried_to to) (reached_entries b)
  entries_moved = ap (λ (n : ℕ). reached n (view b') 0) (pages b f places a) ∙ ap (reached (page_count b) (view b')) (sym ren.stays) ∙ (root_moves b f places a).reaches

  tidied : T (sound b') × (tree_of b' ≡ tree_of b)
  unfolding tree_in
  tidied = (
    facts_sound (subst (λ (n : ℕ). FactsTo n b') (sym (pages b f places a)) facts),
    ap₂ {C = Tree} (λ (n : ℕ) (r : Row). record { pages = n; code = 0; root = r }) (pages b f places a)
        (ap (λ (n : ℕ). row_at n (view b') 0) (pages b f places a) ∙ ap (row_at (page_count b) (view b')) (sym ren.stays) ∙ (root_moves b f places a).row),
  )

-- An accepted proposal on a sound image gives a sound image of the same length with the same tree.
pub moved_sound : (b : Bytes) (places : List ℕ) → T (sound b) → T (accepted b places)
    → T (sound (moved places b)) × (tree_of (moved places b) ≡ tree_of b) × (length (moved places b) ≡ length b)
moved_sound b places h k =
    let f = sound_facts_lem h in
    let a = accepted_is b places k in
    ((tidied b f places a).0, (tidied b f places a).1, moved_length b f places a)
