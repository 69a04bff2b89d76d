-- Where everything is in the moved image: each entry stands where its page came to, its pages are where the proposal puts them, and every byte
-- that is no bit, link or start page is the one that it was.
use mathlib.Core.Path.{◌≡◌, refl, sym, ap, ◌∙◌, subst}
use mathlib.Core.Logic.{◌≢◌, inl, inr}
use Prim.Native.Nat.{ℕ, zero, suc, ◌+◌, ◌-◌, ◌*◌, ◌/◌, ◌%◌, ◌≤◌, ◌<◌}
use native.Mathlib.Omega.{arith}
use native.Mathlib.Decide.{dec_lt}
use mathlib.Core.Bool.{Bool, true, false, not, ◌&&◌, ◌||◌}
use mathlib.Core.List.{List, [], ◌∷◌, ◌++◌, map, flat_map}
use lib.ListN.{length, set}
use lib.Seq.{get_or-set_other, get_or-append-add}
use lib.Dec.{T, eqb, leb, ltb, lt→ltb, le→leb}
use Rattle.volume.specs.Bytes.{Bytes, byte_at, part}
use Rattle.std.specs.Prelude.{if◌then◌else◌}
use Rattle.volume.specs.Lists.{any, up_to}
use Rattle.volume.proofs.Occ.{Mem, mem_cons}
use Rattle.volume.proofs.Tests.{both_and, occ_count_from, eq-eqb}
use Rattle.volume.proofs.Puts.{byte_part}
use Rattle.model.specs.Layout.{page_count}
use Rattle.model.specs.Entry.{occupied, start_at, entry_count, entries, Entry, vacant, a_file, a_directory, entry_at}
use Rattle.model.specs.Version1.{view}
use Rattle.model.specs.Sound.{pages_of, pages_at, in_directory, reached_entries}
use Rattle.laws.proofs.Facts.{Facts, Sized, valid_sized}
use Rattle.moves.specs.Tidy.{place_of, owner_entry, moved_entry, moved_as, moved_page, moved_bits, moved_header, moved}
use Rattle.moves.specs.Propose.{is_file_entry, is_directory_entry}
use Rattle.moves.specs.Demand.{new_position, holds_entries, is_bits, is_link, is_start, follows}
use Rattle.moves.proofs.Reached.{reached_each}
use Rattle.moves.proofs.Renamed.{renamed, position, carried_to, mem_map, map_mem, DirectoryMoved, EntryMoved, entry_pages}
use Rattle.moves.proofs.Places.{Accepted}
use Rattle.moves.proofs.Bytewise.{count_of, start_of}
use Rattle.moves.proofs.Moved.{page_moved, front, fields_length, header_page, header_split, length_front, entry_of, root_moved, entry_moved}
use Rattle.moves.proofs.Tidied.{header_byte, field_byte}

any_of : (f : ℕ → Bool) (xs : List ℕ) (x : ℕ) → Mem x xs → T (f x) → T (any f xs)
unfolding any
any_of f [] x m t = absurd (omega arith)
any_of f (y ∷ ys) x m t = elim (mem_cons x y ys m) [
  | inl e ↦ left (f y) (any f ys) (subst (λ (z : ℕ). T (f z)) e t)
  | inr k ↦ right (f y) (any f ys) (any_of f ys x k t)
]
  where
    left : (c d : Bool) → T c → T (c || d)
    left true d t = tt
    left false d t = absurd t

    right : (c d : Bool) → T d → T (c || d)
    right true d t = tt
    right false d t = t

-- none of three holds
neither : (a b c : Bool) → T (not (a || (b || c))) → (T a → ⊥) × (T b → ⊥) × (T c → ⊥)
neither true b c h = absurd h
neither false true c h = absurd h
neither false false true h = absurd h
neither false false false h = ((λ t. t), (λ t. t), λ t. t)

-- a byte of an entry that is no start page, or of a vacant one
entry_byte : (places : List ℕ) (b : Bytes) (at r : ℕ) → r < 32 → (T (occupied b at) → r ≢ 17) → byte_at (moved_entry places b at) r ≡ byte_at b (at + r)
unfolding moved_entry
entry_byte places b at r l h = go (occupied b at) h ∙ byte_part at 32 r b l
  where
    go : (c : Bool) → (T c → r ≢ 17) → byte_at (if c then set (part at 32 b) 17 (place_of places (start_at b at)) else part at 32 b) r ≡ byte_at (part at 32 b) r
    go true n = get_or-set_other (part at 32 b) 17 r (place_of places (start_at b at)) 0 (n tt)
    go false n = refl

module _ (b : Bytes) (f : Facts b) (places : List ℕ) (a : Accepted b places) where
  abbrev s : Sized b
  s = valid_sized b f.fits

  abbrev to : ℕ → ℕ
  to = place_of places

  abbrev b' : Bytes
  b' = moved places b

  -- ---- entries

  below : (at : ℕ) → Mem at (reached_entries b) → in_directory (Unit {0}) (DirectoryMoved b b' to) (entry_at b at)
  below at m = go (entry_at b at) (entry_moved b f places a at m (entry_at b at) refl)
    where
      go : (e : Entry) → EntryMoved b b' to e → in_directory (Unit {0}) (DirectoryMoved b b' to) e
      go vacant k = tt
      go (a_file locked name date start size) k = tt
      go (a_directory name date start size) k = k

  here : (q at : ℕ) → DirectoryMoved b b' to q → Mem at (entries q) → entry_at b' (carried_to to at) ≡ renamed to (entry_at b at)
  unfolding entries
  here q at m k =
      let r = mem_map (position q) (up_to (entry_count q)) at k in
      subst (λ (x : ℕ). entry_at b' (carried_to to x) ≡ renamed to (entry_at b x)) (sym r.2) (ap (entry_at b') (sym (m.stands r.0 r.1)) ∙ m.each r.0 r.1)

  entry_stands : (at : ℕ) → Mem at (reached_entries b) → entry_at b' (new_position places at) ≡ renamed to (entry_at b at)
  entry_stands at m =
      reached_each b (λ x. Mem x (reached_entries b)) (DirectoryMoved b b' to) (λ x. entry_at b' (carried_to to x) ≡ renamed to (entry_at b x)) here below
      (page_count b) 0 at (root_moved b f places a) (λ y n. n) m

  pub pages_placed : (at : ℕ) → Mem at (reached_entries b) → pages_at (view b') (new_position places at) ≡ map to (pages_at (view b) at)
  pages_placed at m = ap (pages_of (view b')) (entry_stands at m) ∙ entry_pages b b' to (entry_at b at) (entry_moved b f places a at m (entry_at b at) refl)

  -- ---- bytes

  in_entries : (p j : ℕ) → j < entry_count p → Mem (position p j) (entries p)
  unfolding entries
  in_entries p j u = map_mem (position p) (up_to (entry_count p)) j (occ_count_from 0 (entry_count p) j (omega arith) (omega arith))

  -- byte i of page p is byte r of its entry j
  directory_byte : (p j r i : ℕ) → p < page_count b → j < entry_count p → r < 32 → 256 * p + i ≡ position p j + r → T (holds_entries b p) → T (not (follows b p i))
      → byte_at (flat_map (moved_entry places b) (entries p)) (32 * j + r) ≡ byte_at b (256 * p + i)
  directory_byte p j r i l u k e h un =
      sym (byte_part (32 * j) 32 r (flat_map (moved_entry places b) (entries p)) k) ∙ ap (λ (v : Bytes). byte_at v r) (entry_of b f places a p j l u)
      ∙ entry_byte places b (position p j) r k (λ o q. (neither (is_bits b p i) (is_link b p i) (is_start b p i) un).2 (both_and (holds_entries b p) (any (λ at. occupied b at && eqb (256 * p + i) (at + 17)) (entries p)) h
      (any_of (λ at. occupied b at && eqb (256 * p + i) (at + 17)) (entries p) (position p j) (in_entries p j u)
      (both_and (occupied b (position p j)) (eqb (256 * p + i) (position p j + 17)) o (let z : 256 * p + i ≡ position p j + 17 = omega (arith, q) in eq-eqb z)))))
      ∙ ap (byte_at b) (sym e)

  abbrev used : ℕ
  used = page_count b / 8

  -- ---- the header page

  root_byte : (i : ℕ) → 64 ≤ i → i < 256 → T (not (follows b 0 i)) → byte_at (moved_header places b) i ≡ byte_at b i
  root_byte i l u un =
      let j : ℕ = (i - 64) / 32 in
      let r : ℕ = (i - 64) % 32 in
      let e : i ≡ length (front b f places a) + (32 * j + r) = omega (arith, length_front b f places a) in
      let z : 256 * 0 + i ≡ i = omega arith in
      ap (λ (v : Bytes). byte_at v i) (header_split b f places a)
      ∙ ap (byte_at (front b f places a ++ flat_map (moved_entry places b) (entries 0))) e
      ∙ get_or-append-add (front b f places a) (flat_map (moved_entry places b) (entries 0)) (32 * j + r) 0
      ∙ directory_byte 0 j r i (omega (arith, s.low)) (omega arith) (omega arith) (omega arith) tt un
      ∙ ap (byte_at b) z

  -- the fields, but for the bitmap's bytes in use
  field_carried : (i : ℕ) → i < 64 → T (not (follows b 0 i)) → byte_at b' i ≡ byte_at b i
  field_carried i u un = elim (dec_lt i 4) [
    | yes l ↦ field_byte b f places a i l
    | no l ↦ elim (dec_lt i (4 + used)) [
      | yes k ↦ absurd ((neither (is_bits b 0 i) (is_link b 0 i) (is_start b 0 i) un).0 (both_and (leb 4 i) (ltb i (4 + used)) (le→leb 4 i (omega arith)) (lt→ltb i (4 + used) k)))
      | no k ↦
          let fields : Bytes = part 0 4 b ++ map (moved_bits places b) (up_to used) in
          let n = fields_length b f places a in
          let e : i ≡ length fields + (i - (4 + used)) = omega (arith, n) in
          let w : 4 + used + (i - (4 + used)) ≡ i = omega arith in
          header_byte b f places a i u ∙ ap (byte_at (front b f places a)) e
          ∙ get_or-append-add fields (part (4 + used) (60 - used) b) (i - (4 + used)) 0
          ∙ byte_part (4 + used) (60 - used) (i - (4 + used)) b (omega (arith, s.high)) ∙ ap (byte_at b) w
    ]
  ]

  header_carried : (i : ℕ) → i < 256 → T (not (follows b 0 i)) → byte_at b' i ≡ byte_at b i
  header_carried i u un = elim (dec_lt i 64) [
    | yes l ↦ field_carried i l un
    | no l ↦
        let z : i ≡ 0 + i = omega arith in
        ap (byte_at b') z ∙ sym (byte_part 0 256 i b' u) ∙ ap (λ (v : Bytes). byte_at v i) (header_page b f places a) ∙ root_byte i (omega arith) u un
  ]

  -- ---- any other page, by its owner's entry

  page_carried : (p i : ℕ) → 1 ≤ p → p < page_count b → i < 256 → T (not (follows b p i)) → (e : Entry) → owner_entry b p ≡ e → byte_at (moved_as places b p e) i ≡ byte_at b (256 * p + i)
  unfolding moved_as
  page_carried p i l u k un vacant q = byte_part (256 * p) 256 i b k
  page_carried p zero l u k un (a_file locked name date start size) q =
      absurd ((neither (is_bits b p 0) (is_link b p 0) (is_start b p 0) un).1 (subst (λ (x : Entry). T (is_file_entry x)) (sym q) tt))
  page_carried p (suc i) l u k un (a_file locked name date start size) q =
      let w : 256 * p + 1 + i ≡ 256 * p + suc i = omega arith in
      byte_part (256 * p + 1) 255 i b (omega arith) ∙ ap (byte_at b) w
  page_carried p i l u k un (a_directory name date start size) q =
      let j : ℕ = i / 32 in
      let r : ℕ = i % 32 in
      let e : i ≡ 32 * j + r = omega arith in
      let c = count_of p l in
      let st = start_of p l in
      ap (byte_at (flat_map (moved_entry places b) (entries p))) e
      ∙ directory_byte p j r i u (omega arith) (omega arith) (omega arith) (or_right (eqb p 0) (is_directory_entry (owner_entry b p)) (subst (λ (x : Entry). T (is_directory_entry x)) (sym q) tt)) un
    where
      or_right : (c d : Bool) → T d → T (c || d)
      or_right true d t = tt
      or_right false d t = t

  pub byte_carried : (p i : ℕ) → p < page_count b → i < 256 → T (not (follows b p i)) → byte_at b' (256 * to p + i) ≡ byte_at b (256 * p + i)
  unfolding moved_page
  byte_carried zero i u k un =
      let z : 256 * to 0 + i ≡ i = omega (arith, a.renames.stays) in
      let w : i ≡ 256 * 0 + i = omega arith in
      ap (byte_at b') z ∙ header_carried i k un ∙ ap (byte_at b) w
  byte_carried (suc p) i u k un =
      sym (byte_part (256 * to (suc p)) 256 i b' k) ∙ ap (λ (v : Bytes). byte_at v i) (page_moved b f places a (suc p) (omega arith) u)
      ∙ page_carried (suc p) i (omega arith) u k un (owner_entry b (suc p)) refl
