-- The target is laid out from front to back: after k bytes what stands before them is done, and each turn puts the next stretch behind it.
use mathlib.Core.Path.{◌≡◌, refl, sym, ap, ap₂, ◌∙◌}
use mathlib.Core.Logic.{◌≢◌}
use Prim.Native.Nat.{ℕ, zero, suc, ◌+◌, ◌-◌, ◌*◌, ◌/◌, ◌%◌, ◌≤◌, ◌<◌}
use native.Mathlib.Omega.{arith}
use native.Mathlib.Numerals.{add-one}
use mathlib.Core.Bool.{Bool}
use mathlib.Core.List.{List, [], ◌∷◌, ◌++◌, map, flat_map, append_assoc, append-nil}
use lib.ListN.{length, take, drop, set, length-set, length-append, drop_of_length-le}
use lib.Seq.{drop-cons, set-append_left, take_all, length-take-le}
use lib.Dec.{eqb, eqb→eq, eqb-suc-zero}
use borrow.Rule.Slice.PartMut.{mid_of}
use Rattle.volume.specs.Bytes.{Bytes, byte_at, part, put}
use Rattle.std.specs.Prelude.{if◌then◌else◌}
use Rattle.volume.specs.Lists.{count_from}
use Rattle.volume.proofs.Splice.{take_splice_head}
use Rattle.volume.proofs.Puts.{byte_part, part_length}
use Rattle.volume.proofs.Tests.{eq-eqb}
use Rattle.model.specs.Layout.{page_count, link}
use Rattle.model.specs.Entry.{start_at, entry_count, entries_start, entries, Entry, vacant, a_file, a_directory}
use Rattle.model.specs.Version1.{view}
use Rattle.model.specs.Image.{content_on}
use Rattle.claims.specs.Lent.{position, rest as from}
use Rattle.moves.specs.Tidy.{place_of, moved_entry, owner_entry, moved_as, moved_page}
use Rattle.moves.proofs.Bytewise.{length_moved_entry}
use Rattle.proposals.specs.Steps.{field_bytes}
use Rattle.proposals.proofs.Check.{true_of, false_of}

-- ---- a stretch

-- what is put over a whole part
pub put_whole : (v d : Bytes) → length v ≡ length d → put 0 v d ≡ v
put_whole v d e = let l : length d ≤ 0 + length v = omega arith in ap (λ (r : Bytes). v ++ r) (drop_of_length-le d l) ∙ append-nil v

-- page s / 256 copied into a part of 256 bytes
pub copied : (a e s : ℕ) (b d y : Bytes) → a ≡ s → e ≡ a + 256 → s + 256 ≤ length b → length d ≡ 256 → y ≡ put 0 (mid_of a (e - a) b) d → y ≡ part s 256 b
copied a e s b d y p q h k w =
    let n : e - a ≡ 256 = omega arith in
    let z : mid_of a (e - a) b ≡ part s 256 b = ap₂ (λ (i j : ℕ). take j (drop i b)) p n in
    w ∙ ap (λ (v : Bytes). put 0 v d) z ∙ put_whole (part s 256 b) d (part_length s 256 b h ∙ sym k)

-- one more stretch of w bytes behind the first k
pub laid_turn : (k w : ℕ) (x v tail : Bytes) → length x ≡ w → k ≤ length v → take (k + w) (put k x v) ++ tail ≡ take k v ++ (x ++ tail)
laid_turn k w x v tail e h =
    ap (λ (n : ℕ). take (k + n) (put k x v) ++ tail) (sym e)
    ∙ ap (λ (l : Bytes). l ++ tail) (take_splice_head v k x h)
    ∙ append_assoc (take k v) x tail

set_right : (xs ys : Bytes) (i x : ℕ) → set (xs ++ ys) (length xs + i) x ≡ xs ++ set ys i x
set_right [] ys i x = let e : length {A = ℕ} [] + i ≡ i = omega arith in ap (λ (k : ℕ). set ys k x) e
set_right (y ∷ xs) ys i x =
    let e : length (y ∷ xs) + i ≡ suc (length xs + i) = omega arith in
    ap (λ (k : ℕ). set (y ∷ (xs ++ ys)) k x) e ∙ ap (λ (l : Bytes). y ∷ l) (set_right xs ys i x)

-- a byte of what was put
set_put : (o i x : ℕ) (w d : Bytes) → o + length w ≤ length d → i < length w → set (put o w d) (o + i) x ≡ put o (set w i x) d
set_put o i x w d h l =
    let front : Bytes = take o d in
    let n : length front ≡ o = length-take-le o d (omega arith) in
    let k : length front + i ≡ o + i = omega arith in
    let u : o + i < length (front ++ w) = omega (arith, length-append front w) in
    set-append_left (front ++ w) (drop (o + length w) d) (o + i) x u
    ∙ ap (λ (v : Bytes). v ++ drop (o + length w) d) (ap (λ (j : ℕ). set (front ++ w) j x) (sym k) ∙ set_right front w i x)
    ∙ ap (λ (j : ℕ). front ++ set w i x ++ drop (o + j) d) (sym (length-set w i x))

-- ---- one entry

module _ (places b d : Bytes) (at e offset : ℕ) (y : Bytes) (he : e ≡ at + 32) (inside : at + 32 ≤ length b) (room : offset + 32 ≤ length d)
    (w : y ≡ put offset (mid_of at (e - at) b) d) where
  entry_bytes : mid_of at (e - at) b ≡ part at 32 b
  entry_bytes = let n : e - at ≡ 32 = omega arith in ap (λ (j : ℕ). take j (drop at b)) n

  -- an occupied one: its start page follows
  pub entry_follows : byte_at b at / 128 % 2 ≡ 1 → (x : ℕ) → x ≡ place_of places (byte_at b (at + 17)) → set y (offset + 17) x ≡ put offset (moved_entry places b at) d
  unfolding moved_entry
  entry_follows o x q =
      let n : length (part at 32 b) ≡ 32 = part_length at 32 b inside in
      ap (λ (v : Bytes). set v (offset + 17) x) (w ∙ ap (λ (v : Bytes). put offset v d) entry_bytes)
      ∙ set_put offset 17 x (part at 32 b) d (omega arith) (omega arith)
      ∙ ap (λ (z : ℕ). put offset (set (part at 32 b) 17 z) d) q
      ∙ ap (λ (c : Bool). put offset (if c then set (part at 32 b) 17 (place_of places (start_at b at)) else part at 32 b) d) (sym (true_of {c = eqb (byte_at b at / 128 % 2) 1} (eq-eqb o)))

  -- a vacant one stays
  pub entry_stays : byte_at b at / 128 % 2 ≢ 1 → y ≡ put offset (moved_entry places b at) d
  unfolding moved_entry
  entry_stays o =
      w ∙ ap (λ (v : Bytes). put offset v d) entry_bytes
      ∙ ap (λ (c : Bool). put offset (if c then set (part at 32 b) 17 (place_of places (start_at b at)) else part at 32 b) d)
      (sym (false_of {c = eqb (byte_at b at / 128 % 2) 1} (λ t. o (eqb→eq (byte_at b at / 128 % 2) 1 t))))

-- the same at the two ends of `move_entry`, which the check finds by itself, whatever the code's test is called
pub occupied_moved : (places b d : Bytes) (at offset : ℕ) {e x : ℕ} {y : Bytes} → e ≡ at + 32 → at + 32 ≤ length b → offset + 32 ≤ length d
    → y ≡ put offset (mid_of at (e - at) b) d → byte_at b at / 128 % 2 ≡ 1 → x ≡ place_of places (byte_at b (at + 17))
    → put offset (moved_entry places b at) d ≡ set y (offset + 17) x
occupied_moved places b d at offset {e} {x} {y} he inside room w o q = sym (entry_follows places b d at e offset y he inside room w o x q)

pub vacant_kept : (places b d : Bytes) (at offset : ℕ) {e : ℕ} {y : Bytes} → e ≡ at + 32 → at + 32 ≤ length b → offset + 32 ≤ length d
    → y ≡ put offset (mid_of at (e - at) b) d → byte_at b at / 128 % 2 ≢ 1 → put offset (moved_entry places b at) d ≡ y
vacant_kept places b d at offset {e} {y} he inside room w o = sym (entry_stays places b d at e offset y he inside room w o)

-- ---- the entries of a directory

field_bytes_lem : (p : ℕ) → (entries_start p ≡ 256 * p + field_bytes p) × (field_bytes p + 32 * entry_count p ≡ 256)
field_bytes_lem zero = (refl, refl)
field_bytes_lem (suc p) = (rw (eqb-suc-zero p) (omega arith), rw (eqb-suc-zero p) (omega arith))

module _ (places b : Bytes) (p : ℕ) where
  -- what stands before entry i, and the entries from it on
  pub record LaidEntries (d₀ : Bytes) (i : ℕ) (d : Bytes) : Type 0 where
    pub long : length d ≡ 256
    pub rest : take (field_bytes p + 32 * i) d ++ flat_map (moved_entry places b) (from p i) ≡ take (field_bytes p) d₀ ++ flat_map (moved_entry places b) (entries p)

  pub entries_first : (d : Bytes) → length d ≡ 256 → LaidEntries d 0 d
  unfolding from entries
  entries_first d n =
      let z : field_bytes p + 32 * 0 ≡ field_bytes p = omega arith in
      let all : entry_count p - 0 ≡ entry_count p = omega arith in
      record { long = n; rest = ap₂ (λ (k m : ℕ). take k d ++ flat_map (moved_entry places b) (map (position p) (count_from 0 m))) z all }

  from_next : (i : ℕ) → i < entry_count p → from p i ≡ position p i ∷ from p (i + 1)
  unfolding from count_from
  from_next i l =
      let e : entry_count p - i ≡ suc (entry_count p - (i + 1)) = omega arith in
      ap (λ (n : ℕ). map (position p) (count_from i n)) e ∙ ap (λ (k : ℕ). position p i ∷ map (position p) (count_from k (entry_count p - (i + 1)))) (sym (add-one i))

  pub entries_turn : (d₀ d y : Bytes) (i at first : ℕ) → p < page_count b → i < entry_count p → at ≡ position p i → first ≡ 256 * p → LaidEntries d₀ i d
      → y ≡ put (at - first) (moved_entry places b at) d → length y ≡ length d → LaidEntries d₀ (i + 1) y
  unfolding flat_map
  entries_turn d₀ d y i at first inside l ea ef inv w n =
      let fb = field_bytes_lem p in
      let k : at - first ≡ field_bytes p + 32 * i = omega (arith, fb.0) in
      let k' : field_bytes p + 32 * (i + 1) ≡ (field_bytes p + 32 * i) + 32 = omega arith in
      let lo : field_bytes p + 32 * i ≤ length d = omega (arith, fb.1, inv.long) in
      let fit : at + 32 ≤ length b = omega (arith, fb.0, fb.1) in
      record {
        long = n ∙ inv.long;
        rest = ap₂ (λ (m : ℕ) (v : Bytes). take m v ++ flat_map (moved_entry places b) (from p (i + 1))) k' (w ∙ ap (λ (m : ℕ). put m (moved_entry places b at) d) k)
            ∙ laid_turn (field_bytes p + 32 * i) 32 (moved_entry places b at) d (flat_map (moved_entry places b) (from p (i + 1))) (length_moved_entry places b at fit) lo
            ∙ ap (λ (x : ℕ). take (field_bytes p + 32 * i) d ++ (moved_entry places b x ++ flat_map (moved_entry places b) (from p (i + 1)))) ea
            ∙ ap (λ (l : List ℕ). take (field_bytes p + 32 * i) d ++ flat_map (moved_entry places b) l) (sym (from_next i l))
            ∙ inv.rest;
      }

  pub entries_last : (d₀ d : Bytes) (i : ℕ) → entry_count p ≤ i → i ≤ entry_count p → LaidEntries d₀ i d → d ≡ take (field_bytes p) d₀ ++ flat_map (moved_entry places b) (entries p)
  unfolding from flat_map count_from
  entries_last d₀ d i l u inv =
      let z : entry_count p - i ≡ 0 = omega arith in
      let m : length d ≤ field_bytes p + 32 * i = omega (arith, (field_bytes_lem p).1, inv.long) in
      sym (ap (λ (n : ℕ). take (field_bytes p + 32 * i) d ++ flat_map (moved_entry places b) (map (position p) (count_from i n))) z
      ∙ append-nil (take (field_bytes p + 32 * i) d) ∙ take_all (field_bytes p + 32 * i) d m) ∙ inv.rest

-- ---- a page, by its owner's entry

page_as : (places b : Bytes) (p : ℕ) {e : Entry} → owner_entry b p ≡ e → moved_as places b p e ≡ moved_page places b p
unfolding moved_page
page_as places b p q = ap (moved_as places b p) (sym q)

pub page_free : (places b y : Bytes) (p : ℕ) → owner_entry b p ≡ vacant → y ≡ part (256 * p) 256 b → y ≡ moved_page places b p
unfolding moved_as
page_free places b y p q e = e ∙ page_as places b p q

pub page_file : (places b y : Bytes) (p x : ℕ) (l : Bool) (n d : Bytes) (t z : ℕ) → owner_entry b p ≡ a_file l n d t z → p < page_count b → y ≡ part (256 * p) 256 b
    → x ≡ place_of places (byte_at y 0) → set y 0 x ≡ moved_page places b p
unfolding moved_as
page_file places b y p x l n d t z q u e w =
    let h : 256 * p < length b = omega arith in
    let k : 256 * p + 0 ≡ 256 * p = omega arith in
    let m : 1 + 255 ≡ 256 = refl in
    let first : byte_at y 0 ≡ link b p = ap (λ (v : Bytes). byte_at v 0) e ∙ byte_part (256 * p) 256 0 b (omega arith) ∙ ap (byte_at b) k in
    let split : part (256 * p) 256 b ≡ link b p ∷ content_on (view b) p = ap (take 256) (drop-cons b (256 * p) 0 h) ∙ ap (λ (i : ℕ). link b p ∷ take 255 (drop i b)) (sym (add-one (256 * p))) in
    ap₂ (λ (v : Bytes) (i : ℕ). set v 0 i) (e ∙ split) (w ∙ ap (place_of places) first)
    ∙ page_as places b p q

pub page_directory : (places b y : Bytes) (p : ℕ) (d : Bytes) (n t : Bytes) (s z : ℕ) → owner_entry b p ≡ a_directory n t s z → 1 ≤ p → y ≡ take (field_bytes p) d ++ flat_map (moved_entry places b) (entries p) → y ≡ moved_page places b p
unfolding moved_as
page_directory places b y zero d n t s z q l e = absurd (omega arith)
page_directory places b y (suc p) d n t s z q l e =
    e ∙ ap (λ (c : Bool). take (if c then 64 else 0) d ++ flat_map (moved_entry places b) (entries (suc p))) (eqb-suc-zero p) ∙ page_as places b (suc p) q
