-- Directories that grow, on a cartridge of 128 bytes that is made up for it: what is said of growth in EffectOf, RefusalOf and Tree is computed here by calls,
-- since no directory of version 1 grows, and an edit of this crate is refused by this crate's rows alone. Version 2's own rows are in crates/tables2_calls.
--
-- 16 pages of 8 bytes. Page 0: the number of free pages, two bytes of bitmap, a byte of no use, and the root's one entry; pages 1 and 2: the links, a byte
-- each. Any other page has two entries or 8 bytes of content. An entry has 4 bytes: flags, a name of one letter, start page, size; dates are all `day1`.
use mathlib.Core.Path.{◌≡◌, refl}
use Prim.Native.Nat.{ℕ, ◌+◌, ◌*◌, ◌/◌, max}
use mathlib.Core.Bool.{true, false}
use mathlib.Core.List.{List, [], ◌∷◌, ◌++◌, flat_map, map}
use lib.ListN.{replicate, set}
use lib.Dec.{eqb}
use Rattle.volume.specs.Bytes.{Bytes, byte_at, put, bit}
use Rattle.std.specs.Prelude.{if◌then◌else◌}
use Rattle.volume.specs.Chain.{chain, beyond, linked}
use Rattle.volume.specs.Field.{byte}
use Rattle.volume.specs.Geometry as On
use Rattle.volume.specs.Geometry.{Geometry}
use Rattle.model.specs.Numbers.{Numbers}
use Rattle.model.specs.Entry.{Entry, vacant, a_file, a_directory}
use Rattle.model.specs.View.{View, EntryLayout}
use Rattle.model.specs.Version.{Version, Calls}
use Rattle.model.specs.Tree.{Tree, width, fill, extend, inside}
use Rattle.model.specs.Walk.{change_at}
use Rattle.model.specs.Call.{verdict, make_file, make_directory, write, remove_file, Answer, refused, granted}
use Rattle.model.specs.EffectOf
use Rattle.model.specs.RefusalOf
use Rattle.model.specs.RefusalOf.{free_in}
use Rattle.model.specs.MeaningOf as Mean
use Rattle.model.specs.Text.{text}
use Rattle.model.proofs.Run.{computing}
use Rattle.model.proofs.Desk.{day1}

-- ---- the format

abbrev few : Geometry
few = record { aside = 3; size = 8; room = 8; link = λ p. byte (8 + p); count = byte 0; map = 1 }

abbrev few_numbers : Numbers
few_numbers = record { aside = 3; page_size = 8; pages_for = λ s. max 1 ((s + 7) / 8); root_entries = 1; page_entries = 2; grows = true }

abbrev letter : ℕ → Bytes
letter c = c ∷ replicate 15 0

abbrev entry_of : Bytes → ℕ → Entry
entry_of b at =
    if eqb (bit 7 (byte_at b at)) 1
    then (if eqb (bit 0 (byte_at b at)) 1 then a_directory (letter (byte_at b (at + 1))) day1 (byte_at b (at + 2)) (byte_at b (at + 3))
    else a_file false (letter (byte_at b (at + 1))) day1 (byte_at b (at + 2)) (byte_at b (at + 3)))
    else vacant

abbrev pages_on : Bytes → ℕ → List ℕ
pages_on b p = chain (On.next few b) (linked (On.next few b) 16 p) p

abbrev few_view : Bytes → View
few_view b = record {
  bytes = b;
  geometry = few;
  pages = 16;
  numbers = few_numbers;
  directory_pages = pages_on b;
  directory_ends = λ p. eqb (beyond (On.next few b) (linked (On.next few b) 16 p) p) 0;
  entries = λ p. flat_map (λ q. if eqb q 0 then (4 ∷ []) else ((8 * q) ∷ (8 * q + 4) ∷ [])) (pages_on b p);
  entry_at = entry_of b;
  -- only faults tell a place, and there are none here
  place_of = λ d i. (d, i);
}

abbrev few_layout : EntryLayout
few_layout = record {
  start_field = λ at. byte (at + 2);
  size_at = λ b at. byte_at b (at + 3);
  size_place = λ at. at + 3;
  size_bytes = λ s. s ∷ [];
  new_entry = λ flags name size date. flags ∷ byte_at name 0 ∷ 0 ∷ size ∷ [];
}

abbrev grower : Version
grower = record {
  New = Unit {0};
  Stores = ⊥;
  numbers = λ pages code. few_numbers;
  valid_length = λ n. eqb n 128;
  header = [];
  see = few_view;
  code_in = λ b. 0;
  entry = few_layout;
  handed = [];
  formatted = λ new b. b;
  pages_made = λ new n. 16;
  pages_after = λ new pages code. pages;
  code_after = λ new. 0;
  store_at = λ has. absurd has;
  store_count = λ has. absurd has;
  full_numbers = [];
}

-- ---- the image

-- /D has pages 3 and 5, with the files a and b, c and d. d has 48 bytes on pages 8, 10, 11, 13, 14 and 15. No entry is empty; pages 9 and 12 are free, with
-- stale links and bytes.
abbrev image : (links₀ links₁ page₃ page₉ page₁₂ : Bytes) (head : Bytes) → Bytes
image links₀ links₁ page₃ page₉ page₁₂ head =
    head ++ (0 ∷ 0x81 ∷ 0x44 ∷ 3 ∷ 8 ∷ []) ++ links₀ ++ links₁
    ++ page₃
    ++ replicate 8 0xEE
    ++ (0x80 ∷ 0x63 ∷ 7 ∷ 0 ∷ 0x80 ∷ 0x64 ∷ 8 ∷ 48 ∷ [])
    ++ replicate 24 0xEE ++ page₉ ++ replicate 16 0xEE ++ page₁₂ ++ replicate 24 0xEE

abbrev stale : Bytes
stale = replicate 8 0xEE

abbrev ab : Bytes
ab = 0x80 ∷ 0x61 ∷ 4 ∷ 0 ∷ 0x80 ∷ 0x62 ∷ 6 ∷ 0 ∷ []

unfoldable pub crowded : Bytes
crowded = image (0 ∷ 0x77 ∷ 0x77 ∷ 5 ∷ 0 ∷ 0 ∷ 0 ∷ 0 ∷ []) (10 ∷ 0xE5 ∷ 11 ∷ 13 ∷ 0xE5 ∷ 14 ∷ 15 ∷ 0 ∷ []) ab stale stale (2 ∷ 0xFF ∷ 0b11101101 ∷ [])

-- ---- calls

abbrev number_of : {A : Type 0} → Answer A → ℕ
number_of (granted x) = 0
number_of (refused f) = f.number

-- what a call is refused with, 0 where it is granted
abbrev told : Calls grower → Bytes → ℕ
told c b = number_of (Mean.answer grower c b)

abbrev after : Calls grower → Bytes → Bytes
after c b = Mean.after grower c b

-- The root is full, and so is /D, and two pages are free: the parent's page is 9, and it follows the last one of its chain; the new entry's is 12.
pub grows_first : (told (make_file (text "/x") day1) crowded ≡ 0)
    × (after (make_file (text "/x") day1) crowded
    ≡ image (9 ∷ 0x77 ∷ 0x77 ∷ 5 ∷ 0 ∷ 0 ∷ 0 ∷ 0 ∷ []) (10 ∷ 0 ∷ 11 ∷ 13 ∷ 0 ∷ 14 ∷ 15 ∷ 0 ∷ []) ab (0x80 ∷ 0x78 ∷ 12 ∷ 0 ∷ 0 ∷ 0 ∷ 0 ∷ 0 ∷ []) (replicate 8 0)
    (0 ∷ 0xFF ∷ 0xFF ∷ []))
    × (after (make_directory (text "/D/e") day1) crowded
    ≡ image (0 ∷ 0x77 ∷ 0x77 ∷ 5 ∷ 0 ∷ 9 ∷ 0 ∷ 0 ∷ []) (10 ∷ 0 ∷ 11 ∷ 13 ∷ 0 ∷ 14 ∷ 15 ∷ 0 ∷ []) ab (0x81 ∷ 0x65 ∷ 12 ∷ 8 ∷ 0 ∷ 0 ∷ 0 ∷ 0 ∷ []) (replicate 8 0)
    (0 ∷ 0xFF ∷ 0xFF ∷ []))
unfolding computing linked EffectOf.lengthened EffectOf.lengthened_if_full crowded
grows_first = (refl, refl, refl)

-- A make in a full directory with one page free is refused by 10, and one in a directory with an empty entry takes one page, its own.
abbrev one_free : Bytes
one_free = after (write (text "/D/d") 48 (1 ∷ [])) crowded

pub counts_the_page : (told verdict one_free ≡ 0)
    × (map (λ p. told (make_file p day1) one_free) (text "/x" ∷ text "/D/e" ∷ []) ≡ 10 ∷ 10 ∷ [])
    × (told (make_directory (text "/x") day1) one_free ≡ 10)
    × (after (make_file (text "/D/e") day1) (after (remove_file (text "/D/a")) crowded)
    ≡ put 32 (replicate 8 0) (set crowded 25 0x65))
unfolding computing linked EffectOf.lengthened EffectOf.lengthened_if_full crowded
counts_the_page = (refl, refl, refl, refl)

-- ---- the plain tree: a full row gets the entries of a page, and every page of a directory is counted

abbrev tree_of : Bytes → Tree
tree_of b = Mean.tree_of grower b

abbrev tree_after : Calls grower → Bytes → Tree
tree_after c b = Mean.tree_after grower c (tree_of b)

abbrev make_x : Calls grower
make_x = make_file (text "/x") day1

abbrev make_e : Calls grower
make_e = make_directory (text "/D/e") day1

pub in_the_tree : (tree_after make_x crowded ≡ tree_of (after make_x crowded))
    × (tree_after make_e crowded ≡ tree_of (after make_e crowded))
    × (map (λ (t : Tree). width t.root) (tree_of crowded ∷ tree_after make_x crowded ∷ tree_after make_e crowded ∷ [])
    ≡ 1 ∷ 3 ∷ 1 ∷ [])
    × (map (free_in grower) (tree_of crowded ∷ tree_of one_free ∷ tree_after make_x crowded ∷ tree_after make_e crowded ∷ [])
    ≡ 2 ∷ 1 ∷ 0 ∷ 0 ∷ [])
unfolding computing linked EffectOf.lengthened EffectOf.lengthened_if_full Mean.changed Mean.in_parent Mean.tree_after change_at fill extend inside crowded
in_the_tree = (refl, refl, refl, refl)
