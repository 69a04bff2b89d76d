-- The definitions at work, computed: a volume of eight pages of eight bytes, once with the link as a page's first byte and once with the links
-- in a table of two bytes each.
use mathlib.Core.Path.{◌≡◌, refl}
use Prim.Native.Nat.{ℕ, ◌+◌, ◌*◌}
use mathlib.Core.Bool.{Bool, true, false}
use mathlib.Core.List.{List, [], ◌∷◌, ◌++◌, map}
use lib.ListN.{replicate}
use Rattle.volume.specs.Bytes.{Bytes, byte_at, le16, same}
use Rattle.volume.specs.Lists.{all, any, keep, last_or, distinct, count_from, first}
use Rattle.volume.specs.Field.{byte, pair}
use Rattle.volume.specs.Chain.{chain, beyond, spread}
use Rattle.volume.specs.Geometry.{Geometry, next, page_bit, zero_bits, lowest_free, mark, unmark, taken, released, grown, gained, joint_of, written}

-- byte 1 is the count and byte 2 the bitmap; pages 0, 1 and 3 are taken, and page 1 is a chain of its own
links_on_pages : Geometry
links_on_pages = record { aside = 1; size = 8; room = 7; link = λ p. byte (8 * p); count = byte 1; map = 2 }

on_pages : Bytes
on_pages = 0xAA ∷ 5 ∷ 0b1011 ∷ replicate 5 0xCC ++ 0 ∷ replicate 7 0x11 ++ replicate 48 0xE5

-- the table of links is in pages 1 and 2; pages 3 and 5 are taken, and page 3 is a chain of its own
links_in_table : Geometry
links_in_table = record { aside = 3; size = 8; room = 8; link = λ p. pair (8 + 2 * p); count = byte 1; map = 2 }

in_table : Bytes
in_table = 0xAA ∷ 3 ∷ 0b101111 ∷ replicate 5 0xCC ++ replicate 6 0xDD ++ 0 ∷ 0 ∷ replicate 8 0xDD ++ replicate 8 0x33 ++ replicate 32 0xE5

flag : Bool → ℕ
flag true = 1
flag false = 0

-- what is computed, and what it is
pub record Example : Type 0 where
  pub got : List ℕ
  pub want : List ℕ

pub examples : List Example
examples =
    -- names are equal only if all their bytes are
    record {
      got = map flag (same (1 ∷ 2 ∷ []) (1 ∷ 2 ∷ []) ∷ same (1 ∷ []) (1 ∷ 2 ∷ []) ∷ same (1 ∷ 2 ∷ []) (1 ∷ []) ∷ same (0 ∷ 4 ∷ []) (4 ∷ []) ∷ []);
      want = 1 ∷ 0 ∷ 0 ∷ 0 ∷ [];
    }
    -- bits, zero bits among the first 4 and 8, and the lowest free page
    ∷ record { got = map (page_bit links_on_pages on_pages) (count_from 0 8); want = 1 ∷ 1 ∷ 0 ∷ 1 ∷ 0 ∷ 0 ∷ 0 ∷ 0 ∷ [] }
    ∷ record {
      got = zero_bits links_on_pages on_pages 4 ∷ zero_bits links_on_pages on_pages 8 ∷ lowest_free links_on_pages 8 on_pages ∷ lowest_free links_on_pages 2 on_pages ∷ [];
      want = 1 ∷ 5 ∷ 2 ∷ 2 ∷ [];
    }
    -- a page taken is marked, counted and zeroed, whatever it held
    ∷ record {
      got = taken links_on_pages 2 on_pages;
      want = 0xAA ∷ 4 ∷ 0b1111 ∷ replicate 5 0xCC ++ 0 ∷ replicate 7 0x11 ++ replicate 8 0 ++ replicate 40 0xE5;
    }
    -- a page given back keeps its bytes
    ∷ record {
      got = released links_on_pages on_pages 1;
      want = 0xAA ∷ 6 ∷ 0b1001 ∷ replicate 5 0xCC ++ 0 ∷ replicate 7 0x11 ++ replicate 48 0xE5;
    }
    -- two pages more at the end of the chain from page 1: pages 2 and 4, in this order
    ∷ record { got = gained links_on_pages 8 2 on_pages; want = 2 ∷ 4 ∷ [] }
    ∷ record {
      got = grown links_on_pages 8 2 (byte 8) on_pages;
      want = 0xAA ∷ 3 ∷ 0b11111 ∷ replicate 5 0xCC ++ 2 ∷ replicate 7 0x11 ++ 4 ∷ replicate 7 0 ++ replicate 8 0xE5 ++ replicate 8 0 ++ replicate 24 0xE5;
    }
    ∷ record {
      got = chain (next links_on_pages (grown links_on_pages 8 2 (byte 8) on_pages)) 3 1 ++ beyond (next links_on_pages (grown links_on_pages 8 2 (byte 8) on_pages)) 3 1 ∷ [];
      want = 1 ∷ 2 ∷ 4 ∷ 0 ∷ [];
    }
    -- ten bytes at place 5 of the content of page 1, which gains a page; the size goes to byte 5
    ∷ record {
      got = written links_on_pages 8 (byte 4) (1 ∷ []) 1 5 (le16 15) 5 (count_from 1 10) on_pages;
      want = 0xAA ∷ 4 ∷ 0b1111 ∷ 0xCC ∷ 0xCC ∷ 15 ∷ 0 ∷ 0xCC ∷ 2 ∷ replicate 5 0x11 ++ 1 ∷ 2 ∷ 0 ∷ count_from 3 7 ++ replicate 40 0xE5;
    }
    -- a chain of two pages is joined at its last
    ∷ record { got = map (byte_at (written links_on_pages 8 (byte 4) (1 ∷ 3 ∷ []) 1 5 (le16 15) 14 (7 ∷ []) on_pages)) (8 ∷ 16 ∷ 17 ∷ 24 ∷ []); want = 0 ∷ 0 ∷ 7 ∷ 2 ∷ [] }
    -- the same with links of two bytes in a table
    ∷ record { got = gained links_in_table 8 2 in_table; want = 4 ∷ 6 ∷ [] }
    ∷ record {
      got = written links_in_table 8 (byte 4) (3 ∷ []) 2 5 (le16 20) 7 (count_from 1 13) in_table;
      want = 0xAA ∷ 1 ∷ 0b1111111 ∷ 0xCC ∷ 0xCC ∷ 20 ∷ 0 ∷ 0xCC ∷ replicate 6 0xDD ++ 4 ∷ 0 ∷ 6 ∷ 0 ∷ 0xDD ∷ 0xDD ∷ 0 ∷ 0 ∷ 0xDD ∷ 0xDD
          ∷ replicate 7 0x33 ++ 1 ∷ count_from 2 8 ++ replicate 8 0xE5 ++ count_from 10 4 ++ replicate 4 0 ++ replicate 8 0xE5;
    }
    ∷ []

pub examples_hold : map (λ (e : Example). e.got) examples ≡ map (λ (e : Example). e.want) examples
unfolding all any keep last_or distinct count_from first same chain beyond spread page_bit zero_bits lowest_free mark unmark taken released grown gained joint_of written links_on_pages on_pages links_in_table in_table flag examples
examples_hold = refl
