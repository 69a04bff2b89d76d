-- Stores computed on real images: each page and its bytes, the cartridge pulled after each, and what stops a store. The laws would hold of a store that
-- was refused with other numbers, or emptied its buffer then; these rows would not.
use mathlib.Core.Path.{◌≡◌, refl}
use Prim.Native.Nat.{ℕ}
use mathlib.Core.List.{List, [], ◌∷◌, ◌++◌, map}
use lib.ListN.{replicate, set, take, drop}
use Rattle.volume.specs.Bytes.{Bytes, part, put}
use Rattle.model.specs.Path.{path_of, parents}
use Rattle.model.specs.Store.{stored, last_pages, store_pages, stores, store_at, is_none, store_count}
use Rattle.model.specs.Call.{format, verdict, make_file, write, store, refused, granted}
use Rattle.model.specs.Refusal.{own_numbers}
use Rattle.model.specs.Meaning.{answer, numbers}
use Rattle.model.specs.Text.{text}
use Rattle.model.specs.MeaningOf
use Rattle.model.specs.RefusalOf
use Rattle.model.proofs.Run.{computing, Step, Case, ◌gives◌, refusal, refusal_at, done, shown, answered, Hold, computed, stated, hold}
use Rattle.model.proofs.Desk.{day1, day2, content, header, stored as entry, fresh, full}
use Rattle.repair.specs.Remark.{remarked, recounted}
use Rattle.repair.specs.Repair.{repaired, repair_lines, repair_answer, repair_after}
use Rattle.store_laws.specs.Pull.{pulled}

-- a page that holds something beforehand
abbrev pub page : Bytes
page = replicate 256 0x33

-- a store that is granted, with its page and the bytes of it
abbrev pub lends : (path v : Bytes) (k p : ℕ) (bytes : Bytes) → Step
lends path v k p bytes = record { call = store path day1 v k page; given = record { answered = granted p; lent = bytes } }

-- the root's entries: /D on page 1 and /2, empty, on page 2
abbrev pub roots : Bytes
roots = entry 0x81 (text "D" ++ replicate 15 0) 1 0x00 0x01 day1 ++ entry 0x80 (text "2" ++ replicate 15 0) 2 0x00 0x00 day2

unfoldable pub base : Bytes
base = header 5 0b111 ++ roots ++ replicate 128 0 ++ replicate 512 0 ++ replicate 1280 0xE5

-- the new entries
abbrev pub empty : Bytes
empty = entry 0x80 (text "x" ++ replicate 15 0) 3 0x00 0x00 day1

abbrev pub longer : Bytes
longer = entry 0x80 (text "x" ++ replicate 15 0) 3 0x00 0x01 day1

-- bytes that nobody asks: bitmap bytes past N/8, a reserved byte, a vacant entry; a store carries them along
abbrev pub junk : Bytes → Bytes
junk b = put 192 (0x7F ∷ 0x2F ∷ []) (set (set b 5 0xFF) 40 7)

-- ---- the calls

pub calls : List Case
calls =
    -- one page for no content; in the root the header is the last
    shown base (
    lends (text "/x") [] 0 3 (replicate 256 0)
    ∷ lends (text "/x") [] 1 0 (header 4 0b1111 ++ roots ++ empty ++ replicate 96 0)
    ∷ store (text "/x") day1 [] 2 page gives refusal 12
    ∷ []) (λ b. b) base
    -- two pages below a directory
    ∷ shown base (
    lends (text "/D/x") (content 256) 0 3 (4 ∷ content 255)
    ∷ lends (text "/D/x") (content 256) 1 4 (0 ∷ 4 ∷ replicate 254 0)
    ∷ lends (text "/D/x") (content 256) 2 0 (header 3 0b11111 ++ roots ++ replicate 128 0)
    ∷ lends (text "/D/x") (content 256) 3 1 (longer ++ replicate 224 0)
    ∷ store (text "/D/x") day1 (content 256) 4 page gives refusal 12
    ∷ []) (λ b. b) base
    -- all free pages, and one more; 10 comes before 12
    ∷ answered base (
    store (text "/x") day1 (content 1275) 6 page gives refusal 12
    ∷ store (text "/x") day1 (content 1276) 0 page gives refusal 10
    ∷ store (text "/x") day1 (content 1276) 99 page gives refusal 10
    -- make's lines: 4, 11 before 5, 6, 8, 9; the buffer stays
    ∷ store (text "x") [] [] 0 page gives refusal 4
    ∷ store (text "/E/x") [] [] 0 page gives refusal 11
    ∷ store (text "/E/x") day1 [] 9 page gives refusal_at 5 1
    ∷ store (text "/2/x") day1 [] 9 page gives refusal_at 6 1
    ∷ store (text "/") day1 [] 9 page gives refusal 8
    ∷ store (text "/2") day1 [] 9 page gives refusal 8
    ∷ [])
    ∷ answered full (store (text "/x") day1 (content 1276) 9 page gives refusal 9 ∷ store (text "/A/x") day1 [] 9 page gives refusal 10 ∷ [])
    -- 29 before 1 and all others, and the buffer stays whatever its length; 1 with a buffer that is a page
    ∷ answered [] (
    store [] [] [] 9 [] gives refusal 29
    ∷ store [] [] [] 9 (replicate 255 7) gives refusal 29
    ∷ store [] [] [] 9 (replicate 257 7) gives refusal 29
    ∷ store [] [] [] 9 page gives refusal 1
    ∷ [])
    ∷ answered base (store (text "/x") day1 [] 0 (replicate 255 7) gives refusal 29 ∷ [])
    -- the largest file, of which only the numbers past its stores are refused
    ∷ shown (replicate 65536 0) (format gives done ∷ store (text "/x") day1 (replicate 65025 1) 256 page gives refusal 12 ∷ store (text "/x") day1 (replicate 65026 1) 0 page gives refusal 10 ∷ []) (part 3 1) (255 ∷ [])
    -- its numbers
    ∷ shown [] [] (λ b. own_numbers (store [] [] [] 0 [])) (4 ∷ 11 ∷ 5 ∷ 6 ∷ 8 ∷ 9 ∷ 10 ∷ 12 ∷ [])
    ∷ shown [] [] (λ b. numbers (store [] [] [] 0 [])) (29 ∷ 1 ∷ 2 ∷ 16 ∷ 17 ∷ 18 ∷ 20 ∷ 19 ∷ 3 ∷ 4 ∷ 11 ∷ 5 ∷ 6 ∷ 8 ∷ 9 ∷ 10 ∷ 12 ∷ [])
    ∷ []

pub calls_hold : Hold calls
unfolding computing computed stated calls base full stored last_pages store_pages stores store_at is_none store_count RefusalOf.own_numbers MeaningOf.numbers
calls_hold = hold calls refl

-- ---- pulled after so many stores of 256 bytes for /D/x, and repaired

abbrev pub cut : ℕ → Bytes
cut k = pulled k (path_of (text "/D/x")) day1 (content 256) (junk base)

-- behind the header page: the directory's page, page 2, and what the two content pages hold
abbrev pub behind : (directory third fourth : Bytes) → Bytes
behind d x y = d ++ replicate 256 0 ++ x ++ y ++ replicate 768 0xE5

abbrev pub old : Bytes
old = take 256 (junk base)

abbrev pub new : Bytes
new = take 256 (junk (header 3 0b11111 ++ roots ++ replicate 128 0))

abbrev pub blank : Bytes
blank = replicate 256 0xE5

abbrev pub Rows : Type 0
Rows =
    (cut 0 ≡ junk base)
    × (cut 1 ≡ old ++ behind (replicate 256 0) (4 ∷ content 255) blank)
    × (cut 2 ≡ old ++ behind (replicate 256 0) (4 ∷ content 255) (0 ∷ 4 ∷ replicate 254 0))
    × (cut 3 ≡ new ++ behind (replicate 256 0) (4 ∷ content 255) (0 ∷ 4 ∷ replicate 254 0))
    × (cut 4 ≡ new ++ behind (longer ++ replicate 224 0) (4 ∷ content 255) (0 ∷ 4 ∷ replicate 254 0))
    -- before the header there is nothing to mend; after it two pages are lost, and the old header comes back
    × (repair_after (cut 2) ≡ cut 2)
    × (answer verdict (cut 3) ≡ refused (record { number = 19; place = (3, 0, 0) }))
    × (repair_after (cut 3) ≡ cut 2)
    × (repair_after (cut 4) ≡ cut 4)

pub rows_hold : Rows
unfolding computing remarked recounted repaired repair_lines repair_answer repair_after base stored last_pages store_pages stores pulled
rows_hold = (refl, refl, refl, refl, refl, refl, refl, refl, refl)
