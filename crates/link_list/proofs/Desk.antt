-- The four calls computed on images of 2,048 bytes that are given byte for byte: which refusal stands above which, what a list keeps, and the whole
-- image after a writing.
use mathlib.Core.Path.{◌≡◌, refl}
use mathlib.Core.Option.{none, some}
use Prim.Native.Nat.{ℕ}
use mathlib.Core.List.{List, [], ◌∷◌, ◌++◌, map}
use lib.ListN.{replicate, set}
use Rattle.volume.specs.Bytes.{Bytes}
use Rattle.volume.specs.Lists.{count_from}
use Rattle.model.specs.Text.{text}
use Rattle.model.specs.Tree.{fill, rewrite, vacate, inside}
use Rattle.model.specs.Walk.{change_at}
use Rattle.model.specs.Call.{Refusal, refusal, refusal_at, Answer, refused, granted}
use Rattle.model.specs.Meaning.{in_parent}
use Rattle.model.specs.DemandsOf
use Rattle.model.specs.MeaningOf
use Rattle.model.proofs.Run.{computing}
use Rattle.model.proofs.Desk.{day1, day2, header, stored}
use Rattle.family.specs.Family.{onward}
use Rattle.link_list.specs.declared.Row.{Row}
use Rattle.link_list.specs.Links.{LinkCall, read_links, write_links, find_link, check_links, rows_in, is_file_there, is_directory_there, is_locked_there, file_lines, bad_line, judged_lines, record_lines, figure_of, removal, writing, bad_row_line, room_lines, old_lines, link_lines, link_told, list_filled, turns_of, link_answer, link_list, run_after, link_after}
use Rattle.link_list.proofs.Table.{coding, link}

unfoldable pub calling : Unit {0}
unfolding computing coding fill rewrite vacate inside change_at in_parent MeaningOf.changed MeaningOf.tree_after DemandsOf.replay onward rows_in is_file_there is_directory_there is_locked_there file_lines bad_line judged_lines record_lines figure_of removal writing bad_row_line room_lines old_lines link_lines link_told list_filled turns_of link_answer link_list run_after link_after
calling = tt

-- ---- how an image is written

-- a name with its padding, by the zeros that it lacks
abbrev named : Bytes → ℕ → Bytes
named v zeros = v ++ replicate zeros 0

abbrev links : (flags start size : ℕ) (date : Bytes) → Bytes
links flags start size date = stored flags (named (text "LINKS") 11) start size 0 date

abbrev small : (name : Bytes) (start : ℕ) → Bytes
small name start = stored 0x80 (named name 15) start 0 0 day1

abbrev vacant_entries : ℕ → Bytes
vacant_entries zeros = replicate zeros 0

-- a file's page: its link, and its content before zeros
abbrev page : (link : ℕ) → Bytes → (zeros : ℕ) → Bytes
page next v zeros = next ∷ v ++ replicate zeros 0

abbrev untouched : Bytes
untouched = replicate 256 0xE5

-- ---- looking

-- In the directory A the file 0042, the directory 7 and LINKS of these bytes; in the root also the file 42 and a locked LINKS.
unfoldable desk : (links date : Bytes) → (size zeros : ℕ) → Bytes
desk v date size zeros =
    header 1 0b1111111 ++ stored 0x81 (named (text "A") 15) 1 0 1 day1 ++ stored 0x80 (named (text "42") 14) 5 0 0 day1 ++ links 0xC0 6 6 day1 ++ vacant_entries 96
    ++ stored 0x80 (named (text "0042") 12) 2 0 0 day1 ++ stored 0x81 (named (text "7") 15) 3 0 1 day1 ++ links 0x80 4 size date ++ vacant_entries 160
    ++ replicate 512 0
    ++ page 0 v zeros
    ++ replicate 256 0
    ++ page 0 (2 ∷ 42 ∷ 1 ∷ 4 ∷ 42 ∷ 1 ∷ []) 249
    ++ untouched

-- LINKS of A with the rows (1, 7, 1) and (4, 42, 300), and with a broken second row
unfoldable good : Bytes
good = desk (1 ∷ 7 ∷ 1 ∷ 4 ∷ 42 ∷ 0xAC ∷ 2 ∷ []) day1 7 248

unfoldable broken : Bytes
broken = desk (1 ∷ 7 ∷ 1 ∷ 4 ∷ 42 ∷ 0xAC ∷ 0 ∷ []) day1 7 248

-- page 7 marked and nobody's
unfoldable lost : Bytes
lost = set (set good 3 0) 4 0xFF

abbrev A : Bytes
A = text "/A"

abbrev Refused : LinkCall → Bytes → Refusal → Type 0
Refused c b f = link_answer c b ≡ refused f

abbrev Reads : (d : Bytes) (before after : List Row) → Bytes → Answer ℕ → Type 0
Reads d before after b a = (link_answer (read_links d before) b ≡ a) × (link_list (read_links d before) b ≡ after)

abbrev Looks : Type 0
Looks =
    -- into lists of one, two and three rows, of none for none; a locked LINKS is read
    Reads A (link 9 9 9 ∷ []) (link 9 9 9 ∷ []) good (refused (refusal 24))
    × Reads A (link 9 9 9 ∷ link 8 8 8 ∷ []) (link 1 7 1 ∷ link 4 42 300 ∷ []) good (granted 2)
    × Reads A (link 9 9 9 ∷ link 8 8 8 ∷ link 7 7 7 ∷ []) (link 1 7 1 ∷ link 4 42 300 ∷ link 7 7 7 ∷ []) good (granted 2)
    × Reads (text "/") (link 9 9 9 ∷ link 8 8 8 ∷ []) (link 2 42 1 ∷ link 4 42 1 ∷ []) good (granted 2)
    -- the figure of the exact accession, or none
    × (link_answer (find_link A 4 42) good ≡ granted (some 300))
    × (link_answer (find_link A 1 7) good ≡ granted (some 1))
    × (link_answer (find_link A 2 42) good ≡ granted none)
    × (link_answer (find_link A 4 7) good ≡ granted none)
    × (link_answer (find_link A 17 42) good ≡ granted none)
    -- 7 is a directory, and 0042 is not in the root
    × Refused (check_links A) good (refusal_at 23 0)
    × Refused (check_links (text "/")) good (refusal_at 23 1)
    -- the whole file is judged before anything is found, missing or too long
    × Refused (find_link A 1 7) broken (refusal_at 21 3)
    × Refused (check_links A) broken (refusal_at 21 3)
    × Refused (read_links A []) broken (refusal_at 21 3)
    -- no path, no such directory, a file for a directory, no LINKS, a directory of that name
    × Refused (read_links [] []) good (refusal 4)
    × Refused (find_link (text "/A/") 1 1) good (refusal 4)
    × Refused (check_links (text "A")) good (refusal 4)
    × Refused (read_links (text "/B") []) good (refusal_at 5 1)
    × Refused (find_link (text "/A/8") 1 1) good (refusal_at 5 3)
    × Refused (check_links (text "/42")) good (refusal_at 6 1)
    × Refused (read_links (text "/A/7") []) good (refusal_at 5 5)
    -- the image first
    × Refused (read_links [] []) lost (refusal_at 19 7)
    × Refused (find_link A 1 7) lost (refusal_at 19 7)
    × Refused (check_links A) lost (refusal_at 19 7)
    × Refused (write_links [] [] []) lost (refusal_at 19 7)
    × Refused (write_links [] [] []) [] (refusal 1)

looks_hold : Looks
unfolding calling desk good broken lost
looks_hold = ((refl, refl), (refl, refl), (refl, refl), (refl, refl), refl, refl, refl, refl, refl, refl, refl, refl, refl, refl, refl, refl, refl, refl, refl, refl, refl, refl, refl, refl, refl, refl)

-- ---- writing

-- n rows of seven bytes each
abbrev many : ℕ → List Row
many n = map (λ i. link 4 i 4294967295) (count_from 0 n)

-- /B on six pages, so one is free
unfoldable tight : Bytes
tight = header 1 0b1111111 ++ stored 0x80 (named (text "B") 15) 1 0xFA 5 day1 ++ vacant_entries 160
    ++ page 2 (replicate 255 7) 0 ++ page 3 (replicate 255 7) 0 ++ page 4 (replicate 255 7) 0 ++ page 5 (replicate 255 7) 0 ++ page 6 (replicate 255 7) 0 ++ page 0 (replicate 255 7) 0
    ++ untouched

-- /B on four pages and LINKS on three, so none is free
unfoldable full : Bytes
full = header 0 0xFF ++ stored 0x80 (named (text "B") 15) 1 0xFC 3 day1 ++ stored 0x80 (named (text "LINKS") 11) 5 0x58 2 day1 ++ vacant_entries 128
    ++ page 2 (replicate 255 7) 0 ++ page 3 (replicate 255 7) 0 ++ page 4 (replicate 255 7) 0 ++ page 0 (replicate 255 7) 0
    ++ page 6 (replicate 255 7) 0 ++ page 7 (replicate 255 7) 0 ++ page 0 (replicate 90 7) 165

-- six files in the root; the third has these bytes
unfoldable six_with : (third : Bytes) → Bytes → ℕ → Bytes
six_with third v zeros = header 1 0b1111111 ++ small (text "1") 1 ++ small (text "2") 2 ++ third ++ small (text "4") 4 ++ small (text "5") 5 ++ small (text "6") 6
    ++ replicate 512 0 ++ page 0 v zeros ++ replicate 768 0 ++ untouched

-- an entry emptied before LINKS, whose page 2 stands before a free one
unfoldable moved : Bytes
moved = header 6 0b101 ++ set (small (text "1") 1) 0 0 ++ links 0x80 2 3 day1 ++ vacant_entries 128 ++ replicate 256 0 ++ page 0 (1 ∷ 7 ∷ 1 ∷ []) 252 ++ replicate 1280 0xE5

unfoldable moved_after : Bytes
moved_after = header 6 0b11 ++ links 0x80 1 4 day2 ++ set (links 0x80 2 3 day1) 0 0 ++ vacant_entries 128 ++ page 0 (3 ∷ 0x80 ∷ 1 ∷ 5 ∷ []) 251 ++ page 0 (1 ∷ 7 ∷ 1 ∷ []) 252 ++ replicate 1280 0xE5

-- a directory LINKS
unfoldable named_so : Bytes
named_so = header 6 0b11 ++ stored 0x81 (named (text "LINKS") 11) 1 0 1 day1 ++ vacant_entries 160 ++ replicate 256 0 ++ replicate 1536 0xE5

abbrev root : Bytes
root = text "/"

abbrev Wrote : (d date : Bytes) (rs : List Row) (before after : Bytes) → Type 0
Wrote d date rs b b' = (link_answer (write_links d date rs) b ≡ granted tt) × (link_after (write_links d date rs) b ≡ b')

abbrev Writes : Type 0
Writes =
    -- over the old file in its entry and on its page, with the new date; a shorter list, and none
    Wrote A day2 (link 4 42 9 ∷ []) good (desk (4 ∷ 42 ∷ 9 ∷ []) day2 3 252)
    × Wrote A day2 [] good (desk [] day2 0 255)
    -- in the lowest entry and on the lowest page that are free then
    × Wrote root day2 (link 3 128 5 ∷ []) moved moved_after
    -- six entries, of which LINKS is one: there is room
    × Wrote root day2 (link 1 7 1 ∷ []) (six_with (links 0x80 3 0 day1) [] 255) (six_with (links 0x80 3 3 day2) (1 ∷ 7 ∷ 1 ∷ []) 252)
    -- 9, and 21 and 22 before it
    × Refused (write_links root day1 []) (six_with (small (text "3") 3) [] 255) (refusal 9)
    × Refused (write_links root day1 (link 0 0 0 ∷ [])) (six_with (small (text "3") 3) [] 255) (refusal_at 21 0)
    × Refused (write_links root day1 (link 1 7 1 ∷ link 1 7 1 ∷ [])) (six_with (small (text "3") 3) [] 255) (refusal_at 22 1)
    -- 10: one page is free; the old file's three pages are free then
    × (link_answer (write_links root day1 (many 36)) tight ≡ granted tt)
    × Refused (write_links root day1 (many 37)) tight (refusal 10)
    × (link_answer (write_links root day1 (many 109)) full ≡ granted tt)
    × Refused (write_links root day1 (many 110)) full (refusal 10)
    -- 4, 11, 5, 6, 7, 25, then the rows
    × Refused (write_links [] [] (link 0 0 0 ∷ [])) good (refusal 4)
    × Refused (write_links (text "/42/") [] (link 0 0 0 ∷ [])) good (refusal 4)
    × Refused (write_links (text "/Z") [] (link 0 0 0 ∷ [])) good (refusal 11)
    × Refused (write_links (text "/Z") day1 (link 0 0 0 ∷ [])) good (refusal_at 5 1)
    × Refused (write_links (text "/42") day1 (link 0 0 0 ∷ [])) good (refusal_at 6 1)
    × Refused (write_links root [] (link 0 0 0 ∷ [])) named_so (refusal 11)
    × Refused (write_links root day1 (link 0 0 0 ∷ [])) named_so (refusal 7)
    × Refused (read_links root []) named_so (refusal 7)
    × Refused (write_links root [] (link 0 0 0 ∷ [])) good (refusal 11)
    × Refused (write_links root day1 (link 0 0 0 ∷ [])) good (refusal 25)

writes_hold : Writes
unfolding calling desk good tight full six_with moved moved_after named_so
writes_hold = ((refl, refl), (refl, refl), (refl, refl), (refl, refl), refl, refl, refl, refl, refl, refl, refl, refl, refl, refl, refl, refl, refl, refl, refl, refl, refl)
