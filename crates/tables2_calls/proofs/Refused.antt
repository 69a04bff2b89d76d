-- Refusals in the table's order, and the numbers that each call can give: 26 stands after 2, the faults after that, and 9 and 29 nowhere.
use mathlib.Core.Path.{◌≡◌, refl}
use Prim.Native.Nat.{ℕ}
use mathlib.Core.Bool.{true, false}
use mathlib.Core.List.{List, [], ◌∷◌, ◌++◌, map}
use lib.ListN.{length, set}
use Rattle.volume.specs.Bytes.{Bytes, part}
use Rattle.volume.specs.Lists.{up_to}
use Rattle.model.specs.Tree.{Tree, Row, empty_row}
use Rattle.model.specs.Call.{format_as, verdict, find, list, read, make_file, make_directory, write, remove_file, remove_directory, set_lock, Answer, refused, granted, Told}
use Rattle.model.specs.RefusalOf.{Line, settle, table_order}
use Rattle.model.specs.MeaningOf.{lines, length_line, numbers, answer, tree_of, tree_after}
use Rattle.model.specs.MeaningOf as Mean
use Rattle.model.specs.DemandsOf.{fresh_of}
use Rattle.model.specs.Text.{text}
use Rattle.model2.specs.Layout.{header_lines}
use Rattle.model2.specs.Format.{format_lines}
use Rattle.model2.specs.Calls.{v2}
use Rattle.model2.proofs.Run2.{computing2, Call2, Case, ◌gives◌, done, answered, leaves, refusal, refusal_at, Hold, computed, stated, hold}
use Rattle.model2.proofs.Desk2.{day1, desk2, desk512}

-- ---- the tables of lines that stand in crates/tables2 are those of the calls

pub format_asks : (code : ℕ) (b : Bytes) → lines v2 (format_as code) b ≡ format_lines code (length b)
unfolding lines Mean.is_format
format_asks code b = refl

-- so what format answers hangs on the code and the length alone, and the tables `no_length` and `fitting` there, with every border, are what the call gives
pub format_answers : (code : ℕ) (b : Bytes) → answer v2 (format_as code) b ≡ settle (format_lines code (length b)) refused (granted tt)
unfolding answer lines Mean.is_format
format_answers code b = refl

pub header_asks : (b : Bytes) → length_line v2 b ∷ Mean.header_lines v2 b ≡ header_lines b
header_asks b = refl

-- ---- numbers

-- every call but format, each once
abbrev others : List Call2
others =
    verdict ∷ find [] ∷ list [] 0 ∷ read [] 0 [] ∷ make_file [] [] ∷ make_directory [] [] ∷ write [] 0 [] ∷ remove_file [] ∷ remove_directory []
    ∷ set_lock true [] ∷ set_lock false [] ∷ []

abbrev judged : List ℕ → List ℕ
judged own = 1 ∷ 2 ∷ 26 ∷ 16 ∷ 17 ∷ 18 ∷ 20 ∷ 19 ∷ 3 ∷ own

pub given : (map (numbers v2) others
    ≡ judged []
    ∷ judged (4 ∷ 5 ∷ 6 ∷ [])
    ∷ judged (4 ∷ 5 ∷ 6 ∷ 12 ∷ [])
    ∷ judged (4 ∷ 5 ∷ 6 ∷ 7 ∷ 12 ∷ [])
    ∷ judged (4 ∷ 11 ∷ 5 ∷ 6 ∷ 8 ∷ 10 ∷ [])
    ∷ judged (4 ∷ 11 ∷ 5 ∷ 6 ∷ 8 ∷ 10 ∷ [])
    ∷ judged (4 ∷ 5 ∷ 6 ∷ 7 ∷ 25 ∷ 12 ∷ 10 ∷ [])
    ∷ judged (4 ∷ 14 ∷ 5 ∷ 6 ∷ 7 ∷ 25 ∷ [])
    ∷ judged (4 ∷ 14 ∷ 5 ∷ 6 ∷ 13 ∷ [])
    ∷ judged (4 ∷ 5 ∷ 6 ∷ 7 ∷ [])
    ∷ judged (4 ∷ 5 ∷ 6 ∷ 7 ∷ [])
    ∷ [])
    × (map (λ code. numbers v2 (format_as code)) (0 ∷ 3 ∷ []) ≡ (1 ∷ 26 ∷ []) ∷ (1 ∷ 26 ∷ []) ∷ [])
    × (table_order v2 ≡ judged (4 ∷ 11 ∷ 14 ∷ 5 ∷ 6 ∷ 8 ∷ 7 ∷ 25 ∷ 12 ∷ 10 ∷ 13 ∷ []))
unfolding computing2
given = (refl, refl, refl)

-- ---- every call asks the image first

abbrev number_of : {A : Type 0} → Answer A → ℕ
number_of (granted x) = 0
number_of (refused f) = f.number

-- what the calls above, of which most have no path, are refused with; 0 where one is granted
abbrev asked : Bytes → List ℕ
asked b = map (λ (c : Call2). number_of (answer v2 c b)) others

abbrev alike : ℕ → List ℕ
alike n = map (λ i. n) (up_to 11)

pub images_first : (asked desk2 ≡ 0 ∷ map (λ i. 4) (up_to 10))
    × (asked (part 0 2047 desk2) ≡ alike 1)
    -- 1, 2 and 26 together; 2, 26 and a fault; 26 and a fault; a fault
    × (asked (set (set (part 0 2047 desk2) 1 1) 6 9) ≡ alike 1)
    × (asked (set (set (set desk2 1 1) 6 9) 145 1) ≡ alike 2)
    × (asked (set (set desk2 6 9) 145 1) ≡ alike 26)
    × (asked (set desk2 3 1) ≡ alike 26)
    × (asked (set desk2 145 1) ≡ alike 17)
    × (asked (set desk2 4 7) ≡ alike 3)
unfolding computing2 desk2
images_first = (refl, refl, refl, refl, refl, refl, refl, refl)

-- ---- and then its own lines, in order

pub makes : List Case
makes =
    leaves desk2 (
    make_file (text "q") [] gives refusal 4
    ∷ make_file (text "/q/") day1 gives refusal 4
    ∷ make_file (text "/q/x") [] gives refusal 11
    ∷ make_file (text "/q/x") day1 gives refusal_at 5 1
    ∷ make_directory (text "/7/x") day1 gives refusal_at 6 1
    ∷ make_file (text "/") day1 gives refusal 8
    ∷ make_directory (text "/B") day1 gives refusal 8
    ∷ make_file (text "/A/C") day1 gives refusal 8
    ∷ [])
    desk2
    ∷ []

pub makes_hold : Hold makes
unfolding computing2 computed stated makes desk2
makes_hold = hold makes refl

-- ---- the tree after a format has N and the code of the new page size

pub fresh_trees : (fresh_of v2 0 8192 ≡ record { pages = 32; code = 0; root = empty_row 7 })
    × (fresh_of v2 1 69632 ≡ record { pages = 136; code = 1; root = empty_row 15 })
    × (fresh_of v2 2 1048576 ≡ record { pages = 1024; code = 2; root = empty_row 27 })
    × (tree_after v2 (format_as 2) (record { pages = 32; code = 0; root = empty_row 3 }) ≡ record { pages = 8; code = 2; root = empty_row 31 })
    × (tree_after v2 (format_as 0) (tree_of v2 desk512) ≡ record { pages = 16; code = 0; root = empty_row 7 })
    × (tree_after v2 (format_as 2) (tree_of v2 desk512) ≡ tree_of v2 desk512)
unfolding computing2 desk512
fresh_trees = (refl, refl, refl, refl, refl, refl)
