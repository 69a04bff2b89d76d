-- What an image means as a whole: its tree, the tree that the calls replay to, and the listing. Each row is computed from the definitions, so it holds
-- by `refl`.
use mathlib.Core.Path.{refl}
use Prim.Native.Nat.{ℕ, suc}
use mathlib.Core.Bool.{false}
use mathlib.Core.List.{List, [], ◌∷◌, ◌++◌}
use lib.ListN.{replicate, set}
use Rattle.volume.specs.Bytes.{Bytes}
use Rattle.model.specs.Tree.{Row, end, free, file, dir, Tree, fill, rewrite, vacate, inside}
use Rattle.model.specs.Image.{tree_of}
use Rattle.model.specs.Walk.{change_at}
use Rattle.model.specs.Call.{format, verdict, find, make_file, make_directory, write, remove_file, remove_directory}
use Rattle.model.specs.Meaning.{in_parent}
use Rattle.model.specs.Demands.{replay, replay_results}
use Rattle.model.specs.Text.{text}
use Rattle.model.specs.Listing.{digits, line, row_lines, tree_lines, listing_of, listing}
use Rattle.model.specs.DemandsOf
use Rattle.model.specs.MeaningOf
use Rattle.model.proofs.Run.{computing, Step, calls, given, Case, ◌gives◌, reads, refusal, refusal_at, done, sized, shown, Hold, computed, stated, hold}
use Rattle.tables.proofs.Table.{blank, new_file, new_directory}
use Rattle.model.proofs.Desk.{day1, day2, day3, content, fresh, desk, full}

unfoldable pub replaying : Unit {0}
unfolding fill rewrite vacate inside change_at in_parent MeaningOf.changed MeaningOf.tree_answer MeaningOf.tree_buffer MeaningOf.tree_after DemandsOf.replay DemandsOf.replay_results
replaying = tt

unfoldable pub printing : Unit {0}
unfolding digits line row_lines tree_lines listing_of listing
printing = tt

-- ---- trees

desk_tree : Tree
desk_tree = record {
  pages = 8;
  code = 0;
  root =
      file false (text "0042" ++ replicate 12 0) day1 (content 256)
      (dir (text "A" ++ replicate 15 0) day2
      (file false (text "7" ++ replicate 15 0) day3 []
      (dir (text "B" ++ replicate 15 0) day1 (free (free (free (free (free (free (free (free end))))))))
      (free (free (free (free (free (free end))))))))
      (free (free (free (free end)))));
}

-- the calls that make the desk from a fresh image, among others that leave nothing behind
desk_steps : List Step
desk_steps =
    make_file (text "/0042") day1 gives done
    ∷ make_file (text "/x") day1 gives done
    ∷ make_file (text "/0042") day2 gives refusal 8
    ∷ write (text "/0042") 0 (content 200) gives done
    ∷ remove_file (text "/x") gives done
    ∷ make_directory (text "/A") day2 gives done
    ∷ write (text "/0042") 200 (replicate 2000 1) gives refusal 10
    ∷ make_directory (text "/A/x") day3 gives done
    ∷ make_directory (text "/A/B") day1 gives done
    ∷ remove_directory (text "/A") gives refusal 13
    ∷ remove_directory (text "/A/x") gives done
    ∷ make_file (text "/A/7") day3 gives done
    ∷ write (text "/0042") 0 (content 256) gives done
    ∷ reads (text "/0042") 253 (replicate 5 9) 3 (2 ∷ 3 ∷ 4 ∷ 9 ∷ 9 ∷ [])
    ∷ find (text "/A/7/x") gives refusal_at 6 3
    ∷ verdict gives sized 8 2
    ∷ []

pub trees : List Case
trees =
    shown desk [] tree_of desk_tree
    ∷ shown fresh desk_steps tree_of desk_tree
    ∷ shown fresh [] (λ b. replay (calls desk_steps) (tree_of b)) desk_tree
    ∷ shown fresh [] (λ b. replay_results (calls desk_steps) (tree_of b)) (given desk_steps)
    ∷ shown full [] (λ b. replay (format ∷ []) (tree_of b)) (record { pages = 8; code = 0; root = free (free (free (free (free (free end))))) })
    ∷ []

pub trees_hold : Hold trees
unfolding computing replaying computed stated trees desk_steps desk_tree desk full fresh
trees_hold = hold trees refl

-- ---- listings

-- files of these sizes, named by one letter each from this one on
files : (letter : ℕ) → List ℕ → Row
files c [] = end
files c (n ∷ ns) = file false (c ∷ replicate 15 0) day1 (replicate n 0) (files (suc c) ns)

-- the listing of a tree of so many pages with files of these sizes in the root
files_listed : (pages : ℕ) → List ℕ → Bytes
files_listed pages sizes = tree_lines (record { pages = pages; code = 0; root = files 0x41 sizes })

pub listings : List Case
listings =
    -- the bench's, free 3 by paper 02 §1: /A/7 is empty and has a page
    shown blank (
    format gives done
    ∷ new_file "/0042" gives done
    ∷ write (text "/0042") 0 (replicate 256 0) gives done
    ∷ new_directory "/A" gives done
    ∷ new_file "/A/7" gives done
    ∷ [])
    listing (text "pages 8 free 3\nF 256 /0042\nD 256 /A\nF 0 /A/7\n")
    ∷ shown fresh [] listing (text "pages 8 free 7\n")
    -- entries in order, a directory's contents directly after it; names may hold spaces
    ∷ shown desk (new_file "/A/B/ ~" gives done ∷ new_file "/a b" gives done ∷ remove_file (text "/0042") gives done ∷ new_file "/0123456789ABCDEF" gives done ∷ [])
    listing (text "pages 8 free 1\nF 0 /0123456789ABCDEF\nD 256 /A\nF 0 /A/7\nD 256 /A/B\nF 0 /A/B/ ~\nF 0 /a b\n")
    ∷ shown fresh (new_file "/A" gives done ∷ write (text "/A") 0 (replicate 1785 0) gives done ∷ []) listing (text "pages 8 free 0\nF 1785 /A\n")
    ∷ shown (replicate 65536 0) (format gives done ∷ []) listing (text "pages 256 free 255\n")
    -- a locked file's line is that of any other (paper 02 §10)
    ∷ shown (set desk 64 0xC0) [] listing (text "pages 8 free 2\nF 256 /0042\nD 256 /A\nF 0 /A/7\nD 256 /A/B\n")
    -- sizes and counts of one digit to five
    ∷ shown [] [] (λ b. files_listed 16 (9 ∷ 10 ∷ 99 ∷ 100 ∷ 109 ∷ [])) (text "pages 16 free 10\nF 9 /A\nF 10 /B\nF 99 /C\nF 100 /D\nF 109 /E\n")
    ∷ shown [] [] (λ b. files_listed 104 (999 ∷ [])) (text "pages 104 free 99\nF 999 /A\n")
    ∷ shown [] [] (λ b. files_listed 104 (1 ∷ 0 ∷ 255 ∷ [])) (text "pages 104 free 100\nF 1 /A\nF 0 /B\nF 255 /C\n")
    ∷ shown [] [] (λ b. files_listed 112 (300 ∷ [])) (text "pages 112 free 109\nF 300 /A\n")
    ∷ shown [] [] (λ b. files_listed 256 (65025 ∷ [])) (text "pages 256 free 0\nF 65025 /A\n")
    ∷ shown [] [] (λ b. files_listed 256 (10000 ∷ 32768 ∷ [])) (text "pages 256 free 86\nF 10000 /A\nF 32768 /B\n")
    -- refused
    ∷ shown [] [] listing (text "refused 1\n")
    ∷ shown (replicate 65537 0) [] listing (text "refused 1\n")
    ∷ shown (replicate 2048 0) [] listing (text "refused 2\n")
    ∷ shown (set desk 3 3) [] listing (text "refused 3\n")
    ∷ shown (set desk 1280 6) [] listing (text "refused 17\n")
    ∷ []

pub listings_hold : Hold listings
unfolding computing printing computed stated listings files files_listed desk fresh
listings_hold = hold listings refl
