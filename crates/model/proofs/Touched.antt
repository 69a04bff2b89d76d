-- The bytes that calls may change, position by position, and the pages that they move, on small images: no more than these, since the whole list of each
-- is computed and compared.
use mathlib.Core.Path.{◌≡◌, refl}
use Prim.Native.Nat.{ℕ}
use mathlib.Core.Bool.{true, ◌&&◌}
use mathlib.Core.List.{List, [], ◌∷◌, ◌++◌}
use lib.ListN.{replicate}
use Rattle.volume.specs.Bytes.{Bytes, same}
use Rattle.volume.specs.Lists.{all, count_from}
use Rattle.volume.specs.Chain.{along}
use Rattle.model.specs.Call.{Call, format, verdict, find, make_file, make_directory, list, read, write, remove_file, remove_directory, set_lock, store}
use Rattle.model.specs.Touched.{moved, account, bytes_on, last_link, by_make, by_write, by_removal, touched}
use Rattle.model.specs.Text.{text}
use Rattle.model.proofs.Run.{computing}
use Rattle.model.proofs.Desk.{day1, content, fresh, two, desk, shelf, far}

pub record Row : Type 0 where
  pub image : Bytes
  pub call : Call
  pub positions : List ℕ
  pub pages : List ℕ

abbrev row : Bytes → Call → (positions pages : List ℕ) → Row
row b c positions pages = record { image = b; call = c; positions = positions; pages = pages }

pub rows : List Row
rows =
    -- page 0, whatever the image
    row shelf format (count_from 0 256) (0 ∷ 1 ∷ 2 ∷ 3 ∷ 4 ∷ 5 ∷ 6 ∷ 7 ∷ [])
    ∷ row shelf verdict [] []
    ∷ row shelf (find (text "/R")) [] []
    ∷ row shelf (list (text "/") 1) [] []
    ∷ row shelf (read (text "/R") 0 (replicate 600 0)) [] []
    -- the root's entry 3 and page 6; entry 0 of /D, which is on page 1
    ∷ row shelf (make_file (text "/N") day1) (count_from 160 32 ++ (3 ∷ 4 ∷ count_from 1536 256)) (6 ∷ [])
    ∷ row shelf (make_directory (text "/D/N") day1) (count_from 256 32 ++ (3 ∷ 4 ∷ count_from 1536 256)) (6 ∷ [])
    -- in the middle of /R, across pages 2 and 3; no byte at all
    ∷ row shelf (write (text "/R") 253 (1 ∷ 2 ∷ 3 ∷ 4 ∷ [])) (114 ∷ 115 ∷ 766 ∷ 767 ∷ 769 ∷ 770 ∷ []) []
    ∷ row shelf (write (text "/R") 253 []) [] []
    -- onto a new page: the link of page 4, the last 165 bytes on it, and page 6
    ∷ row shelf (write (text "/R") 600 (content 200))
    (114 ∷ 115 ∷ 3 ∷ 4 ∷ count_from 1536 256 ++ (1024 ∷ count_from 1115 165 ++ count_from 1537 35)) (6 ∷ [])
    -- onto two new pages
    ∷ row desk (write (text "/A/7") 0 (content 511))
    (530 ∷ 531 ∷ 3 ∷ 4 ∷ 3 ∷ 4 ∷ count_from 1536 512 ++ (768 ∷ count_from 769 255 ++ count_from 1537 255 ++ 1793 ∷ [])) (6 ∷ 7 ∷ [])
    -- the flags byte; three pages, one page, and one of the second bitmap byte
    ∷ row shelf (remove_file (text "/R")) (96 ∷ 3 ∷ 4 ∷ 3 ∷ 4 ∷ 3 ∷ 4 ∷ []) (2 ∷ 3 ∷ 4 ∷ [])
    ∷ row desk (remove_directory (text "/A/B")) (544 ∷ 3 ∷ 4 ∷ []) (4 ∷ [])
    ∷ row far (remove_file (text "/A")) (64 ∷ 3 ∷ 5 ∷ []) (9 ∷ [])
    ∷ row shelf (set_lock true (text "/R")) (96 ∷ []) []
    ∷ row shelf (store (text "/N") day1 (content 300) 0 (replicate 256 0)) [] []
    ∷ []

pub rows_hold : all (λ r. same (touched r.call r.image) r.positions && same (moved r.call r.image) r.pages) rows ≡ true
unfolding computing rows along moved account bytes_on last_link by_make by_write by_removal touched fresh two desk shelf far
rows_hold = refl
