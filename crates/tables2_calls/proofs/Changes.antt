-- What calls change and copy: write, read, lock, unlock and the two removals, with whole images. A page of a file is all content, and links stand in the table.
use mathlib.Core.Path.{◌≡◌, refl}
use mathlib.Core.Bool.{true, false}
use mathlib.Core.List.{List, [], ◌∷◌, ◌++◌}
use lib.ListN.{replicate, set}
use Rattle.volume.specs.Bytes.{Bytes, put}
use Rattle.model.specs.Call.{verdict, find, make_file, make_directory, write, remove_file, remove_directory, set_lock, is_file, granted}
use Rattle.model.specs.Text.{text}
use Rattle.model2.proofs.Run2.{computing2, Case, ◌gives◌, reads, done, sized, answered, leaves, refusal, refusal_at, Hold, computed, stated, hold}
use Rattle.model2.proofs.Desk2.{day1, day2, called, slot, stretch, desk2, desk512}

-- ---- write

pub writes : List Case
writes =
    -- into the middle, over the border of pages 2 and 5: 600 bytes as before
    leaves desk2 (write (text "/0042") 254 (0xA0 ∷ 0xA1 ∷ 0xA2 ∷ 0xA3 ∷ []) gives done ∷ find (text "/0042") gives granted (record { kind = is_file false; size = 600; date = day1 }) ∷ [])
    (put 766 (0xA0 ∷ 0xA1 ∷ []) (put 1280 (0xA2 ∷ 0xA3 ∷ []) desk2))
    -- /A/y has 200 bytes on page 12, and 600 on pages 12, 16 and 17 then; the links of these were E5
    ∷ leaves desk2 (write (text "/A/y") 200 (stretch 3 400) gives done ∷ verdict gives sized 24 6 ∷ [])
    (put 4096 (stretch 59 256) (put 4352 (stretch 315 88 ++ replicate 168 0) (put 3272 (stretch 3 56) (put 272 (17 ∷ 0 ∷ []) (set (put 1267 (0x58 ∷ 0x02 ∷ [])
    (put 4 (6 ∷ 0 ∷ 0 ∷ 0xFF ∷ 0xFF ∷ 0x03 ∷ []) desk2)) 268 16)))))
    -- a full page and no more: the next byte stands on a page of its own
    ∷ leaves desk2 (write (text "/sixteen letters!") 256 (0x42 ∷ []) gives done ∷ verdict gives sized 24 7 ∷ [])
    (put 4096 (0x42 ∷ replicate 255 0) (set (set (put 243 (1 ∷ 1 ∷ []) (put 4 (7 ∷ 0 ∷ 0 ∷ 0xFF ∷ 0xFF ∷ 0x01 ∷ []) desk2)) 270 16) 272 0))
    -- an empty file has its page already
    ∷ leaves desk2 (write (text "/A/x") 0 (stretch 9 256) gives done ∷ verdict gives sized 24 8 ∷ [])
    (put 2560 (stretch 9 256) (put 1043 (0 ∷ 1 ∷ []) desk2))
    -- refused, or of no bytes: nothing changes. Eight pages are free, so /A/x may have nine, which hold 2,304 bytes
    ∷ leaves desk2 (
    write (text "/A/x") 0 (replicate 2305 1) gives refusal 10
    ∷ write (text "/0042") 601 (replicate 9000 1) gives refusal 12
    ∷ write (text "/0042") 600 [] gives done
    ∷ write (text "/0042") 601 [] gives refusal 12
    ∷ write (text "/L") 9999 [] gives refusal 25
    ∷ write (text "/L") 0 (1 ∷ []) gives refusal 25
    ∷ write (text "/A") 257 (1 ∷ []) gives refusal 7
    ∷ write (text "/") 0 (1 ∷ []) gives refusal 7
    ∷ write (text "/A/y/z") 0 (1 ∷ []) gives refusal_at 6 3
    ∷ write (text "/A/z") 0 (1 ∷ []) gives refusal_at 5 3
    ∷ [])
    desk2
    ∷ answered desk2 (write (text "/A/x") 0 (replicate 2304 1) gives done ∷ verdict gives sized 24 0 ∷ [])
    -- pages of 512, links at byte 512: /D/f has 513 bytes on pages 5 and 4, and 1,025 on pages 5, 4 and 3
    ∷ leaves desk512 (write (text "/D/f") 510 (stretch 0 515) gives done ∷ verdict gives sized 8 1 ∷ [])
    (put 3070 (0 ∷ 1 ∷ []) (put 2048 (stretch 2 512) (put 1536 (stretch 514 1 ++ replicate 511 0) (put 1523 (1 ∷ 4 ∷ []) (set (set (put 4 (1 ∷ 0 ∷ 1 ∷ 0b01111111 ∷ []) desk512) 516 3) 515 0)))))
    ∷ []

pub writes_hold : Hold writes
unfolding computing2 computed stated writes desk2 desk512
writes_hold = hold writes refl

-- ---- read

pub copies : List Case
copies =
    leaves desk2 (
    -- across the borders of pages 2, 5 and 3
    reads (text "/0042") 250 (replicate 20 9) 20 (stretch 250 20)
    ∷ reads (text "/0042") 0 (replicate 600 9) 600 (stretch 0 600)
    -- to the end; the buffer past it stays
    ∷ reads (text "/0042") 598 (replicate 5 9) 2 (stretch 598 2 ++ replicate 3 9)
    ∷ reads (text "/0042") 600 (replicate 5 9) 0 (replicate 5 9)
    ∷ reads (text "/0042") 512 (9 ∷ []) 1 (stretch 512 1)
    -- a locked file is read, and an empty one
    ∷ reads (text "/L") 0 (9 ∷ []) 0 (9 ∷ [])
    ∷ [])
    desk2
    ∷ answered desk512 (reads (text "/D/f") 510 (replicate 4 9) 3 (stretch 510 2 ++ (0x42 ∷ 9 ∷ [])) ∷ [])
    ∷ []

pub copies_hold : Hold copies
unfolding computing2 computed stated copies desk2 desk512
copies_hold = hold copies refl

-- ---- lock and unlock: bit 6 alone, and twice is once

pub locks : List Case
locks =
    leaves desk2 (set_lock true (text "/7") gives done ∷ set_lock true (text "/7") gives done ∷ find (text "/7") gives granted (record { kind = is_file true; size = 1; date = day1 })
    ∷ remove_file (text "/7") gives refusal 25 ∷ write (text "/7") 0 [] gives refusal 25 ∷ [])
    (set desk2 2304 0xFE)
    ∷ leaves desk2 (set_lock true (text "/7") gives done ∷ set_lock false (text "/7") gives done ∷ set_lock false (text "/7") gives done ∷ [])
    desk2
    ∷ leaves desk2 (remove_file (text "/L") gives refusal 25 ∷ set_lock false (text "/L") gives done ∷ remove_file (text "/L") gives done ∷ verdict gives sized 24 9 ∷ [])
    (set (set (set desk2 128 0) 4 9) 7 0xBF)
    -- bit 6 of /K, a directory, counts for nothing, and locks are for files
    ∷ leaves desk2 (
    set_lock true (text "/K") gives refusal 7
    ∷ set_lock false (text "/K") gives refusal 7
    ∷ set_lock true (text "/") gives refusal 7
    ∷ set_lock true (text "/q") gives refusal_at 5 1
    ∷ set_lock false (text "K") gives refusal 4
    ∷ [])
    desk2
    ∷ answered desk2 (remove_directory (text "/K") gives done ∷ make_file (text "/A/k") day1 gives done ∷ [])
    ∷ []

pub locks_hold : Hold locks
unfolding computing2 computed stated locks desk2
locks_hold = hold locks refl

-- ---- removals

pub removals : List Case
removals =
    -- pages 2, 5 and 3 of /0042 are given back with their bytes and links; of the entry the flags become 0
    leaves desk2 (remove_file (text "/0042") gives done ∷ verdict gives sized 24 11 ∷ [])
    (set (put 4 (11 ∷ 0 ∷ 0 ∷ 0xD3 ∷ []) desk2) 32 0)
    ∷ leaves desk2 (remove_directory (text "/B") gives done ∷ verdict gives sized 24 9 ∷ [])
    (set (put 4 (9 ∷ 0 ∷ 0 ∷ 0xFF ∷ 0xFE ∷ []) desk2) 2528 0)
    ∷ leaves desk2 (
    remove_file (text "/B") gives refusal 7
    ∷ remove_directory (text "/7") gives refusal_at 6 1
    ∷ remove_file (text "/") gives refusal 14
    ∷ remove_directory (text "/") gives refusal 14
    ∷ remove_directory (text "/A") gives refusal 13
    ∷ remove_file (text "/A/q") gives refusal_at 5 3
    ∷ remove_directory (text "/A/q/z") gives refusal_at 5 3
    ∷ [])
    desk2
    ∷ []

pub removals_hold : Hold removals
unfolding computing2 computed stated removals desk2
removals_hold = hold removals refl
