-- What calls change: whole images after a write, a removal, a lock and a make. Each row is computed from the definitions, so it holds by `refl`.
use mathlib.Core.Path.{refl}
use mathlib.Core.Bool.{true, false}
use mathlib.Core.List.{List, [], ◌∷◌, ◌++◌}
use lib.ListN.{replicate, set}
use Rattle.volume.specs.Bytes.{Bytes, part, put}
use Rattle.model.specs.Call.{format, verdict, find, make_file, make_directory, list, write, remove_file, remove_directory, set_lock, is_file, is_directory}
use Rattle.model.specs.Meaning.{effect}
use Rattle.model.specs.Text.{text}
use Rattle.model.proofs.Run.{computing, Case, ◌gives◌, reads, done, sized, answered, shown, Hold, computed, stated, hold, refusal, refusal_at}
use Rattle.model.proofs.Desk.{day1, day2, day3, content, found, entry, whole, stored, fresh, two, desk, full, shelf, far, one, long}

-- ---- write

pub writes : List Case
writes =
    -- no bytes: nothing changes, and what stands above is refused all the same
    shown shelf (
    write (text "/R") 0 [] gives done
    ∷ write (text "/R") 600 [] gives done
    ∷ write (text "/E") 0 [] gives done
    ∷ write (text "R") 0 [] gives refusal 4
    ∷ write (text "/x") 0 [] gives refusal_at 5 1
    ∷ write (text "/R/x") 0 [] gives refusal_at 6 1
    ∷ write (text "/D") 0 [] gives refusal 7
    ∷ write (text "/") 0 [] gives refusal 7
    ∷ write (text "/R") 601 [] gives refusal 12
    ∷ write (text "/E") 1 [] gives refusal 12
    -- refused with bytes: 7 before 12 and 10, 12 before 10
    ∷ write (text "R") 601 (replicate 2000 1) gives refusal 4
    ∷ write (text "/D/x/y") 601 (replicate 2000 1) gives refusal_at 5 3
    ∷ write (text "/R/x") 601 (replicate 2000 1) gives refusal_at 6 1
    ∷ write (text "/D") 257 (1 ∷ []) gives refusal 7
    ∷ write (text "/D") 0 (replicate 2000 1) gives refusal 7
    ∷ write (text "/") 0 (1 ∷ []) gives refusal 7
    ∷ write (text "/R") 601 (1 ∷ []) gives refusal 12
    ∷ write (text "/R") 601 (replicate 2000 1) gives refusal 12
    -- two pages are free: /R may have five, which hold 1,275 bytes, and /E, which has one, three, which hold 765
    ∷ write (text "/R") 600 (replicate 676 1) gives refusal 10
    ∷ write (text "/R") 0 (replicate 1276 1) gives refusal 10
    ∷ write (text "/E") 0 (replicate 766 1) gives refusal 10
    ∷ [])
    whole shelf
    ∷ answered shelf (write (text "/R") 600 (replicate 675 1) gives done ∷ find (text "/R") gives found (is_file false) 1275 day1 ∷ verdict gives sized 8 0 ∷ [])
    ∷ answered shelf (write (text "/E") 0 (replicate 765 1) gives done ∷ verdict gives sized 8 0 ∷ [])
    -- in the middle, across pages
    ∷ shown shelf (write (text "/R") 253 (0xA0 ∷ 0xA1 ∷ 0xA2 ∷ 0xA3 ∷ []) gives done ∷ find (text "/R") gives found (is_file false) 600 day1 ∷ [])
    whole (put 766 (0xA0 ∷ 0xA1 ∷ []) (put 769 (0xA2 ∷ 0xA3 ∷ []) shelf))
    -- over the end, on the last page: 602 bytes
    ∷ shown shelf (write (text "/R") 599 (0xA0 ∷ 0xA1 ∷ 0xA2 ∷ []) gives done ∷ [])
    whole (put 114 (0x5A ∷ 0x02 ∷ []) (put 1114 (0xA0 ∷ 0xA1 ∷ 0xA2 ∷ []) shelf))
    -- at the end, onto a new page: 800 bytes, of which the last 35 stand on page 6
    ∷ shown shelf (write (text "/R") 600 (content 200) gives done ∷ [])
    whole (put 3 (1 ∷ 0b1111111 ∷ []) (put 114 (0x20 ∷ 0x03 ∷ []) (put 1024 (6 ∷ []) (put 1115 (content 165)
    (put 1536 (0 ∷ part 165 35 (content 200) ++ replicate 220 0) shelf)))))
    -- into an empty file, which keeps its page (paper 02 §1): 255 bytes want no other, 300 want one more, zeroed before
    ∷ shown shelf (write (text "/E") 0 (content 255) gives done ∷ verdict gives sized 8 2 ∷ [])
    whole (put 146 (0xFF ∷ 0x00 ∷ []) (put 1281 (content 255) shelf))
    ∷ shown shelf (write (text "/E") 0 (content 300) gives done ∷ find (text "/E") gives found (is_file false) 300 day3 ∷ [])
    whole (put 3 (1 ∷ 0b1111111 ∷ []) (put 146 (0x2C ∷ 0x01 ∷ [])
    (put 1280 (6 ∷ content 255 ++ 0 ∷ part 255 45 (content 300) ++ replicate 210 0) shelf)))
    -- the lowest free page comes first, wherever it stands: /B goes on from page 2 on pages 1 and 3
    ∷ shown two (remove_file (text "/A") gives done ∷ write (text "/B") 255 (content 300) gives done
    ∷ reads (text "/B") 254 (replicate 3 9) 3 (0x42 ∷ 0 ∷ 1 ∷ [])
    ∷ reads (text "/B") 509 (replicate 3 9) 3 (3 ∷ 4 ∷ 5 ∷ []) ∷ [])
    whole (put 3 (4 ∷ 0b1111 ∷ []) (set (put 114 (0x2B ∷ 0x02 ∷ [])
    (put 256 (3 ∷ content 255) (set (put 768 (0 ∷ part 255 45 (content 300) ++ replicate 210 0) two) 512 1))) 64 0))
    -- 16 pages, and two bitmap bytes
    ∷ shown (replicate 4096 0xE5) (
    format gives done ∷ make_file (text "/A") day1 gives done ∷ write (text "/A") 0 (content 2041) gives done ∷ verdict gives sized 16 6
    ∷ reads (text "/A") 2039 (0 ∷ 0 ∷ 0 ∷ []) 2 (31 ∷ 32 ∷ 0 ∷ []) ∷ [])
    (part 0 6) (0x5A ∷ 1 ∷ 2 ∷ 6 ∷ 0b11111111 ∷ 0b11 ∷ [])
    ∷ shown far (verdict gives sized 16 14 ∷ write (text "/A") 255 (0xA0 ∷ []) gives done ∷ [])
    whole (put 3 (13 ∷ 0b11 ∷ 0b10 ∷ []) (put 82 (0x00 ∷ 0x01 ∷ []) (set (put 256 (0 ∷ 0xA0 ∷ replicate 254 0) far) 2304 1)))
    -- case 12, so far as the answers go
    ∷ answered (replicate 65536 0xE5) (
    format gives done ∷ make_file (text "/A") day1 gives done
    ∷ write (text "/A") 0 (replicate 65026 1) gives refusal 10 ∷ write (text "/A") 0 (replicate 65025 1) gives done ∷ [])
    -- from 128 pages to 129 and 32,840 bytes, and to 65,025 bytes; one page stands for those that there are
    ∷ shown (long 0x80 0x7F) [] (λ b. let after = effect (write (text "/A") 32640 (content 200)) b in part 3 2 after ++ part 82 2 after ++ part 256 1 after ++ part 512 201 after)
    (5 ∷ 0b111 ∷ 0x48 ∷ 0x80 ∷ 2 ∷ 0 ∷ content 200)
    ∷ shown (long 0x00 0xFE) [] (λ b. part 82 2 (effect (write (text "/A") 65024 (0xA0 ∷ [])) b)) (0x01 ∷ 0xFE ∷ [])
    ∷ []

pub writes_hold : Hold writes
unfolding computing computed stated writes shelf two far long one
writes_hold = hold writes refl

-- ---- remove

pub removes : List Case
removes =
    -- refused; `/` is a directory that holds something, but 14 stands above 7 and 13
    shown desk (
    remove_file (text "A") gives refusal 4
    ∷ remove_file (text "/A/") gives refusal 4
    ∷ remove_file (text "/") gives refusal 14
    ∷ remove_file (text "/x") gives refusal_at 5 1
    ∷ remove_file (text "/A/x/7") gives refusal_at 5 3
    ∷ remove_file (text "/0042/x") gives refusal_at 6 1
    ∷ remove_file (text "/A/7/x") gives refusal_at 6 3
    -- a directory, with something in it or not
    ∷ remove_file (text "/A") gives refusal 7
    ∷ remove_file (text "/A/B") gives refusal 7
    ∷ remove_directory (text "A") gives refusal 4
    ∷ remove_directory (text "/A/") gives refusal 4
    ∷ remove_directory (text "/") gives refusal 14
    ∷ remove_directory (text "/x") gives refusal_at 5 1
    ∷ remove_directory (text "/A/x/7") gives refusal_at 5 3
    ∷ remove_directory (text "/0042/x") gives refusal_at 6 1
    ∷ remove_directory (text "/A/7/x") gives refusal_at 6 3
    -- a file, which is where the walk needs a directory
    ∷ remove_directory (text "/0042") gives refusal_at 6 1
    ∷ remove_directory (text "/A/7") gives refusal_at 6 3
    ∷ remove_directory (text "/A") gives refusal 13
    ∷ [])
    whole desk
    ∷ answered fresh (remove_file (text "/") gives refusal 14 ∷ remove_directory (text "/") gives refusal 14 ∷ [])
    -- the flags byte, the marks and the count change, and no other byte; an empty file too gives its page back
    ∷ shown desk (remove_file (text "/0042") gives done ∷ find (text "/0042") gives refusal_at 5 1 ∷ verdict gives sized 8 4 ∷ [])
    whole (put 3 (4 ∷ 0b011101 ∷ []) (set desk 64 0))
    ∷ shown desk (remove_directory (text "/A/B") gives done ∷ [])
    whole (put 3 (3 ∷ 0b101111 ∷ []) (set desk 544 0))
    ∷ shown desk (remove_file (text "/A/7") gives done ∷ remove_directory (text "/A") gives refusal 13 ∷ [])
    whole (put 3 (3 ∷ 0b110111 ∷ []) (set desk 512 0))
    ∷ shown desk (remove_file (text "/A/7") gives done ∷ remove_directory (text "/A/B") gives done ∷ remove_directory (text "/A") gives done ∷ [])
    whole (put 3 (5 ∷ 0b100011 ∷ []) (set (set (set desk 512 0) 544 0) 96 0))
    ∷ shown far (remove_file (text "/A") gives done ∷ []) whole (put 3 (15 ∷ 0b1 ∷ 0b0 ∷ []) (set far 64 0))
    -- case 11
    ∷ answered fresh (
    make_file (text "/0042") day1 gives done
    ∷ write (text "/0042") 0 (content 1785) gives done
    ∷ verdict gives sized 8 0
    ∷ remove_file (text "/0042") gives done
    ∷ verdict gives sized 8 7
    ∷ make_file (text "/42") day1 gives done
    ∷ write (text "/42") 0 (content 1785) gives done
    ∷ verdict gives sized 8 0
    ∷ [])
    ∷ []

pub removes_hold : Hold removes
unfolding computing computed stated removes desk fresh far
removes_hold = hold removes refl

-- ---- lock and unlock (paper 02 §10)

pub locks : List Case
locks =
    -- refused; a directory and the root are no files
    shown desk (
    set_lock true (text "A") gives refusal 4
    ∷ set_lock true (text "/x") gives refusal_at 5 1
    ∷ set_lock false (text "/0042/x") gives refusal_at 6 1
    ∷ set_lock true (text "/") gives refusal 7
    ∷ set_lock false (text "/") gives refusal 7
    ∷ set_lock true (text "/A") gives refusal 7
    ∷ set_lock false (text "/A/B") gives refusal 7
    ∷ [])
    whole desk
    -- the flags byte alone changes; twice is once; 25 stands above 12 and 10, and a write of no bytes gets it too
    ∷ shown desk (
    set_lock true (text "/0042") gives done
    ∷ set_lock true (text "/0042") gives done
    ∷ find (text "/0042") gives found (is_file true) 256 day1
    ∷ list (text "/") 0 gives entry (is_file true) (text "0042" ++ replicate 12 0) 256 day1
    ∷ write (text "/0042") 0 (1 ∷ []) gives refusal 25
    ∷ write (text "/0042") 0 [] gives refusal 25
    ∷ write (text "/0042") 257 (1 ∷ []) gives refusal 25
    ∷ write (text "/0042") 0 (replicate 2000 1) gives refusal 25
    ∷ remove_file (text "/0042") gives refusal 25
    ∷ remove_directory (text "/0042") gives refusal_at 6 1
    ∷ make_file (text "/0042") day1 gives refusal 8
    ∷ make_directory (text "/0042") day1 gives refusal 8
    ∷ reads (text "/0042") 254 (replicate 3 9) 2 (3 ∷ 4 ∷ 9 ∷ [])
    ∷ verdict gives sized 8 2
    ∷ [])
    whole (set desk 64 0xC0)
    ∷ shown (set desk 64 0xC0) (set_lock false (text "/0042") gives done ∷ set_lock false (text "/0042") gives done ∷ find (text "/0042") gives found (is_file false) 256 day1 ∷ [])
    whole desk
    ∷ shown desk (set_lock false (text "/A/7") gives done ∷ []) whole desk
    -- where no page is free, a position past the size and more bytes than fit
    ∷ shown (set full 128 0xC0) (write (text "/C") 256 (replicate 300 1) gives refusal 25 ∷ remove_file (text "/C") gives refusal 25 ∷ []) whole (set full 128 0xC0)
    -- the flags' other bits stay
    ∷ shown (set desk 64 0xBE) (set_lock true (text "/0042") gives done ∷ []) whole (set desk 64 0xFE)
    ∷ shown (set desk 64 0xFE) (set_lock false (text "/0042") gives done ∷ []) whole (set desk 64 0xBE)
    -- a directory's bit 6 says nothing and stays
    ∷ shown (set desk 544 0xC1) (
    find (text "/A/B") gives found is_directory 256 day1
    ∷ list (text "/A") 1 gives entry is_directory (text "B" ++ replicate 15 0) 256 day1
    ∷ make_file (text "/A/B/x") day1 gives done
    ∷ remove_file (text "/A/B/x") gives done
    ∷ set_lock true (text "/A/B") gives refusal 7
    ∷ set_lock false (text "/A/B") gives refusal 7
    ∷ [])
    (part 544 1) (0xC1 ∷ [])
    ∷ answered (set desk 544 0xC1) (remove_directory (text "/A/B") gives done ∷ [])
    ∷ []

pub locks_hold : Hold locks
unfolding computing computed stated locks desk full
locks_hold = hold locks refl

-- ---- what make writes: all 32 bytes of the entry, and all 256 of the page that an empty file (paper 02 §1) or a directory has

-- an image whose empty entries hold 65 bytes
junk : Bytes
junk = put 64 (replicate 192 0x65) fresh

pub made : List Case
made =
    shown junk (make_file (text "/0042") day3 gives done ∷ [])
    whole (put 3 (6 ∷ 0b11 ∷ []) (put 64 (stored 0x80 (text "0042" ++ replicate 12 0) 1 0x00 0x00 day3) (put 256 (replicate 256 0) junk)))
    ∷ shown junk (make_directory (text "/A") day3 gives done ∷ [])
    whole (put 3 (6 ∷ 0b11 ∷ []) (put 64 (stored 0x81 (text "A" ++ replicate 15 0) 1 0x00 0x01 day3) (put 256 (replicate 256 0) junk)))
    -- below the root; pages 6 and 7 held E5 bytes
    ∷ shown desk (make_directory (text "/A/0123456789ABCDEF") day3 gives done ∷ make_file (text "/A/B/.") day2 gives done ∷ [])
    whole (put 3 (0 ∷ 0b11111111 ∷ []) (put 576 (stored 0x81 (text "0123456789ABCDEF") 6 0x00 0x01 day3)
    (put 1024 (stored 0x80 (text "." ++ replicate 15 0) 7 0x00 0x00 day2) (put 1536 (replicate 512 0) desk))))
    -- seven directories, each in the one before; then a file in place of the last
    ∷ answered fresh (
    make_directory (text "/1") day1 gives done
    ∷ make_directory (text "/1/2") day1 gives done
    ∷ make_directory (text "/1/2/3") day1 gives done
    ∷ make_directory (text "/1/2/3/4") day1 gives done
    ∷ make_directory (text "/1/2/3/4/5") day1 gives done
    ∷ make_directory (text "/1/2/3/4/5/6") day1 gives done
    ∷ make_directory (text "/1/2/3/4/5/6/7") day1 gives done
    ∷ verdict gives sized 8 0
    ∷ make_directory (text "/1/2/3/4/5/6/7/8") day1 gives refusal 10
    ∷ make_file (text "/1/2/3/4/5/6/7/8") day2 gives refusal 10
    ∷ find (text "/1/2/3/4/5/6/7/8") gives refusal_at 5 15
    ∷ remove_directory (text "/1/2/3/4/5/6") gives refusal 13
    ∷ remove_directory (text "/1/2/3/4/5/6/7") gives done
    ∷ make_file (text "/1/2/3/4/5/6/7") day2 gives done
    ∷ verdict gives sized 8 0
    ∷ find (text "/1/2/3/4/5/6/7") gives found (is_file false) 0 day2
    ∷ find (text "/1/2/3/4/5/6/7/8") gives refusal_at 6 13
    ∷ remove_directory (text "/1/2/3/4/5/6") gives refusal 13
    ∷ [])
    ∷ []

pub made_hold : Hold made
unfolding computing computed stated made junk desk fresh
made_hold = hold made refl
