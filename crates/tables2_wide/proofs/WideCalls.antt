-- Calls on images of more than 65,536 bytes: two-byte links in pages 1 and 2, three pages set aside, and page numbers above 255. These images have many
-- bytes, so cases are few; a call that is granted has found the image sound, and the whole image is compared after it.
use mathlib.Core.Path.{refl}
use mathlib.Core.List.{List, [], ◌∷◌, ◌++◌}
use lib.ListN.{replicate}
use Rattle.volume.specs.Bytes.{Bytes, put}
use Rattle.model.specs.Call.{write}
use Rattle.model.specs.Text.{text}
use Rattle.model2.proofs.Run2.{computing2, Case, ◌gives◌, reads, done, answered, leaves, unsound, Hold, computed, stated, hold}
use Rattle.model2.proofs.Desk2.{day2, called, slot, laid, stretch, desk16}

-- /f of `desk16` has 515 bytes on pages 135 and 3, and 1,100 on these and page 4, whose link was E5E5
pub two_bytes : List Case
two_bytes =
    answered desk16 (reads (text "/f") 510 (replicate 9 9) 5 (stretch 510 2 ++ (0x42 ∷ 0x43 ∷ 0x44 ∷ replicate 4 9)) ∷ [])
    ∷ leaves desk16 (write (text "/f") 508 (stretch 0 592) gives done ∷ [])
    (put 69628 (stretch 0 4) (put 1536 (stretch 4 512) (put 2048 (stretch 516 76 ++ replicate 436 0)
    (put 66579 (0x4C ∷ 4 ∷ []) (put 518 (4 ∷ 0 ∷ 0 ∷ 0 ∷ []) (put 4 (129 ∷ 0 ∷ 1 ∷ 0b11111 ∷ []) desk16))))))
    ∷ []

pub two_bytes_hold : Hold two_bytes
unfolding computing2 computed stated two_bytes desk16
two_bytes_hold = hold two_bytes refl

-- a table page is out of range, also the second; and it is not lost, but its bit at 0 gives 3, with the count as it was and with one that is then right
pub three_aside : List Case
three_aside =
    unsound (put 512 (2 ∷ 0 ∷ []) desk16) 17 0 255 0
    ∷ unsound (put 782 (2 ∷ 0 ∷ []) desk16) 17 130 0 1
    ∷ unsound (put 7 (0b1011 ∷ []) desk16) 3 0 0 0
    ∷ unsound (put 4 (131 ∷ 0 ∷ 1 ∷ 0b1011 ∷ []) desk16) 3 0 0 0
    ∷ []

pub three_aside_hold : Hold three_aside
unfolding computing2 computed stated three_aside desk16
three_aside_hold = hold three_aside refl

-- 135,168 bytes in pages of 512: N is 264, and the root's entries begin at byte 64. /f has 1,300 bytes on pages 262, 3 and 263.
unfoldable pub desk264 : Bytes
desk264 = laid 0xE5 0 135168 (
    (0, 0x5A ∷ 2 ∷ 33 ∷ 0 ∷ 2 ∷ 1 ∷ 1 ∷ 0b1111 ∷ replicate 31 0)
    ∷ (39, 0b11000000 ∷ replicate 24 0)
    ∷ (64, slot 0x80 (called "f") 6 1 0x14 0x05 0 0 day2 ++ replicate 416 0)
    ∷ (512, 0 ∷ 0 ∷ [])
    ∷ (518, 7 ∷ 1 ∷ [])
    ∷ (1036, 3 ∷ 0 ∷ 0 ∷ 0 ∷ [])
    ∷ (1536, stretch 512 512)
    ∷ (134144, stretch 0 512)
    ∷ (134656, stretch 1024 276)
    ∷ [])

-- 1,600 bytes on these and page 4: 2 bytes at the end of the first, two pages, and 64 bytes
pub above_255 : List Case
above_255 =
    leaves desk264 (write (text "/f") 510 (stretch 0 1090) gives done ∷ [])
    (put 134654 (stretch 0 2) (put 1536 (stretch 2 512) (put 134656 (stretch 514 512) (put 2048 (stretch 1026 64 ++ replicate 448 0) (put 83 (0x40 ∷ 6 ∷ [])
    (put 1038 (4 ∷ 0 ∷ []) (put 520 (0 ∷ 0 ∷ []) (put 4 (1 ∷ 1 ∷ 1 ∷ 0b11111 ∷ []) desk264))))))))
    ∷ []

pub above_255_hold : Hold above_255
unfolding computing2 computed stated above_255 desk264
above_255_hold = hold above_255 refl
