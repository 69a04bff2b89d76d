-- A page above number 255 is taken (paper 02 §12: two-byte links, "slots have a 16-bit start page"): no lower one is free. The image is sound, and a call
-- would be granted; what is computed is the judge and the effect, at the code and the length that `view2` finds, since to count the bytes once more at each
-- link is beyond a row.
use mathlib.Core.Path.{◌≡◌, refl}
use mathlib.Core.Bool.{true}
use mathlib.Core.List.{[], ◌∷◌, ◌++◌, flat_map}
use lib.ListN.{length, replicate}
use Rattle.volume.specs.Bytes.{Bytes, put, same}
use Rattle.volume.specs.Lists.{count_from}
use Rattle.model.specs.Judge.{is_clean, judge_view}
use Rattle.model.specs.Path.{path_of}
use Rattle.model.specs.EffectOf as Effect
use Rattle.model.specs.Text.{text}
use Rattle.model2.specs.Layout.{code_in}
use Rattle.model2.specs.Version2.{view_by, layout2}
use Rattle.model2.proofs.Run2.{computing2}
use Rattle.model2.proofs.Desk2.{day1, day2, called, slot, laid, stretch}

-- 135,168 bytes in pages of 512, N is 264: /f has 1,300 bytes on pages 262, 3 and 263, and /g 129,024 on pages 4 to 255. Pages 256 to 261 are free, with
-- stale links and bytes.
unfoldable pub full264 : Bytes
full264 = laid 0xE5 0 135168 (
    (0, (0x5A ∷ 2 ∷ 33 ∷ 0 ∷ 6 ∷ 0 ∷ 1 ∷ []) ++ replicate 32 0xFF)
    ∷ (39, 0b11000000 ∷ replicate 24 0)
    ∷ (64, slot 0x80 (called "f") 6 1 0x14 0x05 0 0 day2)
    ∷ (96, slot 0x80 (called "g") 4 0 0x00 0xF8 0x01 0 day1 ++ replicate 384 0)
    ∷ (512, 0 ∷ 0 ∷ [])
    ∷ (518, 7 ∷ 1 ∷ [])
    -- the links of pages 4 to 254, then that of page 255
    ∷ (520, flat_map (λ p. p ∷ 0 ∷ []) (count_from 5 251) ++ (0 ∷ 0 ∷ []))
    ∷ (1036, 3 ∷ 0 ∷ 0 ∷ 0 ∷ [])
    ∷ [])

pub measured : (code_in full264 ≡ 1) × (length full264 ≡ 135168)
unfolding computing2 full264
measured = (refl, refl)

pub sound264 : is_clean (judge_view (view_by 1 135168 full264)) ≡ true
unfolding computing2 full264
sound264 = refl

-- a write of 300 bytes more: 236 on page 263, and 64 on page 256, whose number stands in the link of 263
pub gained_256 : same (Effect.written layout2 (view_by 1 135168) (path_of (text "/f")) 1300 (stretch 0 300) full264)
    (put 134932 (stretch 0 236) (put 131072 (stretch 236 64 ++ replicate 448 0) (put 83 (0x40 ∷ 6 ∷ []) (put 1038 (0 ∷ 1 ∷ []) (put 1024 (0 ∷ 0 ∷ [])
    (put 39 (0b11000001 ∷ []) (put 4 (5 ∷ 0 ∷ []) full264)))))))
    ≡ true
unfolding computing2 full264
gained_256 = refl

-- a make: page 256 is the new file's start page, all zero
pub started_256 : same (Effect.file_made layout2 (view_by 1 135168) (path_of (text "/h")) day1 full264)
    (put 131072 (replicate 512 0) (put 128 (slot 0x80 (called "h") 0 1 0 0 0 0 day1) (put 1024 (0 ∷ 0 ∷ [])
    (put 39 (0b11000001 ∷ []) (put 4 (5 ∷ 0 ∷ []) full264)))))
    ≡ true
unfolding computing2 full264
started_256 = refl
