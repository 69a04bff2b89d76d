-- The statements are about something: two images that differ outside /A, in which /A holds the same and as many pages are free.
use mathlib.Core.Path.{◌≡◌, refl}
use mathlib.Core.Bool.{false}
use mathlib.Core.List.{[], ◌∷◌, ◌++◌}
use lib.ListN.{replicate}
use Rattle.volume.specs.Bytes.{Bytes}
use Rattle.model.specs.Layout.{free_count}
use Rattle.model.specs.Tree.{Row, end, free, file, dir}
use Rattle.model.specs.Call.{make_file, make_directory, remove_file}
use Rattle.model.specs.Text.{text}
use Rattle.model.proofs.Run.{computing, run}
use Rattle.model.proofs.Desk.{day1, day2, day3, desk}
use Rattle.family.specs.Family.{Holds}

-- /0042 is removed, and /C and /D stand there instead
unfoldable pub other : Bytes
other = run (remove_file (text "/0042") ∷ make_directory (text "/C") day3 ∷ make_file (text "/D") day2 ∷ []) desk

unfoldable pub held : Row
held =
    file false (text "7" ++ replicate 15 0) day3 []
    (dir (text "B" ++ replicate 15 0) day1 (free (free (free (free (free (free (free (free end))))))))
    (free (free (free (free (free (free end)))))))

pub first : Holds desk (text "/A") held
unfolding computing held desk
first = record { is_sound = tt; is_path = tt; leads = refl }

pub second : Holds other (text "/A") held
unfolding computing held desk other
second = record { is_sound = tt; is_path = tt; leads = refl }

pub as_free : free_count desk ≡ free_count other
unfolding computing desk other
as_free = refl
