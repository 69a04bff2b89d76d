-- Paper 02 §7: a cartridge pulled too early has marked pages that nobody owns. Repair sets the bits of the first N to exactly the header and the
-- owned pages and corrects the count, on any image whose walk under §2 is clean. It is no call of demand 3's lists: these start afresh from its result.
use Rattle.std.specs.Prelude.{ℕ, Bool, not, List, [], ◌∷◌, length}
use Rattle.volume.specs.Bytes.{Bytes}
use Rattle.volume.specs.Lists.{member}
use Rattle.model.specs.Layout.{version1, page_count, valid_length, valid_header}
use Rattle.model.specs.Sound.{owned_pages}
use Rattle.model.specs.Judge.{judge_walk, is_clean}
use Rattle.model.specs.Call.{refusal, Answer, refused, granted}
use Rattle.model.specs.Refusal.{Line, settle}
use Rattle.model.specs.Meaning.{first_fault}
use Rattle.repair.specs.Remark.{remarked, recounted}

-- page p is the header, or a file or directory owns it
abbrev pub is_in_use : Bytes → ℕ → Bool
is_in_use b p = member p (0 ∷ owned_pages b)

unfoldable pub repaired : Bytes → Bytes
repaired b = recounted version1 (page_count b) (remarked version1 (is_in_use b) (page_count b) b)

-- 1, 2, and the walk's fault: 16, 17, 18 or 20 (law `walk_kind`). 19 and 3 are no lines: they are what is mended.
unfoldable pub repair_lines : Bytes → List Line
repair_lines b =
    (not (valid_length (length b)), refusal 1)
    ∷ (not (valid_header b), refusal 2)
    ∷ (not (is_clean (judge_walk b)), first_fault (judge_walk b))
    ∷ []

-- what repair answers on any bytes, and what the image is after it
unfoldable pub repair_answer : Bytes → Answer (Unit {0})
repair_answer b = settle (repair_lines b) refused (granted tt)

unfoldable pub repair_after : Bytes → Bytes
repair_after b = settle (repair_lines b) (λ f. b) (repaired b)
