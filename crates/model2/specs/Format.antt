-- Paper 02 §12, format: "takes the page code, writes page 0 as in version 1 with the new fields and the table's pages marked and counted, and zeroes
-- those".
use Rattle.std.specs.Prelude.{ℕ, ◌+◌, ◌-◌, ◌*◌, ◌/◌, ◌^◌, not, List, [], ◌∷◌, ◌++◌, length, replicate}
use Rattle.volume.specs.Bytes.{Bytes, le16, put}
use Rattle.model.specs.Call.{refusal}
use Rattle.model.specs.Refusal.{Line}
use Rattle.model2.specs.Layout.{page_size, page_count, set_aside, valid_length, fit_code}

-- "format gives only 1 and 26, judging the code it is handed"; the old bytes are not asked
abbrev pub format_lines : (code length : ℕ) → List Line
format_lines code n = (not (valid_length n), refusal 1) ∷ (not (fit_code code n), refusal 26) ∷ []

-- the pages set aside, whole: the header's fields, the bits of these pages, then zeros; the bytes behind stay
unfoldable pub formatted : (code : ℕ) → Bytes → Bytes
formatted code b =
    let pages = page_count code (length b) in
    let aside = set_aside (length b) in
    put 0 (0x5A ∷ 2 ∷ (le16 (pages / 8) ++ (le16 (pages - aside) ++ (code ∷ (2 ^ aside - 1) ∷ replicate (aside * page_size code - 8) 0)))) b
