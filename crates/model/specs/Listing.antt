-- Document 01, "At the bench": the listing. Entries go in order, a directory's contents directly after it; each line ends in one newline.
use Rattle.std.specs.Prelude.{ℕ, zero, suc, ◌+◌, ◌/◌, ◌%◌, [], ◌∷◌, ◌++◌, length, ltb, if◌then◌else◌}
use Rattle.volume.specs.Bytes.{Bytes}
use Rattle.model.specs.Layout.{page_size}
use Rattle.model.specs.Name.{unpadded}
use Rattle.model.specs.Tree.{Row, end, free, file, dir, Tree, free_number}
use Rattle.model.specs.Text.{text}
use Rattle.model.specs.Image.{tree_of}
use Rattle.model.specs.Call.{verdict, Verdict, Answer, refused, granted}
use Rattle.model.specs.Meaning.{answer}

-- n in decimal, in at most so many digits
unfoldable pub digits : ℕ → ℕ → Bytes
digits zero n = []
digits (suc k) n = let higher = digits k (n / 10) in if ltb n 10 then (48 + n) ∷ [] else higher ++ ((48 + n % 10) ∷ [])

-- The largest number of a listing, 65,535, has five digits.
abbrev pub decimal : ℕ → Bytes
decimal n = digits 8 n

abbrev pub newline : Bytes
newline = 10 ∷ []

unfoldable pub line : (kind : Bytes) (size : ℕ) (path : Bytes) → Bytes
line kind size path = kind ++ text " " ++ decimal size ++ text " " ++ path ++ newline

-- the lines of the row of the directory at this path; names are written without their padding
unfoldable pub row_lines : (path : Bytes) → Row → Bytes
row_lines path end = []
row_lines path (free r) = row_lines path r
row_lines path (file l n d v r) = line (text "F") (length v) (path ++ text "/" ++ unpadded n) ++ row_lines path r
row_lines path (dir n d s r) =
    line (text "D") page_size (path ++ text "/" ++ unpadded n) ++ row_lines (path ++ text "/" ++ unpadded n) s ++ row_lines path r

unfoldable pub tree_lines : Tree → Bytes
tree_lines t = text "pages " ++ decimal t.pages ++ text " free " ++ decimal (free_number t) ++ newline ++ row_lines [] t.root

-- a refused image gives one line, the number alone
unfoldable pub listing_of : Answer Verdict → Tree → Bytes
listing_of (refused f) t = text "refused " ++ decimal f.number ++ newline
listing_of (granted v) t = tree_lines t

-- what the program prints of its input. (Input over 65,536 bytes counts as 1: it is of no allowed length.)
unfoldable pub listing : Bytes → Bytes
listing b = listing_of (answer verdict b) (tree_of b)
