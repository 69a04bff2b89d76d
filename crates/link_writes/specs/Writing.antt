-- What the parts of a writing answer (paper 02 §4): a path that a directory may have, and a list by its judgement and its file.
use Rattle.std.specs.Prelude.{◌≡◌, ◌⊎◌, ◌≤◌, ◌<◌, Bool, true, false, not, List, length, T, ⊤, Result}
use Rattle.std.proofs.Math.Option.{none}
use Rattle.volume.specs.Bytes.{Bytes}
use Rattle.model.specs.Path.{path_of, is_no_path}
use Rattle.model.specs.Call.{Answer}
use Rattle.link_list.specs.declared.Row.{Row}
use Rattle.link_list.specs.Coding.{file_of}
use Rattle.link_list.specs.Judging.{bad_row}
use Rattle.link_list.specs.Links.{write_links, link_answer, link_after}
use Rattle.link_judge.specs.declared.RowFault.{RowFault}
use Rattle.link_judge.specs.Judged.{list_told}

-- the deepest directory of an image has a path of 4,335 bytes (law `path_short`)
abbrev pub MayBe : Bytes → Bool → Type 0
MayBe d r = (r ≡ true → T (not (is_no_path (path_of d))) × (length d ≤ 4335)) × (r ≡ false → T (not (is_no_path (path_of d))) → 4335 < length d)

-- these bytes are the file, or no image has room for either
abbrev pub StandsFor : (v file : Bytes) → Type 0
StandsFor v file = (v ≡ file) ⊎ ((65025 < length v) × (65025 < length file))

-- the file of a list that may not be written is not asked for
abbrev pub PackedAs : Result ⊤ RowFault → Bytes → List Row → Type 0
PackedAs judged v rs = (list_told judged ≡ bad_row rs) × (bad_row rs ≡ none → StandsFor v (file_of rs))

-- of whatever list these are: its writing is so answered, and leaves the image so
abbrev pub WrittenAs : Result ⊤ RowFault → (v d date b : Bytes) → Answer (Unit {0}) → (b' : Bytes) → Type 0
WrittenAs judged v d date b a b' = (rs : List Row) → PackedAs judged v rs → (a ≡ link_answer (write_links d date rs) b) × (b' ≡ link_after (write_links d date rs) b)

-- the same of a list whose rows are good
abbrev pub GoodWrittenAs : (v d date b : Bytes) → Answer (Unit {0}) → (b' : Bytes) → Type 0
GoodWrittenAs v d date b a b' = (rs : List Row) → none ≡ bad_row rs → StandsFor v (file_of rs) → (a ≡ link_answer (write_links d date rs) b) × (b' ≡ link_after (write_links d date rs) b)
