-- Document 01, "The plain tree" and "The numbers that say no", and paper 02 §2: what each call of version 1 answers and does, on the plain tree and on the
-- bytes of any image. `MeaningOf` says it of any version. A public call's contract cites `answer`, `after` and `buffer_after`.
use Rattle.std.specs.Prelude.{ℕ, List}
use Rattle.volume.specs.Bytes.{Bytes}
use Rattle.model.specs.Layout.{page_size}
use Rattle.model.specs.Tree.{Row, Tree, Node}
use Rattle.model.specs.Call.{Call, Found, Listed, Told, Answer}
use Rattle.model.specs.Version.{v1}
use Rattle.model.specs.RefusalOf.{Line}
use Rattle.model.specs.MeaningOf as Of
unfoldable pub use Rattle.model.specs.MeaningOf.{in_parent, without_page, is_format}
pub use Rattle.model.specs.MeaningOf.{copied, shown, lent_shown, fault_told, first_fault}

-- ---- on the plain tree

-- kind, size and date; a directory's size is 256
abbrev pub found_at : Node → Found
found_at x = Of.found_at page_size x

-- entry i of a row
abbrev pub listed : Row → ℕ → Listed
listed r i = Of.listed page_size r i

-- what a granted call tells, the lent buffer after it, and the tree
abbrev pub told : (c : Call) → Tree → Told c
told c t = Of.told v1 c t

abbrev pub filled : Call → Tree → Bytes
filled c t = Of.filled v1 c t

abbrev pub fresh_tree : (pages : ℕ) → Tree
fresh_tree n = Of.fresh_tree v1 n 0

abbrev pub changed : Call → Tree → Tree
changed c t = Of.changed v1 c t

-- granted or refused
abbrev pub tree_answer : (c : Call) → Tree → Answer (Told c)
tree_answer c t = Of.tree_answer v1 c t

abbrev pub tree_buffer : Call → Tree → Bytes
tree_buffer c t = Of.tree_buffer v1 c t

abbrev pub tree_after : Call → Tree → Tree
tree_after c t = Of.tree_after v1 c t

-- ---- on the bytes of an image

-- the line where 3 stood; 1, 2 and that line
abbrev pub sound_line : Bytes → Line
sound_line b = Of.sound_line v1 b

abbrev pub image_lines : Bytes → List Line
image_lines b = Of.image_lines v1 b

-- all lines of a call, and the numbers that it can give
abbrev pub lines : Call → Bytes → List Line
lines c b = Of.lines v1 c b

abbrev pub numbers : Call → List ℕ
numbers c = Of.numbers v1 c

-- the bytes after a granted call, what it tells, and the lent buffer after it
abbrev pub effect : Call → Bytes → Bytes
effect c b = Of.effect v1 c b

abbrev pub told_on : (c : Call) → Bytes → Told c
told_on c b = Of.told_on v1 c b

abbrev pub filled_on : Call → Bytes → Bytes
filled_on c b = Of.filled_on v1 c b

-- what call c answers on image b, what the image is after it, and what the lent buffer is; a refused call changes nothing
abbrev pub answer : (c : Call) → Bytes → Answer (Told c)
answer c b = Of.answer v1 c b

abbrev pub after : Call → Bytes → Bytes
after c b = Of.after v1 c b

abbrev pub buffer_after : Call → Bytes → Bytes
buffer_after c b = Of.buffer_after v1 c b
