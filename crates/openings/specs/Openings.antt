-- Where a make puts its entry, in the model's words, and what the code finds there.
use Rattle.std.specs.Prelude.{ℕ, ◌-◌, ◌≤◌, ◌++◌, length, Result, Ok, Err}
use Rattle.std.proofs.Math.Option.{Option, none, some}
use Rattle.volume.specs.Bytes.{Bytes}
use Rattle.volume.specs.Lists.{first}
use Rattle.model.specs.Entry.{entries, entry_at}
use Rattle.model.specs.Version1.{view}
use Rattle.model.specs.Path.{Name, path_of, last_name}
use Rattle.model.specs.Image.{tree_of}
use Rattle.model.specs.Walk.{entry_named, parent_page}
use Rattle.model.specs.Effect.{is_vacant, lowest_vacant}
use Rattle.model.specs.Call.{refusal, Answer, refused, granted}
use Rattle.model.specs.Refusal.{make_lines, settle}
use Rattle.model.specs.Meaning.{image_lines}
use Rattle.walk.specs.Steps.{name_in}
use Rattle.refusals.specs.declared.Refusal.{Refusal}
use Rattle.openings.specs.declared.Opening.{Opening}

-- the position of the entry, and the new name's 16 bytes
abbrev pub Place : Type 0
Place = ℕ × Bytes

-- ---- in one directory

unfoldable pub vacancy_or : Bytes → Option ℕ → Answer Place
vacancy_or name none = refused (refusal 9)
vacancy_or name (some at) = granted (at, name)

unfoldable pub unless_named : Answer Place → Option ℕ → Answer Place
unless_named a none = a
unless_named a (some at) = refused (refusal 8)

-- 8, then 9, for a name in the directory on page p
abbrev pub opening_named : Bytes → (page : ℕ) → Name → Answer Place
opening_named b p n = unless_named (vacancy_or n.bytes (first (λ at. is_vacant (entry_at b at)) (entries p))) (entry_named (view b) p n.bytes)

-- ---- the lines of a make above that of the free pages

abbrev pub found : Bytes → Bytes → Place
found b path = (lowest_vacant b (parent_page b (path_of path)), last_name (path_of path))

unfoldable pub opening_walked : Bytes → (path date : Bytes) → Answer Place
opening_walked b path date = settle (make_lines path date (tree_of b)) refused (granted (found b path))

unfoldable pub opening : Bytes → (path date : Bytes) → Answer Place
opening b path date = settle (image_lines b ++ make_lines path date (tree_of b)) refused (granted (found b path))

-- ---- what the code finds

-- the new name ends with the path
abbrev pub opened : Bytes → Opening → Place
opened path o = (o.entry, (name_in path o.begins (length path)).bytes)

-- the name lies in the path and fits an entry
abbrev pub Named : Bytes → Result Opening Refusal → Type 0
Named path (Ok o) = (o.begins ≤ length path) × (length path - o.begins ≤ 16)
Named path (Err r) = Unit {0}
