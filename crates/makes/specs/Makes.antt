-- What the two makes have in common: their lines differ in the pages wanted alone, and their effect in the entry's flags, size and pages.
use Rattle.std.specs.Prelude.{ℕ, [], ◌∷◌, ◌++◌, ltb}
use Rattle.volume.specs.Bytes.{Bytes}
use Rattle.model.specs.Tree.{free_number}
use Rattle.model.specs.Path.{path_of}
use Rattle.model.specs.Image.{tree_of}
use Rattle.model.specs.Effect.{made}
use Rattle.model.specs.Call.{Refusal, refusal, Answer, refused, granted}
use Rattle.model.specs.Refusal.{make_lines, settle}
use Rattle.model.specs.Meaning.{image_lines}

-- f of the first line's refusal that holds, or x
unfoldable pub make_settled : {A : Type 0} → Bytes → (path date : Bytes) → (pages : ℕ) → (Refusal → A) → A → A
make_settled b path date pages f x =
    settle (image_lines b ++ (make_lines path date (tree_of b) ++ ((ltb (free_number (tree_of b)) pages, refusal 10) ∷ []))) f x

abbrev pub make_answer : Bytes → (path date : Bytes) → (pages : ℕ) → Answer (Unit {0})
make_answer b path date pages = make_settled b path date pages refused (granted tt)

abbrev pub make_after : (flags size pages : ℕ) → Bytes → (path date : Bytes) → Bytes
make_after flags size pages b path date = make_settled b path date pages (λ m. b) (made flags size pages (path_of path) date b)
