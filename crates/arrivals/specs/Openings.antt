-- Where a make puts its entry, in the model's words, over any version: the lines 4, 11, 5, 6, 8, and 9 where directories do not grow. Number 10 stands behind
-- them and counts the page that a full directory gets.
use Rattle.std.specs.Prelude.{ℕ, suc, Bool, true, false, ◌&&◌, [], ◌∷◌, ◌++◌, ltb, if◌then◌else◌}
use Rattle.std.proofs.Math.Option.{Option, none, some}
use Rattle.volume.specs.Bytes.{Bytes}
use Rattle.volume.specs.Lists.{first}
use Rattle.model.specs.View.{View}
use Rattle.model.specs.Path.{Name, Path, path_of, last_name}
use Rattle.model.specs.Walk.{entry_named, parent_in}
use Rattle.model.specs.EffectOf.{is_vacant, made}
use Rattle.model.specs.Call.{Refusal, refusal, Answer, refused, granted}
use Rattle.model.specs.Version.{Version}
use Rattle.model.specs.RefusalOf.{free_in, make_wants, make_lines, settle}
use Rattle.model.specs.MeaningOf.{tree_of, image_lines}

-- the parent directory, its lowest vacant entry, if it has one, and the new name's 16 bytes
pub record Opening : Type 0 where
  pub directory : ℕ
  pub vacancy : Option ℕ
  pub name : Bytes

unfoldable pub is_none : Option ℕ → Bool
is_none none = true
is_none (some at) = false

-- ---- in one directory

abbrev pub vacancy_in : View → (directory : ℕ) → Option ℕ
vacancy_in v p = first (λ at. is_vacant (v.entry_at at)) (v.entries p)

-- 9, where directories do not grow
unfoldable pub unless_full : (grows : Bool) → Opening → Answer Opening
unless_full grows o = if grows then granted o else if is_none o.vacancy then refused (refusal 9) else granted o

unfoldable pub unless_named : Answer Opening → Option ℕ → Answer Opening
unless_named a none = a
unless_named a (some at) = refused (refusal 8)

-- 8, then 9, for a name in the directory p
abbrev pub opening_named : (grows : Bool) → View → (directory : ℕ) → Name → Answer Opening
opening_named grows v p n = unless_named (unless_full grows (record { directory = p; vacancy = vacancy_in v p; name = n.bytes })) (entry_named v p n.bytes)

-- the pages that a make needs: k, and one more where the directory must grow
abbrev pub wanted_by : (grows : Bool) → (k : ℕ) → Opening → ℕ
wanted_by grows k o = if grows && is_none o.vacancy then suc k else k

-- ---- the lines of a make above that of the free pages

abbrev pub found : View → Path → Opening
found v p = record { directory = parent_in v p; vacancy = vacancy_in v (parent_in v p); name = last_name p }

module _ (w : Version) where
  unfoldable pub opening_walked : Bytes → (path date : Bytes) → Answer Opening
  opening_walked b path date = settle (make_lines w path date (tree_of w b)) refused (granted (found (w.see b) (path_of path)))

  unfoldable pub opening : Bytes → (path date : Bytes) → Answer Opening
  opening b path date = settle (image_lines w b ++ make_lines w path date (tree_of w b)) refused (granted (found (w.see b) (path_of path)))

  -- ---- a make: behind those lines 10, and then the entry

  -- of a make that needs k pages beside those of a directory that grows: f of a refusal, or x
  unfoldable pub make_settled : {A : Type 0} → Bytes → (path date : Bytes) → (k : ℕ) → (Refusal → A) → A → A
  make_settled b path date k f x =
      let t = tree_of w b in
      settle (image_lines w b ++ (make_lines w path date t ++ ((ltb (free_in w t) (make_wants w path k t), refusal 10) ∷ []))) f x

  abbrev pub make_answer : Bytes → (path date : Bytes) → (k : ℕ) → Answer (Unit {0})
  make_answer b path date k = make_settled b path date k refused (granted tt)

  abbrev pub make_after : (flags size k : ℕ) → Bytes → (path date : Bytes) → Bytes
  make_after flags size k b path date = make_settled b path date k (λ m. b) (made w.entry w.see flags size k (path_of path) date b)
