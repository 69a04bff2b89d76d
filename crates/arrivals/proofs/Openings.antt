-- Where a make puts its entry: on a sound image the lines of the tree ask what the entries of the parent directory say, whether one has the name and whether
-- one is vacant.
use mathlib.Core.Path.{◌≡◌, refl, sym, ap, ◌∙◌, subst}
use Prim.Native.Nat.{ℕ, ◌-◌}
use mathlib.Core.Bool.{Bool, true, false, not, ◌||◌}
use mathlib.Core.Option.{Option, none, some, map}
use mathlib.Core.List.{List, [], ◌∷◌, ◌++◌}
use lib.Dec.{T}
use Rattle.volume.specs.Bytes.{Bytes}
use Rattle.std.specs.Prelude.{if◌then◌else◌}
use Rattle.model.specs.Date.{good_date}
use Rattle.model.specs.Numbers.{Numbers}
use Rattle.model.specs.View.{View}
use Rattle.model.specs.Tree.{Row, end, lookup}
use Rattle.model.specs.Path.{Name, Path, root, below, path_of, is_no_path, is_root, parents, last_name}
use Rattle.model.specs.Image.{row_at, tree_in}
use Rattle.model.specs.Walk.{Walked, arrived, missing, blocked, walk, in_walked, entry_named, walk_on, arrived_or}
use Rattle.model.specs.Call.{Refusal, refusal, refusal_at, Answer, refused, granted}
use Rattle.model.specs.Version.{Version}
use Rattle.model.specs.RefusalOf.{is_missing, is_blocked, stopped_at, is_there, walk_lines, full_lines, make_lines, settle}
use Rattle.model.specs.MeaningOf.{sound, tree_of, image_lines}
use Rattle.view_laws.proofs.Frame.{Headed}
use Rattle.view_laws.proofs.Walks.{node_of, lookup_named, map_walked, Formed, walk_bytes}
use Rattle.version_laws.proofs.Steps.{sound_facts_lem}
use Rattle.arrivals.specs.Places.{numbers_on}
use Rattle.arrivals.specs.Openings.{Opening, is_none, vacancy_in, unless_full, unless_named, opening_named, found, opening_walked, opening}
use Rattle.arrivals.proofs.Arrivals.{deep}
use Rattle.arrivals.proofs.Settled.{Reads}
use Rattle.arrivals.proofs.Placing.{image_open, image_stops}
use Rattle.arrivals.proofs.Vacancies.{directory_full}

-- ---- the lines behind the path and the date

-- what the walk of the parents says
abbrev pub opening_by : (grows : Bool) → View → Walked (ℕ × Name) → Answer Opening
opening_by grows v (arrived x) = opening_named grows v x.0 x.1
opening_by grows v (missing i) = refused (refusal_at 5 i)
opening_by grows v (blocked i) = refused (refusal_at 6 i)

module _ (m : Numbers) where
  abbrev lines_of : (is_root : Bool) → Bytes → Walked Row → Opening → Answer Opening
  lines_of r n l x = settle (walk_lines l ++ ((r || is_there (lookup n (arrived_or end l)), refusal 8) ∷ full_lines m (arrived_or end l))) refused (granted x)

  module _ (v : View) (headed : Headed v) (f : Formed v) where
    abbrev in_directory : (t : ℕ) → Name → Opening
    in_directory t n = record { directory = t; vacancy = vacancy_in v t; name = n.bytes }

    directory_asked : (t : ℕ) (n : Name) → lines_of false n.bytes (arrived (row_at v.pages v t)) (in_directory t n) ≡ opening_named m.grows v t n
    unfolding settle is_missing is_blocked arrived_or is_there unless_named unless_full
    directory_asked t n =
        subst (λ (k : ℕ). lines_of false n.bytes (arrived (row_at k v t)) (in_directory t n) ≡ opening_named m.grows v t n) (sym (deep v f))
        (rw (lookup_named v (v.pages - 1) t n.bytes, directory_full (v.pages - 1) v t) (go m.grows (entry_named v t n.bytes) (is_none (vacancy_in v t))))
      where
        go : (grows : Bool) (o : Option ℕ) (full : Bool)
            → settle ((is_there (map (λ at. node_of v (row_at (v.pages - 1) v) (v.entry_at at)) o), refusal 8) ∷ (if grows then [] else ((full, refusal 9) ∷ [])))
            refused (granted (in_directory t n))
            ≡ unless_named (if grows then granted (in_directory t n) else if full then refused (refusal 9) else granted (in_directory t n)) o
        go true none full = refl
        go true (some at) full = refl
        go false none full = refl
        go false (some at) full = refl

    parents_asked : (ns : List Name) (n : Name)
        → lines_of false n.bytes (walk ns (row_at v.pages v 0)) (in_directory (arrived_or 0 (walk_on v ns 0)) n)
        ≡ opening_by m.grows v (in_walked (walk_on v ns 0) (λ q. arrived (q, n)))
    unfolding map_walked in_walked settle is_missing is_blocked stopped_at arrived_or
    parents_asked ns n =
        ap (λ (l : Walked Row). lines_of false n.bytes l (in_directory (arrived_or 0 (walk_on v ns 0)) n)) (walk_bytes v headed f ns) ∙ go (walk_on v ns 0)
      where
        go : (l : Walked ℕ) → lines_of false n.bytes (map_walked (row_at v.pages v) l) (in_directory (arrived_or 0 l) n)
            ≡ opening_by m.grows v (in_walked l (λ q. arrived (q, n)))
        go (arrived t) = directory_asked t n
        go (missing i) = refl
        go (blocked i) = refl

-- ---- the lines of a make

module _ (w : Version) where
  -- all of them, by the path
  abbrev asked : Bytes → (date : Bytes) → Path → Answer Opening
  asked b date p = settle (
      (is_no_path p, refusal 4)
      ∷ (not (good_date date), refusal 11)
      ∷ walk_lines (walk (parents p) (row_at (w.see b).pages (w.see b) 0)) ++ (
      (is_root p || is_there (lookup (last_name p) (arrived_or end (walk (parents p) (row_at (w.see b).pages (w.see b) 0)))), refusal 8)
      ∷ full_lines (numbers_on w b) (arrived_or end (walk (parents p) (row_at (w.see b).pages (w.see b) 0))))) refused (granted (found (w.see b) p))

  module _ (b path date : Bytes) where
    is_asked : asked b date (path_of path) ≡ opening_walked w b path date
    unfolding opening_walked make_lines tree_in
    is_asked = refl

    pub opening_no_path : is_no_path (path_of path) ≡ true → refused (refusal 4) ≡ opening_walked w b path date
    unfolding settle
    opening_no_path e = (rw e) ∙ is_asked

    pub opening_bad_date : is_no_path (path_of path) ≡ false → good_date date ≡ false → refused (refusal 11) ≡ opening_walked w b path date
    unfolding settle
    opening_bad_date e d = (rw (e, d)) ∙ is_asked

    module _ (d : good_date date ≡ true) where
      pub opening_root : path_of path ≡ root → refused (refusal 8) ≡ opening_walked w b path date
      unfolding settle is_no_path is_root walk is_missing is_blocked
      opening_root e = (rw d) ∙ ap (asked b date) (sym e) ∙ is_asked

      pub opening_below : Reads w → T (sound w b) → {ns : List Name} {n : Name} → path_of path ≡ below ns n
          → opening_by (numbers_on w b).grows (w.see b) (in_walked (walk_on (w.see b) ns 0) (λ q. arrived (q, n))) ≡ opening_walked w b path date
      unfolding settle is_no_path is_root
      opening_below reads h {ns} {n} e = there ∙ ap (asked b date) (sym e) ∙ is_asked
        where
          there : opening_by (numbers_on w b).grows (w.see b) (in_walked (walk_on (w.see b) ns 0) (λ q. arrived (q, n))) ≡ asked b date (below ns n)
          there = sym (rw d (parents_asked (numbers_on w b) (w.see b) (reads.readable b h).headed (sound_facts_lem w b h).formed ns n))

    -- ---- the image

    pub opening_stopped : {m : Refusal} → settle (image_lines w b) some none ≡ some m → refused m ≡ opening w b path date
    unfolding opening
    opening_stopped e = image_stops w b e (make_lines w path date (tree_of w b)) refused (granted (found (w.see b) (path_of path)))

    pub opening_sound : T (sound w b) → {x : Answer Opening} → x ≡ opening_walked w b path date → x ≡ opening w b path date
    unfolding opening opening_walked
    opening_sound h is = is ∙ sym (image_open w b h (make_lines w path date (tree_of w b)) refused (granted (found (w.see b) (path_of path))))
