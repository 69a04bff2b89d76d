-- Where a path leads, step by step: the image's lines, line 4, the walk of all names but the last, and the last name. Each stands above the next, so the first
-- that refuses is the place's refusal.
use mathlib.Core.Path.{◌≡◌, refl, sym, ◌∙◌}
use Prim.Native.Nat.{ℕ}
use mathlib.Core.Bool.{true, false, not}
use mathlib.Core.Option.{none, some}
use mathlib.Core.List.{List, [], ◌∷◌, ◌++◌}
use lib.Dec.{T}
use Rattle.volume.specs.Bytes.{Bytes}
use Rattle.volume.proofs.Tests.{not_not_of}
use Rattle.model.specs.View.{View}
use Rattle.model.specs.Path.{Name, root, below, path_of, is_no_path}
use Rattle.model.specs.Walk.{Walked, arrived, missing, blocked, in_walked, entry_named, walk_on}
use Rattle.model.specs.Judge.{judge_view}
use Rattle.model.specs.Call.{Refusal, refusal, refusal_at, Answer, refused, granted}
use Rattle.model.specs.Version.{Version}
use Rattle.model.specs.RefusalOf.{Line, path_line, settle, Passes}
use Rattle.model.specs.MeaningOf.{sound, first_fault, sound_line, length_line, header_lines, image_lines}
use Rattle.version_laws.proofs.Lines.{settle_skip, settle_append, settle_open, settle_first}
use Rattle.version_laws.proofs.Steps.{sound_headed}
use Rattle.arrivals.specs.Places.{Spot, the_root, spot_named, located, walked_answer, place_named, place_walked, placed}

-- ---- the image

-- a sound image passes its lines
pub sound_lines : (w : Version) (b : Bytes) → T (sound w b) → Passes (image_lines w b)
unfolding settle
sound_lines w b h =
    settle_append some (length_line w b ∷ header_lines w b) (sound_line w b ∷ []) none
    ∙ settle_open (length_line w b ∷ header_lines w b) some (settle (sound_line w b ∷ []) some none) (sound_headed w b h)
    ∙ settle_skip some (not (sound w b)) (first_fault (judge_view (w.see b))) [] none (not_not_of (sound w b) h)

module _ (w : Version) (b : Bytes) {A : Type 0} where
  -- what stands behind the image's lines
  pub image_open : T (sound w b) → (ls : List Line) (f : Refusal → A) (x : A) → settle (image_lines w b ++ ls) f x ≡ settle ls f x
  image_open h ls f x = settle_append f (image_lines w b) ls x ∙ settle_open (image_lines w b) f (settle ls f x) (sound_lines w b h)

  -- and the refusal of an image that is not sound
  pub image_stops : {m : Refusal} → settle (image_lines w b) some none ≡ some m → (ls : List Line) (f : Refusal → A) (x : A)
      → f m ≡ settle (image_lines w b ++ ls) f x
  image_stops {m} e ls f x = sym (settle_append f (image_lines w b) ls x ∙ settle_first (image_lines w b) m f (settle ls f x) e)

module _ (w : Version) (b path : Bytes) where
  pub placed_stopped : {m : Refusal} → settle (image_lines w b) some none ≡ some m → refused m ≡ placed w b path
  unfolding placed
  placed_stopped e = image_stops w b e (path_line path ∷ []) refused (walked_answer (located (w.see b) (path_of path)))

  pub placed_sound : T (sound w b) → {x : Answer Spot} → x ≡ place_walked (w.see b) path → x ≡ placed w b path
  unfolding placed place_walked
  placed_sound h is = is ∙ sym (image_open w b h (path_line path ∷ []) refused (walked_answer (located (w.see b) (path_of path))))

-- ---- the path

-- what the walk of a path's parents says of the place
abbrev pub place_by : View → Walked (ℕ × Name) → Answer Spot
place_by v (arrived x) = place_named v x.0 x.1
place_by v (missing i) = refused (refusal_at 5 i)
place_by v (blocked i) = refused (refusal_at 6 i)

pub place_below : (v : View) (ns : List Name) (n : Name)
    → place_by v (in_walked (walk_on v ns 0) (λ q. arrived (q, n))) ≡ walked_answer (located v (below ns n))
unfolding in_walked located walked_answer
place_below v ns n = go (walk_on v ns 0)
  where
    go : (x : Walked ℕ) → place_by v (in_walked x (λ q. arrived (q, n))) ≡ walked_answer (in_walked x (λ q. spot_named v n (entry_named v q n.bytes)))
    go (arrived q) = refl
    go (missing i) = refl
    go (blocked i) = refl

module _ (v : View) (path : Bytes) where
  pub no_path_lem : is_no_path (path_of path) ≡ true → refused (refusal 4) ≡ place_walked v path
  unfolding place_walked settle
  no_path_lem e = rw e

  pub is_path_lem : is_no_path (path_of path) ≡ false → walked_answer (located v (path_of path)) ≡ place_walked v path
  unfolding place_walked settle
  is_path_lem e = rw e

  pub at_root : path_of path ≡ root → granted the_root ≡ place_walked v path
  unfolding place_walked settle located walked_answer is_no_path
  at_root e = rw e

  pub at_below : {ns : List Name} {n : Name} → path_of path ≡ below ns n → place_by v (in_walked (walk_on v ns 0) (λ q. arrived (q, n))) ≡ place_walked v path
  unfolding place_walked settle is_no_path
  at_below {ns} {n} e = place_below v ns n ∙ rw e
