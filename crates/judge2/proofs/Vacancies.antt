-- Vacant entries are clean: a walk that passes over them stands before the next occupied entry with the same marks, and behind all of them if there is none.
use mathlib.Core.Path.{◌≡◌, refl, sym, ap, ◌∙◌, subst}
use Prim.Native.Nat.{ℕ, suc, ◌+◌, ◌≤◌, ◌<◌}
use native.Mathlib.Omega.{arith}
use mathlib.Core.Bool.{Bool, true, false, false≢true}
use mathlib.Core.List.{List, [], ◌∷◌}
use lib.ListN.{length, get_or, drop}
use Rattle.volume.specs.Bytes.{Bytes}
use Rattle.std.specs.Prelude.{if◌then◌else◌}
use Rattle.volume.specs.Geometry as On
use Rattle.model.specs.Entry.{Entry, vacant, a_file, a_directory}
use Rattle.model.specs.View.{View}
use Rattle.model.specs.Effect.{is_vacant}
use Rattle.model.specs.Judge.{clean, judge_directory}
use Rattle.model2.specs.Version2.{view2}
use Rattle.view_laws.specs.Marks.{unowned}
use Rattle.view_laws.proofs.Comes.{Paged}
use Rattle.shape.specs.declared.Shape.{Shape}
use Rattle.shape.specs.Geometry.{geometry_of}
use Rattle.cursor2.specs.declared.Cursor.{Cursor}
use Rattle.cursor2.specs.Row.{row, position_at, entries_from, row_from, Stands}
use Rattle.cursor2.proofs.Turns.{turn_same}
use Rattle.occupied2.specs.Passing.{is_free, past, Between}
use Rattle.known2.specs.Known.{Formed}
use Rattle.names2.specs.Reached.{earlier, Reached}
use Rattle.names2.proofs.Earlier.{rest_tail}
use Rattle.names2.proofs.Reaching.{whole_row, here}
use Rattle.judge2.proofs.Entries.{entry_vacant}
use Rattle.judge2.proofs.Walk.{Walking, walking_next, walking_last}
use Rattle.judge2.proofs.Cursors.{entries_few}

-- ---- what holds at entry i of a row, and on behind an entry that passes the test, holds behind all of them

module _ (f : ℕ → Bool) (row : List ℕ) (P : ℕ → Type 0) (step : (i x : ℕ) (rest : List ℕ) → P i → drop i row ≡ x ∷ rest → f x ≡ true → P (i + 1)) where
  pub past_holds : (xs : List ℕ) (i j : ℕ) → drop i row ≡ xs → j + length (past f xs) ≡ i + length xs → P i → P j × (drop j row ≡ past f xs)
  unfolding past
  past_holds [] i j e z p = let same : i ≡ j = omega arith in (subst P same p, ap (λ (k : ℕ). drop k row) (sym same) ∙ e)
  past_holds (x ∷ xs) i j e z p = go (f x) refl z (λ t h. past_holds xs (i + 1) j (rest_tail row i e) h (step i x xs p e t))
    where
      go : (c : Bool) → f x ≡ c → j + length (if c then past f xs else x ∷ xs) ≡ i + length (x ∷ xs)
          → (f x ≡ true → j + length (past f xs) ≡ i + 1 + length xs → P j × (drop j row ≡ past f xs))
          → P j × (drop j row ≡ (if c then past f xs else x ∷ xs))
      go true t z below = below t (omega arith)
      go false t z below = let same : i ≡ j = omega arith in (subst P same p, ap (λ (k : ℕ). drop k row) (sym same) ∙ e)

past_head : (f : ℕ → Bool) (xs : List ℕ) (x : ℕ) (ys : List ℕ) → x ∷ ys ≡ past f xs → f x ≡ false
unfolding past
past_head f [] x ys e = absurd (omega (arith, ap (λ (l : List ℕ). length l) e))
past_head f (y ∷ xs) x ys e = go (f y) refl e (past_head f xs x ys)
  where
    go : (c : Bool) → f y ≡ c → x ∷ ys ≡ (if c then past f xs else y ∷ xs) → (x ∷ ys ≡ past f xs → f x ≡ false) → f x ≡ false
    go true t e below = below e
    go false t e below = ap (λ (l : List ℕ). f (get_or l 0 0)) e ∙ t

past_short : (f : ℕ → Bool) (xs : List ℕ) → length (past f xs) ≤ length xs
unfolding past
past_short f [] = omega arith
past_short f (x ∷ xs) = go (f x) (past_short f xs)
  where
    go : (c : Bool) → length (past f xs) ≤ length xs → length (if c then past f xs else x ∷ xs) ≤ length (x ∷ xs)
    go true h = omega arith
    go false h = omega arith

-- ---- vacant entries are clean

is_vacant_lem : (e : Entry) → is_vacant e ≡ true → vacant ≡ e
unfolding is_vacant
is_vacant_lem vacant h = refl
is_vacant_lem (a_file locked name date start size) h = absurd (false≢true h)
is_vacant_lem (a_directory name date start size) h = absurd (false≢true h)

module _ {v : View} (paged : Paged v) {d : ℕ} {m₀ m : List ℕ} where
  walking_vacant : (i at : ℕ) (rest : List ℕ) → Walking v d m₀ i m → drop i (v.entries d) ≡ at ∷ rest → is_vacant (v.entry_at at) ≡ true
      → Walking v d m₀ (i + 1) m
  walking_vacant i at rest w e t =
      walking_next w at rest e paged m
      (λ f h. entry_vacant v (judge_directory f v) d i (earlier (v.entries d) i) m (v.entry_at at) (is_vacant_lem (v.entry_at at) t))

-- ---- a walk that stands before entry i, at an entry or behind the last of a page

pub record Going (b : Bytes) (s : Shape) (n : ℕ) (row : List ℕ) (c : Cursor) (i : ℕ) : Type 0 where
  pub between : Between s n b c
  pub rest : drop i row ≡ row_from s n b c
  pub count : i + length (row_from s n b c) ≡ length row

pub going_first : {b : Bytes} {s : Shape} {n : ℕ} → Formed b s n → (d : ℕ) (c : Cursor) → row_from s n b c ≡ row s n b d → Stands s n b c
    → Going b s n ((view2 b).entries d) c 0
going_first k d c e t =
    let whole = whole_row k d c e in
    record {
      between = record { within = omega (arith, t.within); pages = t.pages };
      rest = sym whole;
      count = omega (arith, ap (λ (l : List ℕ). length l) whole);
    }

pub going_few : {b : Bytes} {s : Shape} {n : ℕ} (d : ℕ) {c : Cursor} {i : ℕ} → Formed b s n → Going b s n ((view2 b).entries d) c i
    → i + length (row_from s n b c) ≤ 32768
going_few d k g = omega (arith, g.count, entries_few d k)

module _ {b : Bytes} {s : Shape} {n : ℕ} {d : ℕ} {m₀ m : List ℕ} {c : Cursor} {i : ℕ} (paged : Paged (view2 b)) (w : Walking (view2 b) d m₀ i m)
    (g : Going b s n ((view2 b).entries d) c i) where
  onward : (j : ℕ) → j + length (past (is_free b) (row_from s n b c)) ≡ i + length (row_from s n b c)
      → Walking (view2 b) d m₀ j m × (drop j ((view2 b).entries d) ≡ past (is_free b) (row_from s n b c))
  onward j z =
      past_holds (is_free b) ((view2 b).entries d) (λ k. Walking (view2 b) d m₀ k m) (λ k at rest u e t. walking_vacant paged k at rest u e t)
      (row_from s n b c) i j g.rest z w

  -- no occupied entry is left
  pub met_none : [] ≡ past (is_free b) (row_from s n b c) → (f : ℕ) → unowned m₀ ≤ f → clean m ≡ judge_directory (suc f) (view2 b) d m₀
  met_none none f h =
      let on = onward (i + length (row_from s n b c)) (omega (arith, ap (λ (l : List ℕ). length l) none)) in
      walking_last on.0 (on.1 ∙ sym none) f h

  -- entry j is the next occupied one
  module _ {at : Cursor} (j : ℕ) (row_at : row_from s n b at ≡ past (is_free b) (row_from s n b c))
      (stands : Stands s n b at × (j + length (row_from s n b at) ≡ i + length (row_from s n b c))) where
    there : Walking (view2 b) d m₀ j m × (drop j ((view2 b).entries d) ≡ past (is_free b) (row_from s n b c))
    there = onward j (omega (arith, stands.1, ap (λ (l : List ℕ). length l) row_at))

    pub walking_met : Walking (view2 b) d m₀ j m
    walking_met = there.0

    pub reached_met : Reached b s n ((view2 b).entries d) at j
    reached_met = record { stands = stands.0; rest = there.1 ∙ sym row_at }

    turn : row_from s n b at ≡ position_at s n at ∷ entries_from s.size n (On.next (geometry_of s) b) at.page.0 (at.number + 1) at.left
    turn = turn_same s.size n (On.next (geometry_of s) b) at.page.0 at.number stands.0.within at.left

    -- it is occupied
    pub occupied_met : is_free b (position_at s n at) ≡ false
    occupied_met = past_head (is_free b) (row_from s n b c) _ _ (sym turn ∙ row_at)

    pub behind_short : length (entries_from s.size n (On.next (geometry_of s) b) at.page.0 (at.number + 1) at.left) < length (row_from s n b c)
    behind_short = omega (
      arith,
      ap (λ (l : List ℕ). length l) turn,
      ap (λ (l : List ℕ). length l) row_at,
      past_short (is_free b) (row_from s n b c),
    )

    pub going_next : Going b s n ((view2 b).entries d) record { page = at.page; number = at.number + 1; left = at.left } (j + 1)
    going_next = record {
      between = record { within = omega (arith, stands.0.within); pages = stands.0.pages };
      rest = rest_tail ((view2 b).entries d) j (here reached_met);
      count = omega (arith, ap (λ (l : List ℕ). length l) turn, stands.1, g.count);
    }
