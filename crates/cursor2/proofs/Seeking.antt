-- What a cursor that stands in an image gives, and a search by it: what is found in the row that is left is what is found in the whole row, which grows
-- shorter by the entry at hand.
use mathlib.Core.Path.{◌≡◌, refl, sym, ap, ◌∙◌}
use Prim.Native.Nat.{ℕ, ◌+◌, ◌≤◌, ◌<◌}
use native.Mathlib.Omega.{arith}
use mathlib.Core.Bool.{Bool, true, false, not}
use mathlib.Core.Option.{none, some}
use mathlib.Core.List.{List, [], ◌∷◌}
use lib.ListN.{length}
use lib.Dec.{eqb}
use Rattle.volume.specs.Bytes.{Bytes, byte_at, bit}
use Rattle.std.specs.Prelude.{if◌then◌else◌}
use Rattle.volume.specs.Lists.{first}
use Rattle.volume.specs.Geometry as On
use Rattle.volume.proofs.Occ.{mem_head}
use Rattle.volume.proofs.Follow.{PageLies, Lies}
use Rattle.model.specs.Entry.{vacant, a_file, a_directory}
use Rattle.model.specs.Entry as One
use Rattle.model.specs.Sound.{is_named}
use Rattle.model.specs.Effect.{is_vacant}
use Rattle.model2.specs.Version2.{entry_count}
use Rattle.model2.specs.Entry.{occupied, is_directory, is_locked, name_at, date_at, start_at, size_at, entry_at}
use Rattle.shape.specs.declared.Shape.{Shape}
use Rattle.shape.specs.Geometry.{geometry_of}
use Rattle.rows2.specs.Roomy.{Roomy}
use Rattle.rows2.proofs.On.{entry_lies, few_entries}
use Rattle.cursor2.specs.declared.Cursor.{Cursor}
use Rattle.cursor2.specs.Row.{behind, entries_from, position_at, row_from, Stands}
use Rattle.cursor2.proofs.Turns.{behind_end, turn_same, turn_end}

-- ---- an entry is vacant by bit 7 of its flags alone

pub vacant_is : (b : Bytes) (at : ℕ) → is_vacant (entry_at b at) ≡ not (eqb (bit 7 (byte_at b at)) 1)
unfolding entry_at is_vacant
vacant_is b at = go (occupied b at) (is_directory b at)
  where
    go : (c d : Bool) → is_vacant (if c then (if d then a_directory (name_at b at) (date_at b at) (start_at b at) (size_at b at)
        else a_file (is_locked b at) (name_at b at) (date_at b at) (start_at b at) (size_at b at)) else vacant) ≡ not c
    go true true = refl
    go true false = refl
    go false d = refl

-- ---- it has its flags and its name where version 1's has them

pub named_is : (b name : Bytes) (at : ℕ) → is_named name (One.entry_at b at) ≡ is_named name (entry_at b at)
unfolding entry_at One.entry_at is_named
named_is b name at = go (occupied b at) (is_directory b at)
  where
    go : (c d : Bool) → is_named name (if c then (if d then a_directory (name_at b at) (One.date_at b at) (One.start_at b at) (One.size_at b at)
        else a_file (is_locked b at) (name_at b at) (One.date_at b at) (One.start_at b at) (One.size_at b at)) else vacant)
        ≡ is_named name (if c then (if d then a_directory (name_at b at) (date_at b at) (start_at b at) (size_at b at)
        else a_file (is_locked b at) (name_at b at) (date_at b at) (start_at b at) (size_at b at)) else vacant)
    go true true = refl
    go true false = refl
    go false d = refl

-- ---- where a cursor stands

module _ {s : Shape} {n : ℕ} {b : Bytes} {c : Cursor} (t : Stands s n b c) where
  pub page_lies : PageLies (geometry_of s) c.page.0 b
  page_lies = (t.pages c.page.0 (mem_head c.page.0 (behind (On.next (geometry_of s) b) c.left c.page.0))).0

  pub link_lies : Lies ((geometry_of s).link c.page.0) b
  link_lies = (t.pages c.page.0 (mem_head c.page.0 (behind (On.next (geometry_of s) b) c.left c.page.0))).1

  pub number_few : Roomy s.size n → c.number < 32
  number_few r = omega (arith, t.within, few_entries r c.page.0)

  pub entry_in : Roomy s.size n → position_at s n c + 32 ≤ length b
  entry_in r = omega (arith, entry_lies r c.page.0 c.number t.within, page_lies)

-- nothing is left behind the entry at hand where it is the last of its page, which has so many entries, and page q, the one that follows, is none
pub ends_here : (s : Shape) (n : ℕ) (b : Bytes) (c : Cursor) → Stands s n b c → (count : ℕ) → count ≡ entry_count s.size n c.page.0 → count ≤ c.number + 1
    → (q : ℕ) → q ≡ On.next (geometry_of s) b c.page.0 → q ≡ 0 → row_from s n b c ≡ position_at s n c ∷ []
ends_here s n b c t count e last q f z =
    turn_end s.size n (On.next (geometry_of s) b) c.page.0 c.number t.within (omega arith) c.left (behind_end (On.next (geometry_of s) b) c.left c.page.0 (sym f ∙ z))

-- what is left grows shorter by the entry at hand
pub row_shorter : (b : Bytes) (s : Shape) (n : ℕ) (c next : Cursor) → row_from s n b c ≡ position_at s n c ∷ row_from s n b next
    → length (row_from s n b next) < length (row_from s n b c)
row_shorter b s n c next turn = omega (arith, ap (λ (l : List ℕ). length l) turn)

-- ---- the search

pub record Seeking (f : ℕ → Bool) (s : Shape) (n : ℕ) (b : Bytes) (c₀ c : Cursor) : Type 0 where
  pub stands : Stands s n b c
  pub left : first f (row_from s n b c) ≡ first f (row_from s n b c₀)

module _ {f : ℕ → Bool} {s : Shape} {n : ℕ} {b : Bytes} {c₀ c : Cursor} (o : Seeking f s n b c₀ c) {at : ℕ} (here : at ≡ position_at s n c) where
  -- the entry at hand passes
  pub seek_found : {all : List ℕ} → row_from s n b c₀ ≡ all → f at ≡ true → some at ≡ first f all
  unfolding first
  seek_found whole e =
      let t : f (position_at s n c) ≡ true = ap f (sym here) ∙ e in
      let pass : first f (position_at s n c ∷ entries_from s.size n (On.next (geometry_of s) b) c.page.0 (c.number + 1) c.left) ≡ some (position_at s n c) = rw t in
      sym (sym (ap (first f) whole) ∙ sym o.left ∙ ap (first f) (turn_same s.size n (On.next (geometry_of s) b) c.page.0 c.number o.stands.within c.left) ∙ pass
      ∙ ap (λ (x : ℕ). some x) (sym here))

  module _ (e : f at ≡ false) {rest : List ℕ} (row : row_from s n b c ≡ position_at s n c ∷ rest) where
    past : first f rest ≡ first f (row_from s n b c₀)
    unfolding first
    past = let t : f (position_at s n c) ≡ false = ap f (sym here) ∙ e in sym (sym o.left ∙ ap (first f) row ∙ rw t)

    -- or the search goes on behind it
    pub seek_next : {next : Cursor} → rest ≡ row_from s n b next → Stands s n b next → Seeking f s n b c₀ next
    seek_next {next} z t = record { stands = t; left = ap (first f) (sym z) ∙ past }

    -- or there is none
    pub seek_none : {all : List ℕ} → row_from s n b c₀ ≡ all → rest ≡ [] → none ≡ first f all
    unfolding first
    seek_none whole z = ap (first f) (sym z) ∙ past ∙ ap (first f) whole
