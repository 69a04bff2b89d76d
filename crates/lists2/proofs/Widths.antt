-- The number of a directory's entries, page by page: those passed, with those that the row has left, are all.
use mathlib.Core.Path.{◌≡◌, ap, ◌∙◌}
use Prim.Native.Nat.{ℕ, zero, suc, ◌+◌, ◌-◌, ◌*◌, ◌≤◌, ◌<◌}
use native.Mathlib.Omega.{arith}
use mathlib.Core.Bool.{Bool, true, false}
use mathlib.Core.List.{List, [], ◌∷◌, flat_map}
use lib.ListN.{length, drop, length-drop, length-append}
use lib.Dec.{eqb}
use Rattle.volume.specs.Bytes.{Bytes}
use Rattle.std.specs.Prelude.{if◌then◌else◌}
use Rattle.volume.specs.Chain.{linked}
use Rattle.volume.specs.Geometry as On
use Rattle.volume.proofs.Chains.{chain_length}
use Rattle.model2.specs.Version2.{linked_pages, entry_count, entries_on}
use Rattle.shape.specs.declared.Shape.{Shape}
use Rattle.shape.specs.Geometry.{geometry_of}
use Rattle.rows2.specs.Roomy.{Roomy}
use Rattle.rows2.proofs.On.{few_entries}
use Rattle.cursor2.specs.declared.Cursor.{Cursor}
use Rattle.cursor2.specs.Row.{row, entries_from, row_from, Stands}
use Rattle.cursor2.proofs.Turns.{turn_same}
use Rattle.judge2.proofs.Places.{on_length}

-- ---- a directory has few entries

linked_most : (next : ℕ → ℕ) (most p : ℕ) → linked next most p ≤ most
unfolding linked
linked_most next zero p = omega arith
linked_most next (suc most) p = go (eqb (next p) 0) (linked_most next most (next p))
  where
    go : (c : Bool) → linked next most (next p) ≤ most → (if c then 1 else suc (linked next most (next p))) ≤ suc most
    go true h = omega arith
    go false h = omega arith

row_few : {size n : ℕ} → Roomy size n → (ps : List ℕ) → length (flat_map (entries_on size n) ps) ≤ 32 * length ps
unfolding flat_map
row_few r [] = omega arith
row_few {size} {n} r (p ∷ ps) =
    omega (arith, length-append (entries_on size n p) (flat_map (entries_on size n) ps), on_length size n p, few_entries r p, row_few r ps)

all_few : (s : Shape) {n : ℕ} → Roomy s.size n → (b : Bytes) (p : ℕ) → length (row s n b p) ≤ 32768
all_few s {n} r b p =
    let next = On.next (geometry_of s) b in
    omega (arith, row_few r (linked_pages next n p), chain_length next (linked next n p) p, linked_most next n p, r.few)

-- the entries that the cursor's page has left are of the row
page_few : (size n : ℕ) (next : ℕ → ℕ) (p left k i : ℕ) → i + k ≤ entry_count size n p → k ≤ length (entries_from size n next p i left)
page_few size n next p left zero i h = omega arith
page_few size n next p left (suc k) i h =
    omega (arith, ap (λ (xs : List ℕ). length xs) (turn_same size n next p i (omega arith) left), page_few size n next p left k (i + 1) (omega arith))

-- ---- the loop

pub record Counting (s : Shape) (n : ℕ) (b : Bytes) (c₀ : Cursor) (passed : ℕ) (c : Cursor) : Type 0 where
  pub stands : Stands s n b c
  pub sum : passed + length (row_from s n b c) ≡ length (row_from s n b c₀)

module _ {s : Shape} {n : ℕ} {b : Bytes} {c₀ : Cursor} {passed : ℕ} {c : Cursor} (o : Counting s n b c₀ passed c)
    {count : ℕ} (held : count ≡ entry_count s.size n c.page.0) where
  here_few : entry_count s.size n c.page.0 - c.number ≤ length (row_from s n b c)
  here_few =
      page_few s.size n (On.next (geometry_of s) b) c.page.0 c.left (entry_count s.size n c.page.0 - c.number) c.number (omega (arith, o.stands.within))

  -- no sum of them is too large
  pub count_small : Roomy s.size n → (p : ℕ) → row_from s n b c₀ ≡ row s n b p → passed + (count - c.number) ≤ 32768
  count_small r p whole = omega (arith, held, here_few, o.sum, ap (λ (xs : List ℕ). length xs) whole, all_few s r b p)

  -- and the page behind leaves the row xs
  module _ {xs : List ℕ} (row : xs ≡ drop (entry_count s.size n c.page.0 - c.number) (row_from s n b c)) where
    rest : length xs ≡ length (row_from s n b c) - (entry_count s.size n c.page.0 - c.number)
    rest = ap (λ (ys : List ℕ). length ys) row ∙ length-drop (entry_count s.size n c.page.0 - c.number) (row_from s n b c)

    pub count_fewer : (next : Cursor) → xs ≡ row_from s n b next → length (row_from s n b next) < length (row_from s n b c)
    count_fewer next e = omega (arith, rest, here_few, o.stands.within, ap (λ (ys : List ℕ). length ys) e)

    pub count_next : {next : Cursor} → xs ≡ row_from s n b next → Stands s n b next → Counting s n b c₀ (passed + (count - c.number)) next
    count_next e t = record { stands = t; sum = omega (arith, held, rest, here_few, o.sum, ap (λ (ys : List ℕ). length ys) e) }

    pub count_end : {all : List ℕ} → row_from s n b c₀ ≡ all → xs ≡ [] → passed + (count - c.number) ≡ length all
    count_end whole e = omega (arith, held, rest, here_few, o.sum, ap (λ (ys : List ℕ). length ys) whole, ap (λ (ys : List ℕ). length ys) e)
