-- Where the next free page is looked for: the pages before the lowest free one are marked, and so they are when it is taken.
use mathlib.Core.Path.{◌≡◌, sym, ap, ◌∙◌}
use mathlib.Core.Logic.{◌≢◌}
use Prim.Native.Nat.{ℕ, ◌*◌, ◌/◌, ◌<◌}
use native.Mathlib.Nat.{zero-add}
use native.Mathlib.Omega.{arith}
use Rattle.volume.specs.Bytes.{Bytes}
use Rattle.volume.specs.Field.{Field, store}
use Rattle.volume.specs.Geometry as On
use Rattle.volume.specs.Geometry.{Geometry, page_bit}
use Rattle.volume.proofs.Marks.{lowest_free_lem}
use Rattle.volume.proofs.Grow.{room_next}
use Rattle.volume.proofs.Stores.{claimed}
use Rattle.volume.proofs.Growing.{Growing}
use Rattle.volume.proofs.Claiming.{LinkThenContent, claimed_bits}
use Rattle.volume.proofs.Search.{lowest_from, from_start, from_run}
use Rattle.shape_bitmap.specs.Lowest.{Before}

module _ {g : Geometry} {n : ℕ} {joint : Field} {b : Bytes} (c : Growing g n 1 joint b) where
  -- a page before the one that is added
  marked_before : (q : ℕ) → q < On.lowest_free g n b → page_bit g (On.grown g n 1 joint b) q ≡ 1
  unfolding On.grown
  marked_before q h =
      let low = lowest_free_lem g n b (omega (arith, c.room.enough)) in
      let ne : q ≢ On.lowest_free g n b = λ e. absurd (omega (arith, e)) in
      (room_next c.lawful 0 joint c.own b c.room).3.bits q (omega (arith, low.0)) ne ∙ low.2 q h

  -- p is the page added, and b' marks the pages as growth does
  before_marked : {p : ℕ} {b' : Bytes} → p ≡ On.lowest_free g n b → ((q : ℕ) → q < n → page_bit g b' q ≡ page_bit g (On.grown g n 1 joint b) q)
      → Before g n (p / 8) b'
  before_marked {p} {b'} ep same =
      let low = (lowest_free_lem g n b (omega (arith, c.room.enough))).0 in
      record {
        low = omega (arith, ep, low);
        same =
            ap (lowest_from g b' n) (sym (zero-add (8 * (p / 8))))
            ∙ from_run g b' (8 * (p / 8)) n 0 (λ j l. ap (page_bit g b') (zero-add j) ∙ same j (omega (arith, ep, low)) ∙ marked_before j (omega (arith, ep)))
            ∙ from_start g b' n;
      }

  pub before_next : {p : ℕ} {b' : Bytes} → p ≡ On.lowest_free g n b → b' ≡ On.grown g n 1 joint b → Before g n (p / 8) b'
  before_next ep eb = before_marked ep (λ q h. ap (λ (d : Bytes). page_bit g d q) eb)

  pub before_claimed : LinkThenContent g → {p : ℕ} {b' : Bytes} → p ≡ On.lowest_free g n b → b' ≡ store joint p (claimed g p b) → Before g n (p / 8) b'
  before_claimed then ep eb = before_marked ep (claimed_bits c then ep eb)

-- growth by no page changes nothing
pub not_grown : (g : Geometry) (n count : ℕ) (joint : Field) (b : Bytes) → count ≡ 0 → On.grown g n count joint b ≡ b
unfolding On.grown
not_grown g n count joint b e = rw e
