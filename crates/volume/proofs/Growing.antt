-- Growing a chain page by page: after each page there is room for those left, with its link as the joint (`room_next` of Grow).
use mathlib.Core.Path.{◌≡◌, refl, sym, ap, ◌∙◌, subst, subst₂}
use Prim.Native.Nat.{ℕ, suc, ◌+◌, ◌-◌, ◌*◌, ◌/◌, ◌≤◌, ◌<◌}
use native.Mathlib.Nat.{sub-zero}
use native.Mathlib.Omega.{arith}
use lib.ListN.{length}
use Rattle.volume.specs.Bytes.{Bytes}
use Rattle.volume.specs.Field.{Field, store}
use Rattle.volume.specs.Geometry as On
use Rattle.volume.specs.Geometry.{Geometry}
use Rattle.volume.proofs.Marks.{lowest_free_lem}
use Rattle.volume.proofs.Lawful.{Lawful}
use Rattle.volume.proofs.Pages.{page_in, count_in, map_in}
use Rattle.volume.proofs.Grow.{Room, room_next}
use Rattle.volume.proofs.Small.{FitsIn, LinksFit}
use Rattle.volume.proofs.Follow.{Lies}
use Rattle.volume.proofs.Stores.{Present}

-- the words of 64 bits that hold the bits of the first n pages lie in the image
pub record WordsLie (g : Geometry) (n : ℕ) (b : Bytes) : Type 0 where
  pub few : n ≤ 65536
  pub bytes : g.map + 8 * ((n + 63) / 64) ≤ length b

-- k pages of n can be added: they are free and counted, a page's number fits joint and links, and the joint holds 0 and belongs to a marked page,
-- its own
pub record Growing (g : Geometry) (n k : ℕ) (joint : Field) (b : Bytes) : Type 0 where
  pub home : ℕ → ℕ
  pub lawful : Lawful g home n
  pub words : WordsLie g n b
  pub fits : (p : ℕ) → p < n → FitsIn joint p
  pub links : LinksFit g n
  pub counted : k ≤ On.free_count g b
  pub own : ℕ
  pub room : Room g home n k joint own b

-- ---- one page

pub added_stored : (g : Geometry) (n p : ℕ) (joint : Field) (b r r' : Bytes) → p ≡ On.lowest_free g n b → r ≡ On.taken g p b → r' ≡ store joint p r
    → r' ≡ On.grown g n 1 joint b
unfolding On.grown
added_stored g n p joint b r r' ep er e = rw (e, er, ep)

module _ {g : Geometry} {n k : ℕ} {joint : Field} {b : Bytes} (c : Growing g n (suc k) joint b) where
  abbrev page : ℕ
  page = On.lowest_free g n b

  pub lowest_in : page < n
  lowest_in = (lowest_free_lem g n b (omega (arith, c.room.enough))).0

  pub lowest_present : {p : ℕ} → p ≡ page → Present g p b
  lowest_present {p} e =
      let low : p < n = omega (arith, e, lowest_in) in
      record {
        page = omega (arith, c.room.size, page_in g c.home n c.lawful p low);
        link = omega (arith, c.room.size, c.lawful.links_in p low);
        count = omega (arith, c.room.size, count_in g c.home n c.lawful);
        map = map_in g c.home n c.lawful p b c.room.size (omega arith);
      }

  growing_one : Growing g n 1 joint b
  growing_one =
      let r = c.room in
      record {
        home = c.home;
        lawful = c.lawful;
        words = c.words;
        fits = c.fits;
        links = c.links;
        counted = omega (arith, c.counted);
        own = c.own;
        room = record { size = r.size; aside = r.aside; enough = omega (arith, r.enough); held = r.held; empty = r.empty };
      }

  -- the link of the new page is the next joint
  growing_next : (length (store joint page (On.taken g page b)) ≡ length b) × Growing g n k (g.link page) (store joint page (On.taken g page b))
  growing_next =
      let t = room_next c.lawful k joint c.own b c.room in (
        t.3.size,
        record {
          home = c.home;
          lawful = c.lawful;
          words = record { few = c.words.few; bytes = omega (arith, c.words.bytes, t.3.size) };
          fits = λ p h. c.links page p h;
          links = c.links;
          counted = omega (arith, t.3.count, c.counted);
          own = page;
          room = t.4;
        },
      )

-- ---- the chain

pub record Adding (g : Geometry) (n count : ℕ) (joint₀ : Field) (b₀ : Bytes) (i : ℕ) (joint : Field) (b : Bytes) : Type 0 where
  pub low : i ≤ count
  pub size : length b ≡ length b₀
  pub growing : Growing g n (count - i) joint b
  pub same : On.grown g n (count - i) joint b ≡ On.grown g n count joint₀ b₀

module _ {g : Geometry} {n count : ℕ} {joint₀ : Field} {b₀ : Bytes} where
  pub adding_first : Growing g n count joint₀ b₀ → Adding g n count joint₀ b₀ 0 joint₀ b₀
  adding_first c = record {
    low = omega arith;
    size = refl;
    growing = subst (λ (k : ℕ). Growing g n k joint₀ b₀) (sym (sub-zero count)) c;
    same = ap (λ (k : ℕ). On.grown g n k joint₀ b₀) (sub-zero count);
  }

  module _ {i : ℕ} {joint : Field} {b : Bytes} (r : Adding g n count joint₀ b₀ i joint b) (h : i < count) where
    left : count - i ≡ suc (count - (i + 1))
    left = omega arith

    now : Growing g n (suc (count - (i + 1))) joint b
    now = subst (λ (k : ℕ). Growing g n k joint b) left r.growing

    pub adding_one : Growing g n 1 joint b
    adding_one = growing_one now

    -- the link of the new page lies in the image
    pub adding_link : {p : ℕ} → p ≡ On.lowest_free g n b → Lies (g.link p) b₀
    adding_link e = omega (arith, (lowest_present now e).link, r.size)

    pub adding_turn : {p : ℕ} {joint' : Field} {b' : Bytes} → p ≡ On.lowest_free g n b → joint' ≡ g.link p → b' ≡ On.grown g n 1 joint b
        → Adding g n count joint₀ b₀ (i + 1) joint' b'
    unfolding On.grown
    adding_turn {p} {joint'} {b'} ep ej eb =
        let k : ℕ = count - (i + 1) in
        let at : g.link (On.lowest_free g n b) ≡ joint' = sym (ej ∙ ap g.link ep) in
        let t = growing_next now in
        record {
          low = omega arith;
          size = ap length eb ∙ t.0 ∙ r.size;
          growing = subst₂ (λ (j : Field) (d : Bytes). Growing g n k j d) at (sym eb) t.1;
          same =
              ap (λ (j : Field). On.grown g n k j b') (sym at)
              ∙ ap (On.grown g n k (g.link (On.lowest_free g n b))) eb
              ∙ ap (λ (m : ℕ). On.grown g n m joint b) (sym left) ∙ r.same;
        }

  pub adding_last : {i : ℕ} {joint : Field} {b : Bytes} → Adding g n count joint₀ b₀ i joint b → count ≤ i → b ≡ On.grown g n count joint₀ b₀
  unfolding On.grown
  adding_last {i} {joint} {b} r h = let z : 0 ≡ count - i = omega arith in ap (λ (k : ℕ). On.grown g n k joint b) z ∙ r.same
