-- The shape of an image whose header is right has a lawful geometry, and whatever is said at the image's geometry and N is said at the shape's: they are
-- the same. A page's number fits a link, since an image with links of one byte has at most 256 pages.
use mathlib.Core.Path.{◌≡◌, refl, sym, ap₂, ◌∙◌, subst, subst₂}
use Prim.Native.Nat.{ℕ, ◌*◌, ◌≤◌, ◌<◌}
use native.Mathlib.Nat.{mul-le-mul_right}
use native.Mathlib.Omega.{arith}
use mathlib.Core.Bool.{Bool, true, false}
use lib.ListN.{length}
use lib.Dec.{T, lt→ltb}
use Rattle.volume.specs.Bytes.{Bytes}
use Rattle.volume.specs.Field.{Field}
use Rattle.volume.specs.Geometry as On
use Rattle.volume.specs.Geometry.{Geometry}
use Rattle.volume.proofs.Lawful.{Lawful}
use Rattle.volume.proofs.Small.{FitsIn, LinksFit}
use Rattle.volume.proofs.Grow.{Room}
use Rattle.volume.proofs.Growing.{WordsLie, Growing}
use Rattle.model2.specs.Layout.{page_size, page_count, is_wide, link_field, geometry2, code_in}
use Rattle.view_laws.proofs.Facts.{Facts}
use Rattle.model2.specs.Version2.{view_by}
use Rattle.laws2.proofs.Bounds.{Allowed, bounds}
use Rattle.laws2.proofs.Lawful2.{lawful2}
use Rattle.laws2.proofs.Version2.{view_stays, tabled}
use Rattle.shape.specs.declared.Shape.{Shape}
use Rattle.shape.specs.Geometry.{geometry_of}
use Rattle.known2.specs.Known.{Formed, Known}
use Rattle.changes2.specs.Asked.{home_in}

-- ---- at the image's own geometry

module _ {code n : ℕ} (a : Allowed code n) where
  -- the bytes of an image are 256 a page at least
  long : 256 * page_count code n ≤ n
  long = let m = bounds a in omega (arith, m.whole, mul-le-mul_right {m = 256} {n = page_size code} (page_count code n) m.large)

  pub links_fit2 : LinksFit (geometry2 code n) (page_count code n)
  links_fit2 q p h = go (is_wide n) refl
    where
      go : (two : Bool) → is_wide n ≡ two → FitsIn (link_field two (page_size code) q) p
      go true e = omega (arith, h, (bounds a).few)
      go false e =
          let few : 65536 < n → ⊥ = λ l. let t : T false = subst T e (lt→ltb 65536 n l) in t in
          omega (arith, h, long, few)

  pub words_lie2 : (b : Bytes) → length b ≡ n → WordsLie (geometry2 code n) (page_count code n) b
  words_lie2 b e = let m = bounds a in record { few = omega (arith, m.few); bytes = omega (arith, long, m.some, e) }

-- ---- at the shape

module _ {b : Bytes} {s : Shape} {n : ℕ} (f : Formed b s n) where
  -- what holds at one holds at the other
  pub at_shape : (P : Geometry → ℕ → Type 0) → P (geometry2 (code_in b) (length b)) (page_count (code_in b) (length b)) → P (geometry_of s) n
  at_shape P x = subst₂ P (sym f.made) (sym f.count) x

  pub shape_lawful : Lawful (geometry_of s) (home_in b) n
  shape_lawful = at_shape (λ g N. Lawful g (home_in b) N) (lawful2 (tabled f.allowed))

  pub shape_words : (b' : Bytes) → length b' ≡ length b → WordsLie (geometry_of s) n b'
  shape_words b' e = at_shape (λ g N. WordsLie g N b') (words_lie2 f.allowed b' e)

  pub shape_links : LinksFit (geometry_of s) n
  shape_links = at_shape LinksFit (links_fit2 f.allowed)

  pub page_small : (p : ℕ) → p < n → p < 65536
  page_small p h = omega (arith, h, f.count, (bounds f.allowed).few)

  -- with room at a joint that a page's number fits, a chain can grow there
  pub grow_able : {k own : ℕ} {joint : Field} {b' : Bytes} → length b' ≡ length b → ((p : ℕ) → p < n → FitsIn joint p)
      → k ≤ On.free_count (geometry_of s) b' → Room (geometry_of s) (home_in b) n k joint own b' → Growing (geometry_of s) n k joint b'
  grow_able {own = own} {b' = b'} len fits counted room = record {
    home = home_in b;
    lawful = shape_lawful;
    words = shape_words b' len;
    fits = fits;
    links = shape_links;
    counted = counted;
    own = own;
    room = room;
  }

-- ---- an image that keeps its length and its page code keeps its shape and N

pub formed_stays : {b b' : Bytes} {s : Shape} {n : ℕ} → Formed b s n → length b' ≡ length b → code_in b' ≡ code_in b → Formed b' s n
formed_stays f e c = record {
  allowed = subst₂ Allowed (sym c) (sym e) f.allowed;
  made = f.made ∙ sym (ap₂ geometry2 c e);
  count = f.count ∙ sym (ap₂ page_count c e);
}

pub known_stays : {b b' : Bytes} {s : Shape} {n : ℕ} → Formed b s n → length b' ≡ length b → code_in b' ≡ code_in b
    → Facts (view_by (code_in b) (length b) b') → Known b' s n
known_stays {b} {b'} f e c x = record { formed = formed_stays f e c; facts = subst Facts (sym (view_stays b b' e c)) x }
