-- Giving a chain back page by page: the pages left given back make always the same image; bitmap and count are no links of the chain's.
use mathlib.Core.Path.{◌≡◌, refl, sym, ap, ◌∙◌, subst}
use mathlib.Core.Logic.{◌≢◌}
use Prim.Native.Nat.{ℕ, ◌+◌, ◌-◌, ◌≤◌, ◌<◌}
use native.Mathlib.Nat.{sub-zero}
use native.Mathlib.Omega.{arith}
use mathlib.Core.List.{foldl}
use lib.ListN.{length}
use Rattle.volume.specs.Bytes.{Bytes, byte_at}
use Rattle.volume.specs.Chain.{chain}
use Rattle.volume.specs.Geometry as On
use Rattle.volume.specs.Geometry.{Geometry}
use Rattle.volume.proofs.Occ.{Mem}
use Rattle.volume.proofs.Fields.{place, wide, Off, store_length, store_out, load_store, load_same}
use Rattle.volume.proofs.Marks.{unmark_length, unmark_out}
use Rattle.volume.proofs.Small.{FitsIn, fits_le}
use Rattle.volume.proofs.Follow.{Each, Lies, chain_turn, each_next, each_here, each_first}
use Rattle.volume.proofs.Stores.{Present, present_as_long}

-- ---- one page

module _ (g : Geometry) (p : ℕ) (b : Bytes) where
  released_length : length (On.released g b p) ≡ length b
  unfolding On.released
  released_length = store_length g.count (On.free_count g b + 1) (On.unmark g p b) ∙ unmark_length g p b

  released_count : Lies g.count b → On.free_count g (On.released g b p) ≡ On.free_count g b + 1
  unfolding On.released
  released_count h = load_store g.count (On.free_count g b + 1) (On.unmark g p b) (omega (arith, unmark_length g p b))

  released_byte : (i : ℕ) → Off g.count i → i ≢ On.bitmap_byte g p → byte_at (On.released g b p) i ≡ byte_at b i
  unfolding On.released
  released_byte i c m = store_out g.count (On.free_count g b + 1) (On.unmark g p b) i c ∙ unmark_out g p b i m

-- ---- the chain

-- the k pages from p on can be given back: all that has to do with them lies in the image, their links are no bytes of count and bitmap, and the
-- count can count them
pub record Returned (g : Geometry) (b : Bytes) (k p : ℕ) : Type 0 where
  pub inside : Each (λ q. Present g q b) (chain (On.next g b) k p)
  pub kept : (q r i : ℕ) → Mem q (chain (On.next g b) k p) → Mem r (chain (On.next g b) k p) → place (g.link r) ≤ i → i < place (g.link r) + wide (g.link r)
      → Off g.count i × (i ≢ On.bitmap_byte g q)
  pub counted : FitsIn g.count (On.free_count g b + k)

abbrev freed : (g : Geometry) (next : ℕ → ℕ) (k p : ℕ) (b : Bytes) → Bytes
freed g next k p b = foldl (On.released g) b (chain next k p)

pub record Releasing (g : Geometry) (b₀ : Bytes) (k p₀ i p : ℕ) (b : Bytes) : Type 0 where
  pub able : Returned g b₀ k p₀
  pub low : i ≤ k
  pub size : length b ≡ length b₀
  pub links : (q : ℕ) → Mem q (chain (On.next g b₀) k p₀) → On.next g b q ≡ On.next g b₀ q
  pub pages : Each (λ q. Mem q (chain (On.next g b₀) k p₀)) (chain (On.next g b₀) (k - i) p)
  pub count : FitsIn g.count (On.free_count g b + (k - i))
  pub same : freed g (On.next g b₀) (k - i) p b ≡ freed g (On.next g b₀) k p₀ b₀

module _ {g : Geometry} {b₀ : Bytes} {k p₀ : ℕ} where
  pub releasing_first : Returned g b₀ k p₀ → Releasing g b₀ k p₀ 0 p₀ b₀
  releasing_first c = record {
    able = c;
    low = omega arith;
    size = refl;
    links = λ q m. refl;
    pages = each_first (On.next g b₀) k p₀ (λ q m. m);
    count = subst (λ (n : ℕ). FitsIn g.count (On.free_count g b₀ + n)) (sym (sub-zero k)) c.counted;
    same = ap (λ (n : ℕ). freed g (On.next g b₀) n p₀ b₀) (sub-zero k);
  }

  module _ {i p : ℕ} {b : Bytes} (r : Releasing g b₀ k p₀ i p b) where
    here : i < k → Mem p (chain (On.next g b₀) k p₀)
    here h = each_here (On.next g b₀) k i p h r.pages

    pub releasing_here : i < k → Present g p b × FitsIn g.count (On.free_count g b + 1)
    releasing_here h = (
      present_as_long r.size (r.able.inside p (here h)),
      fits_le g.count (On.free_count g b + 1) (On.free_count g b + (k - i)) (omega arith) r.count,
    )

    pub releasing_turn : i < k → {b' : Bytes} {p' : ℕ} → b' ≡ On.released g b p → p' ≡ On.next g b' p → Releasing g b₀ k p₀ (i + 1) p' b'
    releasing_turn h {b'} {p'} eb ep = record {
      able = r.able;
      low = omega arith;
      size = ap length eb ∙ released_length g p b ∙ r.size;
      links = links;
      pages = each_next (On.next g b₀) k i p p' h there r.pages;
      count = fits_le g.count (On.free_count g b' + (k - (i + 1))) (On.free_count g b + (k - i))
          (omega (arith, ap (On.free_count g) eb, released_count g p b (releasing_here h).0.count)) r.count;
      same = step ∙ r.same;
    }
      where
        links : (q : ℕ) → Mem q (chain (On.next g b₀) k p₀) → On.next g b' q ≡ On.next g b₀ q
        links q m =
            ap (λ (d : Bytes). On.next g d q) eb
            ∙ load_same (g.link q) b (On.released g b p)
            (λ j l u. let o = r.able.kept p q j (here h) m l u in released_byte g p b j o.0 o.1)
            ∙ r.links q m

        there : p' ≡ On.next g b₀ p
        there = ep ∙ links p (here h)

        step : freed g (On.next g b₀) (k - (i + 1)) p' b' ≡ freed g (On.next g b₀) (k - i) p b
        step =
            ap (freed g (On.next g b₀) (k - (i + 1)) p') eb
            ∙ ap (foldl (On.released g) b) (sym (chain_turn (On.next g b₀) k i p p' h there))

    pub releasing_last : k ≤ i → b ≡ freed g (On.next g b₀) k p₀ b₀
    unfolding chain
    releasing_last h = let z : 0 ≡ k - i = omega arith in ap (λ (n : ℕ). freed g (On.next g b₀) n p b) z ∙ r.same
