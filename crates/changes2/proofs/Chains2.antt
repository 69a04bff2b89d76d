-- What the pages of a chain give where the geometry is lawful: they lie in the image, and page, link, count and bitmap are apart.
use mathlib.Core.Path.{sym, ◌∙◌, subst}
use Prim.Native.Nat.{ℕ, ◌+◌, ◌≤◌, ◌<◌}
use native.Mathlib.Decide.{ℕ_discrete}
use native.Mathlib.Omega.{arith}
use Rattle.volume.specs.Bytes.{Bytes}
use Rattle.volume.specs.Chain.{chain}
use Rattle.volume.specs.Geometry as On
use Rattle.volume.specs.Geometry.{Geometry}
use Rattle.volume.proofs.Occ.{Mem}
use Rattle.volume.proofs.Fields.{Off}
use Rattle.volume.proofs.Lawful.{Sized, Lawful}
use Rattle.volume.proofs.Pages.{page_in, count_in, map_in, off_link, link_kept}
use Rattle.volume.proofs.Small.{FitsIn}
use Rattle.volume.proofs.Writing.{Writable}
use Rattle.volume.proofs.Releasing.{Returned}

module _ {g : Geometry} {home : ℕ → ℕ} {N : ℕ} (law : Lawful g home N) (b : Bytes) (size : Sized g N b) (k p : ℕ)
    (pages : (q : ℕ) → Mem q (chain (On.next g b) k p) → (g.aside ≤ q) × (q < N)) where
  pub writable_of : Writable g b k p
  writable_of = record {
    room = law.room;
    inside = λ q m. let h = (pages q m).1 in (omega (arith, size, page_in g home N law q h), omega (arith, size, law.links_in q h));
    apart = λ q r i mq mr l u. elim (ℕ_discrete q r) [
      | yes e ↦ subst (λ (x : ℕ). Off (g.link x) i) e (law.apart q i (pages q mq).0 (pages q mq).1 l)
      | no ne ↦ off_link g home N law r i (pages r mr).1
          (λ e. ne (sym (law.of_page q i (pages q mq).0 (omega (arith, l)) (omega (arith, u, law.room))) ∙ e))
    ];
  }

  pub returned_of : FitsIn g.count (On.free_count g b + k) → Returned g b k p
  returned_of fits = record {
    inside = λ q m. let h = (pages q m).1 in record {
      page = omega (arith, size, page_in g home N law q h);
      link = omega (arith, size, law.links_in q h);
      count = omega (arith, size, count_in g home N law);
      map = map_in g home N law q b size (omega (arith, h));
    };
    kept = λ q r i mq mr l u. let c = link_kept g home N law r i (pages r mr).0 (pages r mr).1 l u in (c.count, c.map q (pages q mq).1);
    counted = fits;
  }
