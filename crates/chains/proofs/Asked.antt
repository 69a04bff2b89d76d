-- What version 1 asks of a chain gives what is asked at its geometry: pages below N lie in the image, and positions are sums of constants and multiples
-- of 256, which linear arithmetic tells apart.
use Prim.Native.Nat.{ℕ, ◌+◌, ◌*◌, ◌/◌, ◌≤◌, ◌<◌}
use native.Mathlib.Omega.{arith}
use mathlib.Core.List.{List}
use Rattle.volume.specs.Bytes.{Bytes}
use Rattle.volume.specs.Chain.{chain}
use Rattle.volume.specs.Field.{byte}
use Rattle.volume.specs.Geometry.{bitmap_byte}
use Rattle.volume.proofs.Occ.{Mem, under_mem}
use Rattle.volume.proofs.Follow as Follow
use Rattle.volume.proofs.Writing.{Writable}
use Rattle.volume.proofs.Growing as Grow
use Rattle.volume.proofs.Releasing as Release
use Rattle.volume.proofs.Claiming.{LinkThenContent}
use Rattle.model.specs.Layout.{version1, page_count, link}
use Rattle.model.proofs.Version1.{home, version1_lawful}
use Rattle.chains.specs.Asked.{Inside, Returned, Growing}

module _ (b : Bytes) (k p : ℕ) (h : Inside b k p) where
  below : (q : ℕ) → Mem q (chain (link b) k p) → q < page_count b
  below q m = under_mem (page_count b) (chain (link b) k p) h q m

  pub inside : Follow.Inside version1 b k p
  inside q m = let l = below q m in (omega arith, omega arith)

  pub writable : Writable version1 b k p
  writable = record { room = omega arith; inside = inside; apart = λ q r i mq mr l u o. omega arith }

pub returned : {b : Bytes} {k p : ℕ} → Returned b k p → Release.Returned version1 b k p
returned {b} {k} {p} c = record {
  inside = λ q m.
      let l = below b k p c.inside q m in
      record { page = omega arith; link = omega arith; count = omega arith; map = omega (arith, c.few) };
  kept = λ q r i mq mr m u. let l = below b k p c.inside q mq in (λ o. omega arith, λ e. omega (arith, c.few, e));
  counted = omega (arith, c.counted);
}

pub growing : {n k joint : ℕ} {b : Bytes} → Growing n k joint b → Grow.Growing version1 n k (byte joint) b
growing {n} {k} {joint} {b} c = record {
  home = home;
  lawful = version1_lawful n (omega (arith, c.room.held.page)) c.few;
  words = record { few = omega (arith, c.few); bytes = omega (arith, c.few, c.room.size, c.room.held.page) };
  fits = λ p h. omega (arith, c.few);
  links = λ q p h. omega (arith, c.few);
  counted = c.counted;
  own = c.own;
  room = c.room;
}

pub link_first : LinkThenContent version1
link_first p i l u = (omega arith, omega arith)
