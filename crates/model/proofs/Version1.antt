-- Version 1 is a lawful geometry, since its places are sums of constants and multiples of 256, which linear arithmetic tells apart: so what `volume`
-- proves of pages and chains holds for it.
use Prim.Native.Nat.{ℕ, ◌/◌, ◌≤◌}
use native.Mathlib.Omega.{arith}
use Rattle.volume.proofs.Lawful.{Lawful}
use Rattle.model.specs.Layout.{page_size, version1}

-- the page that a byte belongs to
abbrev pub home : ℕ → ℕ
home i = i / page_size

pub version1_lawful : (N : ℕ) → 1 ≤ N → N ≤ 256 → Lawful version1 home N
version1_lawful N low high = record {
  header = omega arith;
  room = omega arith;
  of_page = λ p i h k l. omega arith;
  of_link = λ p i h k l. omega arith;
  of_count = λ i k l. omega arith;
  of_map = λ p h. omega arith;
  order = omega arith;
  apart = λ p i h u k l. omega arith;
  links_in = λ p h. omega arith;
  map_in = omega arith;
}
