-- A sound image is lawful as version 1, and an entry of a reached directory lies in a marked page of the image, its pages marked and owned once.
use mathlib.Core.Path.{◌≡◌, ap, ◌∙◌}
use Prim.Native.Nat.{ℕ, suc, ◌+◌, ◌≤◌, ◌<◌}
use native.Mathlib.Omega.{arith}
use mathlib.Core.List.{List, []}
use lib.ListN.{length}
use Rattle.volume.specs.Bytes.{Bytes}
use Rattle.volume.proofs.Occ.{occ, Mem, mem_head}
use Rattle.volume.proofs.Lawful.{Kept, Lawful}
use Rattle.volume.proofs.Grow.{Held}
use Rattle.model.specs.Layout.{version1, page_count, page_bit}
use Rattle.model.specs.Entry.{entries, entry_at}
use Rattle.model.specs.Version1.{view}
use Rattle.model.specs.Path.{Name}
use Rattle.model.proofs.Version1.{home, version1_lawful}
use Rattle.view_laws.proofs.Slots as Any
use Rattle.laws.proofs.Facts.{Facts, viewed, rooted, Sized, valid_sized}
use Rattle.laws.proofs.Entries.{Within, entry_within, within_page}
use Rattle.laws.proofs.Owns.{own}
use Rattle.laws.proofs.Focus.{Leads}

-- ---- version 1

module _ {b : Bytes} (f : Facts b) where
  pub size : Sized b
  size = valid_sized b f.fits

  pub lawful : Lawful version1 home (page_count b)
  lawful = version1_lawful (page_count b) (omega (arith, size.low)) size.high

  -- every byte but those of the count and the bitmap
  pub head_kept : (i : ℕ) → i < 3 → Kept version1 (page_count b) i
  head_kept i h = record { count = λ l. omega arith; map = λ q k. omega arith }

  pub rest_kept : (i : ℕ) → 36 ≤ i → Kept version1 (page_count b) i
  rest_kept i h = record { count = λ l. omega arith; map = λ q k. omega (arith, size.high) }

  pub header_marked : (q : ℕ) → q < 1 → page_bit b q ≡ 1
  header_marked q h = let e : q ≡ 0 = omega arith in ap (page_bit b) e ∙ f.bit_zero

-- ---- an entry of the directory that some names lead to

pub record Slot (b : Bytes) (t at : ℕ) : Type 0 where
  pub within : Within t at
  pub page : t < page_count b
  pub marked : page_bit b t ≡ 1
  pub inside : at + 32 ≤ length b

pub slot : {b : Bytes} → Facts b → (ns : List Name) (e t at : ℕ) → Leads b (page_count b) 0 ns e t → Mem at (entries t) → Slot b t at
slot {b} f ns e t at leads m =
    let w = entry_within t at m in
    let p = Any.directory_page (viewed f) (omega arith) (omega (arith, (size f).low)) (rooted b) ns e t t leads (mem_head t []) in
    record { within = w; page = p.0.1; marked = p.1; inside = omega (arith, w.high, p.0.1, (size f).whole) }

-- n bytes of the entry, from its byte i on
pub held : {b : Bytes} → Facts b → {t at : ℕ} → Slot b t at → (i n : ℕ) → i + n ≤ 32 → Held version1 home (page_count b) (at + i) n t b
held {b} f {t} {at} s i n h = record {
  inside = omega (arith, s.inside);
  bytes = λ j l u. (within_page t at s.within j (omega arith) (omega arith), rest_kept f j (omega (arith, s.within.far)));
  page = s.page;
  marked = s.marked;
}

-- the pages of an entry, with those below it
abbrev pub Owned : Bytes → List ℕ → Type 0
Owned b ps = Any.Owned (view b) ps

pub entry_owned : {b : Bytes} → Facts b → (ns : List Name) (e t at : ℕ) → Leads b (page_count b) 0 ns (suc e) t → Mem at (entries t) → Owned b (own e b (entry_at b at))
unfolding own
entry_owned f = Any.entry_owned (viewed f)

-- the directory's own page is none of them
pub entry_apart : {b : Bytes} → Facts b → (ns : List Name) (e t at : ℕ) → Leads b (page_count b) 0 ns (suc e) t → Mem at (entries t) → occ t (own e b (entry_at b at)) ≡ 0
unfolding own
entry_apart {b} f ns e t at leads m = Any.entry_apart (viewed f) (omega arith) (omega (arith, (size f).low)) (rooted b) ns e t at t leads m (mem_head t [])
