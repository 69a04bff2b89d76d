-- The header's fields after make and write are the old ones with the pages of the whole file claimed, and these are the pages of the new chain.
use mathlib.Core.Path.{◌≡◌, sym, ap, ap₂, ◌∙◌, subst}
use Prim.Native.Nat.{ℕ, ◌+◌, ◌-◌, ◌/◌, ◌≤◌, ◌<◌, max}
use native.Mathlib.Omega.{arith}
use mathlib.Core.List.{List, ◌++◌}
use lib.ListN.{length}
use lib.Dec.{T}
use Rattle.volume.specs.Bytes.{Bytes, le16, put}
use Rattle.volume.specs.Chain.{chain}
use Rattle.volume.specs.Geometry as On
use Rattle.volume.proofs.Occ.{Mem}
use Rattle.volume.proofs.Marks.{bit_byte, zeros_cong}
use Rattle.volume.proofs.Puts.{put_length}
use Rattle.volume.proofs.Entries.{Made}
use Rattle.volume.proofs.Writes.{Written}
use Rattle.volume.specs.Field.{Field, byte}
use Rattle.volume.proofs.Spreads.{spread_out}
use Rattle.volume.proofs.Longer.{chain_grown}
use Rattle.model.specs.Layout.{version1, page_count, pages_for, page_bit, zero_bits}
use Rattle.model.specs.Entry.{size_at, entry_at, new_entry}
use Rattle.model.specs.Path.{Name}
use Rattle.model.specs.Call.{write}
use Rattle.model.proofs.Version1.{home}
use Rattle.laws.proofs.Facts.{Facts}
use Rattle.laws.proofs.Walks.{Parent, Target}
use Rattle.laws.proofs.Slots.{size, lawful, Slot}
use Rattle.laws.proofs.Make.{Place, Clear}
use Rattle.laws.proofs.Write.{is_file_entry, file_chained}
use Rattle.store_laws.proofs.Stores.{Free}
use Rattle.store_laws.specs.Claim.{claimed}
use Rattle.store_laws.proofs.Claims.{Alike, alike_then, grown_alike, claimed_alike, gained_alike, claimed_add, gained_add, put_alike, joint_far}
use Rattle.store_laws.proofs.Made.{first_pages}
use Rattle.store_laws.proofs.Made as Made

module _ (b : Bytes) (f : Facts b) (ns : List Name) (n : Name) (date v : Bytes) (c : Clear b ns n date (pages_for (length v))) where
  abbrev clear : Clear b ns n date (pages_for 0)
  clear = Made.clear b f ns n date v c

  abbrev w : Place b ns n.bytes date (pages_for 0)
  w = Made.w b f ns n date v c

  abbrev e : ℕ
  e = Made.e b f ns n date v c

  abbrev t : ℕ
  t = Made.t b f ns n date v c

  abbrev at : ℕ
  at = Made.at b f ns n date v c

  abbrev qs : List ℕ
  qs = Made.qs b f ns n date v c

  abbrev b₁ : Bytes
  b₁ = Made.b₁ b f ns n date v c

  abbrev f₁ : Facts b₁
  f₁ = Made.f₁ b f ns n date v c

  abbrev m : Made version1 home (page_count b) b b₁ w.at (new_entry 0x80 n.bytes 0 0 date) (byte (w.at + 17)) (pages_for 0) (On.gained version1 (page_count b) (pages_for 0) b)
  m = Made.m b f ns n date v c

  abbrev new : (q : ℕ) → Mem q qs → (1 ≤ q) × (q < page_count b) × (page_bit b q ≡ 0)
  new = Made.new b f ns n date v c

  abbrev here : Slot b t at
  here = Made.here b f ns n date v c

  abbrev entry_long : length (new_entry 0x80 n.bytes 0 0 date) ≡ 32
  entry_long = Made.entry_long b f ns n date v c

  abbrev pages₁ : page_count b₁ ≡ page_count b
  pages₁ = Made.pages₁ b f ns n date v c

  abbrev above₁ : (p : Parent b₁ ns) × (p.t ≡ t)
  above₁ = Made.above₁ b f ns n date v c

  abbrev tg : Target b₁ ns n
  tg = Made.tg b f ns n date v c

  abbrev is_file : T (is_file_entry (entry_at b₁ at))
  is_file = Made.is_file b f ns n date v c

  abbrev no_size : size_at b₁ at ≡ 0
  no_size = Made.no_size b f ns n date v c

  abbrev space₁ : pages_for (max (size_at b₁ at) (0 + length v)) - pages_for (size_at b₁ at) ≤ zero_bits b₁ (page_count b₁)
  space₁ = Made.space₁ b f ns n date v c

  abbrev more : List ℕ
  more = Made.more b f ns n date v c

  abbrev d : Bytes
  d = Made.d b f ns n date v c

  abbrev ps : List ℕ
  ps = Made.ps b f ns n date v c

  abbrev wb : Written version1 home (page_count b₁) b₁ d (byte (at + 17)) above₁.0.t (at + 18) (le16 (max (size_at b₁ at) (0 + length v))) 0 v (size_at b₁ at) (max (size_at b₁ at) (0 + length v)) ps more
  wb = Made.wb b f ns n date v c

  abbrev same_pages : ps ≡ qs
  same_pages = Made.same_pages b f ns n date v c

  abbrev all_free : Free b (ps ++ more)
  all_free = Made.all_free b f ns n date v c

  high : page_count b ≤ 256
  high = (size f).high

  low : 1 ≤ page_count b
  low = omega (arith, (size f).low)

  entry_fits : at + length (new_entry 0x80 n.bytes 0 0 date) ≤ length b
  entry_fits = omega (arith, entry_long, here.inside)

  put_header : Alike (put at (new_entry 0x80 n.bytes 0 0 date) b) b
  put_header = put_alike at (new_entry 0x80 n.bytes 0 0 date) b here.within.far entry_fits

  pub made_header : Alike b₁ (claimed (page_count b) (pages_for 0) b)
  made_header =
      let b₀ : Bytes = put at (new_entry 0x80 n.bytes 0 0 date) b in
      let bits : (q : ℕ) → q < page_count b → page_bit b₀ q ≡ page_bit b q = λ q l. bit_byte version1 b b₀ q (put_header.each (4 + q / 8) (omega (arith, l, high))) in
      alike_then (grown_alike (page_count b) high low (pages_for 0) (at + 17) b₀ (put_length at (new_entry 0x80 n.bytes 0 0 date) b entry_fits ∙ (size f).whole) (omega (arith, here.within.far))
      (omega (arith, zeros_cong version1 b b₀ (page_count b) bits, clear.space)) (bits 0 low ∙ f.bit_zero))
      (claimed_alike (page_count b) high (pages_for 0) b₀ b put_header)

  -- how many pages the write adds, and the chain grown by them
  abbrev pub many₁ : ℕ
  many₁ = pages_for (max (size_at b₁ at) (0 + length v)) - pages_for (size_at b₁ at)

  abbrev pub grown₁ : Bytes
  grown₁ = On.grown version1 (page_count b₁) many₁ (On.joint_of version1 (byte (at + 17)) ps) b₁

  grown_long : length grown₁ ≡ length b₁
  grown_long = (chain_grown (lawful f₁) b₁ (byte (at + 17)) above₁.0.t (pages_for (size_at b₁ at)) many₁ (file_chained b₁ f₁ ns n tg is_file) space₁).size

  grown_header : Alike grown₁ (claimed (page_count b₁) many₁ b₁)
  grown_header =
      let j = joint_far (at + 17) ps (omega (arith, here.within.far)) (λ q k. (new q (subst (Mem q) same_pages k)).0) in
      subst (λ (x : Field). Alike (On.grown version1 (page_count b₁) many₁ x b₁) (claimed (page_count b₁) many₁ b₁)) (sym j.1)
      (grown_alike (page_count b₁) (size f₁).high (omega (arith, (size f₁).low)) many₁ j.0 b₁ (size f₁).whole j.2 space₁ f₁.bit_zero)

  abbrev pub sized : Bytes
  sized = put (at + 18) (le16 (max (size_at b₁ at) (0 + length v))) grown₁

  pub sized_fits : at + 18 + 2 ≤ length grown₁
  sized_fits = omega (arith, grown_long, m.size, here.inside)

  pub sized_long : length sized ≡ length b₁
  sized_long = put_length (at + 18) (le16 (max (size_at b₁ at) (0 + length v))) grown₁ sized_fits ∙ grown_long

  spread_header : Alike d sized
  unfolding On.written
  spread_header = record {
    left = omega (arith, wb.size, (size f₁).whole, (size f₁).low);
    right = omega (arith, sized_long, (size f₁).whole, (size f₁).low);
    each = λ i k. spread_out (On.content version1) 255 (ps ++ more) 0 v sized
        (λ p h. let r = all_free p h in omega (arith, r.1, sized_long, m.size, (size f).whole)) i (λ p h l. absurd (omega (arith, (all_free p h).0, l, k)));
  }

  -- the header's fields are those of the old image with as many pages claimed as the whole file wants
  pub written_header : Alike d (claimed (page_count b) (pages_for (length v)) b)
  written_header =
      let x : max (size_at b₁ at) (0 + length v) ≡ length v = omega (arith, no_size) in
      let e : pages_for 0 + many₁ ≡ pages_for (length v) = omega (arith, ap pages_for x, ap pages_for no_size, first_pages (length v)) in
      subst (Alike d) (ap (λ (k : ℕ). claimed k many₁ (claimed (page_count b) (pages_for 0) b)) pages₁ ∙ claimed_add (page_count b) (pages_for 0) many₁ b ∙ ap (λ (k : ℕ). claimed (page_count b) k b) e)
      (alike_then spread_header (alike_then (put_alike (at + 18) (le16 (max (size_at b₁ at) (0 + length v))) grown₁ (omega (arith, here.within.far)) sized_fits)
      (alike_then grown_header (claimed_alike (page_count b₁) (size f₁).high many₁ b₁ (claimed (page_count b) (pages_for 0) b) made_header))))

  pub written_chain : ps ++ more ≡ On.gained version1 (page_count b) (pages_for (length v)) b
  written_chain =
      let x : max (size_at b₁ at) (0 + length v) ≡ length v = omega (arith, no_size) in
      let e : pages_for 0 + many₁ ≡ pages_for (length v) = omega (arith, ap pages_for x, ap pages_for no_size, first_pages (length v)) in
      let more-is : more ≡ On.gained version1 (page_count b) many₁ (claimed (page_count b) (pages_for 0) b) =
      ap (λ (k : ℕ). On.gained version1 k many₁ b₁) pages₁ ∙ gained_alike (page_count b) high many₁ b₁ (claimed (page_count b) (pages_for 0) b) made_header in
      ap₂ (λ (k l : List ℕ). k ++ l) same_pages more-is
      ∙ sym (gained_add (page_count b) low high (pages_for 0) many₁ b (size f).whole)
      ∙ ap (λ (k : ℕ). On.gained version1 (page_count b) k b) e
