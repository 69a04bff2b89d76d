-- The 32 bytes of the new entry: those that make wrote, with the size that write put there and the lowest free page as the start.
use mathlib.Core.Path.{◌≡◌, refl, sym, ap, ◌∙◌}
use mathlib.Core.Logic.{◌≢◌}
use Prim.Native.Nat.{ℕ, zero, suc, ◌+◌, ◌-◌, ◌≤◌, ◌<◌, max}
use native.Mathlib.Omega.{arith}
use native.Mathlib.Decide.{dec_lt}
use mathlib.Core.List.{List, ◌∷◌, ◌++◌}
use lib.ListN.{length, replicate, get_or-append}
use lib.Seq.{get_or-append-add}
use Rattle.volume.specs.Bytes.{Bytes, byte_at, le16}
use Rattle.volume.specs.Chain.{chain}
use Rattle.volume.specs.Geometry as On
use Rattle.volume.proofs.Occ.{occ}
use Rattle.volume.proofs.Entries.{Made}
use Rattle.volume.proofs.Writes.{Written}
use Rattle.volume.specs.Field.{byte}
use Rattle.model.specs.Layout.{version1, page_count, pages_for, link}
use Rattle.model.specs.Entry.{start_at, size_at, new_entry}
use Rattle.model.specs.Path.{Name}
use Rattle.model.proofs.Version1.{home}
use Rattle.laws.proofs.Facts.{Facts}
use Rattle.laws.proofs.Entries.{within_page}
use Rattle.laws.proofs.Walks.{Parent}
use Rattle.laws.proofs.Slots.{rest_kept, Slot}
use Rattle.laws.proofs.Make.{Place, Clear, made_there}
use Rattle.store_laws.proofs.Made as Made
use Rattle.store_laws.proofs.Headers as Headers
use Rattle.store_laws.proofs.Content as Content

one_page : (s : ℕ) → 1 ≤ pages_for s
unfolding pages_for
one_page s = omega arith

module _ (b : Bytes) (f : Facts b) (ns : List Name) (n : Name) (date v : Bytes) (c : Clear b ns n date (pages_for (length v))) where
  abbrev w : Place b ns n.bytes date (pages_for 0)
  w = Made.w b f ns n date v c

  abbrev e : ℕ
  e = Made.e b f ns n date v c

  abbrev t : ℕ
  t = Made.t b f ns n date v c

  abbrev at : ℕ
  at = Made.at b f ns n date v c

  abbrev b₁ : Bytes
  b₁ = Made.b₁ b f ns n date v c

  abbrev f₁ : Facts b₁
  f₁ = Made.f₁ b f ns n date v c

  abbrev m : Made version1 home (page_count b) b b₁ w.at (new_entry 0x80 n.bytes 0 0 date) (byte (w.at + 17)) (pages_for 0) (On.gained version1 (page_count b) (pages_for 0) b)
  m = Made.m b f ns n date v c

  abbrev here : Slot b t at
  here = Made.here b f ns n date v c

  abbrev above₁ : (p : Parent b₁ ns) × (p.t ≡ t)
  above₁ = Made.above₁ b f ns n date v c

  abbrev no_size : size_at b₁ at ≡ 0
  no_size = Made.no_size b f ns n date v c

  abbrev more : List ℕ
  more = Made.more b f ns n date v c

  abbrev d : Bytes
  d = Made.d b f ns n date v c

  abbrev ps : List ℕ
  ps = Made.ps b f ns n date v c

  abbrev wb : Written version1 home (page_count b₁) b₁ d (byte (at + 17)) above₁.0.t (at + 18) (le16 (max (size_at b₁ at) (0 + length v))) 0 v (size_at b₁ at) (max (size_at b₁ at) (0 + length v)) ps more
  wb = Made.wb b f ns n date v c

  abbrev written_chain : ps ++ more ≡ On.gained version1 (page_count b) (pages_for (length v)) b
  written_chain = Headers.written_chain b f ns n date v c

  abbrev all_many : length (ps ++ more) ≡ pages_for (length v)
  all_many = Content.all_many b f ns n date v c

  -- sizes differ in bytes 18 and 19 of an entry alone
  sized_other : (z i : ℕ) → i < 32 → i ≢ 18 → i ≢ 19 → byte_at (new_entry 0x80 n.bytes 0 z date) i ≡ byte_at (new_entry 0x80 n.bytes 0 0 date) i
  unfolding new_entry
  sized_other z zero l a c' = refl
  sized_other z (suc i) l a c' = elim (dec_lt i 16) [
    | yes u ↦
        get_or-append n.bytes (0 ∷ (le16 z ++ (date ++ replicate 4 0))) 0 i (omega (arith, w.long))
        ∙ sym (get_or-append n.bytes (0 ∷ (le16 0 ++ (date ++ replicate 4 0))) 0 i (omega (arith, w.long)))
    | no u ↦
        let e : i ≡ length n.bytes + (i - 16) = omega (arith, w.long) in
        ap (byte_at (n.bytes ++ (0 ∷ (le16 z ++ (date ++ replicate 4 0))))) e ∙ get_or-append-add n.bytes (0 ∷ (le16 z ++ (date ++ replicate 4 0))) (i - 16) 0
        ∙ tail (i - 16) (omega (arith, a)) (omega (arith, c'))
        ∙ sym (ap (byte_at (n.bytes ++ (0 ∷ (le16 0 ++ (date ++ replicate 4 0))))) e ∙ get_or-append-add n.bytes (0 ∷ (le16 0 ++ (date ++ replicate 4 0))) (i - 16) 0)
  ]
    where
      tail : (j : ℕ) → j ≢ 1 → j ≢ 2 → byte_at (0 ∷ (le16 z ++ (date ++ replicate 4 0))) j ≡ byte_at (0 ∷ (le16 0 ++ (date ++ replicate 4 0))) j
      tail zero a c = refl
      tail (suc zero) a c = absurd (a refl)
      tail (suc (suc zero)) a c = absurd (c refl)
      tail (suc (suc (suc j))) a c = refl

  sized_bytes : (z i : ℕ) → i < 2 → byte_at (new_entry 0x80 n.bytes 0 z date) (18 + i) ≡ byte_at (le16 z) i
  unfolding new_entry
  sized_bytes z i l =
      let e : 18 + i ≡ suc (length n.bytes + suc i) = omega (arith, w.long) in
      ap (byte_at (0x80 ∷ (n.bytes ++ (0 ∷ (le16 z ++ (date ++ replicate 4 0)))))) e
      ∙ get_or-append-add n.bytes (0 ∷ (le16 z ++ (date ++ replicate 4 0))) (suc i) 0
      ∙ get_or-append (le16 z) (date ++ replicate 4 0) 0 i (omega arith)

  -- the entry's 32 bytes but its start page
  pub written_entry : (i : ℕ) → i < 32 → i ≢ 17 → byte_at d (at + i) ≡ byte_at (new_entry 0x80 n.bytes 0 (length v) date) i
  written_entry i l ne = elim (dec_lt i 18) [
    | yes u ↦ kept (omega arith) ∙ sym (sized_other (length v) i l (omega arith) (omega arith))
    | no u ↦ elim (dec_lt i 20) [
      | yes x ↦
          let s : max (size_at b₁ at) (0 + length v) ≡ length v = omega (arith, no_size) in
          let e : at + i ≡ at + 18 + (i - 18) = omega arith in
          let e' : i ≡ 18 + (i - 18) = omega arith in
          ap (byte_at d) e ∙ wb.beside (i - 18) (omega arith) ∙ ap (λ (y : ℕ). byte_at (le16 y) (i - 18)) s
          ∙ sym (ap (byte_at (new_entry 0x80 n.bytes 0 (length v) date)) e' ∙ sized_bytes (length v) (i - 18) (omega arith))
      | no x ↦ kept (omega arith) ∙ sym (sized_other (length v) i l (omega arith) (omega arith))
    ]
  ]
    where
      kept : (18 ≤ i → 20 ≤ i) → byte_at d (at + i) ≡ byte_at (new_entry 0x80 n.bytes 0 0 date) i
      kept o =
          wb.rest (at + i) (rest_kept f₁ (at + i) (omega (arith, here.within.far))) (λ x. omega (arith, ne)) (λ x. omega (arith, o (omega arith)))
          (ap (λ (x : ℕ). occ x (ps ++ more)) (within_page t at here.within (at + i) (omega arith) (omega arith) ∙ sym above₁.1) ∙ wb.apart)
          ∙ made_there f ns n.bytes date 0x80 0 (pages_for 0) w i l ne

  -- it starts at the lowest free page of the old image
  chain_first : (f' : ℕ → ℕ) (k p x : ℕ) (xs : List ℕ) → 1 ≤ k → chain f' k p ≡ x ∷ xs → p ≡ x
  unfolding chain
  chain_first f' zero p x xs l e = absurd (omega arith)
  chain_first f' (suc k) p x xs l e = cc e

  first_gained : (k : ℕ) → 1 ≤ k → On.gained version1 (page_count b) k b ≡ On.lowest_free version1 (page_count b) b ∷ On.gained version1 (page_count b) (k - 1) (On.mark version1 (On.lowest_free version1 (page_count b) b) b)
  unfolding On.gained
  first_gained zero l = absurd (omega arith)
  first_gained (suc k) l = let e : k ≡ suc k - 1 = omega arith in ap (λ (x : ℕ). On.lowest_free version1 (page_count b) b ∷ On.gained version1 (page_count b) x (On.mark version1 (On.lowest_free version1 (page_count b) b) b)) e

  pub written_start : start_at d at ≡ On.lowest_free version1 (page_count b) b
  written_start =
      let some_page : 1 ≤ pages_for (length v) = one_page (length v) in
      chain_first (link d) (length (ps ++ more)) (start_at d at) (On.lowest_free version1 (page_count b) b)
      (On.gained version1 (page_count b) (pages_for (length v) - 1) (On.mark version1 (On.lowest_free version1 (page_count b) b) b)) (omega (arith, all_many, some_page))
      (wb.pages ∙ written_chain ∙ first_gained (pages_for (length v)) some_page)

  pub made_start : start_at b₁ at ≡ On.lowest_free version1 (page_count b) b
  made_start =
      chain_first (link b₁) (pages_for 0) (start_at b₁ at) (On.lowest_free version1 (page_count b) b)
      (On.gained version1 (page_count b) (pages_for 0 - 1) (On.mark version1 (On.lowest_free version1 (page_count b) b) b)) (one_page 0)
      (m.pages ∙ first_gained (pages_for 0) (one_page 0))
