-- The content along the new file's chain: its pages were zeroed, and then the bytes were spread over them.
use mathlib.Core.Path.{◌≡◌, refl, sym, ap, ap₂, ◌∙◌, subst}
use mathlib.Core.Logic.{◌≢◌, inl, inr}
use Prim.Native.Nat.{ℕ, zero, suc, ◌+◌, ◌-◌, ◌*◌, ◌/◌, ◌≤◌, ◌<◌, max}
use native.Mathlib.Nat.{zero-add, suc-add}
use native.Mathlib.Omega.{arith}
use mathlib.Core.List.{List, [], ◌∷◌, ◌++◌, flat_map}
use lib.ListN.{length, replicate, length-append, length-replicate, get_or-replicate}
use lib.Seq.{ext_get_or}
use lib.Dec.{T}
use Rattle.volume.specs.Bytes.{Bytes, byte_at, le16, part, put}
use Rattle.volume.specs.Chain.{chain}
use Rattle.volume.specs.Geometry as On
use Rattle.volume.proofs.Occ.{occ, Mem, mem_head, mem_tail, mem_or_not, occ_append}
use Rattle.volume.proofs.Puts.{put_out, byte_part, part_length}
use Rattle.volume.proofs.Grow.{gained_is}
use Rattle.volume.proofs.Entries.{Made}
use Rattle.volume.proofs.Writes.{overwritten_is}
use Rattle.volume.specs.Field.{byte}
use Rattle.volume.proofs.Longer.{Chained, chain_grown, chain_longer_is}
use Rattle.model.specs.Layout.{version1, page_count, pages_for, page_bit, zero_bits}
use Rattle.model.specs.Entry.{size_at, entry_at, new_entry}
use Rattle.model.specs.Tree.{end}
use Rattle.model.specs.Path.{Name}
use Rattle.model.proofs.Version1.{home}
use Rattle.laws.proofs.Facts.{Facts, once}
use Rattle.laws.proofs.Walks.{Parent, Target}
use Rattle.laws.proofs.Counting.{fill_up}
use Rattle.laws.proofs.Slots.{size, lawful, header_marked, Slot}
use Rattle.laws.proofs.Make.{Place, Clear}
use Rattle.laws.proofs.Write.{is_file_entry, file_chained, write_gained}
use Rattle.store_laws.proofs.Stores.{Free}
use Rattle.store_laws.proofs.Made.{first_pages}
use Rattle.store_laws.proofs.Made as Made
use Rattle.store_laws.proofs.Headers as Headers

zeros_append : (j k : ℕ) → replicate {A = ℕ} j 0 ++ replicate k 0 ≡ replicate (j + k) 0
zeros_append zero k = ap (λ (x : ℕ). replicate {A = ℕ} x 0) (sym (zero-add k))
zeros_append (suc j) k = ap {B = List ℕ} (λ r. 0 ∷ r) (zeros_append j k) ∙ ap (λ (x : ℕ). replicate {A = ℕ} x 0) (sym (suc-add j k))

part_zeros : (s n : ℕ) (b : Bytes) → s + n ≤ length b → ((i : ℕ) → s ≤ i → i < s + n → byte_at b i ≡ 0) → part s n b ≡ replicate n 0
part_zeros s n b h z =
    ext_get_or 0 (part s n b) (replicate n 0) (part_length s n b h ∙ sym (length-replicate {A = ℕ} n 0)) (λ i l.
    let u : i < n = omega (arith, part_length s n b h) in
    byte_part s n i b u ∙ z (s + i) (omega arith) (omega arith) ∙ sym (get_or-replicate {A = ℕ} n i 0 0 u))

flat_map_zeros : (f : ℕ → Bytes) (xs : List ℕ) → ((q : ℕ) → Mem q xs → f q ≡ replicate 255 0) → flat_map f xs ≡ replicate (255 * length xs) 0
unfolding flat_map
flat_map_zeros f [] h = refl
flat_map_zeros f (x ∷ xs) h =
    let e : 255 + 255 * length xs ≡ 255 * suc (length xs) = omega arith in
    ap₂ (λ (y z : Bytes). y ++ z) (h x (mem_head x xs)) (flat_map_zeros f xs (λ q m. h q (mem_tail q x xs m)))
    ∙ zeros_append 255 (255 * length xs) ∙ ap (λ (k : ℕ). replicate {A = ℕ} k 0) e

module _ (b : Bytes) (f : Facts b) (ns : List Name) (n : Name) (date v : Bytes) (c : Clear b ns n date (pages_for (length v))) where
  abbrev w : Place b ns n.bytes date (pages_for 0)
  w = Made.w b f ns n date v c

  abbrev e : ℕ
  e = Made.e b f ns n date v c

  abbrev t : ℕ
  t = Made.t b f ns n date v c

  abbrev at : ℕ
  at = Made.at b f ns n date v c

  abbrev qs : List ℕ
  qs = Made.qs b f ns n date v c

  abbrev b₁ : Bytes
  b₁ = Made.b₁ b f ns n date v c

  abbrev f₁ : Facts b₁
  f₁ = Made.f₁ b f ns n date v c

  abbrev m : Made version1 home (page_count b) b b₁ w.at (new_entry 0x80 n.bytes 0 0 date) (byte (w.at + 17)) (pages_for 0) (On.gained version1 (page_count b) (pages_for 0) b)
  m = Made.m b f ns n date v c

  abbrev new : (q : ℕ) → Mem q qs → (1 ≤ q) × (q < page_count b) × (page_bit b q ≡ 0)
  new = Made.new b f ns n date v c

  abbrev here : Slot b t at
  here = Made.here b f ns n date v c

  abbrev pages₁ : page_count b₁ ≡ page_count b
  pages₁ = Made.pages₁ b f ns n date v c

  abbrev above₁ : (p : Parent b₁ ns) × (p.t ≡ t)
  above₁ = Made.above₁ b f ns n date v c

  abbrev tg : Target b₁ ns n
  tg = Made.tg b f ns n date v c

  abbrev is_file : T (is_file_entry (entry_at b₁ at))
  is_file = Made.is_file b f ns n date v c

  abbrev no_size : size_at b₁ at ≡ 0
  no_size = Made.no_size b f ns n date v c

  abbrev space₁ : pages_for (max (size_at b₁ at) (0 + length v)) - pages_for (size_at b₁ at) ≤ zero_bits b₁ (page_count b₁)
  space₁ = Made.space₁ b f ns n date v c

  abbrev more : List ℕ
  more = Made.more b f ns n date v c

  abbrev d : Bytes
  d = Made.d b f ns n date v c

  abbrev ps : List ℕ
  ps = Made.ps b f ns n date v c

  abbrev same_pages : ps ≡ qs
  same_pages = Made.same_pages b f ns n date v c

  abbrev all_free : Free b (ps ++ more)
  all_free = Made.all_free b f ns n date v c

  abbrev off_entry : (i : ℕ) → i / 256 ≢ t → at ≤ i → at + 32 ≤ i
  off_entry = Made.off_entry b f ns n date v c

  abbrev made_many : length qs ≡ pages_for 0
  made_many = Made.made_many b f ns n date v c

  abbrev many₁ : ℕ
  many₁ = Headers.many₁ b f ns n date v c

  abbrev grown₁ : Bytes
  grown₁ = Headers.grown₁ b f ns n date v c

  abbrev sized : Bytes
  sized = Headers.sized b f ns n date v c

  abbrev sized_fits : at + 18 + 2 ≤ length grown₁
  sized_fits = Headers.sized_fits b f ns n date v c

  abbrev sized_long : length sized ≡ length b₁
  sized_long = Headers.sized_long b f ns n date v c

  abbrev written_chain : ps ++ more ≡ On.gained version1 (page_count b) (pages_for (length v)) b
  written_chain = Headers.written_chain b f ns n date v c

  chained₁ : Chained version1 home (page_count b₁) b₁ (byte (at + 17)) above₁.0.t (pages_for (size_at b₁ at))
  chained₁ = file_chained b₁ f₁ ns n tg is_file

  t_free : (q : ℕ) → Mem q (ps ++ more) → q ≢ t
  t_free q k e = omega (arith, (all_free q k).2, ap (page_bit b) e, here.marked)

  -- before the bytes are spread the new pages hold zeros
  zeros_there : (q i : ℕ) → Mem q (ps ++ more) → 256 * q + 1 ≤ i → i < 256 * q + 256 → byte_at sized i ≡ 0
  zeros_there q i k l u =
      let page : i / 256 ≡ q = omega arith in
      put_out (at + 18) (le16 (max (size_at b₁ at) (0 + length v))) grown₁ sized_fits i (λ x. omega (arith, off_entry i (λ e. t_free q k (sym page ∙ e)) (omega arith)))
      ∙ elim (mem_or_not q ps) [
        | inl h ↦
            (chain_longer_is (lawful f₁) b₁ (byte (at + 17)) above₁.0.t (pages_for (size_at b₁ at)) many₁ chained₁ space₁).old q i h (omega arith) u (λ x. omega arith)
            ∙ m.zeroed q i (subst (Mem q) same_pages h) (omega arith) u (λ x. omega arith)
        | inr z ↦
            (chain_grown (lawful f₁) b₁ (byte (at + 17)) above₁.0.t (pages_for (size_at b₁ at)) many₁ chained₁ space₁
            ).zeroed q i (omega (arith, occ_append q ps more, k, z)) (omega arith) u (λ x. omega arith)
      ]

  pub all_many : length (ps ++ more) ≡ pages_for (length v)
  all_many =
      let x : max (size_at b₁ at) (0 + length v) ≡ length v = omega (arith, no_size) in
      omega (
        arith,
        length-append ps more,
        ap length same_pages,
        made_many,
        (write_gained b₁ f₁ ns n tg is_file 0 v (omega arith) space₁).many,
        ap pages_for x,
        ap pages_for no_size,
        first_pages (length v),
      )

  zeros_before : flat_map (On.content_on version1 sized) (ps ++ more) ≡ replicate (255 * pages_for (length v)) 0
  zeros_before =
      flat_map_zeros (On.content_on version1 sized) (ps ++ more) (λ q k.
      part_zeros (256 * q + 1) 255 sized (let r = all_free q k in omega (arith, r.1, sized_long, m.size, (size f).whole)) (λ i l u. zeros_there q i k l (omega arith)))
      ∙ ap (λ (x : ℕ). replicate {A = ℕ} (255 * x) 0) all_many

  pub written_content : flat_map (On.content_on version1 d) (ps ++ more) ≡ put 0 v (replicate (255 * pages_for (length v)) 0)
  unfolding On.written
  written_content =
      (overwritten_is (lawful f₁) (ps ++ more) 0 v sized (sized_long ∙ (size f₁).whole)
      (subst (λ (l : List ℕ). (q : ℕ) → occ q l ≤ 1) (sym written_chain)
      (gained_is (lawful f) (pages_for (length v)) b (size f).whole (header_marked f) c.space).once)
      (λ q k. let r = all_free q k in (r.0, omega (arith, r.1, pages₁)))
      (subst (λ (x : ℕ). 0 + length v ≤ 255 * x) (sym all_many) (omega (arith, fill_up (length v))))).content
      ∙ ap (put 0 v) zeros_before

  pub made_zeros : flat_map (On.content_on version1 b₁) qs ≡ replicate (255 * pages_for 0) 0
  made_zeros =
      flat_map_zeros (On.content_on version1 b₁) qs (λ q k.
      part_zeros (256 * q + 1) 255 b₁ (omega (arith, (new q k).1, m.size, (size f).whole)) (λ i l u. m.zeroed q i k (omega arith) (omega arith) (λ x. omega arith)))
      ∙ ap (λ (x : ℕ). replicate {A = ℕ} (255 * x) 0) made_many
  -- the content along the new file's chain, and zeros behind it to the end of the last page
