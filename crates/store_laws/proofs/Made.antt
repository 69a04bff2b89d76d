-- Make, and then write: the new entry lies on the parent's page, the way to it stays, and the pages that both gain are free ones of the old image.
use mathlib.Core.Path.{◌≡◌, refl, sym, ap, ◌∙◌, subst}
use mathlib.Core.Logic.{◌≢◌, inl, inr}
use Prim.Native.Nat.{ℕ, suc, ◌+◌, ◌-◌, ◌/◌, ◌≤◌, ◌<◌, max}
use native.Mathlib.Omega.{arith}
use native.Mathlib.Decide.{dec_lt}
use mathlib.Core.Bool.{false, not}
use mathlib.Core.Option.{Option, some, get_or}
use mathlib.Core.List.{List, [], ◌∷◌, ◌++◌}
use lib.ListN.{length}
use lib.Dec.{T}
use Rattle.volume.specs.Bytes.{Bytes, byte_at, le16}
use Rattle.volume.specs.Chain.{chain}
use Rattle.volume.specs.Geometry as On
use Rattle.volume.proofs.Occ.{occ, Mem, hit_refl, hit_ne, hit_cases, mem_or_not, not_mem, occ_append, under_of_mem}
use Rattle.volume.proofs.Tests.{same_refl, first_found}
use Rattle.volume.proofs.Marks.{zero_balance}
use Rattle.volume.proofs.Entries.{Made}
use Rattle.volume.proofs.Writes.{Written}
use Rattle.volume.specs.Field.{byte}
use Rattle.model.specs.Layout.{version1, page_count, pages_for, page_bit, zero_bits, link}
use Rattle.model.specs.Entry.{entries, start_at, size_at, Entry, a_file, entry_at, new_entry}
use Rattle.model.specs.Version1.{view}
use Rattle.model.specs.Sound.{pages_of, pages_at, is_named, owned, owned_pages, sound}
use Rattle.model.specs.Path.{Name, below}
use Rattle.model.specs.Walk.{entry_named}
use Rattle.model.specs.Effect.{is_vacant, lowest_vacant, file_made}
use Rattle.model.specs.Call.{write}
use Rattle.model.specs.EffectOf
use Rattle.model.proofs.Version1.{home}
use Rattle.laws.proofs.Facts.{Facts, sound_facts_lem, once}
use Rattle.laws.proofs.Entries.{entry_within, within_page, entries_apart, entry_same}
use Rattle.laws.proofs.Frame.{SamePage}
use Rattle.laws.proofs.Focus.{Leads}
use Rattle.laws.proofs.Walks.{Parent, parent_at, Target, target_at}
use Rattle.laws.proofs.Slots.{size, head_kept, rest_kept, Slot}
use Rattle.laws.proofs.NewEntry.{new_length, is_file_lem}
use Rattle.laws.proofs.Make.{Place, Clear, place_of, made_at, place_slot, made_bytes, made_gained, made_there, made_inside, made_position, file_tree}
use Rattle.laws.proofs.Write.{is_file_entry, file_entry, file_pages, write_gained, write_bytes}
use Rattle.store_laws.proofs.Stores.{Free}
use Rattle.store_laws.proofs.Ways.{first_only, leads_kept, leads_walk}

-- a file of whatever length has the pages of an empty one
pub first_pages : (s : ℕ) → pages_for 0 ≤ pages_for s
unfolding pages_for
first_pages s = omega arith

module _ (b : Bytes) (f : Facts b) (ns : List Name) (n : Name) (date v : Bytes) (c : Clear b ns n date (pages_for (length v))) where
  pub clear : Clear b ns n date (pages_for 0)
  clear = record {
    reached = c.reached;
    entered = c.entered;
    new = c.new;
    legal = c.legal;
    long = c.long;
    dated = c.dated;
    space = omega (arith, c.space, first_pages (length v));
  }

  pub w : Place b ns n.bytes date (pages_for 0)
  w = place_of f clear

  abbrev pub e : ℕ
  e = w.above.e

  abbrev pub t : ℕ
  t = w.above.t

  abbrev pub at : ℕ
  at = w.at

  abbrev pub qs : List ℕ
  qs = On.gained version1 (page_count b) (pages_for 0) b

  -- ---- after the make

  abbrev pub b₁ : Bytes
  b₁ = made_at 0x80 0 (pages_for 0) n.bytes date w.at b

  pub vacancy : lowest_vacant b w.above.t ≡ w.at
  unfolding EffectOf.lowest_vacant
  vacancy = ap (λ (o : Option ℕ). get_or o 0) w.found

  pub made_is : file_made (below ns n) date b ≡ b₁
  made_is = made_position n date 0x80 0 (pages_for 0) w.above ∙ ap (λ (x : ℕ). made_at 0x80 0 (pages_for 0) n.bytes date x b) vacancy

  pub f₁ : Facts b₁
  f₁ = sound_facts_lem (subst (λ (x : Bytes). T (sound x)) made_is (file_tree f clear).0)

  pub m : Made version1 home (page_count b) b b₁ w.at (new_entry 0x80 n.bytes 0 0 date) (byte (w.at + 17)) (pages_for 0) (On.gained version1 (page_count b) (pages_for 0) b)
  m = made_bytes f ns n.bytes date 0x80 0 (pages_for 0) w

  pub new : (q : ℕ) → Mem q qs → (1 ≤ q) × (q < page_count b) × (page_bit b q ≡ 0)
  new = (made_gained f ns n.bytes date 0x80 0 (pages_for 0) w).new

  pub spot : Mem at (entries t)
  spot = (first_found (λ x. is_vacant (entry_at b x)) (entries t) at w.found).0

  pub here : Slot b t at
  here = place_slot f ns n.bytes date 0x80 0 (pages_for 0) w

  pub entry_long : length (new_entry 0x80 n.bytes 0 0 date) ≡ 32
  entry_long = new_length 0x80 n.bytes 0 date w.long w.dated

  t_out : occ t qs ≡ 0
  t_out = not_mem t qs (λ k. omega (arith, (new t k).2, here.marked))

  -- bytes outside of the parent's page and the pages gained
  pub made_rest : (i : ℕ) → 36 ≤ i → occ (i / 256) qs ≡ 0 → i / 256 ≢ t → byte_at b₁ i ≡ byte_at b i
  made_rest i l z ne = m.rest i (rest_kept f i l) (λ u. elim (dec_lt i (at + 32)) [
    | yes k ↦ absurd (ne (within_page t at here.within i u k))
    | no k ↦ omega (arith, entry_long)
  ]) z

  pub pages₁ : page_count b₁ ≡ page_count b
  pages₁ = ap (λ (l : ℕ). l / 256) m.size

  pub is₁ : entry_at b₁ at ≡ a_file false n.bytes date (start_at b₁ at) 0
  is₁ = is_file_lem 0x80 n.bytes 0 date w.long w.dated b₁ at (made_inside f ns n.bytes date 0x80 0 (pages_for 0) w) (made_there f ns n.bytes date 0x80 0 (pages_for 0) w) refl

  others₁ : (x : ℕ) → Mem x (entries t) → x ≢ at → entry_at b₁ x ≡ entry_at b x
  others₁ x k ne =
      let r = entry_within t x k in
      entry_same b b₁ x m.size (λ i l u.
      m.rest i (rest_kept f i (omega (arith, r.far))) (λ y. omega (arith, entry_long, entries_apart t x at k spot ne i l u y))
      (ap (λ (y : ℕ). occ y qs) (within_page t x r i l u) ∙ t_out))

  -- the root and the owned pages, each once
  root_once : (q : ℕ) → occ q (0 ∷ owned_pages b) ≤ 1
  root_once q =
      let one = once f q in
      elim (hit_cases q 0) [
        | inl h ↦
            let z : occ 0 (owned_pages b) ≡ 0 = not_mem 0 (owned_pages b) (λ k. omega (arith, (f.inside 0 k).0)) in
            omega (arith, h.1, z, ap (λ (x : ℕ). occ x (owned_pages b)) h.0)
        | inr h ↦ omega (arith, h.1, one)
      ]

  frame : (q : ℕ) → Mem q (0 ∷ owned_pages b) → occ q (t ∷ owned (suc e) (view b) t) ≡ 0 → SamePage b b₁ q
  frame q k z i d l =
      made_rest i l
      (ap (λ (x : ℕ). occ x qs) d ∙ not_mem q qs (λ h.
      let r = new q h in
      omega (arith, r.2, f.exact q r.0 r.1, k, hit_ne q 0 (λ u. omega (arith, r.0, u)))))
      (λ u. omega (arith, z, hit_refl q, ap (λ (x : ℕ). occ q (x ∷ [])) (sym u ∙ d)))

  pub leads₁ : Leads b₁ (page_count b) 0 ns (suc e) t
  leads₁ = leads_kept b b₁ m.size ns (page_count b) 0 (suc e) t root_once w.above.leads frame

  pub above₁ : (p : Parent b₁ ns) × (p.t ≡ t)
  above₁ = parent_at b₁ f₁ ns t (leads_walk b₁ ns (page_count b) 0 (suc e) t leads₁)

  pub found₁ : entry_named (view b₁) t n.bytes ≡ some at
  unfolding entry_named is_named
  found₁ = first_only (λ x. is_named n.bytes (entry_at b₁ x)) (entries t) at spot
      (subst (λ (x : Entry). T (is_named n.bytes x)) (sym is₁) (same_refl n.bytes))
      (λ y k ne. subst (λ (x : Entry). T (not (is_named n.bytes x))) (sym (others₁ y k ne)) (w.apart y k))

  abbrev pub tg : Target b₁ ns n
  tg = target_at b₁ ns n above₁.0 at (ap (λ (p : ℕ). entry_named (view b₁) p n.bytes) above₁.1 ∙ found₁)

  -- ---- after the write

  pub is_file : T (is_file_entry (entry_at b₁ at))
  unfolding is_file_entry
  is_file = subst (λ (x : Entry). T (is_file_entry x)) (sym is₁) tt

  pub no_size : size_at b₁ at ≡ 0
  no_size = let e = file_entry b₁ b₁ at is_file refl refl refl in cc (e, is₁)

  -- as many pages more as the content wants
  pub zeros₁ : zero_bits b₁ (page_count b₁) + pages_for 0 ≡ zero_bits b (page_count b)
  zeros₁ =
      ap (λ (x : ℕ). zero_bits b₁ x + pages_for 0) pages₁
      ∙ omega (
        arith,
        zero_balance version1 b b₁ (page_count b) [] qs (λ q l. refl) (under_of_mem (page_count b) qs (λ q k. (new q k).1)) (λ q l. omega (arith, m.bits q l)),
        (made_gained f ns n.bytes date 0x80 0 (pages_for 0) w).many,
      )

  pub space₁ : pages_for (max (size_at b₁ at) (0 + length v)) - pages_for (size_at b₁ at) ≤ zero_bits b₁ (page_count b₁)
  space₁ =
      let x : max (size_at b₁ at) (0 + length v) ≡ length v = omega (arith, no_size) in
      omega (arith, ap pages_for x, ap pages_for no_size, zeros₁, c.space)

  abbrev pub more : List ℕ
  more = On.gained version1 (page_count b₁) (pages_for (max (size_at b₁ at) (0 + length v)) - pages_for (size_at b₁ at)) b₁

  pub old_pages : pages_at (view b₁) at ≡ qs
  unfolding pages_of
  old_pages = ap (pages_of (view b₁)) is₁ ∙ m.pages

  -- the image after a write of some bytes
  abbrev pub d : Bytes
  d = On.written version1 (page_count b₁) (byte (at + 17)) (chain (link b₁) (pages_for (size_at b₁ at)) (start_at b₁ at))
      (pages_for (max (size_at b₁ at) (0 + length v)) - pages_for (size_at b₁ at)) (at + 18) (le16 (max (size_at b₁ at) (0 + length v))) 0 v b₁

  abbrev pub ps : List ℕ
  ps = chain (link b₁) (pages_for (size_at b₁ at)) (start_at b₁ at)

  pub wb : Written version1 home (page_count b₁) b₁ d (byte (at + 17)) above₁.0.t (at + 18) (le16 (max (size_at b₁ at) (0 + length v))) 0 v (size_at b₁ at) (max (size_at b₁ at) (0 + length v)) ps more
  wb = write_bytes b₁ f₁ ns n tg is_file 0 v (omega arith) space₁

  pub same_pages : ps ≡ qs
  same_pages = sym (file_pages b₁ f₁ ns n tg is_file) ∙ old_pages

  added : (q : ℕ) → Mem q more → (1 ≤ q) × (q < page_count b) × (page_bit b q ≡ 0)
  added q k =
      let r = (write_gained b₁ f₁ ns n tg is_file 0 v (omega arith) space₁).new q k in
      let l : q < page_count b = omega (arith, r.1, pages₁) in
      (r.0, l, omega (arith, m.bits q l, r.2))

  pub all_free : Free b (ps ++ more)
  all_free q k = elim (mem_or_not q ps) [
    | inl h ↦ new q (subst (Mem q) same_pages h)
    | inr z ↦ added q (omega (arith, occ_append q ps more))
  ]

  -- bytes of the entry are of the parent's page
  pub off_entry : (i : ℕ) → i / 256 ≢ t → at ≤ i → at + 32 ≤ i
  off_entry i ne u = elim (dec_lt i (at + 32)) [ yes k ↦ absurd (ne (within_page t at here.within i u k)) | no k ↦ omega arith ]

  pub made_many : length qs ≡ pages_for 0
  made_many = (made_gained f ns n.bytes date 0x80 0 (pages_for 0) w).many
