-- Make followed by write, byte by byte: the new entry, the pages gained and what they hold, the header's marks and count; nothing else changes.
use mathlib.Core.Path.{◌≡◌, refl, sym, ap, ◌∙◌, subst}
use mathlib.Core.Logic.{◌≢◌}
use Prim.Native.Nat.{ℕ, ◌%◌, ◌+◌, ◌-◌, ◌*◌, ◌/◌, ◌≤◌, ◌<◌, max}
use native.Mathlib.Omega.{arith}
use mathlib.Core.Bool.{Bool, true, false}
use mathlib.Core.List.{List, [], ◌∷◌, ◌++◌, flat_map}
use lib.ListN.{length, replicate}
use lib.Dec.{T, eqb, eqb→eq}
use Rattle.volume.specs.Bytes.{Bytes, byte_at, le16, put}
use Rattle.std.specs.Prelude.{if◌then◌else◌}
use Rattle.volume.specs.Chain.{chain}
use Rattle.volume.specs.Geometry as On
use Rattle.volume.proofs.Occ.{occ, Mem, not_mem, occ_append}
use Rattle.volume.proofs.Marks.{bit_low}
use Rattle.volume.proofs.Splice.{splice_nil}
use Rattle.volume.proofs.Entries.{Made}
use Rattle.volume.proofs.Writes.{Written}
use Rattle.volume.specs.Field.{byte}
use Rattle.model.specs.Layout.{version1, page_count, pages_for, page_bit, zero_bits, link}
use Rattle.model.specs.Entry.{entries, start_at, size_at, entry_at, new_entry}
use Rattle.model.specs.Version1.{view}
use Rattle.model.specs.Sound.{pages_of, pages_at}
use Rattle.model.specs.Tree.{end}
use Rattle.model.specs.Path.{Name, below}
use Rattle.model.specs.Walk.{Walked, arrived_or, parent_page, entry_position}
use Rattle.model.specs.Effect.{lowest_vacant, file_made, rewritten}
use Rattle.model.specs.Call.{write}
use Rattle.model.proofs.Version1.{home}
use Rattle.laws.proofs.Facts.{Facts}
use Rattle.laws.proofs.Walks.{Parent, Target}
use Rattle.laws.proofs.Slots.{size, head_kept, rest_kept, Slot}
use Rattle.laws.proofs.Make.{Place, Clear, made_there}
use Rattle.laws.proofs.Write.{is_file_entry, is', pages', rewritten_is}
use Rattle.model.specs.Store.{stored}
use Rattle.model.specs.EffectOf
use Rattle.store_laws.proofs.Stores.{Free, Renewed}
use Rattle.store_laws.specs.Claim.{claimed}
use Rattle.store_laws.proofs.Claims.{Alike, claimed_beside, claimed_tops}
use Rattle.volume.specs.Chain.{beyond}
use Rattle.store_laws.specs.Claim.{claimed}
use Rattle.store_laws.proofs.Made as Made
use Rattle.store_laws.proofs.Headers as Headers
use Rattle.store_laws.proofs.Content as Content
use Rattle.store_laws.proofs.Entered as Entered

-- what make followed by write is to the old image: where the new entry stands, which pages it has, and every byte of the new image
pub record StoredOn (b d name date v : Bytes) (t at k : ℕ) (qs : List ℕ) : Type 0 where
  pub page : t < page_count b
  pub marked : page_bit b t ≡ 1
  pub spot : Mem at (entries t)
  pub free : Free b qs
  pub renewed : Renewed b d t qs
  pub chained : pages_at (view d) at ≡ qs
  pub many : length qs ≡ k
  -- the lowest free pages of the old image, in their order; each leads to the next, and the last nowhere
  pub gains : qs ≡ On.gained version1 (page_count b) k b
  pub linked : chain (link d) k (start_at d at) ≡ qs
  pub ends : beyond (link d) k (start_at d at) ≡ 0
  -- the header's fields, the new entry, the bytes beside it, and the content with zeros behind it to the end of the last page
  pub header : Alike d (claimed (page_count b) k b)
  pub entry : (i : ℕ) → i < 32 → i ≢ 17 → byte_at d (at + i) ≡ byte_at (new_entry 0x80 name 0 (length v) date) i
  pub start : start_at d at ≡ On.lowest_free version1 (page_count b) b
  pub others : (i : ℕ) → 64 ≤ i → occ (i / 256) qs ≡ 0 → (at ≤ i → at + 32 ≤ i) → byte_at d i ≡ byte_at b i
  pub content : flat_map (On.content_on version1 d) qs ≡ put 0 v (replicate (255 * k) 0)

no_bytes : (v : Bytes) → length v ≡ 0 → v ≡ []
no_bytes [] e = refl
no_bytes (x ∷ v) e = absurd (omega arith)

module _ (b : Bytes) (f : Facts b) (ns : List Name) (n : Name) (date v : Bytes) (c : Clear b ns n date (pages_for (length v))) where
  abbrev w : Place b ns n.bytes date (pages_for 0)
  w = Made.w b f ns n date v c

  abbrev t : ℕ
  t = Made.t b f ns n date v c

  abbrev at : ℕ
  at = Made.at b f ns n date v c

  abbrev qs : List ℕ
  qs = Made.qs b f ns n date v c

  abbrev b₁ : Bytes
  b₁ = Made.b₁ b f ns n date v c

  abbrev vacancy : lowest_vacant b w.above.t ≡ w.at
  vacancy = Made.vacancy b f ns n date v c

  abbrev made_is : file_made (below ns n) date b ≡ b₁
  made_is = Made.made_is b f ns n date v c

  abbrev f₁ : Facts b₁
  f₁ = Made.f₁ b f ns n date v c

  abbrev m : Made version1 home (page_count b) b b₁ w.at (new_entry 0x80 n.bytes 0 0 date) (byte (w.at + 17)) (pages_for 0) (On.gained version1 (page_count b) (pages_for 0) b)
  m = Made.m b f ns n date v c

  abbrev new : (q : ℕ) → Mem q qs → (1 ≤ q) × (q < page_count b) × (page_bit b q ≡ 0)
  new = Made.new b f ns n date v c

  abbrev spot : Mem at (entries t)
  spot = Made.spot b f ns n date v c

  abbrev here : Slot b t at
  here = Made.here b f ns n date v c

  abbrev entry_long : length (new_entry 0x80 n.bytes 0 0 date) ≡ 32
  entry_long = Made.entry_long b f ns n date v c

  abbrev made_rest : (i : ℕ) → 36 ≤ i → occ (i / 256) qs ≡ 0 → i / 256 ≢ t → byte_at b₁ i ≡ byte_at b i
  made_rest = Made.made_rest b f ns n date v c

  abbrev pages₁ : page_count b₁ ≡ page_count b
  pages₁ = Made.pages₁ b f ns n date v c

  abbrev above₁ : (p : Parent b₁ ns) × (p.t ≡ t)
  above₁ = Made.above₁ b f ns n date v c

  abbrev tg : Target b₁ ns n
  tg = Made.tg b f ns n date v c

  abbrev is_file : T (is_file_entry (entry_at b₁ at))
  is_file = Made.is_file b f ns n date v c

  abbrev space₁ : pages_for (max (size_at b₁ at) (0 + length v)) - pages_for (size_at b₁ at) ≤ zero_bits b₁ (page_count b₁)
  space₁ = Made.space₁ b f ns n date v c

  abbrev more : List ℕ
  more = Made.more b f ns n date v c

  abbrev old_pages : pages_at (view b₁) at ≡ qs
  old_pages = Made.old_pages b f ns n date v c

  abbrev d : Bytes
  d = Made.d b f ns n date v c

  abbrev ps : List ℕ
  ps = Made.ps b f ns n date v c

  abbrev wb : Written version1 home (page_count b₁) b₁ d (byte (at + 17)) above₁.0.t (at + 18) (le16 (max (size_at b₁ at) (0 + length v))) 0 v (size_at b₁ at) (max (size_at b₁ at) (0 + length v)) ps more
  wb = Made.wb b f ns n date v c

  abbrev same_pages : ps ≡ qs
  same_pages = Made.same_pages b f ns n date v c

  abbrev all_free : Free b (ps ++ more)
  all_free = Made.all_free b f ns n date v c

  abbrev off_entry : (i : ℕ) → i / 256 ≢ t → at ≤ i → at + 32 ≤ i
  off_entry = Made.off_entry b f ns n date v c

  abbrev made_many : length qs ≡ pages_for 0
  made_many = Made.made_many b f ns n date v c

  abbrev made_header : Alike b₁ (claimed (page_count b) (pages_for 0) b)
  made_header = Headers.made_header b f ns n date v c

  abbrev written_header : Alike d (claimed (page_count b) (pages_for (length v)) b)
  written_header = Headers.written_header b f ns n date v c

  abbrev written_chain : ps ++ more ≡ On.gained version1 (page_count b) (pages_for (length v)) b
  written_chain = Headers.written_chain b f ns n date v c

  abbrev all_many : length (ps ++ more) ≡ pages_for (length v)
  all_many = Content.all_many b f ns n date v c

  abbrev written_content : flat_map (On.content_on version1 d) (ps ++ more) ≡ put 0 v (replicate (255 * pages_for (length v)) 0)
  written_content = Content.written_content b f ns n date v c

  abbrev made_zeros : flat_map (On.content_on version1 b₁) qs ≡ replicate (255 * pages_for 0) 0
  made_zeros = Content.made_zeros b f ns n date v c

  abbrev written_entry : (i : ℕ) → i < 32 → i ≢ 17 → byte_at d (at + i) ≡ byte_at (new_entry 0x80 n.bytes 0 (length v) date) i
  written_entry = Entered.written_entry b f ns n date v c

  abbrev written_start : start_at d at ≡ On.lowest_free version1 (page_count b) b
  written_start = Entered.written_start b f ns n date v c

  abbrev made_start : start_at b₁ at ≡ On.lowest_free version1 (page_count b) b
  made_start = Entered.made_start b f ns n date v c

  high : page_count b ≤ 256
  high = (size f).high

  eights : page_count b % 8 ≡ 0
  eights = (size f).eights

  long : 64 ≤ length b
  long = omega (arith, (size f).low, (size f).whole)

  written_on : StoredOn b d n.bytes date v t at (pages_for (length v)) (ps ++ more)
  unfolding pages_of
  written_on = record {
    page = here.page;
    marked = here.marked;
    spot = spot;
    free = all_free;
    renewed = record {
      long = wb.size ∙ m.size;
      head = λ i o. written_header.each i o.field ∙ claimed_beside (page_count b) (pages_for (length v)) b high eights long c.space i o.count o.map;
      tops = λ i l ne. ap (λ (x : ℕ). x / 256) (written_header.each i l) ∙ claimed_tops (page_count b) (pages_for (length v)) b high long i ne;
      rest = λ i l z ne.
          wb.rest i (rest_kept f₁ i l) (λ u. omega (arith, off_entry i ne (omega arith))) (λ u. omega (arith, off_entry i ne (omega arith))) z
          ∙ made_rest i l (omega (arith, occ_append (i / 256) ps more, ap (occ (i / 256)) same_pages)) ne;
      marks = λ q l o. omega (arith, o, m.bits q l, wb.bits q (omega (arith, l, pages₁)), bit_low version1 d q);
    };
    chained = ap (pages_of (view d)) (is' b₁ f₁ ns n tg is_file 0 v (omega arith) space₁) ∙ pages' b₁ f₁ ns n tg is_file 0 v (omega arith) space₁;
    many = all_many;
    gains = written_chain;
    linked = subst (λ (k : ℕ). chain (link d) k (start_at d at) ≡ ps ++ more) all_many wb.pages;
    ends = subst (λ (k : ℕ). beyond (link d) k (start_at d at) ≡ 0) all_many wb.ends;
    header = written_header;
    entry = written_entry;
    start = written_start;
    others = λ i l z o.
        wb.rest i (rest_kept f₁ i (omega arith)) (λ u. omega (arith, o (omega arith))) (λ u. omega (arith, o (omega arith))) z
        ∙ m.rest i (rest_kept f i (omega arith)) (λ u. omega (arith, o u, entry_long)) (omega (arith, occ_append (i / 256) ps more, z, ap (occ (i / 256)) same_pages));
    content = written_content;
  }

  made_on : StoredOn b b₁ n.bytes date [] t at (pages_for 0) qs
  made_on = record {
    page = here.page;
    marked = here.marked;
    spot = spot;
    free = new;
    renewed = record {
      long = m.size;
      head = λ i o. made_header.each i o.field ∙ claimed_beside (page_count b) (pages_for 0) b high eights long w.space i o.count o.map;
      tops = λ i l ne. ap (λ (x : ℕ). x / 256) (made_header.each i l) ∙ claimed_tops (page_count b) (pages_for 0) b high long i ne;
      rest = made_rest;
      marks = λ q l o. omega (arith, o, m.bits q l, bit_low version1 b₁ q);
    };
    chained = old_pages;
    many = made_many;
    gains = refl;
    linked = m.pages;
    ends = m.ends;
    header = made_header;
    entry = made_there f ns n.bytes date 0x80 0 (pages_for 0) w;
    start = made_start;
    others = λ i l z o. m.rest i (rest_kept f i (omega arith)) (λ u. omega (arith, o u, entry_long)) z;
    content = made_zeros ∙ sym (splice_nil (replicate (255 * pages_for 0) 0) 0);
  }

  parent_is : parent_page b (below ns n) ≡ t
  unfolding arrived_or
  parent_is = ap (λ (x : Walked ℕ). arrived_or 0 x) w.above.page

  -- the new file's pages along its chain
  abbrev pub chain_of : Bytes → List ℕ
  chain_of x = pages_at (view x) (lowest_vacant b (parent_page b (below ns n)))

  pub stored_on : StoredOn b (stored (below ns n) date v b) n.bytes date v (parent_page b (below ns n)) (lowest_vacant b (parent_page b (below ns n))) (pages_for (length v)) (chain_of (stored (below ns n) date v b))
  unfolding stored EffectOf.written
  stored_on =
      subst (λ (x : Bytes). Says (if eqb (length v) 0 then x else rewritten (entry_position x (below ns n)) 0 v x)) (sym made_is)
      (go (eqb (length v) 0) (eqb→eq (length v) 0))
    where
      Says : Bytes → Type 0
      Says x = StoredOn b x n.bytes date v (parent_page b (below ns n)) (lowest_vacant b (parent_page b (below ns n))) (pages_for (length v)) (chain_of x)

      at_is : lowest_vacant b (parent_page b (below ns n)) ≡ at
      at_is = ap (lowest_vacant b) parent_is ∙ vacancy

      says : (x : Bytes) (l : List ℕ) → StoredOn b x n.bytes date v t at (pages_for (length v)) l → Says x
      says x l s =
          let l-is : l ≡ chain_of x = sym s.chained ∙ ap (pages_at (view x)) (sym at_is) in
          subst (λ (p : ℕ). StoredOn b x n.bytes date v p (lowest_vacant b (parent_page b (below ns n))) (pages_for (length v)) (chain_of x)) (sym parent_is)
          (subst (λ (a : ℕ). StoredOn b x n.bytes date v t a (pages_for (length v)) (chain_of x)) (sym at_is) (subst (StoredOn b x n.bytes date v t at (pages_for (length v))) l-is s))

      go : (k : Bool) → (T k → length v ≡ 0) → Says (if k then b₁ else rewritten (entry_position b₁ (below ns n)) 0 v b₁)
      go true z = says b₁ qs (subst (λ (u : Bytes). StoredOn b b₁ n.bytes date u t at (pages_for (length u)) qs) (sym (no_bytes v (z tt))) made_on)
      go false z = subst Says (sym (ap (λ (x : ℕ). rewritten x 0 v b₁) tg.position ∙ rewritten_is b₁ f₁ ns n tg is_file 0 v (omega arith) space₁)) (says d (ps ++ more) written_on)
