-- A granted write: the file keeps its pages and gains those wanted, nobody else's change, and the content along them is the old with the new
-- bytes put at their place; so the tree's file has these bytes and nothing else changes.
use mathlib.Core.Path.{◌≡◌, refl, sym, ap, ap₂, ◌∙◌, subst}
use mathlib.Core.Logic.{◌≢◌, inl, inr}
use Prim.Native.Nat.{ℕ, suc, ◌+◌, ◌-◌, ◌*◌, ◌/◌, ◌%◌, ◌≤◌, ◌<◌, max}
use native.Mathlib.Omega.{arith}
use mathlib.Core.Bool.{not}
use mathlib.Core.List.{List, ◌++◌}
use lib.ListN.{length, length-append}
use lib.Dec.{T, eqb}
use Rattle.volume.specs.Bytes.{Bytes, byte_at, put, le16}
use Rattle.std.specs.Prelude.{if◌then◌else◌}
use Rattle.volume.specs.Chain.{chain, beyond, along}
use Rattle.volume.specs.Field.{byte}
use Rattle.volume.specs.Geometry as On
use Rattle.volume.proofs.Occ.{occ, Mem, occ_append, mem_or_not, not_mem}
use Rattle.volume.proofs.Puts.{part_bytes}
use Rattle.volume.proofs.Chains.{chain_length}
use Rattle.volume.proofs.Fields.{Off}
use Rattle.volume.proofs.Grow.{Gained, gained_is}
use Rattle.volume.proofs.Longer.{Chained}
use Rattle.volume.proofs.Writes.{Beside, Written, written_is}
use Rattle.volume.proofs.Stays.{Elsewhere, written_stays}
use Rattle.model.specs.Layout.{version1, page_count, pages_for, zero_bits, link}
use Rattle.model.specs.Name.{legal_name}
use Rattle.model.specs.Entry.{entries, occupied, is_directory, is_locked, name_at, start_at, size_at, date_at, Entry, a_file, entry_at}
use Rattle.model.specs.Version1.{view}
use Rattle.model.specs.Sound.{pages_of, pages_at, is_named, sound}
use Rattle.model.specs.Tree.{Row, Node, rewrite}
use Rattle.model.specs.Path.{Name, below}
use Rattle.model.specs.Image.{content_of, row_at, tree_of}
use Rattle.model.specs.Walk.{arrived, walk_to, change_at}
use Rattle.model.specs.Effect.{rewritten, written}
use Rattle.model.specs.Refusal.{is_missing, is_blocked, is_directory_node, content_in}
use Rattle.model.specs.EffectOf
use Rattle.model.proofs.Version1.{home}
unfoldable pub use Rattle.view_laws.proofs.FileEntry.{is_file_entry}
use Rattle.view_laws.proofs.FileEntry.{still_file}
use Rattle.view_laws.proofs.Walks as Walks
use Rattle.view_laws.proofs.Writing as Any
use Rattle.laws.proofs.Facts.{Facts, viewed}
use Rattle.laws.proofs.Entries.{within_page}
use Rattle.laws.proofs.Owns.{own}
use Rattle.laws.proofs.Focus.{named_found}
use Rattle.laws.proofs.Counting.{fill_up, content_length}
use Rattle.laws.proofs.Walks.{node_of, Target, target}
use Rattle.laws.proofs.Slots.{size, lawful, head_kept, rest_kept, header_marked, Slot, slot, held, Owned, entry_owned, entry_apart}
use Rattle.laws.proofs.Shelf.{shelved, afterwards}

-- ---- the entry of a file

-- an entry with the fields of a file at `at`, and flags, name and date of another image's entry that is one
pub file_entry : (b b' : Bytes) (at : ℕ) → T (is_file_entry (entry_at b at)) → byte_at b' at ≡ byte_at b at → name_at b' at ≡ name_at b at → date_at b' at ≡ date_at b at
    → entry_at b' at ≡ a_file (is_locked b at) (name_at b at) (date_at b at) (start_at b' at) (size_at b' at)
unfolding entry_at
file_entry b b' at h fl n d = rw (fl, n, d)
    (still_file (occupied b at) (is_directory b at) (is_locked b at) (is_locked b at) (name_at b at) (date_at b at) (start_at b at) (start_at b' at) (size_at b at) (size_at b' at) h)

-- a named entry whose node is no directory
pub node_file : (b : Bytes) (g : ℕ → Row) (n : Bytes) (x : Entry) → T (is_named n x) → T (not (is_directory_node (node_of (view b) g x))) → T (is_file_entry x)
node_file b = Walks.node_file (view b)

-- the sizes of a file that grows
pages_rise : (s₀ s : ℕ) → s₀ ≤ s → pages_for s₀ + (pages_for s - pages_for s₀) ≡ pages_for s
unfolding pages_for
pages_rise s₀ s h = omega arith

-- ---- a file that some names lead to

module _ (b : Bytes) (f : Facts b) (ns : List Name) (n : Name) (tg : Target b ns n) (is_file : T (is_file_entry (entry_at b tg.at))) where
  abbrev e : ℕ
  e = tg.above.e

  abbrev t : ℕ
  t = tg.above.t

  abbrev at : ℕ
  at = tg.at

  -- its size, its pages and its bytes
  abbrev s₀ : ℕ
  s₀ = size_at b at

  abbrev ps : List ℕ
  ps = chain (link b) (pages_for s₀) (start_at b at)

  abbrev content : Bytes
  content = content_of (view b) s₀ ps

  found : Mem at (entries t) × T (is_named n.bytes (entry_at b at))
  found = named_found b t n.bytes at tg.found

  pub is : entry_at b at ≡ a_file (is_locked b at) (name_at b at) (date_at b at) (start_at b at) s₀
  is = file_entry b b at is_file refl refl refl

  pub file_pages : pages_at (view b) at ≡ ps
  file_pages = Any.file_pages (view b) is

  mine : own e b (entry_at b at) ≡ ps
  unfolding own pages_of
  mine = ap (own e b) is

  file_good : T (legal_name (name_at b at)) × (beyond (link b) (pages_for s₀) (start_at b at) ≡ 0)
  file_good = Any.file_good (view b) (view b) e t at tg.above.good n.bytes tg.found is

  file_owned : Owned b ps
  file_owned = subst (Owned b) mine (entry_owned f ns e t at tg.above.leads found.0)

  pub file_slot : Slot b t at
  file_slot = slot f ns (suc e) t at tg.above.leads found.0

  pub file_chained : Chained version1 home (page_count b) b (byte (at + 17)) t (pages_for s₀)
  file_chained = record {
    size = (size f).whole;
    aside = header_marked f;
    held = held f file_slot 17 1 (omega arith);
    apart = ap (occ t) (sym mine) ∙ entry_apart f ns e t at tg.above.leads found.0;
    pages = file_owned.inside;
    once = file_owned.once;
    ends = file_good.1;
  }

  file_beside : Beside version1 home (page_count b) (byte (at + 17)) t (at + 18) 2 b
  file_beside =
      let h = held f file_slot 18 2 (omega arith) in
      record { inside = h.inside; bytes = λ i l u. ((h.bytes i l u).0, (h.bytes i l u).1, λ x. omega arith) }

  pub file_content : content_in (node_of (view b) (row_at e (view b)) (entry_at b at)) ≡ content
  file_content = Any.file_content (view b) is (row_at e (view b))

  pub file_size : length content ≡ s₀
  file_size = content_length b (start_at b at) s₀ (λ q m. let r = file_owned.inside q m in omega (arith, r.1, (size f).whole))

  -- a write of no bytes
  unchanged : T (sound b) × (tree_of b ≡ record { pages = page_count b; code = 0; root = change_at ns (rewrite n.bytes content) (row_at (page_count b) (view b) 0) })
  unchanged =
      afterwards f refl (λ i l. refl)
      (Any.unwritten_sound (shelved f) (size f).whole (viewed f) ns e t at n.bytes tg.above.leads tg.above.good tt tg.found
      (is_locked b at) (name_at b at) (date_at b at) s₀ (byte (at + 17)) is)

  module _ (from : ℕ) (v : Bytes) (hf : from ≤ s₀) (space : pages_for (max s₀ (from + length v)) - pages_for s₀ ≤ zero_bits b (page_count b)) where
    -- the size, the number of pages gained, and the pages gained
    abbrev s : ℕ
    s = max s₀ (from + length v)

    abbrev k : ℕ
    k = pages_for s - pages_for s₀

    abbrev qs : List ℕ
    qs = On.gained version1 (page_count b) k b

    abbrev b' : Bytes
    b' = On.written version1 (page_count b) (byte (at + 17)) ps k (at + 18) (le16 s) from v b

    whole : pages_for s₀ + k ≡ pages_for s
    whole = pages_rise s₀ s (omega arith)

    pub write_gained : Gained version1 (page_count b) k b
    write_gained = gained_is (lawful f) k b (size f).whole (header_marked f) space

    pub write_bytes : Written version1 home (page_count b) b b' (byte (at + 17)) t (at + 18) (le16 s) from v s₀ s ps qs
    write_bytes = written_is (lawful f) b (byte (at + 17)) t (pages_for s₀) k (at + 18) (le16 s) from v s₀ s
        file_chained file_beside hf (fill_up s₀) refl (subst (λ (m : ℕ). s ≤ 255 * m) (sym whole) (fill_up s)) space

    -- every byte but the size's, those that hold or count the pages gained, the link to them, and those of the content where v goes
    pub write_stays : (i : ℕ) → (1 ≤ k → Off (On.joint_of version1 (byte (at + 17)) ps) i) → (at + 18 ≤ i → at + 18 + 2 ≤ i) → ((p : ℕ) → Mem p qs → Elsewhere version1 p i)
        → ((m : ℕ) → from ≤ m → m < from + length v → i ≢ along (On.content version1) 255 (ps ++ qs) m) → byte_at b' i ≡ byte_at b i
    write_stays = written_stays (lawful f) b (byte (at + 17)) t (pages_for s₀) k (at + 18) (le16 s) from v file_chained file_beside space

    many : length (ps ++ qs) ≡ pages_for s
    many = length-append ps qs ∙ ap₂ (λ (x y : ℕ). x + y) (chain_length (link b) (pages_for s₀) (start_at b at)) write_gained.many ∙ whole

    -- the entry's bytes but its start page and size
    entry_kept : (i : ℕ) → at ≤ i → i < at + 32 → (at + 17 ≤ i → at + 20 ≤ i) → byte_at b' i ≡ byte_at b i
    entry_kept i l u o =
        write_bytes.rest i (rest_kept f i (omega (arith, file_slot.within.far))) (λ x. omega (arith, o x)) (λ x. omega (arith, o (omega arith)))
        (ap (λ (x : ℕ). occ x (ps ++ qs)) (within_page t at file_slot.within i l u) ∙ write_bytes.apart)

    new_size : size_at b' at ≡ s
    new_size =
        let x : byte_at b' (at + 18 + 0) ≡ s % 256 = write_bytes.beside 0 (omega arith) in
        let y : byte_at b' (at + 18 + 1) ≡ s / 256 = write_bytes.beside 1 (omega arith) in
        let ex : at + 18 ≡ at + 18 + 0 = omega arith in
        let ey : at + 19 ≡ at + 18 + 1 = omega arith in
        ap₂ (λ (p q : ℕ). p + 256 * q) (ap (byte_at b') ex ∙ x) (ap (byte_at b') ey ∙ y) ∙ omega arith

    pub is' : entry_at b' at ≡ a_file (is_locked b at) (name_at b at) (date_at b at) (start_at b' at) s
    is' =
        file_entry b b' at is_file (entry_kept at (omega arith) (omega arith) (λ x. omega arith))
        (part_bytes (at + 1) 16 b b' write_bytes.size (λ i l u. entry_kept i (omega arith) (omega arith) (λ x. omega arith)))
        (part_bytes (at + 20) 8 b b' write_bytes.size (λ i l u. entry_kept i (omega arith) (omega arith) (λ x. omega arith)))
        ∙ ap (λ (z : ℕ). a_file (is_locked b at) (name_at b at) (date_at b at) (start_at b' at) z) new_size

    pub pages' : chain (link b') (pages_for s) (start_at b' at) ≡ ps ++ qs
    pages' = ap (λ (m : ℕ). chain (link b') m (start_at b' at)) (sym many) ∙ write_bytes.pages

    pub write_inside : (q : ℕ) → Mem q (ps ++ qs) → (1 ≤ q) × (q < page_count b)
    write_inside q m = elim (mem_or_not q ps) [
      | inl h ↦ let r = file_owned.inside q h in (r.0, r.1)
      | inr z ↦ let r = write_gained.new q (omega (arith, occ_append q ps qs)) in (r.0, r.1)
    ]

    zero_out : occ 0 (ps ++ qs) ≡ 0
    zero_out = not_mem 0 (ps ++ qs) (λ c. omega (arith, (write_inside 0 c).0))

    rewritten_sound : T (sound b') × (tree_of b' ≡ record { pages = page_count b; code = 0; root = change_at ns (rewrite n.bytes (put from v content)) (row_at (page_count b) (view b) 0) })
    rewritten_sound =
        let far = file_slot.within.far in
        afterwards f write_bytes.size
        (λ i l. let z : i / 256 ≡ 0 = omega arith in
        write_bytes.rest i (head_kept f i l) (λ u. omega (arith, far)) (λ u. omega (arith, far)) (ap (λ (x : ℕ). occ x (ps ++ qs)) z ∙ zero_out))
        (Any.written_sound (shelved f) (size f).whole (viewed f) ns e t at n.bytes tg.above.leads tg.above.good tt tg.found
        (is_locked b at) (name_at b at) (date_at b at) s₀ (byte (at + 17)) is (omega arith) (omega arith) (at + 18) (le16 s) (omega arith) (omega arith)
        (λ i l u x. omega arith) fill_up pages_rise from v hf space is')

    pub rewritten_is : rewritten at from v b ≡ b'
    unfolding EffectOf.rewritten
    rewritten_is =
        let image : List ℕ → ℕ → Bytes = λ l m. On.written version1 (page_count b) (byte (at + 17)) l (pages_for s - m) (at + 18) (le16 s) from v b in
        ap (λ (l : List ℕ). image l (length l)) file_pages ∙ ap (image ps) (chain_length (link b) (pages_for s₀) (start_at b at))

-- ---- the call

pub written_tree : {b : Bytes} → Facts b → (ns : List Name) (n : Name) (from : ℕ) (v : Bytes)
    → T (not (is_missing (walk_to (below ns n) (row_at (page_count b) (view b) 0)))) → T (not (is_blocked (walk_to (below ns n) (row_at (page_count b) (view b) 0))))
    → (x : Node) → walk_to (below ns n) (row_at (page_count b) (view b) 0) ≡ arrived x → T (not (is_directory_node x))
    → from ≤ length (content_in x) → pages_for (max (length (content_in x)) (from + length v)) - pages_for (length (content_in x)) ≤ zero_bits b (page_count b)
    → T (sound (written (below ns n) from v b))
    × (tree_of (written (below ns n) from v b) ≡ record { pages = page_count b; code = 0; root = change_at ns (rewrite n.bytes (put from v (content_in x))) (row_at (page_count b) (view b) 0) })
unfolding EffectOf.written
written_tree {b} f ns n from v u w x q nd hf space =
    subst (λ (at : ℕ). Says (if eqb (length v) 0 then b else rewritten at from v b) (put from v (content_in x))) (sym tg.position)
    (Any.written_or_none Says b (rewritten tg.at from v b) from v (content_in x) (subst (Says b) same_content (unchanged b f ns n tg is_file)) full)
  where
    tg : Target b ns n
    tg = target f u w

    node : x ≡ node_of (view b) (row_at tg.above.e (view b)) (entry_at b tg.at)
    node = cc (q, tg.node)

    is_file : T (is_file_entry (entry_at b tg.at))
    is_file = node_file b (row_at tg.above.e (view b)) n.bytes (entry_at b tg.at) (named_found b tg.above.t n.bytes tg.at tg.found).1 (subst (λ (y : Node). T (not (is_directory_node y))) node nd)

    same_content : content b f ns n tg is_file ≡ content_in x
    same_content = sym (ap content_in node ∙ file_content b f ns n tg is_file)

    same_size : length (content_in x) ≡ size_at b tg.at
    same_size = ap length (sym same_content) ∙ file_size b f ns n tg is_file

    Says : Bytes → Bytes → Type 0
    Says b' c = T (sound b') × (tree_of b' ≡ record { pages = page_count b; code = 0; root = change_at ns (rewrite n.bytes c) (row_at (page_count b) (view b) 0) })

    full : Says (rewritten tg.at from v b) (put from v (content_in x))
    full =
        let hf' : from ≤ size_at b tg.at = subst (λ (m : ℕ). from ≤ m) same_size hf in
        let sp : pages_for (max (size_at b tg.at) (from + length v)) - pages_for (size_at b tg.at) ≤ zero_bits b (page_count b) =
        subst (λ (m : ℕ). pages_for (max m (from + length v)) - pages_for m ≤ zero_bits b (page_count b)) same_size space in
        subst (λ (b' : Bytes). Says b' (put from v (content_in x))) (sym (rewritten_is b f ns n tg is_file from v hf' sp))
        (subst (λ (c : Bytes). Says (b' b f ns n tg is_file from v hf' sp) (put from v c)) same_content (rewritten_sound b f ns n tg is_file from v hf' sp))
