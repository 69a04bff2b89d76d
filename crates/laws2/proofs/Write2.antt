-- A granted write of version 2: the file keeps its pages and gains those wanted, nobody else's change, and the content along them is the old with the new
-- bytes put at their place; so the tree's file has these bytes and nothing else changes. A page gained has link 0 until the next is joined to it.
use mathlib.Core.Path.{◌≡◌, refl, sym, ap, ◌∙◌, subst}
use Prim.Native.Nat.{ℕ, ◌+◌, ◌-◌, ◌/◌, ◌≤◌, max}
use native.Mathlib.Nat.{le-div_iff_mul-le, div-mul-le_self}
use native.Mathlib.Omega.{arith}
use mathlib.Core.Bool.{not}
use mathlib.Core.List.{List}
use lib.ListN.{length}
use lib.Dec.{T, eqb}
use Rattle.volume.specs.Bytes.{Bytes, put}
use Rattle.std.specs.Prelude.{if◌then◌else◌}
use Rattle.volume.specs.Chain.{chain}
use Rattle.volume.specs.Geometry as On
use Rattle.volume.proofs.Chains.{chain_length}
use Rattle.model.specs.Entry.{a_file}
use Rattle.model.specs.Tree.{Node, rewrite}
use Rattle.model.specs.Path.{Name, below}
use Rattle.model.specs.Image.{content_of, row_at, tree_in}
use Rattle.model.specs.Walk.{arrived, walk_to, position_in}
use Rattle.model.specs.EffectOf as Of
use Rattle.model.specs.RefusalOf.{is_directory_node, content_in, numbers_for, free_in}
use Rattle.model.specs.MeaningOf.{sound, tree_of, in_parent}
use Rattle.view_laws.proofs.FileEntry.{is_file_entry}
use Rattle.view_laws.proofs.Counting.{content_length}
use Rattle.view_laws.proofs.Writing as Any
use Rattle.view_laws.proofs.Walks.{node_of, Target, target, target_file}
use Rattle.version_laws.proofs.Grants.{Says, Found}
use Rattle.model2.specs.Layout.{page_size, page_count, geometry2, pages_for, code_in}
use Rattle.model2.specs.Entry.{is_locked, name_at, start_field, start_at, size_place, size_at, date_at, entry_at, size_bytes}
use Rattle.model2.specs.Version2.{next_by, view2, layout2}
use Rattle.model2.specs.Calls.{v2}
use Rattle.laws2.proofs.Bounds.{bounds}
use Rattle.laws2.proofs.Version2.{shelved2, sized2, lies2, head_home}
use Rattle.laws2.proofs.NewEntry2.{file_is, resized}
use Rattle.laws2.proofs.Facts2.{Sound2, sound_facts_lem, afterwards2}
use Rattle.laws2.proofs.Counts2.{fill_up2, counted2}
use Rattle.laws2.proofs.Targets2.{parent_ends, target_behind}

-- the pages of a file that grows
pages_rise : (size s₀ s : ℕ) → 1 ≤ size → s₀ ≤ s → pages_for size s₀ + (pages_for size s - pages_for size s₀) ≡ pages_for size s
unfolding pages_for
pages_rise size s₀ s h l =
    let u : (s₀ + (size - 1)) / size ≤ (s + (size - 1)) / size = (le-div_iff_mul-le h).1 (omega (arith, div-mul-le_self (s₀ + (size - 1)) size, l)) in
    omega (arith, u)

-- ---- a file that some names lead to

module _ {b : Bytes} (s : Sound2 b) {ns : List Name} {n : Name} (tg : Target (view2 b) ns n) (is_file : T (is_file_entry (entry_at b tg.at))) where
  abbrev at : ℕ
  at = tg.at

  abbrev e : ℕ
  e = tg.above.e

  abbrev t : ℕ
  t = tg.above.t

  -- its size, its pages and its bytes
  abbrev s₀ : ℕ
  s₀ = size_at b at

  abbrev k : ℕ → ℕ
  k = pages_for (page_size (code_in b))

  abbrev ps : List ℕ
  ps = chain (next_by (code_in b) (length b) b) (k s₀) (start_at b at)

  abbrev content : Bytes
  content = content_of (view2 b) s₀ ps

  large : 1 ≤ page_size (code_in b)
  large = omega (arith, (bounds s.allowed).large)

  ends : T ((view2 b).directory_ends t)
  ends = parent_ends s.allowed s.facts tg.above

  is : entry_at b at ≡ a_file (is_locked b at) (name_at b at) (date_at b at) (start_at b at) s₀
  is = file_is b at is_file

  file_size : length content ≡ s₀
  file_size =
      let o = Any.file_owned (shelved2 s.allowed) (sized2 s.allowed b refl) s.facts ns e t at n.bytes tg.above.leads tg.above.good ends tg.found
      (is_locked b at) (name_at b at) (date_at b at) s₀ (start_field at) is in
      content_length (view2 b) (start_at b at) s₀ (fill_up2 (page_size (code_in b)) s₀ large) (λ q m. omega (arith, (lies2 s.allowed b refl q (o.inside q m).1).0))

  -- a write of no bytes
  unchanged : Says v2 b (below ns n) (rewrite n.bytes content) b
  unfolding tree_in in_parent
  unchanged =
      afterwards2 s refl (λ i l c. refl)
      (Any.unwritten_sound (shelved2 s.allowed) (sized2 s.allowed b refl) s.facts ns e t at n.bytes tg.above.leads tg.above.good ends tg.found
      (is_locked b at) (name_at b at) (date_at b at) s₀ (start_field at) is)

  module _ (from : ℕ) (v : Bytes) (hf : from ≤ s₀)
      (space : k (max s₀ (from + length v)) - k s₀ ≤ On.zero_bits (geometry2 (code_in b) (length b)) b (page_count (code_in b) (length b))) where
    abbrev size : ℕ
    size = max s₀ (from + length v)

    abbrev b' : Bytes
    b' = On.written (geometry2 (code_in b) (length b)) (page_count (code_in b) (length b)) (start_field at) ps (k size - k s₀) (size_place at) (size_bytes size) from v b

    full : Says v2 b (below ns n) (rewrite n.bytes (put from v content)) b'
    unfolding tree_in in_parent
    full =
        let r = Any.rewritten (shelved2 s.allowed) (sized2 s.allowed b refl) s.facts ns e t at n.bytes tg.above.leads tg.above.good ends tg.found
        (is_locked b at) (name_at b at) (date_at b at) s₀ (start_field at) is (omega arith) (omega arith) (size_place at) (size_bytes size) (omega arith) (omega arith)
        (λ i l u x. omega arith) (λ m. fill_up2 (page_size (code_in b)) m large) (λ m m' l. pages_rise (page_size (code_in b)) m m' large l) from v hf space in
        afterwards2 s r.long (λ i l c. r.header i (omega (arith, l, target_behind s.allowed s.facts tg)) (head_home s.allowed i l) c)
        (r.means (resized b b' at size r.long is_file
        (λ i l u x. r.fields i l u (λ y. omega (arith, x (omega (arith, y)))) (λ y. omega (arith, x (omega (arith, y)))))
        r.new_size))

    rewritten_is : Of.rewritten layout2 view2 at from v b ≡ b'
    unfolding Of.rewritten
    rewritten_is =
        let image : List ℕ → ℕ → Bytes = λ l m.
        On.written (geometry2 (code_in b) (length b)) (page_count (code_in b) (length b)) (start_field at) l (k size - m) (size_place at) (size_bytes size) from v b in
        ap (λ (l : List ℕ). image l (length l)) (Any.file_pages (view2 b) is) ∙ ap (image ps) (chain_length (next_by (code_in b) (length b) b) (k s₀) (start_at b at))

  -- a write of any bytes to the content c
  any_bytes : (from : ℕ) (v c : Bytes) → content ≡ c → from ≤ length c
      → k (max (length c) (from + length v)) - k (length c) ≤ On.zero_bits (geometry2 (code_in b) (length b)) b (page_count (code_in b) (length b))
      → Says v2 b (below ns n) (rewrite n.bytes (put from v c)) (if eqb (length v) 0 then b else Of.rewritten layout2 view2 at from v b)
  any_bytes from v c same hf space =
      let Means : Bytes → Bytes → Type 0 = λ b' x. Says v2 b (below ns n) (rewrite n.bytes x) b' in
      let Z : ℕ = On.zero_bits (geometry2 (code_in b) (length b)) b (page_count (code_in b) (length b)) in
      let long : length c ≡ s₀ = ap length (sym same) ∙ file_size in
      let hf₀ : from ≤ s₀ = omega (arith, hf, long) in
      let space₀ : k (max s₀ (from + length v)) - k s₀ ≤ Z = subst (λ (m : ℕ). k (max m (from + length v)) - k m ≤ Z) long space in
      Any.written_or_none Means b (Of.rewritten layout2 view2 at from v b) from v c
      (subst (Means b) same unchanged)
      (subst (λ (b'' : Bytes). Means b'' (put from v c)) (sym (rewritten_is from v hf₀ space₀))
      (subst (λ (x : Bytes). Means (b' from v hf₀ space₀) (put from v x)) same (full from v hf₀ space₀)))

-- ---- the call

pub written_tree : (b : Bytes) → T (sound v2 b) → (ns : List Name) (n : Name) (from : ℕ) (v : Bytes) → Found v2 b ns n
    → (x : Node) → walk_to (below ns n) (tree_of v2 b).root ≡ arrived x → T (not (is_directory_node x)) → from ≤ length (content_in x)
    → (numbers_for v2 (tree_of v2 b)).pages_for (max (length (content_in x)) (from + length v)) - (numbers_for v2 (tree_of v2 b)).pages_for (length (content_in x))
    ≤ free_in v2 (tree_of v2 b)
    → Says v2 b (below ns n) (rewrite n.bytes (put from v (content_in x))) (Of.written layout2 view2 (below ns n) from v b)
unfolding Of.written tree_in
written_tree b h ns n from v found x leads notDirectory hf space = go (sound_facts_lem h) (target (sound_facts_lem h).facts.formed found.0 found.1)
  where
    Written : ℕ → Type 0
    Written at = Says v2 b (below ns n) (rewrite n.bytes (put from v (content_in x))) (if eqb (length v) 0 then b else Of.rewritten layout2 view2 at from v b)

    go : Sound2 b → Target (view2 b) ns n → Written (position_in (view2 b) (below ns n))
    go s tg =
        let node : node_of (view2 b) (row_at tg.above.e (view2 b)) (entry_at b tg.at) ≡ x = cc (leads, tg.node) in
        let is_file : T (is_file_entry (entry_at b tg.at)) = target_file tg (λ y q.
        let same : x ≡ y = cc (leads, q) in subst (λ (z : Node). T (not (is_directory_node z))) same notDirectory) in
        subst Written (sym tg.position)
        (any_bytes s tg is_file from v (content_in x) (sym (Any.file_content (view2 b) (is s tg is_file) (row_at tg.above.e (view2 b))) ∙ ap content_in node) hf
        (omega (arith, space, (counted2 s).free, s.facts.counted)))
