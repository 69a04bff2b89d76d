-- A write: a chain grown, a stretch beside its start set (the size), and bytes spread along it; what it then holds, and that all else stays.
-- Growth touches new pages and one link, the put touches no page of the chain, and the spread no link, so the three do not meet.
use mathlib.Core.Path.{◌≡◌, refl, sym, ap, ap₂, ◌∙◌, subst}
use mathlib.Core.Logic.{◌≢◌, inl, inr}
use Prim.Native.Nat.{ℕ, suc, ◌+◌, ◌-◌, ◌*◌, ◌≤◌, ◌<◌, max}
use native.Mathlib.Omega.{arith}
use native.Mathlib.Nat.{mul-suc, mul-le-mul_left}
use native.Mathlib.Decide.{dec_lt, ℕ_discrete}
use mathlib.Core.List.{List, [], ◌++◌, flat_map}
use lib.ListN.{length, take, length-append}
use lib.Seq.{take-append-le}
use Rattle.volume.specs.Bytes.{Bytes, byte_at, put}
use Rattle.volume.specs.Chain.{chain, beyond, spread}
use Rattle.volume.specs.Field.{Field, load}
use Rattle.volume.specs.Geometry.{Geometry, start, content, content_on, next, free_count, bitmap_byte, page_bit, zero_bits, grown, gained, written}
use Rattle.volume.proofs.Occ.{occ, Nodup, occ_append, mem_or_not, mem_apart, not_mem, nodup_append}
use Rattle.volume.proofs.Flat.{flat_map_append, flat_map_length, flat_map_same}
use Rattle.volume.proofs.Splice.{splice_take}
use Rattle.volume.proofs.Puts.{not_inside, put_length, put_out, put_in, part_bytes, part_length}
use Rattle.volume.proofs.Chains.{chain_frame, chain_length}
use Rattle.volume.proofs.Fields.{place, wide, Off, load_same}
use Rattle.volume.proofs.Lawful.{Sized, Kept, Lawful}
use Rattle.volume.proofs.Spreads.{spread_length, spread_out, spread_content}
use Rattle.volume.proofs.Pages.{bits_same, page_in, off_page}
use Rattle.volume.proofs.Grow.{Gained, gained_is, Grown}
use Rattle.volume.proofs.Longer.{chain_at, joint_at, Chained, Longer, chain_grown, chain_longer_is}

-- ---- bytes spread along pages

module _ (g : Geometry) (home : ℕ → ℕ) (N : ℕ) where
  -- b' is b with v put at place `from` of the content of the pages ps
  pub record Overwritten (ps : List ℕ) (from : ℕ) (v b b' : Bytes) : Type 0 where
    pub size : length b' ≡ length b
    pub rest : (i : ℕ) → occ (home i) ps ≡ 0 → byte_at b' i ≡ byte_at b i
    pub links : (q i : ℕ) → q < N → place (g.link q) ≤ i → i < place (g.link q) + wide (g.link q) → byte_at b' i ≡ byte_at b i
    pub content : flat_map (content_on g b') ps ≡ put from v (flat_map (content_on g b) ps)

module _ {g : Geometry} {home : ℕ → ℕ} {N : ℕ} (law : Lawful g home N) where
  pub content_end : (p : ℕ) → content g p + g.room ≡ start g p + g.size
  content_end p = omega (arith, law.room)

  pub content_apart : (p q : ℕ) → p ≢ q → content g p ≤ content g q → content g p + g.room ≤ content g q
  content_apart p q ne h = elim (dec_lt p q) [
    | yes k ↦ omega (arith, law.room, mul-suc g.size p, mul-le-mul_left {m = suc p} {n = q} g.size k)
    | no k ↦ omega (arith, law.room, mul-suc g.size q, mul-le-mul_left {m = suc q} {n = p} g.size (omega arith))
  ]

  pub overwritten_is : (ps : List ℕ) (from : ℕ) (v b : Bytes) → Sized g N b → Nodup ps
      → ((p : ℕ) → 1 ≤ occ p ps → (g.aside ≤ p) × (p < N)) → from + length v ≤ g.room * length ps
      → Overwritten g home N ps from v b (spread (content g) g.room ps from v b)
  overwritten_is ps from v b s d h k =
      let fits : (p : ℕ) → 1 ≤ occ p ps → content g p + g.room ≤ length b = λ p m. omega (arith, content_end p, page_in g home N law p (h p m).1, s) in
      record {
        size = spread_length (content g) g.room ps from v b fits;
        rest = λ i out. spread_out (content g) g.room ps from v b fits i (λ p m l.
            omega (arith, content_end p, off_page g home N law p i (h p m).0 (λ e. mem_apart p (home i) ps m out (sym e)) (omega arith)));
        links = λ q i hq l u. spread_out (content g) g.room ps from v b fits i (λ p m o. elim (ℕ_discrete p q) [
          | yes e ↦
              let w : place (g.link p) + wide (g.link p) ≤ i = law.apart p i (h p m).0 (h p m).1 o (subst (λ (x : ℕ). place (g.link x) ≤ i) (sym e) l) in
              let z : i < place (g.link p) + wide (g.link p) = subst (λ (x : ℕ). i < place (g.link x) + wide (g.link x)) (sym e) u in absurd (omega arith)
          | no e ↦ omega (arith, content_end p, off_page g home N law p i (h p m).0 (λ x. e (sym x ∙ law.of_link q i hq l u)) (omega arith))
        ]);
        content = spread_content (content g) g.room content_apart ps from v b d fits k;
      }

-- ---- a write

module _ (g : Geometry) (home : ℕ → ℕ) (N : ℕ) where
  -- the stretch of n bytes at position `at` is in the same page as the field, apart from it and from count and bitmap
  pub record Beside (entry : Field) (own at n : ℕ) (b : Bytes) : Type 0 where
    pub inside : at + n ≤ length b
    pub bytes : (i : ℕ) → at ≤ i → i < at + n → (home i ≡ own) × Kept g N i × Off entry i

  -- the chain has the pages ps and holds s₀ bytes; v goes at place `from`, it gains the pages qs and holds s bytes, and w is put at position `at`
  pub record Written (b b' : Bytes) (entry : Field) (own at : ℕ) (w : Bytes) (from : ℕ) (v : Bytes) (s₀ s : ℕ) (ps qs : List ℕ) : Type 0 where
    pub size : length b' ≡ length b
    pub bits : (q : ℕ) → q < N → page_bit g b' q ≡ page_bit g b q + occ q qs
    pub count : free_count g b' ≡ free_count g b - length qs
    pub rest : (i : ℕ) → Kept g N i → Off entry i → (at ≤ i → at + length w ≤ i) → occ (home i) (ps ++ qs) ≡ 0 → byte_at b' i ≡ byte_at b i
    pub apart : occ own (ps ++ qs) ≡ 0
    pub beside : (i : ℕ) → i < length w → byte_at b' (at + i) ≡ byte_at w i
    pub pages : chain_at g b' entry (length (ps ++ qs)) ≡ ps ++ qs
    pub ends : beyond (next g b') (length (ps ++ qs)) (load entry b') ≡ 0
    pub content : take s (flat_map (content_on g b') (ps ++ qs)) ≡ put from v (take s₀ (flat_map (content_on g b) ps))

-- the image in the end, from the one with the chain grown
unfoldable end : (g : Geometry) (ps : List ℕ) (at : ℕ) (w : Bytes) (from : ℕ) (v b₁ : Bytes) → Bytes
end g ps at w from v b₁ = spread (content g) g.room ps from v (put at w b₁)

module _ (g : Geometry) (home : ℕ → ℕ) (N : ℕ) (law : Lawful g home N)
    (b b₁ : Bytes) (entry : Field) (own j k : ℕ) (qs : List ℕ) (joint : Field) (at : ℕ) (w : Bytes) (from : ℕ) (v : Bytes) (s₀ s : ℕ)
    (c : Chained g home N b entry own j) (r : Grown g home N qs k joint b b₁) (l : Longer g home N b b₁ entry own j k qs) (d : Beside g home N entry own at (length w) b)
    (free : (q : ℕ) → 1 ≤ occ q qs → (g.aside ≤ q) × (q < N) × (page_bit g b q ≡ 0)) (once : Nodup qs) (many : length qs ≡ k)
    (hf : from ≤ s₀) (h₀ : s₀ ≤ g.room * j) (es : s ≡ max s₀ (from + length v)) (hs : s ≤ g.room * (j + k)) where
  abbrev ps : List ℕ
  ps = chain_at g b entry j

  fit₂ : at + length w ≤ length b₁
  fit₂ = omega (arith, d.inside, r.size)

  size₂ : length (put at w b₁) ≡ length b
  size₂ = put_length at w b₁ fit₂ ∙ r.size

  -- a byte that the stretch cannot have
  off_beside : (i : ℕ) → (at ≤ i → i < at + length w → ⊥) → byte_at (put at w b₁) i ≡ byte_at b₁ i
  off_beside i bad = put_out at w b₁ fit₂ i (not_inside at (length w) i bad)

  inside₂ : (p : ℕ) → 1 ≤ occ p (ps ++ qs) → (g.aside ≤ p) × (p < N)
  inside₂ p m = elim (mem_or_not p ps) [
    | inl h ↦ ((c.pages p h).0, (c.pages p h).1)
    | inr h ↦ let t = free p (omega (arith, occ_append p ps qs, m, h)) in (t.0, t.1)
  ]

  zero_out : occ 0 (ps ++ qs) ≡ 0
  zero_out = not_mem 0 (ps ++ qs) (λ m. omega (arith, (inside₂ 0 m).0, law.header))

  many₂ : length (ps ++ qs) ≡ j + k
  many₂ = length-append ps qs ∙ ap₂ (λ (m n : ℕ). m + n) (chain_length (next g b) j (load entry b)) many

  abbrev b₃ : Bytes
  b₃ = end g (ps ++ qs) at w from v b₁

  o : Overwritten g home N (ps ++ qs) from v (put at w b₁) b₃
  unfolding end
  o = overwritten_is law (ps ++ qs) from v (put at w b₁) (size₂ ∙ c.size)
      (nodup_append ps qs c.once once (λ q m. not_mem q qs (λ n. omega (arith, (c.pages q m).2, (free q n).2)))) inside₂
      (subst (λ (n : ℕ). from + length v ≤ g.room * n) (sym many₂) (omega arith))

  -- bytes of page 0, and of the field's page
  zero₃ : (i : ℕ) → home i ≡ 0 → byte_at b₃ i ≡ byte_at (put at w b₁) i
  zero₃ i e = o.rest i (ap (λ (x : ℕ). occ x (ps ++ qs)) e ∙ zero_out)

  own₃ : (i : ℕ) → home i ≡ own → byte_at b₃ i ≡ byte_at (put at w b₁) i
  own₃ i e = o.rest i (ap (λ (x : ℕ). occ x (ps ++ qs)) e ∙ l.apart)

  map₃ : (q : ℕ) → q < N → byte_at b₃ (bitmap_byte g q) ≡ byte_at b₁ (bitmap_byte g q)
  map₃ q h = zero₃ (bitmap_byte g q) (law.of_map q h) ∙ off_beside (bitmap_byte g q) (λ u x. (d.bytes (bitmap_byte g q) u x).1.map q h refl)

  count₃ : free_count g b₃ ≡ free_count g b₁
  count₃ = load_same g.count b₁ b₃ (λ i m n. zero₃ i (law.of_count i m n) ∙ off_beside i (λ u x. omega (arith, (d.bytes i u x).1.count m, n)))

  entry₂ : load entry (put at w b₁) ≡ load entry b₁
  entry₂ = load_same entry b₁ (put at w b₁) (λ i m n. off_beside i (λ u x. omega (arith, (d.bytes i u x).2 m, n)))

  entry₃ : load entry b₃ ≡ load entry b₁
  entry₃ = load_same entry (put at w b₁) b₃ (λ i m n. own₃ i (c.held.bytes i m n).0) ∙ entry₂

  link₂ : (q : ℕ) → 1 ≤ occ q (chain_at g b₁ entry (j + k)) → next g b₁ q ≡ next g (put at w b₁) q
  link₂ q m₁ =
      let m : 1 ≤ occ q (ps ++ qs) = subst (λ (xs : List ℕ). 1 ≤ occ q xs) l.pages m₁ in
      let ne : q ≢ own = mem_apart q own (ps ++ qs) m l.apart in
      sym (load_same (g.link q) b₁ (put at w b₁) (λ i u x. off_beside i (λ y z. ne (sym (law.of_link q i (inside₂ q m).1 u x) ∙ (d.bytes i y z).0))))

  link₃ : (q : ℕ) → 1 ≤ occ q (chain_at g b₁ entry (j + k)) → next g b₁ q ≡ next g b₃ q
  link₃ q m₁ =
      let m : 1 ≤ occ q (ps ++ qs) = subst (λ (xs : List ℕ). 1 ≤ occ q xs) l.pages m₁ in
      link₂ q m₁ ∙ sym (load_same (g.link q) (put at w b₁) b₃ (λ i u x. o.links q i (inside₂ q m).1 u x))

  -- the chain as the spread finds it, and in the end
  pages₂ : chain_at g (put at w b₁) entry (j + k) ≡ ps ++ qs
  pages₂ = ap (chain (next g (put at w b₁)) (j + k)) entry₂ ∙ sym (chain_frame (next g b₁) (next g (put at w b₁)) (j + k) (load entry b₁) link₂).0 ∙ l.pages

  old₂ : (p : ℕ) → 1 ≤ occ p ps → content_on g (put at w b₁) p ≡ content_on g b p
  old₂ p m = part_bytes (content g p) g.room b (put at w b₁) size₂ (λ i u x.
      let t = c.pages p m in
      let low : start g p ≤ i = omega arith in
      let high : i < start g p + g.size = omega (arith, content_end law p) in
      let ne : p ≢ own = mem_apart p own ps m c.apart in
      off_beside i (λ y z. ne (sym (law.of_page p i t.0 low high) ∙ (d.bytes i y z).0)) ∙ l.old p i m low high (law.apart p i t.0 t.1 u))

  -- the content before the spread: the old, and then that of the new pages
  content₂ : flat_map (content_on g (put at w b₁)) (ps ++ qs) ≡ flat_map (content_on g b) ps ++ flat_map (content_on g (put at w b₁)) qs
  content₂ =
      flat_map_append (content_on g (put at w b₁)) ps qs
      ∙ ap (λ (r : Bytes). r ++ flat_map (content_on g (put at w b₁)) qs) (flat_map_same (content_on g (put at w b₁)) (content_on g b) ps old₂)

  old_in : (p : ℕ) → 1 ≤ occ p ps → content g p + g.room ≤ length b
  old_in p m = omega (arith, content_end law p, page_in g home N law p (c.pages p m).1, c.size)

  old_length : length (flat_map (content_on g b) ps) ≡ g.room * j
  old_length =
      flat_map_length (content_on g b) g.room ps (λ p m. part_length (content g p) g.room b (old_in p m))
      ∙ ap (λ (n : ℕ). g.room * n) (chain_length (next g b) j (load entry b))

  text : take s (flat_map (content_on g b₃) (ps ++ qs)) ≡ put from v (take s₀ (flat_map (content_on g b) ps))
  text =
      let x : Bytes = flat_map (content_on g b) ps in
      let y : Bytes = flat_map (content_on g (put at w b₁)) qs in
      ap (take s) (o.content ∙ ap (λ (r : Bytes). put from v r) content₂)
      ∙ ap (λ (n : ℕ). take n (put from v (x ++ y))) es
      ∙ splice_take (x ++ y) s₀ from v hf (omega (arith, length-append x y, old_length))
      ∙ ap (λ (r : Bytes). put from v r) (take-append-le s₀ x y (omega (arith, old_length)))

  written_from : Written g home N b b₃ entry own at w from v s₀ s ps qs
  written_from = record {
    size = o.size ∙ size₂;
    bits = λ q h. bits_same g N b₁ b₃ map₃ q h ∙ r.bits q h;
    count = count₃ ∙ r.count ∙ ap (λ (n : ℕ). free_count g b - n) (sym many);
    rest = λ i h u x m. o.rest i m ∙ put_out at w b₁ fit₂ i x ∙ l.rest i h u m;
    apart = l.apart;
    beside = λ i h. own₃ (at + i) (d.bytes (at + i) (omega arith) (omega arith)).0 ∙ put_in at w b₁ fit₂ i h;
    pages = ap (chain_at g b₃ entry) many₂ ∙ ap (chain (next g b₃) (j + k)) entry₃
        ∙ sym (chain_frame (next g b₁) (next g b₃) (j + k) (load entry b₁) link₃).0 ∙ l.pages;
    ends = ap (λ (n : ℕ). beyond (next g b₃) n (load entry b₃)) many₂ ∙ ap (beyond (next g b₃) (j + k)) entry₃
        ∙ sym (chain_frame (next g b₁) (next g b₃) (j + k) (load entry b₁) link₃).1 ∙ l.ends;
    content = text;
  }

module _ {g : Geometry} {home : ℕ → ℕ} {N : ℕ} (law : Lawful g home N) where
  pub written_is : (b : Bytes) (entry : Field) (own j k at : ℕ) (w : Bytes) (from : ℕ) (v : Bytes) (s₀ s : ℕ) → Chained g home N b entry own j → Beside g home N entry own at (length w) b
      → from ≤ s₀ → s₀ ≤ g.room * j → s ≡ max s₀ (from + length v) → s ≤ g.room * (j + k) → k ≤ zero_bits g b N
      → Written g home N b (written g N entry (chain_at g b entry j) k at w from v b) entry own at w from v s₀ s (chain_at g b entry j) (gained g N k b)
  unfolding end written
  written_is b entry own j k at w from v s₀ s c d hf h₀ es hs hk =
      let n : Gained g N k b = gained_is law k b c.size c.aside hk in
      written_from g home N law b (grown g N k (joint_at g b entry j) b) entry own j k (gained g N k b) (joint_at g b entry j) at w from v s₀ s
      c (chain_grown law b entry own j k c hk) (chain_longer_is law b entry own j k c hk) d n.new n.once n.many hf h₀ es hs

  -- the pages as a spread finds them after the chain has grown and the stretch is set
  pub written_pages : (b : Bytes) (entry : Field) (own j k at : ℕ) (w : Bytes) → Chained g home N b entry own j → Beside g home N entry own at (length w) b → k ≤ zero_bits g b N
      → chain_at g (put at w (grown g N k (joint_at g b entry j) b)) entry (j + k) ≡ chain_at g b entry j ++ gained g N k b
  written_pages b entry own j k at w c d hk =
      let n : Gained g N k b = gained_is law k b c.size c.aside hk in
      pages₂ g home N law b (grown g N k (joint_at g b entry j) b) entry own j k (gained g N k b) (joint_at g b entry j) at w 0 [] 0 0
      c (chain_grown law b entry own j k c hk) (chain_longer_is law b entry own j k c hk) d n.new n.once n.many (omega arith) (omega arith) (omega arith) (omega arith)
