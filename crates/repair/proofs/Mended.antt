-- A repair changes byte 3 and the bitmap's first N/8 bytes alone, and directories hang on neither: the tree and the owned pages stay, so the bits
-- are right afterwards, the count is that of the bits, and the image is sound.
use mathlib.Core.Path.{◌≡◌, sym, ap, ap₂, ◌∙◌, subst}
use mathlib.Core.Logic.{◌≢◌, inl, inr}
use Prim.Native.Nat.{ℕ, zero, suc, ◌+◌, ◌/◌, ◌%◌, ◌≤◌, ◌<◌}
use native.Mathlib.Omega.{arith}
use mathlib.Core.Bool.{Bool, true, false, not}
use mathlib.Core.List.{[], ◌∷◌}
use lib.ListN.{length, set}
use lib.Seq.{set-get_or}
use lib.Dec.{T, eqb, leb, eqb→eq, T_not}
use Rattle.volume.specs.Bytes.{Bytes, byte_at}
use Rattle.volume.proofs.Occ.{occ, Mem, hit_ne, mem_head, mem_tail, mem_or_not, not_mem}
use Rattle.volume.proofs.Tests.{conditions_cons, member_occ, occ_member}
use Rattle.volume.proofs.Fields.{store_length, store_out, load_store}
use Rattle.volume.proofs.Marks.{bit_low}
use Rattle.volume.proofs.Pages.{bits_same, zeros_same}
use Rattle.model.specs.Layout.{version1, page_count, valid_length, valid_header, free_count, page_bit, zero_bits}
use Rattle.model.specs.Version1.{view}
use Rattle.model.specs.Sound.{owned_pages, sound}
use Rattle.model.specs.Tree.{Row, Tree}
use Rattle.model.specs.Image.{row_at, tree_of, tree_in}
use Rattle.laws.proofs.Facts.{FactsTo, Facts, valid_sized, facts_sound, once}
use Rattle.laws.proofs.Frame.{SamePage, SameDirectory, directory_frame}
use Rattle.laws.proofs.Judged.{Walkable}
use Rattle.repair.specs.Remark.{remarked, recounted}
use Rattle.repair.specs.Repair.{is_in_use, repaired}
use Rattle.repair.proofs.Bits.{Says, remarked_length, remarked_out, remarked_bits, remarked_again}

-- (Change.antt has this law: there it becomes public.)
pub header_same : (b b' : Bytes) → length b' ≡ length b → ((i : ℕ) → i < 3 → byte_at b' i ≡ byte_at b i) → T (valid_header b) → T (valid_header b')
unfolding valid_header
header_same b b' e h v = rw (h 0 (omega arith), h 1 (omega arith), h 2 (omega arith), e) v

not_so : (c : Bool) → (T c → ⊥) → T (not c)
not_so true h = absurd (h tt)
not_so false h = tt

-- ---- the bytes

-- byte i is neither the count nor one of the bitmap's bytes in use
pub record Beside (b : Bytes) (i : ℕ) : Type 0 where
  pub count : i ≢ 3
  pub map : 4 ≤ i → 4 + page_count b / 8 ≤ i

-- c is b with the bits of the first N and the count set anew
pub record Mended (b c : Bytes) : Type 0 where
  pub long : length c ≡ length b
  pub rest : (i : ℕ) → Beside b i → byte_at c i ≡ byte_at b i
  pub bits : (q : ℕ) → q < page_count b → Says version1 (is_in_use b q) (page_bit c q)
  pub counted : free_count c ≡ zero_bits c (page_count b)

-- N is a multiple of 8, so the bits of the first N fill whole bytes
whole_bytes : (b : Bytes) → T (valid_length (length b)) → (q : ℕ) → q < page_count b → q / 8 < page_count b / 8
unfolding valid_length
whole_bytes b v q l =
    let x = conditions_cons (eqb (length b % 2048) 0) (leb 2048 (length b) ∷ leb (length b) 65536 ∷ []) v in
    let e : length b % 2048 ≡ 0 = eqb→eq (length b % 2048) 0 x.0 in
    omega arith

module _ (b : Bytes) (v : T (valid_length (length b))) where
  -- the image with its bits set anew, and then its count
  abbrev marked : Bytes
  marked = remarked version1 (is_in_use b) (page_count b) b

  fits : (q : ℕ) → q < page_count b → 4 + q / 8 < length b
  fits q l = omega (arith, (valid_sized b v).low, (valid_sized b v).high, (valid_sized b v).whole)

  other : (i : ℕ) → i ≢ 3 → byte_at (recounted version1 (page_count b) marked) i ≡ byte_at marked i
  unfolding recounted
  other i ne = store_out version1.count (zero_bits marked (page_count b)) marked i (λ l. omega (arith, ne))

  same_bits : (q : ℕ) → q < page_count b → page_bit (recounted version1 (page_count b) marked) q ≡ page_bit marked q
  same_bits = bits_same version1 (page_count b) marked (recounted version1 (page_count b) marked) (λ q l. other (4 + q / 8) (λ e. omega (arith, e)))

  pub mended_is : Mended b (repaired b)
  unfolding repaired recounted
  mended_is = record {
    long = store_length version1.count (zero_bits marked (page_count b)) marked ∙ remarked_length version1 (is_in_use b) (page_count b) b;
    rest = λ i o. other i o.count
        ∙ remarked_out version1 (is_in_use b) (page_count b) b i (λ q l e. omega (arith, o.map (omega arith), whole_bytes b v q l));
    bits = λ q l.
        let s = remarked_bits version1 (is_in_use b) (page_count b) b fits q l in
        record { yes = λ t. same_bits q l ∙ s.yes t; no = λ t. same_bits q l ∙ s.no t };
    counted =
        load_store version1.count (zero_bits marked (page_count b)) marked (omega (arith, remarked_length version1 (is_in_use b) (page_count b) b, (valid_sized b v).low, (valid_sized b v).whole))
        ∙ sym (zeros_same version1 (page_count b) marked (recounted version1 (page_count b) marked) (λ q l. other (4 + q / 8) (λ e. omega (arith, e))));
  }

-- ---- the tree

pub header_use : (b : Bytes) → T (is_in_use b 0)
header_use b = occ_member 0 (0 ∷ owned_pages b) (mem_head 0 (owned_pages b))

pub owned_use : (b : Bytes) (q : ℕ) → Mem q (owned_pages b) → T (is_in_use b q)
owned_use b q m = occ_member q (0 ∷ owned_pages b) (mem_tail q 0 (owned_pages b) m)

pub in_use : (b : Bytes) (q : ℕ) → 1 ≤ q → T (is_in_use b q) → Mem q (owned_pages b)
in_use b q l t = omega (arith, member_occ q (0 ∷ owned_pages b) t, hit_ne q 0 (omega arith))

unused : (b : Bytes) (q : ℕ) → 1 ≤ q → occ q (owned_pages b) ≡ 0 → T (not (is_in_use b q))
unused b q l z = not_so (is_in_use b q) (λ t. omega (arith, in_use b q l t, z))

module _ (b c : Bytes) (v : T (valid_length (length b))) (m : Mended b c) where
  -- every byte but the header's fields
  far : (q : ℕ) → SamePage b c q
  far q i e l = m.rest i (record { count = λ x. omega (arith, x); map = λ x. omega (arith, (valid_sized b v).high) })

  pub mended_directory : Walkable b → SameDirectory b c (page_count b) (page_count b) 0
  mended_directory w = directory_frame b c m.long 0 (far 0) (λ q k. ((w.inside q k).0, far q))

  pages : page_count c ≡ page_count b
  pages = ap (λ (l : ℕ). l / 256) m.long

  pub mended_tree : Walkable b → tree_of c ≡ tree_of b
  unfolding tree_in
  mended_tree w = ap₂ {C = Tree} (λ (n : ℕ) (r : Row). record { pages = n; code = 0; root = r }) pages (ap (λ (n : ℕ). row_at n (view c) 0) pages ∙ (mended_directory w).row)

  pub mended_sound : Walkable b → T (valid_header b) → T (sound c)
  mended_sound w head =
      let s = mended_directory w in
      facts_sound (subst (λ (n : ℕ). FactsTo n c) (sym pages) (record {
        fits = subst (λ (l : ℕ). T (valid_length l)) (sym m.long) v;
        headed = header_same b c m.long (λ i l. m.rest i (record { count = λ x. omega (arith, x); map = λ x. omega arith })) head;
        bit_zero = (m.bits 0 (omega (arith, (valid_sized b v).low))).yes (header_use b);
        counted = m.counted ∙ ap (zero_bits c) (sym pages);
        formed = subst (λ (x : Bool). T x) (sym s.good) w.formed;
        inside = λ q k. let r = w.inside q (subst (Mem q) s.owns k) in (r.0, omega (arith, r.1, pages));
        exact = λ q l u.
            let k : q < page_count b = omega (arith, u, pages) in
            ap (occ q) s.owns ∙ elim (mem_or_not q (owned_pages b)) [
              | inl o ↦ let one = (m.bits q k).yes (owned_use b q o) in omega (arith, w.once q, one, o)
              | inr z ↦ z ∙ sym ((m.bits q k).no (unused b q l z))
            ];
      }))

-- ---- a sound image is repaired already

pub sound_walkable : (b : Bytes) → Facts b → Walkable b
sound_walkable b f = record {
  formed = f.formed;
  inside = f.inside;
  marked = λ q m. let r = f.inside q m in omega (arith, f.exact q r.0 r.1, bit_low version1 b q);
  once = once f;
}

pub sound_repaired : (b : Bytes) → Facts b → repaired b ≡ b
unfolding repaired recounted
sound_repaired b f =
    ap (recounted version1 (page_count b)) same
    ∙ ap (set b 3) (sym f.counted) ∙ set-get_or b 3 0
  where
    right : (q : ℕ) → q < page_count b → Says version1 (is_in_use b q) (page_bit b q)
    right zero l = record { yes = λ t. f.bit_zero; no = λ t. absurd (T_not (is_in_use b 0) t (header_use b)) }
    right (suc q) l = record {
      yes = λ t. let m = in_use b (suc q) (omega arith) t in omega (arith, f.exact (suc q) (omega arith) l, bit_low version1 b (suc q), m);
      no = λ t. sym (f.exact (suc q) (omega arith) l) ∙ not_mem (suc q) (owned_pages b) (λ m. T_not (is_in_use b (suc q)) t (owned_use b (suc q) m));
    }

    same : remarked version1 (is_in_use b) (page_count b) b ≡ b
    same = remarked_again version1 (is_in_use b) (page_count b) b right
