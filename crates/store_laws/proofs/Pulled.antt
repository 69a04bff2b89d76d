-- A cartridge pulled amid a store: pages that were free have other bytes, and perhaps more pages are marked and the count is another. Nobody owns
-- those pages, so every directory means and owns what it did, the walk is clean, and a repair wins the old tree back.
use mathlib.Core.Path.{◌≡◌, sym, ap, ap₂, ◌∙◌, subst}
use Prim.Native.Nat.{ℕ, ◌/◌, ◌≤◌, ◌<◌}
use native.Mathlib.Omega.{arith}
use mathlib.Core.Bool.{Bool}
use mathlib.Core.List.{List}
use lib.ListN.{length}
use lib.Dec.{T}
use Rattle.volume.specs.Bytes.{Bytes, byte_at}
use Rattle.volume.proofs.Occ.{occ, Mem, not_mem}
use Rattle.model.specs.Layout.{page_count, valid_length, valid_header, page_bit}
use Rattle.model.specs.Version1.{view}
use Rattle.model.specs.Sound.{good_directory, owned, owned_pages, sound}
use Rattle.model.specs.Tree.{Row, Tree}
use Rattle.model.specs.Image.{row_at, tree_of, tree_in}
use Rattle.laws.proofs.Facts.{Facts, once, valid_sized}
use Rattle.laws.proofs.Frame.{SamePage, SameDirectory, directory_frame}
use Rattle.laws.proofs.Judged.{Walkable}
use Rattle.repair.specs.Repair.{repaired}
use Rattle.store_laws.proofs.Stores.{Free, Pulled}
use Rattle.repair.proofs.Mended.{header_same, mended_is, mended_tree, mended_sound, sound_walkable}

module _ (b c : Bytes) (f : Facts b) (qs : List ℕ) (free : Free b qs) (p : Pulled b c qs) where
  kept : (q : ℕ) → occ q qs ≡ 0 → SamePage b c q
  kept q z i e l = p.rest i l (ap (λ (x : ℕ). occ x qs) e ∙ z)

  owned_kept : (q : ℕ) → Mem q (owned_pages b) → (1 ≤ q) × SamePage b c q
  owned_kept q m =
      let r = f.inside q m in
      (r.0, kept q (not_mem q qs (λ k. omega (arith, (free q k).2, f.exact q r.0 r.1, m))))

  same : SameDirectory b c (page_count b) (page_count b) 0
  same = directory_frame b c p.long 0 (kept 0 (not_mem 0 qs (λ k. omega (arith, (free 0 k).0)))) owned_kept

  pub pages : page_count c ≡ page_count b
  pages = ap (λ (l : ℕ). l / 256) p.long

  pub owns : owned_pages c ≡ owned_pages b
  owns = ap (λ (n : ℕ). owned n (view c) 0) pages ∙ same.owns

  pub pulled_walkable : Walkable c
  pulled_walkable =
      let w = sound_walkable b f in
      record {
        formed = subst (λ (n : ℕ). T (good_directory n (view c) 0)) (sym pages) (subst (λ (x : Bool). T x) (sym same.good) w.formed);
        inside = λ q m. let r = w.inside q (subst (Mem q) owns m) in (r.0, omega (arith, r.1, pages));
        marked = λ q m. let k = subst (Mem q) owns m in p.marks q (w.inside q k).1 (w.marked q k);
        once = λ q. subst (λ (l : List ℕ). occ q l ≤ 1) (sym owns) (w.once q);
      }

  pub pulled_tree : tree_of c ≡ tree_of b
  unfolding tree_in
  pulled_tree = ap₂ {C = Tree} (λ (n : ℕ) (r : Row). record { pages = n; code = 0; root = r }) pages (ap (λ (n : ℕ). row_at n (view c) 0) pages ∙ same.row)

  pub pulled_fits : T (valid_length (length c))
  pulled_fits = subst (λ (l : ℕ). T (valid_length l)) (sym p.long) f.fits

  pub pulled_headed : T (valid_header c)
  pulled_headed = header_same b c p.long (λ i l. p.head i (record { field = omega arith; count = omega arith; map = λ u. omega arith })) f.headed

  -- the old tree is won back
  pub won_back : T (sound (repaired c)) × (tree_of (repaired c) ≡ tree_of b)
  won_back =
      let m = mended_is c pulled_fits in (
        mended_sound c (repaired c) pulled_fits m pulled_walkable pulled_headed,
        mended_tree c (repaired c) pulled_fits m pulled_walkable ∙ pulled_tree,
      )
