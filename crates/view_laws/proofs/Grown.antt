-- A directory that gains a page of vacant entries: its row gains them at its end, its pages that page, and it stays good.
use mathlib.Core.Path.{◌≡◌, refl, sym, ap, ◌∙◌, subst}
use mathlib.Core.Logic.{inl, inr}
use Prim.Native.Nat.{ℕ, suc, ◌+◌}
use native.Mathlib.Omega.{arith}
use mathlib.Core.Bool.{Bool, true, not}
use mathlib.Core.List.{List, [], ◌∷◌, ◌++◌, flat_map, tail}
use lib.ListN.{length}
use lib.Dec.{T}
use Rattle.volume.proofs.Occ.{occ, Mem, Nodup, mem_or_not, occ_append}
use Rattle.volume.proofs.Flat.{flat_map_same, flat_map_append}
use Rattle.model.specs.Entry.{Entry, vacant, a_file, a_directory}
use Rattle.model.specs.View.{View}
use Rattle.model.specs.Sound.{good_entry, is_named, same_name, in_directory, good_directory, owned, all_owned}
use Rattle.model.specs.Tree.{Row, extend}
use Rattle.model.specs.Path.{Name}
use Rattle.model.specs.Image.{entry_row, row_of, row_at}
use Rattle.model.specs.Walk.{change_at}
use Rattle.view_laws.proofs.Owns.{own, subtree, owned_entries, own_le}
use Rattle.view_laws.proofs.Frame.{Follows, SameEntry, entry_frame, rows_same, same_row, same_own, same_good, same_below}
use Rattle.view_laws.proofs.Facts.{Facts, root_once}
use Rattle.view_laws.proofs.Level.{good_split, good_join}
use Rattle.view_laws.proofs.Focus.{Regular, Leads, leads_sub, leads_owned}
use Rattle.view_laws.proofs.Change.{Balance, Shaped, directory_changed}
use Rattle.view_laws.proofs.Vacant.{row_of_vacant, own_of_vacant}

-- the directory t by two views, with page `page` more at its end, on which the new entries are
pub record Longer (v v' : View) (t page : ℕ) (new : List ℕ) : Type 0 where
  pub pages : v'.directory_pages t ≡ v.directory_pages t ++ (page ∷ [])
  pub ends : T (v'.directory_ends t)
  pub positions : v'.entries t ≡ v.entries t ++ new
  pub once : Nodup (v'.entries t)
  pub fields : (x : ℕ) → Mem x (v.entries t) → v'.entry_at x ≡ v.entry_at x
  pub vacants : (x : ℕ) → Mem x new → v'.entry_at x ≡ vacant

extend_entry : (v : View) (g : ℕ → Row) (x : Entry) (n : ℕ) (rest : Row) → extend n (entry_row v g x rest) ≡ entry_row v g x (extend n rest)
unfolding extend entry_row
extend_entry v g vacant n rest = refl
extend_entry v g (a_file locked name date start size) n rest = refl
extend_entry v g (a_directory name date start size) n rest = refl

extend_rows : (v : View) (g : ℕ → Row) (ats new : List ℕ) → ((x : ℕ) → Mem x new → v.entry_at x ≡ vacant) → extend (length new) (row_of v g ats) ≡ row_of v g (ats ++ new)
unfolding row_of extend
extend_rows v g [] new h = sym (row_of_vacant v g new h)
extend_rows v g (x ∷ xs) new h = extend_entry v g (v.entry_at x) (length new) (row_of v g xs) ∙ ap (entry_row v g (v.entry_at x)) (extend_rows v g xs new h)

vacant_apart : (e : Entry) → T (not (same_name e vacant))
unfolding same_name is_named
vacant_apart vacant = tt
vacant_apart (a_file l n d s z) = tt
vacant_apart (a_directory n d s z) = tt

module _ {v v' : View} {Same : ℕ → Type 0} (follows : Follows v v' Same) (regular : Regular v) (sh : Shaped v v') (f : Facts v)
    (names : List Name) (e t page : ℕ) (new : List ℕ) (leads : Leads v v.pages 0 names (suc e) t) (w : Longer v v' t page new)
    (outside : (q : ℕ) → Mem q (subtree v.pages v 0) → occ q (v.directory_pages t) ≡ 0 → Same q) where
  split : (q : ℕ) → occ q (subtree (suc e) v t) ≡ occ q (v.directory_pages t) + occ q (owned (suc e) v t)
  split q = occ_append q (v.directory_pages t) (owned (suc e) v t)

  same : (x : ℕ) → Mem x (v.entries t) → SameEntry v v' e e x
  same x m = entry_frame follows e x (w.fields x m) (λ q k.
      let le = own_le e v t x q m in
      let s = leads_sub v names v.pages 0 (suc e) t q leads in
      let one = root_once f sh.low sh.rooted q in
      let sp = split q in
      let all : Mem q (all_owned v.pages v) =
      omega (arith, k, le, leads_owned v names v.pages 0 (suc e) t q leads, occ_append q (tail (v.directory_pages 0)) (owned v.pages v 0)) in
      (omega (arith, sh.low, (f.inside q all).0), outside q (omega (arith, k, le, s, sp)) (omega (arith, k, le, s, one, sp))))

  row : extend (length new) (row_at (suc e) v t) ≡ row_at (suc e) v' t
  unfolding row_at
  row =
      ap (extend (length new)) (sym (rows_same v v' (row_at e v) (row_at e v') (v.entries t) (λ x m. same_row v v' e e (same x m))))
      ∙ extend_rows v' (row_at e v') (v.entries t) new w.vacants
      ∙ ap (row_of v' (row_at e v')) (sym w.positions)

  owns : (q : ℕ) → occ q (owned (suc e) v' t) ≡ occ q (owned (suc e) v t)
  owns q =
      let mine : ℕ → List ℕ = λ x. own e v' (v'.entry_at x) in
      let all : owned (suc e) v' t ≡ flat_map mine (v.entries t) ++ flat_map mine new =
      owned_entries e v' t ∙ ap (flat_map mine) w.positions ∙ flat_map_append mine (v.entries t) new in
      let old : flat_map mine (v.entries t) ≡ owned (suc e) v t =
      flat_map_same mine (λ x. own e v (v.entry_at x)) (v.entries t) (λ x m. same_own v v' e e (same x m)) ∙ sym (owned_entries e v t) in
      omega (arith, ap (occ q) all, occ_append q (flat_map mine (v.entries t)) (flat_map mine new), ap (occ q) old, ap (occ q) (own_of_vacant v' e new w.vacants))

  good : T (good_directory (suc e) v t) → T (good_directory (suc e) v' t)
  unfolding good_entry same_name
  good h =
      let g = good_split e v t h in
      let in-new : (x : ℕ) → Mem x (v'.entries t) → occ x (v.entries t) ≡ 0 → Mem x new = λ x m z.
      omega (arith, z, occ_append x (v.entries t) new, ap (occ x) w.positions, m) in
      good_join e v' t w.once (record {
        each = λ x m. elim (mem_or_not x (v.entries t)) [
          | inl k ↦ subst (λ (c : Bool). T c) (sym (same_good v v' e e (same x k))) (g.each x k)
          | inr z ↦ subst (λ (y : Entry). T (good_entry v' y)) (sym (w.vacants x (in-new x m z))) tt
        ];
        apart = λ x y m k ne. elim (mem_or_not x (v.entries t)) [
          | inl i ↦ elim (mem_or_not y (v.entries t)) [
            | inl j ↦ subst (λ (u : Entry). T (not (same_name u (v'.entry_at y)))) (sym (w.fields x i))
                (subst (λ (u : Entry). T (not (same_name (v.entry_at x) u))) (sym (w.fields y j)) (g.apart x y i j ne))
            | inr z ↦ subst (λ (u : Entry). T (not (same_name (v'.entry_at x) u))) (sym (w.vacants y (in-new y k z))) (vacant_apart (v'.entry_at x))
          ]
          | inr z ↦ subst (λ (u : Entry). T (not (same_name u (v'.entry_at y)))) (sym (w.vacants x (in-new x m z))) tt
        ];
        below = λ x m. elim (mem_or_not x (v.entries t)) [
          | inl k ↦ subst (λ (c : Bool). T c) (sym (same_below v v' e e (same x k))) (g.below x k)
          | inr z ↦ subst (λ (y : Entry). T (in_directory true (good_directory e v') y)) (sym (w.vacants x (in-new x m z))) tt
        ];
      })

  pub directory_grown : T (good_directory (suc e) v t) → Balance v v' [] (page ∷ [])
      → Facts v' × (row_at v'.pages v' 0 ≡ change_at names (extend (length new)) (row_at v.pages v 0))
  directory_grown h =
      directory_changed follows regular sh f names e t leads (extend (length new)) row (good h) w.ends
      (λ q m z. outside q m (omega (arith, z, split q)))
      (λ q. omega (arith, split q, owns q, ap (occ q) w.pages, occ_append q (v.directory_pages t) (page ∷ []), occ_append q (v'.directory_pages t) (owned (suc e) v' t)))
      (λ q m. absurd (omega (arith, m)))
