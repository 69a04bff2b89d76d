-- Each store by its number: the pages of the content come first, in the order in which they are claimed, then the header's and then the parent's.
use mathlib.Core.Path.{◌≡◌, refl, sym, ap, ap₂, ◌∙◌, subst}
use mathlib.Core.Logic.{◌≢◌}
use Prim.Native.Nat.{ℕ, zero, suc, ◌+◌, ◌-◌, ◌*◌, ◌≤◌, ◌<◌}
use native.Mathlib.Nat.{add-zero}
use native.Mathlib.Omega.{arith}
use mathlib.Core.Bool.{Bool, true, false}
use mathlib.Core.List.{List, [], ◌∷◌, ◌++◌}
use lib.ListN.{length, get_or, length-append, get_or-append}
use lib.Seq.{get_or-append-add}
use lib.Dec.{eqb}
use borrow.Author.Tests.{eq-eqb, ne_eqb}
use Rattle.volume.specs.Bytes.{Bytes, part, put}
use Rattle.std.specs.Prelude.{if◌then◌else◌}
use Rattle.volume.specs.Geometry as On
use Rattle.model.specs.Layout.{version1, page_count, pages_for}
use Rattle.model.specs.Version1.{view}
use Rattle.model.specs.Sound.{pages_at}
use Rattle.model.specs.Path.{Name, below}
use Rattle.model.specs.Walk.{parent_page}
use Rattle.model.specs.Effect.{lowest_vacant}
use Rattle.model.specs.Store.{stored, Store, store_of, last_pages, store_pages, stores, store_at}
use Rattle.laws.proofs.Facts.{Facts}
use Rattle.laws.proofs.Counting.{fill_up}
use Rattle.laws.proofs.Make.{Clear}
use Rattle.store_laws.specs.Claim.{claimed, page_after, link_after, content_page, started_entry}
use Rattle.store_laws.proofs.Nth.{get_d_map}
use Rattle.store_laws.proofs.Stored.{StoredOn, stored_on}
use Rattle.store_laws.proofs.Direct.{nth_page, content_page_lem, header_page, header_entry, parent_page_lem}

module _ (b : Bytes) (f : Facts b) (ns : List Name) (n : Name) (date v : Bytes) (c : Clear b ns n date (pages_for (length v))) where
  abbrev d : Bytes
  d = stored (below ns n) date v b

  abbrev t : ℕ
  t = parent_page b (below ns n)

  abbrev at : ℕ
  at = lowest_vacant b (parent_page b (below ns n))

  abbrev k : ℕ
  k = pages_for (length v)

  abbrev qs : List ℕ
  qs = pages_at (view (stored (below ns n) date v b)) (lowest_vacant b (parent_page b (below ns n)))

  on : StoredOn b d n.bytes date v t at k qs
  on = stored_on b f ns n date v c

  enough : length v ≤ 255 * pages_for (length v)
  enough = omega (arith, fill_up (length v))

  -- store j is page j of the list, as the new image has it
  store_nth : (j : ℕ) → j < length (qs ++ last_pages t) → store_at j (below ns n) date v b ≡ store_of d (get_or (qs ++ last_pages t) j 0)
  unfolding store_at stores store_pages
  store_nth j l = get_d_map (store_of d) (qs ++ last_pages t) j 0 (store_of b 0) l

  some_last : (x : ℕ) → 1 ≤ length (last_pages x)
  unfolding last_pages
  some_last x = go (eqb x 0)
    where
      go : (z : Bool) → 1 ≤ length (if z then 0 ∷ [] else (0 ∷ x ∷ []))
      go true = omega arith
      go false = omega arith

  pub content_store : (j : ℕ) → j < k
      → store_at j (below ns n) date v b ≡ record { page = page_after (page_count b) j (part 0 256 b); bytes = content_page (link_after (page_count b) k j (part 0 256 b)) v j }
  content_store j l =
      store_nth j (omega (arith, length-append qs (last_pages t), on.many))
      ∙ ap (store_of d) (get_or-append qs (last_pages t) 0 j (omega (arith, on.many)))
      ∙ ap₂ {C = Store} (λ (p : ℕ) (w : Bytes). record { page = p; bytes = w })
      (nth_page b d n.bytes date v f t at k qs on enough j l) (content_page_lem b d n.bytes date v f t at k qs on enough j l)

  -- behind the content
  last_store : (i x : ℕ) → i < length (last_pages t) → get_or (last_pages t) i 0 ≡ x → store_at (k + i) (below ns n) date v b ≡ store_of d x
  last_store i x l e =
      store_nth (k + i) (omega (arith, length-append qs (last_pages t), on.many))
      ∙ ap (store_of d) (ap (λ (m : ℕ). get_or (qs ++ last_pages t) (m + i) 0) (sym on.many) ∙ get_or-append-add qs (last_pages t) i 0 ∙ e)

  header_first : (x : ℕ) → get_or (last_pages x) 0 0 ≡ 0
  unfolding last_pages
  header_first x = go (eqb x 0)
    where
      go : (z : Bool) → get_or (if z then 0 ∷ [] else (0 ∷ x ∷ [])) 0 0 ≡ 0
      go true = refl
      go false = refl

  header_store : store_at k (below ns n) date v b ≡ store_of d 0
  header_store = ap (λ (m : ℕ). store_at m (below ns n) date v b) (sym (add-zero k)) ∙ last_store 0 0 (some_last t) (header_first t)

  two_last : (x : ℕ) → x ≢ 0 → last_pages x ≡ 0 ∷ x ∷ []
  unfolding last_pages
  two_last x ne = rw (ne_eqb x 0 ne)

  abbrev new : Bytes
  new = started_entry n.bytes date (length v) (On.lowest_free version1 (page_count b) b)

  pub header_below : t ≢ 0 → store_at k (below ns n) date v b ≡ record { page = 0; bytes = claimed (page_count b) k (part 0 256 b) }
  header_below ne = header_store ∙ ap {B = Store} (λ (w : Bytes). record { page = 0; bytes = w }) (header_page b d n.bytes date v f t at k qs on enough ne)

  pub header_root : t ≡ 0 → store_at k (below ns n) date v b ≡ record { page = 0; bytes = put at new (claimed (page_count b) k (part 0 256 b)) }
  header_root e = header_store ∙ ap {B = Store} (λ (w : Bytes). record { page = 0; bytes = w }) (header_entry b d n.bytes date v f t at k qs on enough c.long c.dated e)

  pub parent_store : t ≢ 0 → store_at (k + 1) (below ns n) date v b ≡ record { page = t; bytes = put (at - 256 * t) new (part (256 * t) 256 b) }
  parent_store ne =
      last_store 1 t (omega (arith, two)) second
      ∙ ap {B = Store} (λ (w : Bytes). record { page = t; bytes = w }) (parent_page_lem b d n.bytes date v f t at k qs on enough c.long c.dated ne)
    where
      is_two : last_pages t ≡ 0 ∷ t ∷ []
      is_two = two_last t ne

      two : length (last_pages t) ≡ 2
      two = ap length is_two

      second : get_or (last_pages t) 1 0 ≡ t
      second = ap (λ (l : List ℕ). get_or l 1 0) is_two
