-- The law of the stores: after any number short of all a repair is granted and yields exactly the old tree, and after the last the image is, byte
-- for byte, that of make followed by write.
use mathlib.Core.Path.{◌≡◌, refl, sym, ap, ◌∙◌, subst}
use Prim.Native.Nat.{ℕ, ◌+◌, ◌≤◌, ◌<◌}
use native.Mathlib.Omega.{arith}
use mathlib.Core.Bool.{Bool, true, false, not}
use mathlib.Core.List.{List, [], ◌∷◌, ◌++◌, map}
use lib.ListN.{length, take, length-append, length-map}
use lib.Dec.{T, eqb}
use Rattle.volume.specs.Bytes.{Bytes}
use Rattle.std.specs.Prelude.{if◌then◌else◌}
use Rattle.volume.proofs.Tests.{not_not_of}
use Rattle.model.specs.Layout.{page_count, pages_for, valid_length, valid_header}
use Rattle.model.specs.Version1.{view}
use Rattle.model.specs.Sound.{pages_at, sound}
use Rattle.model.specs.Judge.{Judged, is_clean}
use Rattle.model.specs.Path.{Name, Path, below, path_of}
use Rattle.model.specs.Image.{tree_of}
use Rattle.model.specs.Walk.{parent_page}
use Rattle.model.specs.Effect.{lowest_vacant}
use Rattle.model.specs.Call.{Refusal, refusal, Answer, refused, granted}
use Rattle.model.specs.Refusal.{Line, settle}
use Rattle.model.specs.Meaning.{first_fault}
use Rattle.laws.proofs.Facts.{Facts, valid_sized}
use Rattle.laws.proofs.Judged.{Walkable, walkable_clean}
use Rattle.laws.proofs.Lines.{settle_skip}
use Rattle.laws.proofs.Make.{Clear}
use Rattle.repair.specs.Repair.{repaired, repair_lines, repair_answer, repair_after}
use Rattle.repair.proofs.Repairs.{repair_granted}
use Rattle.model.specs.Store.{Store, stored, store_of, last_pages, store_pages, stores}
use Rattle.store_laws.specs.Pull.{after_stores, pulled}
use Rattle.store_laws.specs.Demand.{WonBack}
use Rattle.store_laws.proofs.Restored.{restored}
use Rattle.store_laws.proofs.Pulled.{pulled_walkable, pulled_tree, pulled_fits, pulled_headed, won_back}
use Rattle.store_laws.proofs.Stores.{Free, Pulled, take_map, take_all, stores_short, stores_all}
use Rattle.store_laws.proofs.Stored.{StoredOn, stored_on}

-- ---- the stores

pulled_back : (b c : Bytes) → Facts b → (qs : List ℕ) → Free b qs → Pulled b c qs → WonBack b c
unfolding repair_answer repair_after
pulled_back b c f qs free p =
    let fits = pulled_fits b c f qs free p in
    let headed = pulled_headed b c f qs free p in
    let walk = pulled_walkable b c f qs free p in
    let r = won_back b c f qs free p in
    let after : settle (repair_lines c) (λ m. c) (repaired c) ≡ repaired c = repair_granted c fits headed walk (λ m. c) (repaired c) in
    record {
      done = repair_granted c fits headed walk refused (granted tt);
      is_sound = subst (λ (x : Bytes). T (sound x)) (sym after) r.0;
      means = ap tree_of after ∙ r.1;
      exactly = after ∙ restored b c f qs free p;
    }

module _ (b : Bytes) (f : Facts b) (ns : List Name) (n : Name) (date v : Bytes) (c : Clear b ns n date (pages_for (length v))) where
  abbrev path : Path
  path = below ns n

  abbrev d : Bytes
  d = stored (below ns n) date v b

  abbrev t : ℕ
  t = parent_page b (below ns n)

  abbrev qs : List ℕ
  qs = pages_at (view (stored (below ns n) date v b)) (lowest_vacant b (parent_page b (below ns n)))

  on : StoredOn b d n.bytes date v t (lowest_vacant b (parent_page b (below ns n))) (pages_for (length v)) qs
  on = stored_on b f ns n date v c

  stores_many : length (stores path date v b) ≡ length (qs ++ last_pages t)
  unfolding stores store_pages
  stores_many = length-map (qs ++ last_pages t) (store_of d)

  pub survives : (k : ℕ) → k < length (stores path date v b) → WonBack b (pulled k path date v b)
  unfolding pulled stores store_pages
  survives k l =
      subst (λ (ss : List Store). WonBack b (after_stores ss b)) (sym (take_map (store_of d) k (qs ++ last_pages t)))
      (pulled_back b (after_stores (map (store_of d) (take k (qs ++ last_pages t))) b) f qs on.free
      (stores_short b d f t on.page qs on.free on.renewed k (omega (arith, l, stores_many))))

  pub completes : (k : ℕ) → length (stores path date v b) ≤ k → pulled k path date v b ≡ d
  unfolding pulled stores store_pages
  completes k l =
      ap (λ (ss : List Store). after_stores ss b) (take_all k (map (store_of d) (qs ++ last_pages t)) l)
      ∙ stores_all b d f t on.page qs on.free on.renewed
