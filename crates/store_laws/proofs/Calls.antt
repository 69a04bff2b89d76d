-- The call `store`: its lines are make's with the pages of the whole file, so where it is granted make is, and then write; its stores are as many as
-- `store_count` says; and a cartridge pulled amid them keeps its tree.
use mathlib.Core.Path.{◌≡◌, refl, sym, ap, ap₂, ◌∙◌, subst}
use mathlib.Core.Logic.{◌≢◌}
use Prim.Native.Nat.{ℕ, zero, suc, ◌+◌, ◌≤◌, ◌<◌}
use native.Mathlib.Omega.{arith}
use mathlib.Core.Bool.{Bool, true, false, not}
use mathlib.Core.Option.{none, some, some-ne-none}
use mathlib.Core.List.{List, [], ◌∷◌, ◌++◌, append_assoc}
use lib.ListN.{length, length-append, length-map}
use lib.Dec.{T, T_not, eqb, leb, ltb, eqb→eq, le→leb, nltb→le}
use native.Mathlib.Decide.{dec_le}
use borrow.Author.Tests.{lt-ltb, le-ltb, eq-eqb, ne_eqb}
use Rattle.volume.specs.Bytes.{Bytes}
use Rattle.std.specs.Prelude.{if◌then◌else◌}
use Rattle.volume.proofs.Occ.{occ, Mem, hit_refl}
use Rattle.volume.proofs.Tests.{not_not}
use Rattle.model.specs.Layout.{page_count, pages_for}
use Rattle.model.specs.Entry.{Entry}
use Rattle.model.specs.Version1.{view}
use Rattle.model.specs.Sound.{owned, pages_at, sound}
use Rattle.model.specs.Tree.{free_number}
use Rattle.model.specs.Path.{Name, Path, below, path_of, parents}
use Rattle.model.specs.Image.{tree_of}
use Rattle.model.specs.Walk.{arrived_or, walk_on, Walked, parent_page}
use Rattle.model.specs.Effect.{lowest_vacant, file_made}
use Rattle.model.specs.Call.{make_file, write, store, Refusal, refusal, refused, granted}
use Rattle.model.specs.Refusal.{Line, make_lines, refusals, settle, Passes}
use Rattle.model.specs.Meaning.{image_lines, is_format, effect, lines, answer, after}
use Rattle.laws.proofs.Facts.{Facts, sound_facts_lem}
use Rattle.laws.proofs.Lines.{passed, passes_left, passes_right, settle_open}
use Rattle.laws.proofs.Passed.{image_passed, Makes, make_passed}
use Rattle.laws.proofs.Steps.{settled, as_tree_lem}
use Rattle.laws.proofs.Entries.{Within, entry_within}
use Rattle.laws.proofs.Owns.{own, own_le}
use Rattle.laws.proofs.Focus.{Leads, named_found, leads_sub}
use Rattle.laws.proofs.Walks.{Parent, parent}
use Rattle.laws.proofs.Make.{Clear}
use Rattle.model.specs.Store.{stored, store_of, last_pages, store_pages, stores, is_none, store_count}
use Rattle.model.specs.MeaningOf
use Rattle.model.specs.RefusalOf
use Rattle.store_laws.specs.Pull.{pulled}
use Rattle.store_laws.proofs.Made.{first_pages}
use Rattle.store_laws.proofs.Granted.{write_open}
use Rattle.store_laws.proofs.Stored.{StoredOn, stored_on}
use Rattle.store_laws.specs.Demand.{WonBack}
use Rattle.store_laws.proofs.Survives.{survives, completes}

-- ---- lines

passes_join : (ls ms : List Line) → Passes ls → Passes ms → Passes (ls ++ ms)
unfolding settle
passes_join [] ms e h = h
passes_join (l ∷ ls) ms e h = go l.0 e (λ u. passes_join ls ms u h)
  where
    go : (c : Bool) → (if c then some l.1 else settle ls some none) ≡ none → (Passes ls → Passes (ls ++ ms)) → (if c then some l.1 else settle (ls ++ ms) some none) ≡ none
    go true u next = u
    go false u next = next u

one_passes : (c : Bool) (r : Refusal) → c ≡ false → Passes ((c, r) ∷ [])
unfolding settle
one_passes c r e = ap (λ (x : Bool). if x then some r else none) e

-- ---- what a granted store has passed

pub record Opens (path date v : Bytes) (k : ℕ) (buffer b : Bytes) : Type 0 where
  pub lent : length buffer ≡ 256
  pub is_sound : T (sound b)
  pub making : Passes (make_lines path date (tree_of b))
  pub makes : Makes b path date (pages_for (length v))
  pub space : pages_for (length v) ≤ free_number (tree_of b)
  pub number : k < store_count (path_of path) v

pub store_opens : (path date v : Bytes) (k : ℕ) (buffer b : Bytes) → Passes (lines (store path date v k buffer) b) → Opens path date v k buffer b
unfolding MeaningOf.lines is_format RefusalOf.refusals RefusalOf.earlier RefusalOf.later RefusalOf.wanted
store_opens path date v k buffer b e =
    let t = tree_of b in
    let space : Line = (ltb (free_number (tree_of b)) (pages_for (length v)), refusal 10) in
    let past : Line = (leb (store_count (path_of path) v) k, refusal 12) in
    let ls : List Line = make_lines path date (tree_of b) in
    let lent : Line = (not (eqb (length buffer) 256), refusal 29) in
    let p1 = passed lent (image_lines b ++ (lent ∷ (ls ++ (space ∷ past ∷ [])))) e in
    let p2 = image_passed b (lent ∷ (ls ++ (space ∷ past ∷ []))) p1.1 in
    let own : Passes (ls ++ (space ∷ past ∷ [])) = (passed lent (ls ++ (space ∷ past ∷ [])) p2.1).1 in
    let p3 = passed space (past ∷ []) (passes_right ls (space ∷ past ∷ []) own) in
    let p4 = passed past [] p3.1 in
    let f = sound_facts_lem p2.0 in
    record {
      lent = eqb→eq (length buffer) 256 (not_not (eqb (length buffer) 256) p1.0);
      is_sound = p2.0;
      making = passes_left ls (space ∷ past ∷ []) own;
      makes = make_passed f (refusal 10)
          (passes_left (ls ++ (space ∷ [])) (past ∷ []) (subst Passes (sym (append_assoc ls (space ∷ []) (past ∷ []))) own));
      space = nltb→le (free_number (tree_of b)) (pages_for (length v)) p3.0;
      number = not_le (store_count (path_of path) v) k p4.0;
    }
  where
    not_le : (m j : ℕ) → T (not (leb m j)) → j < m
    not_le m j h = elim (dec_le m j) [ yes l ↦ absurd (T_not (leb m j) h (le→leb m j l)) | no l ↦ omega arith ]

-- make's lines passed and pages enough open the first store
pub opens_first : (path date v buffer b : Bytes) → length buffer ≡ 256 → T (sound b) → Passes (make_lines path date (tree_of b)) → ltb (free_number (tree_of b)) (pages_for (length v)) ≡ false
    → Opens path date v 0 buffer b
unfolding store_count
opens_first path date v buffer b lent h making enough = record {
  lent = lent;
  is_sound = h;
  making = making;
  makes = make_passed (sound_facts_lem h) (refusal 10)
      (passes_join (make_lines path date (tree_of b)) ((ltb (free_number (tree_of b)) (pages_for (length v)), refusal 10) ∷ []) making
      (one_passes (ltb (free_number (tree_of b)) (pages_for (length v))) (refusal 10) enough));
  space = nltb→le (free_number (tree_of b)) (pages_for (length v)) (subst (λ (c : Bool). T (not c)) (sym enough) tt);
  number = go (is_none (parents (path_of path)));
}
  where
    go : (c : Bool) → 0 < pages_for (length v) + (if c then 1 else 2)
    go true = omega arith
    go false = omega arith

-- the image after a make whose lines pass
pub after_made : (b path date : Bytes) → T (sound b) → Passes (make_lines path date (tree_of b) ++ ((ltb (free_number (tree_of b)) (pages_for 0), refusal 10) ∷ []))
    → after (make_file path date) b ≡ file_made (path_of path) date b
unfolding MeaningOf.after MeaningOf.effect RefusalOf.refusals RefusalOf.earlier RefusalOf.later RefusalOf.wanted
after_made b path date h p =
    settled b h (λ f. b) (file_made (path_of path) date b) (make_file path date)
    ∙ settle_open (make_lines path date (tree_of b) ++ ((ltb (free_number (tree_of b)) (pages_for 0), refusal 10) ∷ [])) (λ f. b) (file_made (path_of path) date b) p

-- ---- make, and then write

module _ (path date v : Bytes) (k : ℕ) (buffer b : Bytes) (o : Opens path date v k buffer b) where
  make_open : Passes (refusals (make_file path date) (tree_of b))
  unfolding RefusalOf.refusals RefusalOf.earlier RefusalOf.later RefusalOf.wanted
  make_open = passes_join (make_lines path date (tree_of b)) ((ltb (free_number (tree_of b)) (pages_for 0), refusal 10) ∷ []) o.making
      (one_passes (ltb (free_number (tree_of b)) (pages_for 0)) (refusal 10) (le-ltb (free_number (tree_of b)) (pages_for 0) (omega (arith, o.space, first_pages (length v)))))

  made_after : after (make_file path date) b ≡ file_made (path_of path) date b
  unfolding MeaningOf.after MeaningOf.effect
  made_after = settled b o.is_sound (λ f. b) (file_made (path_of path) date b) (make_file path date) ∙ settle_open (refusals (make_file path date) (tree_of b)) (λ f. b) (file_made (path_of path) date b) make_open

  made_sound : T (sound (file_made (path_of path) date b))
  made_sound = subst (λ (x : Bytes). T (sound x)) made_after (as_tree_lem (make_file path date) b o.is_sound).is_sound

  -- the image after all stores is that of make followed by write
  pub stored_after : after (write path 0 v) (after (make_file path date) b) ≡ stored (path_of path) date v b
  unfolding MeaningOf.after MeaningOf.effect stored
  stored_after =
      let b₁ : Bytes = file_made (path_of path) date b in
      let open' : Passes (refusals (write path 0 v) (tree_of b₁)) =
      subst (λ (p : Path). Passes (refusals (write path 0 v) (tree_of (file_made p date b)))) (sym o.makes.is)
      (write_open b (sound_facts_lem o.is_sound) o.makes.ns o.makes.n date v o.makes.clear path o.makes.is) in
      ap (λ (x : Bytes). settle (lines (write path 0 v) x) (λ f. x) (effect (write path 0 v) x)) made_after
      ∙ settled b₁ made_sound (λ f. b₁) (effect (write path 0 v) b₁) (write path 0 v)
      ∙ settle_open (refusals (write path 0 v) (tree_of b₁)) (λ f. b₁) (effect (write path 0 v) b₁) open'

  pub write_granted : answer (write path 0 v) (after (make_file path date) b) ≡ granted tt
  unfolding MeaningOf.answer
  write_granted =
      let b₁ : Bytes = file_made (path_of path) date b in
      let open' : Passes (refusals (write path 0 v) (tree_of b₁)) =
      subst (λ (p : Path). Passes (refusals (write path 0 v) (tree_of (file_made p date b)))) (sym o.makes.is)
      (write_open b (sound_facts_lem o.is_sound) o.makes.ns o.makes.n date v o.makes.clear path o.makes.is) in
      ap (λ (x : Bytes). settle (lines (write path 0 v) x) refused (granted tt)) made_after
      ∙ settled b₁ made_sound refused (granted tt) (write path 0 v)
      ∙ settle_open (refusals (write path 0 v) (tree_of b₁)) refused (granted tt) open'

-- ---- how many stores there are

-- a directory below the root is on a page that is owned
leads_below : (b : Bytes) (n : Name) (ns : List Name) (d p e t q : ℕ) → Leads b (suc d) p (n ∷ ns) e t → occ q (t ∷ owned e (view b) t) ≤ occ q (owned (suc d) (view b) p)
unfolding own
leads_below b n ns d p e t q l =
    let found = named_found b p n.bytes l.0 l.2 in
    omega (arith, leads_sub b ns d l.1 e t q l.4, own_le d b p l.0 q found.0, ap (λ (x : Entry). occ q (own d b x)) l.3.is)

last_many : (t : ℕ) (c : Bool) → (T c → t ≡ 0) → (T (not c) → t ≢ 0) → length (last_pages t) ≡ (if c then 1 else 2)
unfolding last_pages
last_many t true y n = ap (λ (x : Bool). length (if x then 0 ∷ [] else (0 ∷ t ∷ []))) (eq-eqb t 0 (y tt))
last_many t false y n = ap (λ (x : Bool). length (if x then 0 ∷ [] else (0 ∷ t ∷ []))) (ne_eqb t 0 (n tt))

module _ (b : Bytes) (f : Facts b) (ns : List Name) (n : Name) (date v : Bytes) (c : Clear b ns n date (pages_for (length v))) where
  p : Parent b ns
  p = parent f c.reached c.entered

  parent_is : parent_page b (below ns n) ≡ p.t
  unfolding arrived_or
  parent_is = ap (λ (x : Walked ℕ). arrived_or 0 x) p.page

  root_or_below : (ms : List Name) → Leads b (page_count b) 0 ms (suc p.e) p.t → (T (is_none ms) → p.t ≡ 0) × (T (not (is_none ms)) → p.t ≢ 0)
  unfolding is_none
  root_or_below [] l = (λ h. sym l.1, λ h. absurd h)
  root_or_below (m ∷ ms) l = (λ h. absurd h, λ h z. deep (page_count b) refl z l)
    where
      deep : (d : ℕ) → page_count b ≡ d → p.t ≡ 0 → Leads b d 0 (m ∷ ms) (suc p.e) p.t → ⊥
      deep zero e z k = k
      deep (suc d) e z k =
          let o = leads_below b m ms d 0 (suc p.e) p.t p.t k in
          let u : Mem p.t (owned (suc d) (view b) 0) = omega (arith, o, hit_refl p.t) in
          let w = f.inside p.t (subst (λ (x : ℕ). Mem p.t (owned x (view b) 0)) (sym e) u) in
          omega (arith, w.0, z)

  pub store_many : length (stores (below ns n) date v b) ≡ store_count (below ns n) v
  unfolding stores store_pages store_count
  store_many =
      let d = stored (below ns n) date v b in
      let qs : List ℕ = pages_at (view (stored (below ns n) date v b)) (lowest_vacant b (parent_page b (below ns n))) in
      let on = stored_on b f ns n date v c in
      let r = root_or_below ns p.leads in
      let last : length (last_pages (parent_page b (below ns n))) ≡ (if is_none ns then 1 else 2) =
      last_many (parent_page b (below ns n)) (is_none ns) (λ h. parent_is ∙ r.0 h) (λ h z. r.1 h (sym parent_is ∙ z)) in
      length-map (qs ++ last_pages (parent_page b (below ns n))) (store_of d) ∙ length-append qs (last_pages (parent_page b (below ns n)))
      ∙ ap₂ (λ (x y : ℕ). x + y) on.many last

  -- where the new entry stands
  pub spot_within : Within (parent_page b (below ns n)) (lowest_vacant b (parent_page b (below ns n)))
  spot_within = entry_within (parent_page b (below ns n)) (lowest_vacant b (parent_page b (below ns n))) (stored_on b f ns n date v c).spot

  pub spot_page : parent_page b (below ns n) < page_count b
  spot_page = (stored_on b f ns n date v c).page

  -- as many, by the new entry's position
  pub count_by_place : pages_for (length v) + (if ltb (lowest_vacant b (parent_page b (below ns n))) 256 then 1 else 2) ≡ store_count (below ns n) v
  unfolding store_count
  count_by_place = ap (λ (z : Bool). pages_for (length v) + (if z then 1 else 2)) (go (is_none ns) (root_or_below ns p.leads))
    where
      go : (z : Bool) → (T z → p.t ≡ 0) × (T (not z) → p.t ≢ 0) → ltb (lowest_vacant b (parent_page b (below ns n))) 256 ≡ z
      go true h = lt-ltb (lowest_vacant b (parent_page b (below ns n))) 256 (omega (arith, spot_within.high, parent_is, h.0 tt))
      go false h = le-ltb (lowest_vacant b (parent_page b (below ns n))) 256 (omega (arith, spot_within.low, parent_is, h.1 tt))

-- ---- the law of the call

module _ (path date v : Bytes) (k : ℕ) (buffer b : Bytes) (o : Opens path date v k buffer b) where
  f : Facts b
  f = sound_facts_lem o.is_sound

  -- after any number of the stores short of all, a repair yields exactly the old tree
  pub store_survives : (j : ℕ) → j < store_count (path_of path) v → WonBack b (pulled j (path_of path) date v b)
  store_survives j =
      subst (λ (p : Path). j < store_count p v → WonBack b (pulled j p date v b)) (sym o.makes.is) (λ l.
      survives b f o.makes.ns o.makes.n date v o.makes.clear j (omega (arith, l, store_many b f o.makes.ns o.makes.n date v o.makes.clear)))

  -- after the last one the image is that of make followed by write
  pub store_completes : pulled (store_count (path_of path) v) (path_of path) date v b ≡ after (write path 0 v) (after (make_file path date) b)
  store_completes =
      subst (λ (p : Path). pulled (store_count p v) p date v b ≡ stored p date v b) (sym o.makes.is)
      (completes b f o.makes.ns o.makes.n date v o.makes.clear (store_count (below o.makes.ns o.makes.n) v)
      (omega (arith, store_many b f o.makes.ns o.makes.n date v o.makes.clear)))
      ∙ sym (stored_after path date v k buffer b o)
