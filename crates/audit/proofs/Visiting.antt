-- All directories visited: those pending own what is still to be claimed. A visit that says yes found each directory good, to the depth of its
-- number of visits; and where all is good it says yes, since each directory that is found has claimed a page.
use mathlib.Core.Path.{◌≡◌, refl, sym, ap, ◌∙◌, subst}
use mathlib.Core.Logic.{inl, inr}
use Prim.Native.Nat.{ℕ, zero, suc, ◌+◌, ◌≤◌, ◌<◌}
use native.Mathlib.Omega.{arith}
use mathlib.Core.Bool.{Bool, true, false}
use mathlib.Core.List.{List, [], ◌∷◌, ◌++◌, flat_map}
use lib.ListN.{length, length-append}
use lib.Dec.{T}
use Rattle.volume.specs.Bytes.{Bytes}
use Rattle.std.specs.Prelude.{if◌then◌else◌}
use Rattle.volume.proofs.Occ.{occ, Mem, occ_append, mem_head, mem_tail, mem_cons, mem_or_not}
use Rattle.volume.proofs.Flat.{flat_map_append, flat_map_same, occ_flat_map_le, mem_flat_map}
use Rattle.model.specs.Entry.{entries, Entry, vacant, a_file, a_directory, entry_at}
use Rattle.model.specs.Version1.{view}
use Rattle.model.specs.Sound.{pages_of, pages_at, good_entry, names_apart, in_directory, good_directory, reached_by, reached, owned}
use Rattle.laws.proofs.Entries.{entry_within, nodup_entries}
use Rattle.laws.proofs.Owns.{own, owned_entries}
use Rattle.laws.proofs.Frame.{SameDirectory, depth}
use Rattle.laws.proofs.Level.{good_split, good_join, apart_split, apart_join}
use Rattle.claims.specs.Claim.{Visited, stops, goes, then_visit, claim_entries, directories_at}
use Rattle.audit.specs.Visit.{visit}
use Rattle.audit.proofs.Visits.{Ownable, Sets, Tells, refuted, proved, ownable_rest, ownable_both, sets_both, ownable_occ, sets_occ, sets_names, Among, entries_told}

-- the page of a directory, and nothing for any other entry
abbrev page_of : Entry → List ℕ
page_of e = in_directory [] (λ s. s ∷ []) e

module _ (b : Bytes) where
  -- ---- what a directory owns: its entries' pages, and what the directories among them own

  own_split : (f : ℕ) (e : Entry) (q : ℕ) → occ q (own f b e) ≡ occ q (pages_of (view b) e) + occ q (flat_map (owned f (view b)) (page_of e))
  unfolding own pages_of flat_map
  own_split f vacant q = refl
  own_split f (a_file locked name date start size) q = omega arith
  own_split f (a_directory name date start size) q = omega (arith, occ_append q (owned f (view b) start) [])

  own_lengths : (f : ℕ) (e : Entry) → length (own f b e) ≡ length (pages_of (view b) e) + length (flat_map (owned f (view b)) (page_of e))
  unfolding own pages_of flat_map
  own_lengths f vacant = refl
  own_lengths f (a_file locked name date start size) = omega arith
  own_lengths f (a_directory name date start size) = omega (arith, length-append (owned f (view b) start) [])

  entries_split : (f : ℕ) (ats : List ℕ) (q : ℕ)
      → occ q (flat_map (λ at. own f b (entry_at b at)) ats) ≡ occ q (flat_map (pages_at (view b)) ats) + occ q (flat_map (owned f (view b)) (directories_at b ats))
  unfolding flat_map directories_at
  entries_split f [] q = refl
  entries_split f (at ∷ ats) q =
      let e = entry_at b at in
      let ds = flat_map (λ at. page_of (entry_at b at)) ats in
      omega (
        arith,
        occ_append q (own f b e) (flat_map (λ at. own f b (entry_at b at)) ats),
        occ_append q (pages_of (view b) e) (flat_map (pages_at (view b)) ats),
        ap (occ q) (flat_map_append (owned f (view b)) (page_of e) ds),
        occ_append q (flat_map (owned f (view b)) (page_of e)) (flat_map (owned f (view b)) ds),
        own_split f e q,
        entries_split f ats q,
      )

  entries_lengths : (f : ℕ) (ats : List ℕ)
      → length (flat_map (λ at. own f b (entry_at b at)) ats) ≡ length (flat_map (pages_at (view b)) ats) + length (flat_map (owned f (view b)) (directories_at b ats))
  unfolding flat_map directories_at
  entries_lengths f [] = refl
  entries_lengths f (at ∷ ats) =
      let e = entry_at b at in
      let ds = flat_map (λ at. page_of (entry_at b at)) ats in
      omega (
        arith,
        length-append (own f b e) (flat_map (λ at. own f b (entry_at b at)) ats),
        length-append (pages_of (view b) e) (flat_map (pages_at (view b)) ats),
        ap length (flat_map_append (owned f (view b)) (page_of e) ds),
        length-append (flat_map (owned f (view b)) (page_of e)) (flat_map (owned f (view b)) ds),
        own_lengths f e,
        entries_lengths f ats,
      )

  -- a directory has a page, so there are no more of them than pages
  page_few : (e : Entry) → length (page_of e) ≤ length (pages_of (view b) e)
  unfolding pages_of
  page_few vacant = omega arith
  page_few (a_file locked name date start size) = omega arith
  page_few (a_directory name date start size) = omega arith

  pub few : (ats : List ℕ) → length (directories_at b ats) ≤ length (flat_map (pages_at (view b)) ats)
  unfolding flat_map directories_at
  few [] = omega arith
  few (at ∷ ats) = omega (
    arith,
    length-append (page_of (entry_at b at)) (flat_map (λ at. page_of (entry_at b at)) ats),
    length-append (pages_at (view b) at) (flat_map (pages_at (view b)) ats),
    page_few (entry_at b at),
    few ats,
  )

  -- a directory's page among the entries', and the other way round
  page_in : (e : Entry) (good : ℕ → Bool) → ((c : ℕ) → Mem c (page_of e) → T (good c)) → T (in_directory true good e)
  page_in vacant good h = tt
  page_in (a_file locked name date start size) good h = tt
  page_in (a_directory name date start size) good h = h start (mem_head start [])

  in_page : (e : Entry) (good : ℕ → Bool) → T (in_directory true good e) → (c : ℕ) → Mem c (page_of e) → T (good c)
  in_page vacant good h c m = absurd (omega arith)
  in_page (a_file locked name date start size) good h c m = absurd (omega arith)
  in_page (a_directory name date start size) good h c m = elim (mem_cons c start [] m) [ inl e ↦ subst (λ (x : ℕ). T (good x)) (sym e) h | inr k ↦ absurd (omega arith) ]

  directory_in : (ats : List ℕ) (at c : ℕ) → Mem at ats → Mem c (page_of (entry_at b at)) → Mem c (directories_at b ats)
  unfolding directories_at
  directory_in ats at c m k = omega (arith, occ_flat_map_le (λ at. page_of (entry_at b at)) ats at c m)

  in_directory_lem : (ats : List ℕ) (c : ℕ) → Mem c (directories_at b ats) → (at : ℕ) × Mem at ats × Mem c (page_of (entry_at b at))
  unfolding directories_at
  in_directory_lem ats c m = mem_flat_map (λ at. page_of (entry_at b at)) ats c m

  -- ---- what is reached

  itself : (f at q : ℕ) (e : Entry) → Mem q (pages_of (view b) e) → Mem at (reached_by at (reached f (view b)) e)
  unfolding pages_of reached_by
  itself f at q vacant m = absurd (omega arith)
  itself f at q (a_file locked name date start size) m = mem_head at []
  itself f at q (a_directory name date start size) m = mem_head at (reached f (view b) start)

  deeper : (f at c x : ℕ) (e : Entry) → Mem c (page_of e) → Mem x (reached f (view b) c) → Mem x (reached_by at (reached f (view b)) e)
  unfolding reached_by
  deeper f at c x vacant m k = absurd (omega arith)
  deeper f at c x (a_file locked name date start size) m k = absurd (omega arith)
  deeper f at c x (a_directory name date start size) m k = elim (mem_cons c start [] m) [
    | inl e ↦ mem_tail x at (reached f (view b) start) (subst (λ (y : ℕ). Mem x (reached f (view b) y)) e k)
    | inr n ↦ absurd (omega arith)
  ]

  reached_of : (f d at x : ℕ) → Mem at (entries d) → Mem x (reached_by at (reached f (view b)) (entry_at b at)) → Mem x (reached (suc f) (view b) d)
  unfolding reached
  reached_of f d at x m k = omega (arith, occ_flat_map_le (λ y. reached_by y (reached f (view b)) (entry_at b y)) (entries d) at x m)

  -- ---- one directory visited

  abbrev children : ℕ → List ℕ
  children d = directories_at b (entries d)

  abbrev claimed : ℕ → List ℕ
  claimed d = flat_map (pages_at (view b)) (entries d)

  owned_split : (f d q : ℕ) → occ q (owned (suc f) (view b) d) ≡ occ q (claimed d) + occ q (flat_map (owned f (view b)) (children d))
  owned_split f d q = ap (occ q) (owned_entries f b d) ∙ entries_split f (entries d) q

  owned_lengths : (f d : ℕ) → length (owned (suc f) (view b) d) ≡ length (claimed d) + length (flat_map (owned f (view b)) (children d))
  owned_lengths f d = ap length (owned_entries f b d) ∙ entries_lengths f (entries d)

  positive : (d at : ℕ) → Mem at (entries d) → 1 ≤ at
  positive d at m = let w = entry_within d at m in omega (arith, w.far)

  page_own : (e : Entry) (c : ℕ) → Mem c (page_of e) → Mem c (pages_of (view b) e)
  unfolding pages_of
  page_own vacant c m = m
  page_own (a_file locked name date start size) c m = absurd (omega arith)
  page_own (a_directory name date start size) c m = m

  -- the directories found lie in the image
  pub children_low : (d : ℕ) (row r : List ℕ) → goes r ≡ claim_entries b (entries d) row → (c : ℕ) → Mem c (children d) → c < length row
  children_low d row r e c m = go (entries_told b (entries d) row (positive d)) (sym e)
    where
      go : {v : Visited} → Tells (Among b (entries d)) ((at : ℕ) → Mem at (entries d) → T (good_entry (view b) (entry_at b at))) (claimed d) row v → v ≡ goes r → c < length row
      go (refuted n) q = let z : ◌≡◌ {A = ℕ} 0 1 = ap tag q in absurd (omega arith)
        where
          tag : Visited → ℕ
          tag stops = 0
          tag (goes row) = 1
      go (proved s g o k) q =
          let v = in_directory_lem (entries d) c m in
          let w = page_own (entry_at b v.0) c v.2 in
          (o c (omega (arith, w, occ_flat_map_le (pages_at (view b)) (entries d) v.0 c v.1))).0

  -- what is true of the row of a visit that says yes
  abbrev pub AtYes : (List ℕ → Type 0) → Visited → Type 0
  AtYes P stops = Unit {0}
  AtYes P (goes row) = P row

  pub at_yes : {P Q : List ℕ → Type 0} → ((row : List ℕ) → P row → Q row) → (v : Visited) → AtYes P v → AtYes Q v
  at_yes h stops y = tt
  at_yes h (goes row) y = h row y

  pub record Yes (f : ℕ) (ds row r : List ℕ) : Type 0 where
    pub good : (d : ℕ) → Mem d ds → T (good_directory f (view b) d)
    pub ownable : Ownable (flat_map (owned f (view b)) ds) row
    pub sets : Sets (Among b (flat_map (reached f (view b)) ds)) (flat_map (owned f (view b)) ds) row r

  module _ (f d : ℕ) (ds row s : List ℕ) (apart : T (names_apart (view b) (entries d))) (each : (at : ℕ) → Mem at (entries d) → T (good_entry (view b) (entry_at b at)))
      (o : Ownable (claimed d) row) (c : Sets (Among b (entries d)) (claimed d) row s) (r : List ℕ) (y : Yes f (ds ++ children d) s r) where
    later : (x : ℕ) → Mem x ds → SameDirectory b b f (suc f) x
    later x m = depth (y.good x (omega (arith, occ_append x ds (children d)))) (omega arith)

    own_later : flat_map (owned (suc f) (view b)) ds ≡ flat_map (owned f (view b)) ds
    own_later = flat_map_same (owned (suc f) (view b)) (owned f (view b)) ds (λ x m. (later x m).owns)

    counts : (q : ℕ) → occ q (flat_map (owned (suc f) (view b)) (d ∷ ds)) ≡ occ q (claimed d ++ flat_map (owned f (view b)) (ds ++ children d))
    unfolding flat_map
    counts q = omega (
      arith,
      occ_append q (owned (suc f) (view b) d) (flat_map (owned (suc f) (view b)) ds),
      ap (occ q) own_later,
      owned_split f d q,
      occ_append q (claimed d) (flat_map (owned f (view b)) (ds ++ children d)),
      ap (occ q) (flat_map_append (owned f (view b)) ds (children d)),
      occ_append q (flat_map (owned f (view b)) ds) (flat_map (owned f (view b)) (children d)),
    )

    -- all that is reached
    abbrev everything : List ℕ
    everything = flat_map (reached (suc f) (view b)) (d ∷ ds)

    of_first : (x : ℕ) → Mem x (reached (suc f) (view b) d) → Mem x everything
    unfolding flat_map
    of_first x m = omega (arith, occ_append x (reached (suc f) (view b) d) (flat_map (reached (suc f) (view b)) ds))

    of_later : (x : ℕ) → Mem x (flat_map (reached f (view b)) ds) → Mem x everything
    unfolding flat_map
    of_later x m =
        let same : flat_map (reached (suc f) (view b)) ds ≡ flat_map (reached f (view b)) ds = flat_map_same (reached (suc f) (view b)) (reached f (view b)) ds (λ z k. (later z k).reach) in
        omega (arith, occ_append x (reached (suc f) (view b) d) (flat_map (reached (suc f) (view b)) ds), ap (occ x) same)

    named_here : (q x : ℕ) → Mem q (claimed d) → Among b (entries d) q x → Among b everything q x
    named_here q x m a = (of_first x (reached_of f d x x a.0 (itself f x q (entry_at b x) a.1)), a.1)

    named_later : (q x : ℕ) → Mem q (flat_map (owned f (view b)) (ds ++ children d)) → Among b (flat_map (reached f (view b)) (ds ++ children d)) q x → Among b everything q x
    named_later q x m a = (
      elim (mem_or_not x (flat_map (reached f (view b)) ds)) [
        | inl k ↦ of_later x k
        | inr z ↦
            let k : Mem x (flat_map (reached f (view b)) (children d)) = omega (arith, a.0, ap (occ x) (flat_map_append (reached f (view b)) ds (children d)), occ_append x (flat_map (reached f (view b)) ds) (flat_map (reached f (view b)) (children d))) in
            let w = mem_flat_map (reached f (view b)) (children d) x k in
            let v = in_directory_lem (entries d) w.0 w.1 in
            of_first x (reached_of f d v.0 x v.1 (deeper f v.0 w.0 x (entry_at b v.0) v.2 w.2))
      ],
      a.1,
    )

    visited_yes : Yes (suc f) (d ∷ ds) row r
    visited_yes = record {
      good = λ x m. elim (mem_cons x d ds m) [
        | inl e ↦ subst (λ (z : ℕ). T (good_directory (suc f) (view b) z)) (sym e) (good_join f b d (record {
          each = each;
          apart = apart_split b (entries d) apart;
          below = λ at k. page_in (entry_at b at) (good_directory f (view b)) (λ c u. y.good c (omega (arith, occ_append c ds (children d), directory_in (entries d) at c k u)));
        }))
        | inr k ↦ subst (λ (t : Bool). T t) (sym (later x k).good) (y.good x (omega (arith, occ_append x ds (children d))))
      ];
      ownable = ownable_occ (claimed d ++ flat_map (owned f (view b)) (ds ++ children d)) (flat_map (owned (suc f) (view b)) (d ∷ ds)) row counts
          (ownable_both (flat_map (owned f (view b)) (ds ++ children d)) o c y.ownable);
      sets = sets_occ (flat_map (owned (suc f) (view b)) (d ∷ ds)) counts
          (sets_both (flat_map (owned f (view b)) (ds ++ children d)) o (sets_names named_here c) (sets_names named_later y.sets));
    }

  visit_step : (f d : ℕ) (ds row : List ℕ) → ((ds row : List ℕ) → AtYes (Yes f ds row) (visit f b ds row))
      → (t : Bool) → names_apart (view b) (entries d) ≡ t → {v : Visited}
      → Tells (Among b (entries d)) ((at : ℕ) → Mem at (entries d) → T (good_entry (view b) (entry_at b at))) (claimed d) row v
      → AtYes (Yes (suc f) (d ∷ ds) row) (if t then then_visit v (visit f b (ds ++ children d)) else stops)
  unfolding then_visit
  visit_step f d ds row ih true e (refuted n) = tt
  visit_step f d ds row ih true e (proved s g o c) =
      at_yes (λ r y. visited_yes f d ds row s (subst (λ (t : Bool). T t) (sym e) tt) g o c r y) (visit f b (ds ++ children d) s) (ih (ds ++ children d) s)
  visit_step f d ds row ih false e t = tt

  nothing_yes : (f : ℕ) (row : List ℕ) → Yes f [] row row
  unfolding flat_map
  nothing_yes f row = record {
    good = λ d m. absurd (omega arith);
    ownable = λ q m. absurd (omega arith);
    sets = record { long = refl; kept = λ q z. refl; named = λ q m. absurd (omega arith); some = λ q m. absurd (omega arith) };
  }

  pub visit_yes : (f : ℕ) (ds row : List ℕ) → AtYes (Yes f ds row) (visit f b ds row)
  unfolding visit
  visit_yes zero [] row = nothing_yes zero row
  visit_yes zero (d ∷ ds) row = tt
  visit_yes (suc f) [] row = nothing_yes (suc f) row
  visit_yes (suc f) (d ∷ ds) row =
      visit_step f d ds row (visit_yes f) (names_apart (view b) (entries d)) refl (entries_told b (entries d) row (positive d))

  -- ---- where all is good

  flat_cons : (e d : ℕ) (ds : List ℕ) (q : ℕ) → occ q (flat_map (owned e (view b)) (d ∷ ds)) ≡ occ q (owned e (view b) d) + occ q (flat_map (owned e (view b)) ds)
  unfolding flat_map
  flat_cons e d ds q = occ_append q (owned e (view b) d) (flat_map (owned e (view b)) ds)

  flat_length : (e d : ℕ) (ds : List ℕ) → length (flat_map (owned e (view b)) (d ∷ ds)) ≡ length (owned e (view b) d) + length (flat_map (owned e (view b)) ds)
  unfolding flat_map
  flat_length e d ds = length-append (owned e (view b) d) (flat_map (owned e (view b)) ds)

  abbrev pub IsYes : Visited → Type 0
  IsYes stops = ⊥
  IsYes (goes row) = Unit {0}

  done_step : (f d : ℕ) (ds row : List ℕ) → ((s : List ℕ) → Sets (Among b (entries d)) (claimed d) row s → Ownable (claimed d) row → IsYes (visit f b (ds ++ children d) s))
      → (t : Bool) → T t → {v : Visited}
      → Tells (Among b (entries d)) ((at : ℕ) → Mem at (entries d) → T (good_entry (view b) (entry_at b at))) (claimed d) row v
      → ((at : ℕ) → Mem at (entries d) → T (good_entry (view b) (entry_at b at))) → Ownable (claimed d) row
      → IsYes (if t then then_visit v (visit f b (ds ++ children d)) else stops)
  unfolding then_visit
  done_step f d ds row ih true e (refuted n) g o = n g o
  done_step f d ds row ih true e (proved s g' o' c) g o = ih s c o
  done_step f d ds row ih false e t g o = e

  none_good : (d : ℕ) → T (good_directory zero (view b) d) → ⊥
  unfolding good_directory
  none_good d h = h

  pub visit_done : (f e : ℕ) (ds row : List ℕ) → ((d : ℕ) → Mem d ds → T (good_directory e (view b) d)) → Ownable (flat_map (owned e (view b)) ds) row
      → length ds + length (flat_map (owned e (view b)) ds) ≤ f → IsYes (visit f b ds row)
  unfolding visit
  visit_done zero e [] row g o l = tt
  visit_done zero e (d ∷ ds) row g o l = absurd (omega arith)
  visit_done (suc f) e [] row g o l = tt
  visit_done (suc f) zero (d ∷ ds) row g o l = absurd (none_good d (g d (mem_head d ds)))
  visit_done (suc f) (suc e) (d ∷ ds) row g o l =
      let h = good_split e b d (g d (mem_head d ds)) in
      let cs = children d in
      let below : (c : ℕ) → Mem c cs → T (good_directory e (view b) c) = λ c m.
      let v = in_directory_lem (entries d) c m in in_page (entry_at b v.0) (good_directory e (view b)) (h.below v.0 v.1) c v.2 in
      let same : (c : ℕ) → Mem c cs → SameDirectory b b e (suc e) c = λ c m. depth (below c m) (omega arith) in
      let own_same : flat_map (owned (suc e) (view b)) cs ≡ flat_map (owned e (view b)) cs = flat_map_same (owned (suc e) (view b)) (owned e (view b)) cs (λ c m. (same c m).owns) in
      let rest : List ℕ = flat_map (owned (suc e) (view b)) (ds ++ cs) in
      let counts : (q : ℕ) → occ q (claimed d ++ rest) ≡ occ q (flat_map (owned (suc e) (view b)) (d ∷ ds)) = λ q. omega (
        arith,
        flat_cons (suc e) d ds q,
        owned_split e d q,
        occ_append q (claimed d) rest,
        ap (occ q) (flat_map_append (owned (suc e) (view b)) ds cs),
        occ_append q (flat_map (owned (suc e) (view b)) ds) (flat_map (owned (suc e) (view b)) cs),
        ap (occ q) own_same,
      ) in
      let both : Ownable (claimed d ++ rest) row = ownable_occ (flat_map (owned (suc e) (view b)) (d ∷ ds)) (claimed d ++ rest) row counts o in
      let now : Ownable (claimed d) row = λ q m. let w = both q (omega (arith, occ_append q (claimed d) rest)) in (w.0, omega (arith, w.1, occ_append q (claimed d) rest)) in
      done_step f d ds row
      (λ s c o'. visit_done f (suc e) (ds ++ cs) s
      (λ x m. elim (mem_or_not x ds) [
        | inl k ↦ g x (mem_tail x d ds k)
        | inr z ↦ let k : Mem x cs = omega (arith, occ_append x ds cs) in subst (λ (t : Bool). T t) (sym (same x k).good) (below x k)
      ])
      (ownable_rest rest o' c both)
      (omega (
        arith,
        l,
        length-append ds cs,
        flat_length (suc e) d ds,
        owned_lengths e d,
        ap length (flat_map_append (owned (suc e) (view b)) ds cs),
        length-append (flat_map (owned (suc e) (view b)) ds) (flat_map (owned (suc e) (view b)) cs),
        ap length own_same,
        few (entries d),
      )))
      (names_apart (view b) (entries d)) (apart_join b (entries d) (nodup_entries d) h.apart)
      (entries_told b (entries d) row (positive d)) h.each now
