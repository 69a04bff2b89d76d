-- An entry of a directory that a walk on a sound image comes to lies in the image, and so do its pages, which nobody else owns.
use mathlib.Core.Path.{◌≡◌, refl, ◌∙◌, subst}
use mathlib.Core.Logic.{inl, inr}
use Prim.Native.Nat.{ℕ, suc, ◌+◌, ◌*◌, ◌≤◌, ◌<◌}
use native.Mathlib.Omega.{arith}
use mathlib.Core.Bool.{Bool, not}
use mathlib.Core.Option.{Option, none, some, map}
use mathlib.Core.List.{List, [], ◌∷◌, ◌++◌}
use lib.ListN.{length}
use lib.Dec.{T}
use Rattle.volume.specs.Bytes.{Bytes}
use Rattle.volume.specs.Chain.{chain}
use Rattle.volume.specs.Geometry.{content}
use Rattle.volume.proofs.Occ.{occ, Mem, Under, under_of_mem, mem_or_not, occ_append, sum_mono, sum_occ}
use Rattle.volume.proofs.Lawful.{Sized}
use Rattle.volume.proofs.Pages.{page_in}
use Rattle.model.specs.Entry.{Entry, vacant, a_file, a_directory}
use Rattle.model.specs.View.{View, next, page_bit, zero_bits}
use Rattle.model.specs.Sound.{pages_of, good_entry, good_directory, owned, all_owned}
use Rattle.model.specs.Path.{Name, Path, no_path, root, below, is_no_path, names}
use Rattle.model.specs.Image.{content_of}
use Rattle.model.specs.Walk.{Walked, arrived, missing, blocked, in_walked, entry_named, enter_on, walk_on, arrived_or, position_in}
use Rattle.view_laws.proofs.Owns.{own}
use Rattle.view_laws.proofs.Frame.{Headed}
use Rattle.view_laws.proofs.Level.{good_split}
use Rattle.view_laws.proofs.Facts.{Facts, Rooted}
use Rattle.view_laws.proofs.Focus.{Leads, named_found}
use Rattle.view_laws.proofs.Counting.{count_owned, content_length}
use Rattle.view_laws.proofs.Walks.{parent_at}
use Rattle.view_laws.proofs.Slots.{Real, Owned, directory_page, entry_apart, entry_owned}
use Rattle.view_laws.proofs.Shelf.{Shelf, seen, Shelved}
use Rattle.arrivals.specs.Places.{Spot, the_root, the_file, the_directory, spot_at, spot_named, located}
use Rattle.arrivals.proofs.Arrivals.{EntryOf}

-- What a version owes of a view: a directory has its first page, the root page 0; a file's bytes have room on its pages, and what stands on them and in
-- entries lies in the image.
pub record Readable (v : View) : Type 0 where
  pub headed : Headed v
  pub rooted : Rooted v
  pub low : 1 ≤ v.geometry.aside
  pub high : v.geometry.aside ≤ v.pages
  pub fill_up : (size : ℕ) → size ≤ v.geometry.room * v.numbers.pages_for size
  pub contents : (q : ℕ) → q < v.pages → content v.geometry q + v.geometry.room ≤ length v.bytes
  pub entry : (t at : ℕ) → Mem at (v.entries t) → ((q : ℕ) → Mem q (v.directory_pages t) → Real v q) → at + 32 ≤ length v.bytes

-- a shelf's images are so, if a file's bytes have room
pub shelf_readable : {s : Shelf} → Shelved s → {b : Bytes} → Sized s.geometry s.pages b
    → ((size : ℕ) → size ≤ s.geometry.room * s.numbers.pages_for size) → Readable (seen s b)
shelf_readable {s} w {b} sized room = record {
  headed = (w.regular b).headed;
  rooted = w.rooted b;
  low = w.law.header;
  high = w.high;
  fill_up = room;
  contents = λ q h. omega (arith, sized, page_in s.geometry s.home s.pages w.law q h, w.law.room);
  entry = λ t at m real. let o = w.spot b t at m in o.inside (real o.page o.of) sized;
}

-- ---- the directory that some names lead to

module _ (v : View) (f : Facts v) (ns : List Name) (t : ℕ) (come : walk_on v ns 0 ≡ arrived t) where
  -- it is read with a depth to spare, and is good
  pub leads : (e : ℕ) × Leads v v.pages 0 ns (suc e) t × T (good_directory (suc e) v t)
  leads =
      let p = parent_at v f.formed ns t come in
      (p.0.e, subst (λ (s : ℕ). Leads v v.pages 0 ns (suc p.0.e) s) p.1 p.0.leads, subst (λ (s : ℕ). T (good_directory (suc p.0.e) v s)) p.1 p.0.good)

  -- its pages lie in the image and are marked
  pub pages_lie : Readable v → (q : ℕ) → Mem q (v.directory_pages t) → Real v q × (page_bit v q ≡ 1)
  pages_lie r q m = directory_page f r.low r.high r.rooted ns (suc leads.0) t q leads.1 m

  module _ (at : ℕ) (m : Mem at (v.entries t)) where
    pub lies_inside : Readable v → at + 32 ≤ length v.bytes
    lies_inside r = r.entry t at m (λ q k. (pages_lie r q k).0)

    owned_by : (y : Entry) → v.entry_at at ≡ y → Owned v (own leads.0 v y)
    owned_by y is = subst (λ (z : Entry). Owned v (own leads.0 v z)) is (entry_owned f ns leads.0 t at leads.1 m)

    module _ {name date : Bytes} {start k : ℕ} where
      pub chain_owned : {locked : Bool} → v.entry_at at ≡ a_file locked name date start k → Owned v (chain (next v) (v.numbers.pages_for k) start)
      unfolding own pages_of
      chain_owned {locked} is = owned_by (a_file locked name date start k) is

      -- a file's size is the length of its content
      pub size_told : Readable v → {locked : Bool} → v.entry_at at ≡ a_file locked name date start k
          → length (content_of v k (chain (next v) (v.numbers.pages_for k) start)) ≡ k
      size_told r is = content_length v start k (r.fill_up k) (λ q n. r.contents q ((chain_owned is).inside q n).1)

      pub pages_owned : v.entry_at at ≡ a_directory name date start k → Owned v (v.directory_pages start)
      unfolding own
      pages_owned is =
          let o = owned_by (a_directory name date start k) is in
          let two : (q : ℕ) → occ q (v.directory_pages start ++ owned leads.0 v start) ≡ occ q (v.directory_pages start) + occ q (owned leads.0 v start) =
          λ q. occ_append q (v.directory_pages start) (owned leads.0 v start) in
          record { inside = λ q n. o.inside q (omega (arith, two q, n)); once = λ q. omega (arith, two q, o.once q) }

-- ---- the entry that a path leads to

-- it stands at the path's position
pub entry_position : {v : View} {p : Path} {at begins : ℕ} → EntryOf v p at begins → position_in v p ≡ at
unfolding arrived_or
entry_position x = rw (x.is, x.reached, x.found)

module _ {v : View} (f : Facts v) {p : Path} {at begins : ℕ} (x : EntryOf v p at begins) where
  pub among : Mem at (v.entries x.page)
  among = (named_found v x.page x.n.bytes at x.found).0

  pub entry_good : T (good_entry v (v.entry_at at))
  entry_good = let l = leads v f x.ns x.page x.reached in (good_split l.0 v x.page l.2).each at among

  pub entry_inside : Readable v → at + 32 ≤ length v.bytes
  entry_inside r = lies_inside v f x.ns x.page x.reached at among r

  module _ {name date : Bytes} {start k : ℕ} where
    pub file_owned : {locked : Bool} → v.entry_at at ≡ a_file locked name date start k → Owned v (chain (next v) (v.numbers.pages_for k) start)
    file_owned is = chain_owned v f x.ns x.page x.reached at among is

    pub file_inside : {locked : Bool} → v.entry_at at ≡ a_file locked name date start k → Under v.pages (chain (next v) (v.numbers.pages_for k) start)
    file_inside is = under_of_mem v.pages (chain (next v) (v.numbers.pages_for k) start) (λ q m. ((file_owned is).inside q m).1)

    pub file_size : Readable v → {locked : Bool} → v.entry_at at ≡ a_file locked name date start k
        → length (content_of v k (chain (next v) (v.numbers.pages_for k) start)) ≡ k
    file_size r is = size_told v f x.ns x.page x.reached at among r is

    -- the directory's own pages are none of the file's
    pub file_apart : Readable v → {locked : Bool} → v.entry_at at ≡ a_file locked name date start k
        → (q : ℕ) → Mem q (v.directory_pages x.page) → occ q (chain (next v) (v.numbers.pages_for k) start) ≡ 0
    unfolding own pages_of
    file_apart r is q m =
        let l = leads v f x.ns x.page x.reached in
        subst (λ (y : Entry). occ q (own l.0 v y) ≡ 0) is (entry_apart f r.low r.high r.rooted x.ns l.0 x.page at q l.1 among m)

    pub directory_owned : v.entry_at at ≡ a_directory name date start k → Owned v (v.directory_pages start)
    directory_owned is = pages_owned v f x.ns x.page x.reached at among is

-- ---- pages that an entry owns, and the free ones

module _ {v : View} (f : Facts v) (r : Readable v) (ps : List ℕ) (o : Owned v ps) where
  own_inside : (q : ℕ) → occ q ps ≤ occ q (all_owned v.pages v)
  own_inside q = elim (mem_or_not q ps) [
    | inl m ↦ let i = o.inside q m in omega (arith, o.once q, i.2, f.exact q i.0 i.1)
    | inr z ↦ omega arith
  ]

  -- with those set aside they are no more than there are pages
  pub own_few : zero_bits v v.pages + v.geometry.aside + length ps ≤ v.pages
  own_few =
      let n = v.pages in
      let mine = sum_occ ps n (under_of_mem n ps (λ q m. (o.inside q m).1)) in
      let all = sum_occ (all_owned n v) n (under_of_mem n (all_owned n v) (λ q m. (f.inside q m).1)) in
      omega (arith, mine, all, sum_mono (λ q. occ q ps) (λ q. occ q (all_owned n v)) n (λ q l. own_inside q), count_owned r.high f)

-- ---- the directory that a path leads to

-- the directory at a place, or the file's name that stands in the way
unfoldable pub entered : Spot → Walked ℕ
entered the_root = arrived 0
entered (the_file at begins start size) = blocked begins
entered (the_directory at begins start size) = arrived start

-- the walk goes on from where the first names led
walk_last : (v : View) (ns : List Name) (n : Name) (p : ℕ)
    → walk_on v (ns ++ (n ∷ [])) p ≡ in_walked (walk_on v ns p) (λ q. enter_on n (map v.entry_at (entry_named v q n.bytes)) arrived)
unfolding walk_on in_walked enter_on
walk_last v [] n p = refl
walk_last v (m ∷ ns) n p = go (map v.entry_at (entry_named v p m.bytes)) (λ q. walk_last v ns n q)
  where
    into : ℕ → Walked ℕ
    into q = enter_on n (map v.entry_at (entry_named v q n.bytes)) arrived

    go : (o : Option Entry) → ((q : ℕ) → walk_on v (ns ++ (n ∷ [])) q ≡ in_walked (walk_on v ns q) into)
        → enter_on m o (walk_on v (ns ++ (n ∷ []))) ≡ in_walked (enter_on m o (walk_on v ns)) into
    go none h = refl
    go (some vacant) h = refl
    go (some (a_file locked name date start size)) h = refl
    go (some (a_directory name date start size)) h = h start

pub walk_entered : (v : View) (p : Path) → T (not (is_no_path p)) → walk_on v (names p) 0 ≡ in_walked (located v p) entered
unfolding walk_on in_walked located spot_named spot_at entered enter_on is_no_path
walk_entered v no_path h = absurd h
walk_entered v root h = refl
walk_entered v (below ns n) h = walk_last v ns n 0 ∙ by_page (walk_on v ns 0)
  where
    by_entry : (at : ℕ) (x : Entry) → enter_on n (some x) arrived ≡ in_walked (spot_at n at x) entered
    by_entry at vacant = refl
    by_entry at (a_file locked name date start size) = refl
    by_entry at (a_directory name date start size) = refl

    by_name : (o : Option ℕ) → enter_on n (map v.entry_at o) arrived ≡ in_walked (spot_named v n o) entered
    by_name none = refl
    by_name (some at) = by_entry at (v.entry_at at)

    by_page : (w : Walked ℕ) → in_walked w (λ q. enter_on n (map v.entry_at (entry_named v q n.bytes)) arrived)
        ≡ in_walked (in_walked w (λ q. spot_named v n (entry_named v q n.bytes))) entered
    by_page (arrived q) = by_name (entry_named v q n.bytes)
    by_page (missing i) = refl
    by_page (blocked i) = refl
