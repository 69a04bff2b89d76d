-- The free counts agree: the marked pages are those set aside and the owned ones, and a directory owns as many pages as its row needs, also where
-- directories have several pages.
use mathlib.Core.Path.{◌≡◌, refl, sym, ap, ◌∙◌, subst}
use Prim.Native.Nat.{ℕ, zero, suc, ◌+◌, ◌*◌, ◌≤◌, ◌<◌, min}
use native.Mathlib.Omega.{arith}
use native.Mathlib.Decide.{dec_lt}
use mathlib.Core.Bool.{Bool, true}
use mathlib.Core.List.{List, [], ◌∷◌, ◌++◌, flat_map, tail}
use lib.ListN.{length, length-append, length-take}
use lib.Dec.{T}
use Rattle.volume.specs.Chain.{chain}
use Rattle.volume.specs.Geometry as On
use Rattle.volume.specs.Geometry.{content}
use Rattle.volume.proofs.Occ.{occ, Mem, Nodup, mem_head, mem_tail, occ_append, sum, sum_occ, under_of_mem, not_mem}
use Rattle.volume.proofs.Puts.{part_length}
use Rattle.volume.proofs.Chains.{chain_length}
use Rattle.volume.proofs.Flat.{flat_map_length}
use Rattle.volume.proofs.Marks.{bit_low}
use Rattle.model.specs.Entry.{Entry, vacant, a_file, a_directory}
use Rattle.model.specs.View.{View, next, page_bit, zero_bits}
use Rattle.model.specs.Sound.{pages_of, in_directory, good_directory, owned, all_owned}
use Rattle.model.specs.Tree.{Row, width, directory_needs, needs_of}
use Rattle.model.specs.Image.{content_on, content_of, entry_row, row_of, row_at}
use Rattle.view_laws.proofs.Owns.{own, owned_entries, own_le}
use Rattle.view_laws.proofs.Frame.{Headed, good_below, depth_count}
use Rattle.view_laws.proofs.Facts.{FactsTo, Facts}

-- ---- marked pages

pub zeros_marked : (v : View) (a : ℕ) (xs : List ℕ) (n : ℕ) → ((q : ℕ) → q < a → q < n → page_bit v q ≡ 1) → ((q : ℕ) → q < a → occ q xs ≡ 0)
    → ((q : ℕ) → a ≤ q → q < n → occ q xs ≡ page_bit v q) → zero_bits v n + min n a + sum (λ p. occ p xs) n ≡ n
unfolding On.zero_bits
zeros_marked v a xs zero one none own = omega arith
zeros_marked v a xs (suc n) one none own =
    let h = zeros_marked v a xs n (λ q l u. one q l (omega arith)) none (λ q l u. own q l (omega arith)) in
    elim (dec_lt n a) [
      | yes l ↦ omega (arith, h, one n l (omega arith), none n l)
      | no l ↦ omega (arith, h, own n (omega arith) (omega arith), bit_low v.geometry v.bytes n)
    ]

pub count_owned : {d : ℕ} {v : View} → v.geometry.aside ≤ v.pages → FactsTo d v → zero_bits v v.pages + v.geometry.aside + length (all_owned d v) ≡ v.pages
count_owned {d} {v} high f =
    let z = zeros_marked v v.geometry.aside (all_owned d v) v.pages (λ q l u. f.aside q l)
    (λ q l. not_mem q (all_owned d v) (λ m. omega (arith, (f.inside q m).0, l))) f.exact in
    let s = sum_occ (all_owned d v) v.pages (under_of_mem v.pages (all_owned d v) (λ q m. (f.inside q m).1)) in
    omega (arith, z, s, high)

-- An image that is sound with its directories read to any depth is sound: N is deep enough.
pub depth_enough : {d : ℕ} {v : View} → Headed v → 1 ≤ v.geometry.aside → v.geometry.aside ≤ v.pages → FactsTo d v → Facts v
depth_enough {d} {v} headed low high f =
    let c = count_owned high f in
    let l = length-append (tail (v.directory_pages 0)) (owned d v 0) in
    let s = depth_count v.pages headed f.formed (omega (arith, c, l, low)) in
    let all : all_owned v.pages v ≡ all_owned d v = ap (λ (ps : List ℕ). tail (v.directory_pages 0) ++ ps) s.owns in
    record {
      aside = f.aside;
      counted = f.counted;
      ended = f.ended;
      formed = subst (λ (c : Bool). T c) (sym s.good) f.formed;
      inside = λ q m. f.inside q (subst (Mem q) all m);
      exact = λ q l u. ap (occ q) all ∙ f.exact q l u;
    }

-- ---- the pages that a row needs

width_row : (v : View) (g : ℕ → Row) (ats : List ℕ) → width (row_of v g ats) ≡ length ats
unfolding row_of entry_row width
width_row v g [] = refl
width_row v g (x ∷ xs) = go (v.entry_at x) (width_row v g xs)
  where
    go : (e : Entry) → width (row_of v g xs) ≡ length xs → width (entry_row v g e (row_of v g xs)) ≡ suc (length xs)
    go vacant h = ap suc h
    go (a_file locked name date start size) h = ap suc h
    go (a_directory name date start size) h = ap suc h

-- the row of a directory is as wide as it has entries
pub directory_width : (v : View) (d p : ℕ) → T (good_directory d v p) → width (row_at d v p) ≡ length (v.entries p)
unfolding good_directory row_at
directory_width v zero p h = absurd h
directory_width v (suc d) p h = width_row v (row_at d v) (v.entries p)

-- the content of a file is as long as its size, if there is room for it on its pages and those lie in the image
pub content_length : (v : View) (start size : ℕ) → size ≤ v.geometry.room * v.numbers.pages_for size
    → ((q : ℕ) → Mem q (chain (next v) (v.numbers.pages_for size) start) → content v.geometry q + v.geometry.room ≤ length v.bytes)
    → length (content_of v size (chain (next v) (v.numbers.pages_for size) start)) ≡ size
unfolding content_of
content_length v start size fits inside =
    let ps : List ℕ = chain (next v) (v.numbers.pages_for size) start in
    let l = length-take size (flat_map (content_on v) ps) in
    let c : length (flat_map (content_on v) ps) ≡ v.geometry.room * v.numbers.pages_for size =
    flat_map_length (content_on v) v.geometry.room ps (λ q m. part_length (content v.geometry q) v.geometry.room v.bytes (inside q m))
    ∙ ap (λ (n : ℕ). v.geometry.room * n) (chain_length (next v) (v.numbers.pages_for size) start) in
    omega (arith, l, c, fits)

-- What a version owes: a file's bytes have room on its pages, and a directory has as many pages as its entries need, where those pages are real and
-- differ.
module _ (v : View) (Real : ℕ → Type 0)
    (fill_up : (s : ℕ) → s ≤ v.geometry.room * v.numbers.pages_for s)
    (inside : (q : ℕ) → Real q → content v.geometry q + v.geometry.room ≤ length v.bytes)
    (on_pages : (p : ℕ) → Nodup (v.directory_pages p) → ((q : ℕ) → Mem q (v.directory_pages p) → Real q)
    → directory_needs v.numbers (length (v.entries p)) ≡ length (v.directory_pages p)) where
  abbrev Own : List ℕ → Type 0
  Own ps = Nodup ps × ((q : ℕ) → Mem q ps → Real q)

  abbrev Counts : ℕ → Type 0
  Counts d = (p : ℕ) → T (good_directory d v p) → Own (owned d v p) → length (owned d v p) ≡ needs_of v.numbers (row_at d v p)

  entry_needs : (d : ℕ) → Counts d → (x : Entry) → T (in_directory true (good_directory d v) x) → Own (own d v x) → (rest : Row)
      → length (own d v x) + needs_of v.numbers rest ≡ needs_of v.numbers (entry_row v (row_at d v) x rest)
  unfolding own needs_of entry_row pages_of
  entry_needs d below vacant g h rest = omega arith
  entry_needs d below (a_file locked name date start size) g h rest =
      let n = chain_length (next v) (v.numbers.pages_for size) start in
      let c : v.numbers.pages_for (length (content_of v size (chain (next v) (v.numbers.pages_for size) start))) ≡ v.numbers.pages_for size =
      ap v.numbers.pages_for (content_length v start size (fill_up size) (λ q m. inside q (h.1 q m))) in
      omega (arith, n, c)
  entry_needs d below (a_directory name date start size) g h rest =
      let two : (q : ℕ) → occ q (v.directory_pages start ++ owned d v start) ≡ occ q (v.directory_pages start) + occ q (owned d v start) =
      λ q. occ_append q (v.directory_pages start) (owned d v start) in
      let w : directory_needs v.numbers (width (row_at d v start)) ≡ length (v.directory_pages start) =
      ap (directory_needs v.numbers) (directory_width v d start g) ∙ on_pages start (λ q. omega (arith, two q, h.0 q)) (λ q m. h.1 q (omega (arith, m, two q))) in
      omega (arith, length-append (v.directory_pages start) (owned d v start), w, below start g (λ q. omega (arith, two q, h.0 q), λ q m. h.1 q (omega (arith, m, two q))))

  row_needs : (d : ℕ) → Counts d → (ats : List ℕ) → ((x : ℕ) → Mem x ats → T (in_directory true (good_directory d v) (v.entry_at x)) × Own (own d v (v.entry_at x)))
      → length (flat_map (λ x. own d v (v.entry_at x)) ats) ≡ needs_of v.numbers (row_of v (row_at d v) ats)
  unfolding flat_map row_of needs_of
  row_needs d below [] h = refl
  row_needs d below (x ∷ xs) h =
      length-append (own d v (v.entry_at x)) (flat_map (λ y. own d v (v.entry_at y)) xs)
      ∙ ap (λ (n : ℕ). length (own d v (v.entry_at x)) + n) (row_needs d below xs (λ y m. h y (mem_tail y x xs m)))
      ∙ entry_needs d below (v.entry_at x) (h x (mem_head x xs)).0 (h x (mem_head x xs)).1 (row_of v (row_at d v) xs)

  pub owned_needs : (d : ℕ) → Counts d
  unfolding row_at good_directory
  owned_needs zero p g h = absurd g
  owned_needs (suc d) p g h =
      ap length (owned_entries d v p)
      ∙ row_needs d (owned_needs d) (v.entries p) (λ x m. (
        good_below d v p x g m,
        (λ q. omega (arith, h.0 q, own_le d v p x q m), λ q k. h.1 q (omega (arith, k, own_le d v p x q m))),
      ))
