-- The rows of a file that was judged, a step at a time.
use mathlib.Core.Path.{◌≡◌, ap, ◌∙◌}
use mathlib.Core.Option.{none, some}
use Prim.Native.Nat.{ℕ, suc, ◌+◌, ◌-◌, ◌*◌, ◌≤◌, ◌<◌}
use native.Mathlib.Omega.{arith}
use mathlib.Core.List.{List, ◌∷◌}
use lib.ListN.{length, set, length-set}
use Rattle.volume.specs.Bytes.{Bytes, put}
use Rattle.std.specs.Prelude.{if◌then◌else◌}
use Rattle.link_list.specs.declared.Row.{Row}
use Rattle.link_list.specs.Links.{is_accession, figure_of}
use Rattle.link_numbers.proofs.Puts.{put_cons, put_nil}
use Rattle.link_rows.specs.declared.Step.{Step}
use Rattle.link_rows.specs.Told.{step_at, steps_from, numbers_of}

-- ---- a step

abbrev placed : (v : Bytes) (left i at : ℕ) → List ℕ → List ℕ
placed v left i at ns = put (3 * i) (numbers_of (steps_from v left at)) ns

one_step : (v : Bytes) (left at : ℕ) (s : Step) → s ≡ step_at v at → 0 < left → steps_from v left at ≡ s.row ∷ steps_from v (left - 1) s.next
unfolding steps_from
one_step v left at s e h = let q : left ≡ suc (left - 1) = omega arith in ap (λ (n : ℕ). steps_from v n at) q ∙ rw e

-- so many rows, of which i are behind
pub place_turn : (v : Bytes) (count i at : ℕ) (s : Step) (ns : List ℕ) → s ≡ step_at v at → i < count → 3 * count ≤ length ns
    → placed v (count - i) i at ns
    ≡ placed v (count - (i + 1)) (i + 1) s.next (set (set (set ns (3 * i) s.row.count) (3 * i + 1) s.row.value) (3 * i + 2) s.row.figure)
unfolding numbers_of
place_turn v count i at s ns e l h =
    let rest : List ℕ = numbers_of (steps_from v (count - i - 1) s.next) in
    let a : ℕ = s.row.count in
    let b : ℕ = s.row.value in
    let f : ℕ = s.row.figure in
    let left : count - i - 1 ≡ count - (i + 1) = omega arith in
    let two : 3 * i + 1 + 1 ≡ 3 * i + 2 = omega arith in
    let three : 3 * i + 2 + 1 ≡ 3 * (i + 1) = omega arith in
    let ns₁ : List ℕ = set ns (3 * i) a in
    let ns₂ : List ℕ = set ns₁ (3 * i + 1) b in
    let ns₃ : List ℕ = set ns₂ (3 * i + 2) f in
    let l₁ : length ns₁ ≡ length ns = length-set ns (3 * i) a in
    let l₂ : length ns₂ ≡ length ns₁ = length-set ns₁ (3 * i + 1) b in
    ap (λ (rs : List Row). put (3 * i) (numbers_of rs) ns) (one_step v (count - i) at s e (omega arith))
    ∙ put_cons (3 * i) a (b ∷ f ∷ rest) ns (omega arith)
    ∙ put_cons (3 * i + 1) b (f ∷ rest) ns₁ (omega arith)
    ∙ ap (λ (k : ℕ). put k (f ∷ rest) ns₂) two
    ∙ put_cons (3 * i + 2) f rest ns₂ (omega arith)
    ∙ ap (λ (k : ℕ). put k rest ns₃) three
    ∙ ap (λ (k : ℕ). put (3 * (i + 1)) (numbers_of (steps_from v k s.next)) ns₃) left

pub place_end : (v : Bytes) (count i at : ℕ) (ns : List ℕ) → count ≤ i → placed v (count - i) i at ns ≡ ns
unfolding steps_from numbers_of
place_end v count i at ns h = let e : count - i ≡ 0 = omega arith in rw e (put_nil (3 * i) ns)

pub figure_turn : (v : Bytes) (count value rows i at : ℕ) (s : Step) → s ≡ step_at v at → i < rows
    → figure_of count value (steps_from v (rows - i) at) ≡ (if is_accession count value s.row then some s.row.figure else figure_of count value (steps_from v (rows - (i + 1)) s.next))
unfolding figure_of
figure_turn v count value rows i at s e l =
    let left : rows - i - 1 ≡ rows - (i + 1) = omega arith in
    ap (figure_of count value) (one_step v (rows - i) at s e (omega arith))
    ∙ ap (λ (k : ℕ). if is_accession count value s.row then some s.row.figure else figure_of count value (steps_from v k s.next)) left

pub figure_end : (v : Bytes) (count value rows i at : ℕ) → rows ≤ i → figure_of count value (steps_from v (rows - i) at) ≡ none
unfolding figure_of steps_from
figure_end v count value rows i at h = let e : rows - i ≡ 0 = omega arith in rw e

pub place_first : (v : Bytes) (count : ℕ) (ns : List ℕ) → placed v (count - 0) 0 0 ns ≡ put 0 (numbers_of (steps_from v count 0)) ns
place_first v count ns = let e : count - 0 ≡ count = omega arith in rw e
