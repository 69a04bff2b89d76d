-- The walk tells faults of entries and pages alone: it looks at no page that nobody owns, and counts nothing. So a repair is never refused with 19
-- or 3.
use mathlib.Core.Path.{◌≡◌}
use Prim.Native.Nat.{ℕ, zero, suc}
use native.Mathlib.Nat.{le_refl}
use native.Mathlib.Omega.{arith}
use native.Mathlib.Decide.{dec_lt}
use mathlib.Core.List.{List}
use lib.ListN.{replicate}
use Rattle.volume.specs.Bytes.{Bytes}
use Rattle.model.specs.Layout.{page_count}
use Rattle.model.specs.View.{View}
use Rattle.model.specs.Version1.{view}
use Rattle.model.specs.Judge.{Fault, bad_entry, bad_chain, owned_twice, marked_free, lost_page, bad_count, Judged, fault, clean, judge_directory, judge_walk}
use Rattle.view_laws.proofs.Comes.{Kept, comes_root}
use Rattle.judge.proofs.Placed.{paged}

-- 16, 17, 18 or 20
abbrev pub OfWalk : Judged → Type 0
OfWalk (fault (bad_entry d i)) = Unit {0}
OfWalk (fault (bad_chain d i passed)) = Unit {0}
OfWalk (fault (owned_twice p)) = Unit {0}
OfWalk (fault (marked_free p)) = Unit {0}
OfWalk (fault (lost_page p)) = ⊥
OfWalk (fault bad_count) = ⊥
OfWalk (clean m) = Unit {0}

abbrev FaultOfWalk : Fault → Type 0
FaultOfWalk f = OfWalk (fault f)

kept_kind : (n : ℕ) (m : List ℕ) (j : Judged) → Kept FaultOfWalk n m j → OfWalk j
kept_kind n m (fault f) h = h
kept_kind n m (clean l) h = tt

-- an image of no page
no_depth : (n : ℕ) (v : View) (m : List ℕ) → n ≡ 0 → OfWalk (judge_directory n v 0 m)
unfolding judge_directory
no_depth zero v m e = tt
no_depth (suc n) v m e = absurd (omega arith)

pub walk_kind : (b : Bytes) → OfWalk (judge_walk b)
walk_kind b = elim (dec_lt 0 (page_count b)) [
  | yes low ↦
      kept_kind (page_count b) (replicate (page_count b) 0) (judge_walk b) (comes_root {P = FaultOfWalk} (paged b)
      record { entry = λ d i inside l. tt; chain = λ d i k inside l few. tt; root = λ k l few. tt; twice = λ p l. tt; free = λ p l. tt }
      (page_count b) low (le_refl _)).kept
  | no none ↦ no_depth (page_count b) (view b) (replicate (page_count b) 0) (omega arith)
]
