-- The theorems, each put together from the laws of the files before. Their statements are in crates/model/specs/Demands.antt; none has a condition that
-- its statement does not show.
use mathlib.Core.Path.{sym, ap, ◌∙◌, subst}
use lib.Dec.{T}
use Rattle.volume.specs.Bytes.{Bytes}
use Rattle.model.specs.Sound.{sound}
use Rattle.model.specs.Image.{tree_of}
use Rattle.model.specs.Demands.{Demand1, Demand2, Demand3, soundly, freshly, Chains, LockTwice}
use Rattle.laws.proofs.Steps.{as_tree_lem, untouched, unsound, buffer_refused, after_format, format_answers}
use Rattle.laws.proofs.Judged.{judge_sound}
use Rattle.laws.proofs.Lists.{demanded}
use Rattle.laws.proofs.Exact.{exact_names}
use Rattle.laws.proofs.Stays.{only_touched_lem}
use Rattle.laws.proofs.Broken.{never_broken}
use Rattle.laws.proofs.Twice as Marks

pub demand_1 : Demand1
demand_1 = untouched

pub demand_2 : Demand2
demand_2 = record { faultless = judge_sound; unsound = unsound; buffers = buffer_refused; as_tree = as_tree_lem; formats = format_answers; fresh = after_format; only_touched = only_touched_lem; names = exact_names }

pub demand_3 : Demand3
demand_3 b t (soundly h e) cs rs b' run = demanded cs b t h e rs b' run
demand_3 b t (freshly old v q e) cs rs b' run =
    let r = after_format old v in
    demanded cs b t (subst (λ (x : Bytes). T (sound x)) (sym q) r.0) (ap tree_of q ∙ r.1 ∙ e) rs b' run

-- paper 02 §9
pub unbroken : Chains
unbroken = never_broken

-- paper 02 §10
pub lock_twice : LockTwice
lock_twice = Marks.lock_twice
