-- The theorems of a version that owes nothing more. Their statements are in crates/model/specs/DemandsOf.antt.
use mathlib.Core.Path.{sym, ap, ◌∙◌, subst}
use lib.Dec.{T}
use Rattle.volume.specs.Bytes.{Bytes}
use Rattle.model.specs.Version.{Version}
use Rattle.model.specs.MeaningOf.{sound, tree_of}
use Rattle.model.specs.DemandsOf.{Demand1, Demand2, Demand3, soundly, freshly}
use Rattle.version_laws.proofs.Owed.{Owed}
use Rattle.version_laws.proofs.Steps.{as_tree_lem, untouched, unsound, after_format}
use Rattle.version_laws.proofs.Lists.{demanded}

module _ {w : Version} (o : Owed w) where
  pub demand_1 : Demand1 w
  demand_1 = untouched o

  pub demand_2 : Demand2 w
  demand_2 = record { faultless = o.judged; unsound = unsound o; as_tree = as_tree_lem o; fresh = after_format o }

  pub demand_3 : Demand3 w
  demand_3 b t (soundly h e) cs rs b' run = demanded o cs b t h e rs b' run
  demand_3 b t (freshly new old v q e) cs rs b' run =
      let r = after_format o new old v in
      demanded o cs b t (subst (λ (x : Bytes). T (sound w x)) (sym q) r.0) (ap (tree_of w) q ∙ r.1 ∙ e) rs b' run
