-- The theorems of version 2: it owes nothing more, so the demands that `version_laws` proves of any version are its own. Their statements are in
-- crates/model/specs/DemandsOf.antt, at `v2`.
use Rattle.model.specs.DemandsOf.{Demand1, Demand2, Demand3}
use Rattle.version_laws.proofs.Headline as Any
use Rattle.model2.specs.Calls.{v2}
use Rattle.laws2.proofs.Owed2.{owed2}

pub demand_1 : Demand1 v2
demand_1 = Any.demand_1 owed2

pub demand_2 : Demand2 v2
demand_2 = Any.demand_2 owed2

pub demand_3 : Demand3 v2
demand_3 = Any.demand_3 owed2
