-- The theorem of paper 02 §4. Its statement is in specs/Demand.antt; it has no condition that its statement does not show.
use Rattle.link_list.specs.Demand.{LinkDemand}
use Rattle.link_list.proofs.Files.{list_read_back, file_of_list}
use Rattle.link_list.proofs.Steps.{unsound_alike, link_as_tree, steps_demanded}
use Rattle.link_list.proofs.Refusals.{link_untouched}
use Rattle.link_list.proofs.ReadBack.{in_turn_lem, reads_back_lem}

pub link_demand : LinkDemand
link_demand = record {
  untouched = link_untouched;
  unsound = unsound_alike;
  as_tree = link_as_tree;
  lists = steps_demanded;
  lists_and_bytes = record { read_back = list_read_back; written_so = λ v small rs e. file_of_list v rs small e };
  in_turn = in_turn_lem;
  reads_back = reads_back_lem;
}
