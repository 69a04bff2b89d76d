use Rattle.link_numbers.proofs.+number_from.Given as goal

abbrev pub decreases-number_from : goal.decreases-number_from
decreases-number_from l = l.most
