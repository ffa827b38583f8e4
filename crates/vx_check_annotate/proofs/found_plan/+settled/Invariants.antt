use Rattle.vx_check_annotate.proofs.found_plan.+settled.Given as goal

abbrev pub decreases-settled : goal.decreases-settled
decreases-settled l = l.rounds
