use Rattle.volcano_documents.proofs.faults.+first_misfit.Given as goal

abbrev pub decreases-first_misfit : goal.decreases-first_misfit
decreases-first_misfit l = l.levels
