use Rattle.volcano_documents.proofs.names.+seek.Given as goal

abbrev pub decreases-seek : goal.decreases-seek
decreases-seek l = l.levels
