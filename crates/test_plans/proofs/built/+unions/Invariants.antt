use Rattle.test_plans.proofs.built.+unions.Given as goal

-- both halves of two scans or more are fewer
abbrev pub decreases-unions : goal.decreases-unions
decreases-unions l = l.scans
