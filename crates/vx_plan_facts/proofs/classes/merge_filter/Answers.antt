use Rattle.vx_plan_facts.proofs.classes.merge_filter.Goals as goal

pub returns-in-Compared-clause-equal : goal.returns-in-Compared-clause-equal
returns-in-Compared-clause-equal c e tells = rw c.in-Compared.is (c.merge_tested.ensures.equal e tells)
