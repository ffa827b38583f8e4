use Rattle.std.proofs.Common.{◌∙◌}
use Rattle.vx_check_rules.proofs.EqualFacts.{equal-swap}
use Rattle.vx_check_rules.proofs.equal.is_equal_to.Goals as goal

pub returns-in-Some-clause-others : goal.returns-in-Some-clause-others
returns-in-Some-clause-others c = rw c.in-Some.is (c.are_equal.ensures ∙ equal-swap c.args.facts.now c.args.column c.in-Some.other)
