use Rattle.std.proofs.Common.{sym}
use Rattle.vx_check_rules.specs.DerivedView.{equality_of}
use Rattle.vx_check_rules.proofs.EqualFacts.{lists-length}
use Rattle.vx_check_rules.proofs.equal.are_equal_lists.Goals as goal

pub returns-then-columns-others : goal.returns-then-columns-others
returns-then-columns-others c = sym (lists-length (equality_of c.args.facts.now) c.args.columns.now c.args.others.now c.if-columns-others.true)
