use Rattle.std.proofs.Common.{sym}
use Rattle.vx_plan_nodes.specs.DescribeView.{copying_of}
use Rattle.vx_plan_facts.specs.FactsView.{width_of}
use Rattle.vx_check_rules.specs.DerivedView.{equality_of}
use Rattle.vx_check_rules.proofs.EqualFacts.{stand-length}
use Rattle.vx_check_rules.proofs.routed.stand_for.Goals as goal

pub returns-then-columns-others : goal.returns-then-columns-others
returns-then-columns-others c =
    sym (stand-length (width_of c.args.output.now) (copying_of c.args.copying) (equality_of c.args.input.now) (equality_of c.args.output.now) c.args.columns.now c.args.others.now c.if-columns-others.true)
