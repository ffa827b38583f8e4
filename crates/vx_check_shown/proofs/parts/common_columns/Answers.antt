use Rattle.std.proofs.Common.{sym}
use Rattle.vx_check_rules.specs.DerivedView.{equality_of}
use Rattle.vx_check_shown.proofs.PartSteps.{common-length}
use Rattle.vx_check_shown.proofs.parts.common_columns.Goals as goal

pub returns-then-columns-others : goal.returns-then-columns-others
returns-then-columns-others c =
    sym (common-length c.args.outputs (equality_of c.args.left.now) (equality_of c.args.right.now) c.args.columns.now c.args.others.now c.if-columns-others.true)
