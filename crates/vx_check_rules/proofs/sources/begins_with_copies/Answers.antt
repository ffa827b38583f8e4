use Rattle.std.proofs.Common.{sym}
use Rattle.vx_plan_nodes.specs.DescribeView.{copying_of}
use Rattle.vx_check_rules.proofs.FrontFacts.{copies-short}
use Rattle.vx_check_rules.proofs.sources.begins_with_copies.Goals as goal

pub returns-then-input-order : goal.returns-then-input-order
returns-then-input-order c = sym (copies-short (copying_of c.args.copying) c.args.order.now c.args.input.now c.if-input-order.true)
