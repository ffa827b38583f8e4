use Rattle.std.proofs.Common.{take}
use Rattle.vx_plan_nodes.specs.DescribeView.{copying_of}
use Rattle.vx_check_rules.specs.Behaviour.{has_copy}
use Rattle.vx_check_rules.specs.Copied.{LowCopies}
use Rattle.vx_check_rules.specs.Seen.{columns_seen}
use Rattle.vx_check_rules.proofs.copied.bits_of.Given as goal

abbrev pub invariant-loop-i : goal.invariant-loop-i
invariant-loop-i l = LowCopies (has_copy (copying_of l.copying) (take l.i (columns_seen l.columns))) l.low
