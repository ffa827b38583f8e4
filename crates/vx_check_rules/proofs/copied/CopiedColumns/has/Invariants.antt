use Rattle.std.proofs.Common.{◌≡◌, drop}
use Rattle.vx_plan_nodes.specs.DescribeView.{copying_of}
use Rattle.vx_check_rules.specs.Behaviour.{has_copy}
use Rattle.vx_check_rules.specs.Seen.{columns_seen}
use Rattle.vx_check_rules.proofs.copied.CopiedColumns.has.Given as goal

abbrev pub invariant-loop-i : goal.invariant-loop-i
invariant-loop-i l =
    has_copy (copying_of l.self.copying) (columns_seen l.self.columns) l.input ≡ has_copy (copying_of l.self.copying) (drop l.i (columns_seen l.self.columns)) l.input
