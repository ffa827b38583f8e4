use Rattle.std.proofs.Common.{◌≡◌, drop}
use Rattle.vx_plan_nodes.specs.DescribeView.{copying_of}
use Rattle.vx_check_rules.specs.Behaviour.{has_key}
use Rattle.vx_check_rules.specs.KeyedView.{keys_seen}
use Rattle.vx_check_rules.specs.Seen.{columns_seen}
use Rattle.vx_check_rules.proofs.keyed.CopiedKeys.have.Given as goal

abbrev pub invariant-loop-place : goal.invariant-loop-place
invariant-loop-place l =
    has_key (copying_of l.copied.copying) (keys_seen l.self.keys) (columns_seen l.copied.columns)
    ≡ has_key (copying_of l.copied.copying) (drop l.place (keys_seen l.self.keys)) (columns_seen l.copied.columns)
