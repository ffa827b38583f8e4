use Rattle.std.proofs.Common.{◌≡◌, drop, is_some}
use Rattle.vx_plan_nodes.specs.DescribeView.{copying_of}
use Rattle.vx_check_rules.specs.Behaviour.{places}
use Rattle.vx_check_rules.specs.Seen.{columns_seen}
use Rattle.vx_check_rules.proofs.places.have_places.Given as goal

abbrev pub invariant-loop-i : goal.invariant-loop-i
invariant-loop-i l = is_some (places (copying_of l.copying) (columns_seen l.columns)) ≡ is_some (places (copying_of l.copying) (drop l.i (columns_seen l.columns)))
