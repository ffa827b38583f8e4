use Rattle.std.specs.Prelude.{◌+◌, ◌*◌}
use Rattle.vx_plan_json.proofs.reading.+nodes.Given as goal

abbrev pub decreases-read_node : goal.decreases-read_node
decreases-read_node l = 2 * l.levels

abbrev pub decreases-read_input : goal.decreases-read_input
decreases-read_input l = 2 * l.levels + 1
