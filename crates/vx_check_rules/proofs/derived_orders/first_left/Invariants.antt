use Rattle.std.proofs.Common.{◌≡◌, drop}
use Rattle.vx_plan_facts.specs.ColumnSetView.{set_of_columns}
use Rattle.vx_check_rules.specs.Passed.{past}
use Rattle.vx_check_rules.specs.Seen.{order_seen}
use Rattle.vx_check_rules.proofs.derived_orders.first_left.Given as goal

abbrev pub invariant-loop-place : goal.invariant-loop-place
invariant-loop-place l = past (set_of_columns l.set) (drop l.from (order_seen l.order)) ≡ past (set_of_columns l.set) (drop l.place (order_seen l.order))
