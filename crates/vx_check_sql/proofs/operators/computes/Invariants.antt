use Rattle.std.proofs.Common.{◌≡◌, map, drop}
use Rattle.std.specs.List.{list_any}
use Rattle.vx_plan_nodes.specs.Outline.{entry_of}
use Rattle.vx_check_sql.specs.Operators.{is_computed}
use Rattle.vx_check_sql.proofs.operators.computes.Given as goal

abbrev pub invariant-loop-entry : goal.invariant-loop-entry
invariant-loop-entry l =
    list_any is_computed (map entry_of (drop l.entry-index l.entries)) ≡ list_any is_computed (map entry_of l.entries)
