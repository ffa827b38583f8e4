use Rattle.std.proofs.Common.{◌≡◌, [], drop}
use Rattle.vx_plan.specs.Lookup.{walk_onto, find_column, order_names}
use Rattle.vx_plan.proofs.lookup.ordered_columns.Given as goal

abbrev pub invariant-loop-entry : goal.invariant-loop-entry
invariant-loop-entry l =
    walk_onto (find_column l.node l.names) l.found.items (order_names (drop l.entry-index l.order))
    ≡ walk_onto (find_column l.node l.names) [] (order_names l.order)
