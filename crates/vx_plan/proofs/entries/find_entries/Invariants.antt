use Rattle.std.proofs.Common.{◌≡◌, [], map, drop}
use Rattle.vx_plan.specs.Lookup.{walk_onto}
use Rattle.vx_plan_json.specs.Document.{entry_form}
use Rattle.vx_plan.specs.Shaped.{found_of}
use Rattle.vx_plan.specs.Resolve.{find_entry}
use Rattle.vx_plan.proofs.entries.find_entries.Given as goal

abbrev pub invariant-loop-entry : goal.invariant-loop-entry
invariant-loop-entry l =
    walk_onto (find_entry l.node l.names) (map found_of l.found.items) (map entry_form (drop l.entry-index l.entries)) ≡ walk_onto (find_entry l.node l.names) [] (map entry_form l.entries)
