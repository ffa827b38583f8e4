use Rattle.std.proofs.Common.{◌≡◌, [], map, drop}
use Rattle.vx_plan.specs.Lookup.{walk_onto}
use Rattle.vx_plan_json.specs.Document.{output_form}
use Rattle.vx_plan.specs.Resolve.{find_kept}
use Rattle.vx_plan.proofs.entries.find_all_kept.Given as goal

abbrev pub invariant-loop-output : goal.invariant-loop-output
invariant-loop-output l =
    walk_onto (find_kept l.node l.names) l.found.items (map output_form (drop l.output-index l.outputs)) ≡ walk_onto (find_kept l.node l.names) [] (map output_form l.outputs)
