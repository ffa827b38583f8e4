use Rattle.std.proofs.Common.{◌≡◌, [], map, drop}
use Rattle.vx_plan.specs.Lookup.{walk_onto}
use Rattle.vx_plan_json.specs.Document.{pair_form}
use Rattle.vx_plan.specs.Resolve.{find_pair}
use Rattle.vx_plan.proofs.binary_nodes.find_pairs.Given as goal

abbrev pub invariant-loop-pair : goal.invariant-loop-pair
invariant-loop-pair l =
    walk_onto (find_pair l.node l.left l.right) l.found.items (map pair_form (drop l.pair-index l.on))
    ≡ walk_onto (find_pair l.node l.left l.right) [] (map pair_form l.on)
