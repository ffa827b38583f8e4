use Rattle.std.proofs.Common.{◌≡◌, map}
use Rattle.std.specs.Vec.Iter.{into_iter_items}
use Rattle.vx_plan_nodes.specs.Plan.{routed}
use Rattle.vx_plan_nodes.specs.Outline.{part_of, route_of}
use Rattle.vx_check_options.specs.Options.{with_parts}
use Rattle.vx_check_options.proofs.parts.add_routed.Given as goal

abbrev pub invariant-loop-list : goal.invariant-loop-list
invariant-loop-list l = record {
  next : (goal.iterator-loop-list).can_next l.list-iterator;
  finite : (goal.iterator-loop-list).is_finite l.list-iterator;
  rest : with_parts (map part_of l.fn.parts.items) (map (λ v. routed (route_of l.route) v.items) l.fn.lists.items)
      ≡ with_parts (map part_of l.parts.items) (map (λ v. routed (route_of l.route) v.items) (into_iter_items l.list-iterator));
}
