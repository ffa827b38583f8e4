use Rattle.std.proofs.Common.{◌≡◌, map, flat_map, drop}
use Rattle.vx_catalog_relations.specs.Catalog.{relation_at}
use Rattle.vx_plan_nodes.specs.Outline.{part_of, plan_of}
use Rattle.vx_check_options.specs.Options.{parts_over, with_parts}
use Rattle.vx_check_options.proofs.parts.add_beside.Given as goal

abbrev pub invariant-loop-right : goal.invariant-loop-right
invariant-loop-right l = with_parts (map part_of l.fn.parts.items) (flat_map (parts_over (relation_at l.catalog) (plan_of l.node) (part_of l.left)) (map part_of l.rights))
    ≡ with_parts (map part_of l.parts.items) (flat_map (parts_over (relation_at l.catalog) (plan_of l.node) (part_of l.left)) (map part_of (drop l.right-index l.rights)))
