use Rattle.std.proofs.Common.{◌≡◌, [], map, drop}
use Rattle.vx_catalog_relations.specs.Catalog.{relation_at}
use Rattle.vx_plan_nodes.specs.Outline.{part_of, plan_of}
use Rattle.vx_check_options.specs.Options.{parts_among, with_parts}
use Rattle.vx_check_options.proofs.parts.parts_among.Given as goal

abbrev pub invariant-loop-left : goal.invariant-loop-left
invariant-loop-left l = with_parts [] (parts_among (relation_at l.catalog) (plan_of l.node) (map part_of l.lefts) (map part_of l.rights))
    ≡ with_parts (map part_of l.parts.items) (parts_among (relation_at l.catalog) (plan_of l.node) (map part_of (drop l.left-index l.lefts)) (map part_of l.rights))
