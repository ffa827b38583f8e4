use Rattle.std.proofs.Common.{◌≡◌, map, drop}
use Rattle.vx_catalog_relations.specs.Catalog.{relation_at}
use Rattle.vx_plan_nodes.specs.Outline.{part_of, plan_of}
use Rattle.vx_check_options.specs.Placed.{first_two, is_given}
use Rattle.vx_check_options.proofs.parts.first_two.Given as goal

abbrev pub invariant-loop-left : goal.invariant-loop-left
invariant-loop-left l = first_two (is_given (relation_at l.catalog) (plan_of l.node) (part_of l.part)) (map part_of l.lefts) (map part_of l.rights) ≡ first_two (is_given (relation_at l.catalog) (plan_of l.node) (part_of l.part)) (map part_of (drop l.left-index l.lefts)) (map part_of l.rights)
