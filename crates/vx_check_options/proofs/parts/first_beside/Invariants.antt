use Rattle.std.proofs.Common.{◌≡◌, map, drop}
use Rattle.std.specs.Prelude.{find}
use Rattle.vx_catalog_relations.specs.Catalog.{relation_at}
use Rattle.vx_plan_nodes.specs.Outline.{part_of, plan_of}
use Rattle.vx_check_options.specs.Placed.{is_given}
use Rattle.vx_check_options.proofs.parts.first_beside.Given as goal

abbrev pub invariant-loop-right : goal.invariant-loop-right
invariant-loop-right l = find (is_given (relation_at l.catalog) (plan_of l.node) (part_of l.part) (part_of l.left)) (map part_of l.rights) ≡ find (is_given (relation_at l.catalog) (plan_of l.node) (part_of l.part) (part_of l.left)) (map part_of (drop l.right-index l.rights))
