use Rattle.std.proofs.Common.{List, map, flat_map, refl}
use Rattle.vx_catalog_relations.specs.Catalog.{relation_at}
use Rattle.vx_plan_nodes.specs.declared.typed.Part as rust_part
use Rattle.vx_plan_nodes.specs.Outline.{part_of, plan_of}
use Rattle.vx_check_options.specs.Options.{parts_over}
use Rattle.vx_check_options.proofs.PartLists.{loop-more}
use Rattle.vx_check_options.proofs.parts.add_beside.Goals as goal

pub loop-right-preserved : goal.loop-right-preserved
loop-right-preserved c =
    let over = parts_over (relation_at c.args.catalog.now) (plan_of c.args.node.now) (part_of c.args.left.now) in
    loop-more (λ (ps : List rust_part.Part). flat_map over (map part_of ps)) (λ p. over (part_of p)) (λ p ps. refl)
    c.args.rights.now c.loop-right.right-index _ c.loop-right-test.true c.right-item.is _ _ _ c.loop-right.invariant
    (rw (c.ways_from.ensures (relation_at c.args.catalog.now) c.requires, c.had.ensures, c.had-in-loop-right.ensures) at c.in_ok-add_ways.ensures)
