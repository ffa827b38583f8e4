use Rattle.std.proofs.Common.{◌∙◌, List, map, flat_map, refl, sym, arith}
use Rattle.std.proofs.lemmas.List.{at_drop_all}
use Rattle.vx_catalog_relations.specs.Catalog.{relation_at}
use Rattle.vx_plan_nodes.specs.declared.typed.Part as rust_part
use Rattle.vx_plan_nodes.specs.Plan.{Part}
use Rattle.vx_plan_nodes.specs.Outline.{part_of, plan_of}
use Rattle.vx_check_options.specs.Options.{parts_over, parts_among, with_parts}
use Rattle.vx_check_options.proofs.PartLists.{loop-more}
use Rattle.vx_check_options.proofs.parts.parts_among.Goals as goal

pub loop-left-preserved : goal.loop-left-preserved
loop-left-preserved c =
    let over = λ (x : Part). flat_map (parts_over (relation_at c.args.catalog.now) (plan_of c.args.node.now) x) (map part_of c.args.rights.now) in
    loop-more (λ (ps : List rust_part.Part). flat_map over (map part_of ps)) (λ p. over (part_of p)) (λ p ps. refl)
    c.args.lefts.now c.loop-left.left-index _ c.loop-left-test.true c.left-item.is _ _ _ c.loop-left.invariant c.in_ok-add_beside.ensures

pub loop-left-init : goal.loop-left-init
loop-left-init c = rw c.new-parts.ensures.items refl

pub returns : goal.returns
returns c =
    let all : List rust_part.Part → List Part = λ ps. with_parts (map part_of c.loop-left.parts.items) (parts_among (relation_at c.args.catalog.now) (plan_of c.args.node.now) (map part_of ps) (map part_of c.args.rights.now)) in
    sym (c.loop-left.invariant ∙ at_drop_all all c.args.lefts.now c.loop-left.left-index (omega (arith, c.loop-left-test.false)))
