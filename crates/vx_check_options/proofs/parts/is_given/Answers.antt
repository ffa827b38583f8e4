use Rattle.std.proofs.Common.{◌≡◌, ◌∙◌, ◌||◌, ap, sym, false}
use Rattle.vx_catalog_relations.specs.Catalog.{relation_at}
use Rattle.vx_plan_nodes.specs.Plan.{size, is_one}
use Rattle.vx_plan_nodes.specs.Outline.{part_of, plan_of}
use Rattle.vx_check_options.specs.Options.{gives_part}
use Rattle.vx_check_options.proofs.parts.is_given.Goals as goal

pub returns-else-has_one_worker : goal.returns-else-has_one_worker
returns-else-has_one_worker c =
    let catalog = relation_at c.args.catalog.now in
    let several : is_one (size (plan_of c.args.node.now)) ≡ false = sym c.has_one_worker.ensures ∙ c.if-has_one_worker.false in
    (rw (c.ways_from.ensures catalog c.requires, c.had.ensures, c.had-else-has_one_worker.ensures) at c.show_part.ensures)
    ∙ ap (λ b. b || gives_part catalog (plan_of c.args.node.now) (part_of c.args.part.now) (part_of c.args.left.now) (part_of c.args.right.now)) (sym several)
