use Rattle.std.proofs.Common.{◌≡◌, ◌∙◌, ◌||◌, sym, ap}
use Rattle.vx_catalog_relations.specs.Catalog.{relation_at}
use Rattle.vx_plan_nodes.specs.Plan.{Plan, claim}
use Rattle.vx_plan_nodes.specs.Outline.{plan_of}
use Rattle.vx_check_rules.specs.Rules.{part_shown}
use Rattle.vx_check_rules.specs.Derived.{part_derived}
use Rattle.vx_check_rules.proofs.derived_parts.is_part_shown_derived.Goals as goal

pub returns-then-is_part_shown : goal.returns-then-is_part_shown
returns-then-is_part_shown c = λ catalog h given.
    let p : Plan = plan_of c.args.node.now in
    let shown_is : c.is_part_shown.result ≡ part_shown (relation_at catalog) p = c.is_part_shown.ensures (relation_at catalog) given in
    c.if-is_part_shown.true ∙ sym (ap (λ b. b || part_derived (relation_at catalog) p (claim p).part) (sym shown_is ∙ c.if-is_part_shown.true))

pub returns-else-is_part_shown : goal.returns-else-is_part_shown
returns-else-is_part_shown c = λ catalog h given.
    let p : Plan = plan_of c.args.node.now in
    let shown_is : c.is_part_shown.result ≡ part_shown (relation_at catalog) p = c.is_part_shown.ensures (relation_at catalog) given in
    c.is_part_derived.ensures catalog h given ∙ sym (ap (λ b. b || part_derived (relation_at catalog) p (claim p).part) (sym shown_is ∙ c.if-is_part_shown.false))
