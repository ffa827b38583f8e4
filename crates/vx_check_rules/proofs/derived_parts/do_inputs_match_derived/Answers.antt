use Rattle.std.proofs.Common.{◌≡◌, ◌∙◌, ◌||◌, sym, ap}
use Rattle.vx_catalog_relations.specs.Catalog.{relation_at}
use Rattle.vx_plan_nodes.specs.Plan.{Plan}
use Rattle.vx_plan_nodes.specs.Outline.{plan_of}
use Rattle.vx_check_rules.specs.Rules.{inputs_match}
use Rattle.vx_check_rules.specs.DerivedView.{meets_derived}
use Rattle.vx_check_rules.proofs.KnownParts.{meets-or}
use Rattle.vx_check_rules.proofs.derived_parts.do_inputs_match_derived.Goals as goal

pub returns-then-do_inputs_match : goal.returns-then-do_inputs_match
returns-then-do_inputs_match c = λ catalog h given.
    let p : Plan = plan_of c.args.node.now in
    let match_is : c.do_inputs_match.result ≡ inputs_match p = c.do_inputs_match.ensures (relation_at catalog) given in
    c.if-do_inputs_match.true ∙ sym (meets-or (relation_at catalog) p ∙ ap (λ b. b || meets_derived (relation_at catalog) p) (sym match_is ∙ c.if-do_inputs_match.true))

pub returns-else-do_inputs_match : goal.returns-else-do_inputs_match
returns-else-do_inputs_match c = λ catalog h given.
    let p : Plan = plan_of c.args.node.now in
    let match_is : c.do_inputs_match.result ≡ inputs_match p = c.do_inputs_match.ensures (relation_at catalog) given in
    c.do_rows_meet.ensures catalog h ∙ sym (meets-or (relation_at catalog) p ∙ ap (λ b. b || meets_derived (relation_at catalog) p) (sym match_is ∙ c.if-do_inputs_match.false))
