use Rattle.std.proofs.Common.{◌≡◌, ◌∙◌, ℕ, false, cond, sym, ap}
use Rattle.std.proofs.lemmas.Result.{IfOk-weaker}
use Rattle.vx_catalog_relations.specs.Relation.{Relation}
use Rattle.vx_catalog_relations.specs.Catalog.{relation_at}
use Rattle.vx_plan_nodes.specs.Outline.{part_of, plan_of}
use Rattle.vx_plan_nodes.specs.Plan.{Plan, one, is_one, size}
use Rattle.vx_plan_nodes.specs.Types.{width}
use Rattle.vx_plan_facts.specs.FactsView.{width_of}
use Rattle.vx_plan_facts.specs.Equal.{equal_at}
use Rattle.vx_check_rules.specs.DerivedView.{equality_of}
use Rattle.vx_check_shown.specs.ShownPart.{part_over, part_apart}
use Rattle.vx_check_shown.proofs.PartSteps.{equal-same, part-apart-same}
use Rattle.vx_check_shown.proofs.PartBelow.{over-below}
use Rattle.vx_check_shown.proofs.parts.shown_part.Goals as goal

pub returns : goal.returns
returns c = λ catalog h.
    let at : ℕ → Relation = relation_at catalog in
    let p : Plan = plan_of c.args.node.now in
    let x = part_of c.args.left.now in
    let y = part_of c.args.right.now in
    let k = c.facts_of.result.now in
    let are = c.facts_of.ensures at h.known.known in
    let several : is_one (size p) ≡ false = sym c.has_one_worker.ensures ∙ c.if-has_one_worker.false in
    let over : part_of c.in_ok-part.part ≡ part_over at p x y = c.in_ok-part.ensures catalog h in
    let step = ap (part_apart (width_of k) (equality_of k)) over
    ∙ ap (λ w. part_apart w (equality_of k) (part_over at p x y)) are.wide
    ∙ part-apart-same (width at p) (equality_of k) (equal_at at p) (equal-same at p k are) (part_over at p x y) (over-below catalog p h.known.typed x y)
    ∙ ap (λ b. cond b one (part_apart (width at p) (equal_at at p) (part_over at p x y))) (sym several) in
    IfOk-weaker c.part_apart.result _ _ (λ r s. s ∙ step) c.part_apart.ensures
