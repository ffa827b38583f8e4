use Rattle.std.proofs.Common.{◌≡◌, ◌∙◌, ◌&&◌, false, cond, sym, ap}
use Rattle.std.proofs.lemmas.Result.{IfOk-weaker}
use Rattle.vx_plan_nodes.specs.Outline.{part_of, plan_of}
use Rattle.vx_plan_nodes.specs.Plan.{all}
use Rattle.vx_plan_nodes.specs.Types.{width}
use Rattle.vx_plan_facts.specs.Equal.{equal_at}
use Rattle.vx_check_rules.specs.DerivedView.{equality_of}
use Rattle.vx_check_shown.specs.ShownPart.{is_all, routed_in_common}
use Rattle.vx_check_shown.proofs.PartSteps.{equal-same, union-same}
use Rattle.vx_check_shown.proofs.parts.part_of_union.Goals as goal

pub returns : goal.returns
returns c = λ catalog h.
    let p = plan_of c.args.left.node.now in
    let q = plan_of c.args.right.node.now in
    let x = part_of c.args.left.part.now in
    let y = part_of c.args.right.part.now in
    let k = c.facts_of-lefts.result.now in
    let l = c.facts_of-rights.result.now in
    let w = c.args.outputs in
    let some : (is_all x && is_all y) ≡ false = sym c.are_all.ensures ∙ c.if-are_all.false in
    let step = sym (ap (λ b. cond b all (routed_in_common w (equality_of k) (equality_of l) x y)) some)
    ∙ union-same (width catalog p) (width catalog q) w h.left_wide h.right_wide (equality_of k) (equal_at catalog p) (equality_of l) (equal_at catalog q)
    (equal-same catalog p k (c.facts_of-lefts.ensures catalog h.left)) (equal-same catalog q l (c.facts_of-rights.ensures catalog h.right)) x y h.left_named h.right_named in
    IfOk-weaker c.routed_in_common.result _ _ (λ r s. s ∙ step) c.routed_in_common.ensures
