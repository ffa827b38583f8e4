use Rattle.std.proofs.Common.{◌≡◌, ◌∙◌, ◌||◌, Bool, true, false, ap, sym, length}
use Rattle.vx_plan_nodes.specs.Outline.{plan_of}
use Rattle.vx_plan_nodes.specs.Types.{width}
use Rattle.vx_check_rules.proofs.WidthFacts.{types_of-width}
use Rattle.vx_check_shown.proofs.totals.is_claim_total.Goals as goal

when-so : (r a f : Bool) → r ≡ a → r ≡ true → true ≡ (a || f)
when-so r a f e h = sym (ap (λ b. b || f) (sym e ∙ h))

when-not : (r a f d : Bool) → r ≡ a → r ≡ false → d ≡ f → d ≡ (a || f)
when-not r a f d e h g = g ∙ sym (ap (λ b. b || f) (sym e ∙ h))

pub returns-then-is_total : goal.returns-then-is_total
returns-then-is_total c = λ catalog is outputs.
    let wide : length c.output_types.result.now ≡ width catalog (plan_of c.args.node.now) = ap length (c.output_types.ensures catalog outputs) ∙ types_of-width catalog (plan_of c.args.node.now) in
    when-so _ _ _ (rw wide at c.is_total.ensures) c.if-is_total.true

pub returns : goal.returns
returns c = λ catalog is outputs.
    let wide : length c.output_types.result.now ≡ width catalog (plan_of c.args.node.now) = ap length (c.output_types.ensures catalog outputs) ∙ types_of-width catalog (plan_of c.args.node.now) in
    when-not _ _ _ _ (rw wide at c.is_total.ensures) c.if-is_total.false (c.does_total_follow.ensures catalog is)
