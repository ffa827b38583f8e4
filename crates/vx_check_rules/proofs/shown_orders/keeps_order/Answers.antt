use Rattle.std.proofs.Common.{◌∙◌, ◌||◌, Bool, ap, sym}
use Rattle.vx_plan_nodes.specs.Outline.{kind_of, part_of, plan_of}
use Rattle.vx_check_rules.specs.Derived.{goes_on_with}
use Rattle.vx_check_rules.proofs.shown_orders.keeps_order.Goals as goal

pub returns-then-has_one_worker-clause-keeps : goal.returns-then-has_one_worker-clause-keeps
returns-then-has_one_worker-clause-keeps c = λ catalog h.
    let rest : Bool = goes_on_with catalog (kind_of c.args.kind.now) (plan_of c.args.input.now) (part_of c.args.part.now) c.args.order.now in
    sym (ap (λ b. b || rest) (sym c.has_one_worker.ensures ∙ c.if-has_one_worker.true))

pub returns-clause-keeps : goal.returns-clause-keeps
returns-clause-keeps c = λ catalog h.
    let rest : Bool = goes_on_with catalog (kind_of c.args.kind.now) (plan_of c.args.input.now) (part_of c.args.part.now) c.args.order.now in
    c.does_go_on.ensures.on catalog h ∙ sym (ap (λ b. b || rest) (sym c.has_one_worker.ensures ∙ c.if-has_one_worker.false))
