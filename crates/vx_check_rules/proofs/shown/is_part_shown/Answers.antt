use Rattle.std.proofs.Common.{◌≡◌, ◌∙◌, Bool, ◌||◌, false, sym, ap}
use Rattle.std.specs.List.{list_any}
use Rattle.vx_plan_nodes.specs.Plan.{Plan, claim, size, is_one}
use Rattle.vx_plan_nodes.specs.Outline.{plan_of}
use Rattle.vx_check_rules.specs.Behaviour.{gives, ways_if_fit}
use Rattle.vx_check_rules.proofs.Exact.{parts-if-fit}
use Rattle.vx_check_rules.proofs.shown.is_part_shown.Goals as goal

pub returns-else-has_one_worker : goal.returns-else-has_one_worker
returns-else-has_one_worker c = λ catalog given.
    let p : Plan = plan_of c.args.node.now in
    let several : is_one (size p) ≡ false = sym c.has_one_worker.ensures ∙ c.if-has_one_worker.false in
    let given_by : Bool = list_any (λ w. gives w (claim p).part) (ways_if_fit catalog p) in
    let shown : c.show_part.result ≡ given_by = rw (c.ways_if_fit.ensures catalog given, c.claimed_part.ensures) at c.show_part.ensures in
    shown ∙ (ap (λ (b : Bool). b || given_by) (sym several) ∙ sym (parts-if-fit catalog p (claim p).part))
