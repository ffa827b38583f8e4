use Rattle.std.proofs.Common.{◌≡◌, ◌∙◌, sym, ap, true, false}
use Rattle.std.specs.List.{list_any}
use Rattle.vx_plan_nodes.specs.Plan.{size, is_one}
use Rattle.vx_plan_nodes.specs.Outline.{plan_of}
use Rattle.vx_check_rules.specs.Rules.{inputs_match}
use Rattle.vx_check_rules.specs.Behaviour.{behaviour, fits}
use Rattle.vx_check_rules.proofs.Exact.{fits-exactly}
use Rattle.vx_check_rules.proofs.inputs.do_inputs_match.Goals as goal

pub returns-else-has_one_worker : goal.returns-else-has_one_worker
returns-else-has_one_worker c = λ catalog given.
    let p = plan_of c.args.node.now in
    let several : is_one (size p) ≡ false = sym c.has_one_worker.ensures ∙ c.if-has_one_worker.false in
    let is : inputs_match p ≡ fits (behaviour catalog p) = rw several at (fits-exactly catalog p) in
    c.has_way.ensures ∙ (ap (list_any (λ w. true)) (c.node_ways.ensures catalog given) ∙ sym is)
