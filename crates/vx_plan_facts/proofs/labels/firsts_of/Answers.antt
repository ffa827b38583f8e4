use Rattle.std.proofs.Common.{arith}
use Rattle.vx_plan_facts.proofs.ClassFacts.{IsFirstAlike, alike-next, alike-length, alike-tells, alike-named}
use Rattle.vx_plan_facts.proofs.labels.firsts_of.Goals as goal

pub loop-column-preserved : goal.loop-column-preserved
loop-column-preserved c =
    let i = c.loop-column.invariant in
    let own : IsFirstAlike c.args.labels.now c.loop-column.column c.first_alike.result = record { before = c.first_alike.ensures.before; alike = c.first_alike.ensures.alike; first = c.first_alike.ensures.first } in
    (alike-length c.loop-column.firsts.items _ _ _ i.0 c.in_ok-push.ensures.items, alike-next c.args.labels.now c.loop-column.column _ _ c.first_alike.result i.0 i.1 c.in_ok-push.ensures.items own)

pub returns-clause-equal : goal.returns-clause-equal
returns-clause-equal c = alike-tells c.args.labels.now c.loop-column.firsts.items (λ d h. c.loop-column.invariant.1 d (omega (arith, c.loop-column.invariant.0, h)))

pub returns-clause-named : goal.returns-clause-named
returns-clause-named c = alike-named c.args.labels.now c.loop-column.firsts.items (λ d h. c.loop-column.invariant.1 d (omega (arith, c.loop-column.invariant.0, h)))
