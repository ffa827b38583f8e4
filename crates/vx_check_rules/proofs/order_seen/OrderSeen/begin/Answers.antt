use Rattle.std.proofs.Common.{◌∙◌, ◌+◌, ◌<◌, ◌&&◌, ℕ, false, List, length, drop, sym, ap, arith}
use Rattle.vx_rows_values.specs.declared.order.OrderEntry.{OrderEntry}
use Rattle.vx_check_rules.specs.Rules.{is_front}
use Rattle.vx_check_rules.specs.Seen.{order_seen}
use Rattle.vx_check_rules.proofs.FrontFacts.{front-short, front-at}
use Rattle.vx_check_rules.proofs.order_seen.OrderSeen.begin.Goals as goal

abbrev none : OrderEntry
none = record { column = 0; falling = false }

pub returns-then-order-len : goal.returns-then-order-len
returns-then-order-len c = sym (front-short (order_seen c.args.self) c.args.order.now (omega (arith, c.if-order-len.true, c.len.ensures)))

pub returns-then-not-is_same : goal.returns-then-not-is_same
returns-then-not-is_same c =
    let seen : List OrderEntry = order_seen c.args.self in
    let given : List OrderEntry = c.args.order.now in
    let i : ℕ = c.loop-i.i in
    let within : i < length seen = omega (arith, c.loop-i-test.true, c.len-i-end.ensures) in
    let here = front-at seen given i c.at.result none within (omega (arith, within, c.loop-i.invariant.as_long)) c.at.ensures in
    sym (c.loop-i.invariant.rest ∙ (here ∙ ap (λ b. b && is_front (drop (i + 1) seen) (drop (i + 1) given)) (sym c.is_same.ensures ∙ c.if-not-is_same.true)))

pub loop-i-preserved : goal.loop-i-preserved
loop-i-preserved c =
    let seen : List OrderEntry = order_seen c.args.self in
    let given : List OrderEntry = c.args.order.now in
    let i : ℕ = c.loop-i.i in
    let within : i < length seen = omega (arith, c.loop-i-test.true, c.len-i-end.ensures) in
    let here = front-at seen given i c.at.result none within (omega (arith, within, c.loop-i.invariant.as_long)) c.at.ensures in
    record {
      as_long = c.loop-i.invariant.as_long;
      rest = c.loop-i.invariant.rest ∙ (here ∙ ap (λ b. b && is_front (drop (i + 1) seen) (drop (i + 1) given)) (sym c.is_same.ensures ∙ c.if-not-is_same.false));
    }
