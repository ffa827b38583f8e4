use Rattle.std.proofs.Common.{◌≡◌, ◌∙◌, true, Option, Some, None, is_some, refl, sym, ap}
use Rattle.std.specs.List.{list_any}
use Rattle.vx_check_rules.specs.declared.ways.Way.{Way}
use Rattle.vx_check_rules.specs.WayView.{way_in}
use Rattle.vx_check_rules.proofs.WayFacts.{any-found, any-later}
use Rattle.vx_check_rules.proofs.ways.has_way.Goals as goal

is-there : (o : Option Way) → is_some o ≡ list_any (λ w. true) (way_in o)
is-there None = refl
is-there (Some w) = refl

pub returns-then-is_some : goal.returns-then-is_some
returns-then-is_some c =
    sym (c.loop-way.invariant ∙ any-found (λ w. true) way_in c.args.ways.now c.loop-way.way-index c.way-item.result _ c.loop-way-test.true (c.is_some.ensures ∙ is-there c.way-item.result ∙ ap (λ o. list_any (λ w. true) (way_in o)) c.way-item.is) c.if-is_some.true)

pub loop-way-preserved : goal.loop-way-preserved
loop-way-preserved c =
    c.loop-way.invariant ∙ any-later (λ w. true) way_in c.args.ways.now c.loop-way.way-index c.way-item.result _ c.loop-way-test.true (c.is_some.ensures ∙ is-there c.way-item.result ∙ ap (λ o. list_any (λ w. true) (way_in o)) c.way-item.is) c.if-is_some.false
