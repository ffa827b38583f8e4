use Rattle.std.proofs.Common.{◌∙◌, sym, ap}
use Rattle.std.specs.List.{list_any}
use Rattle.vx_plan_nodes.specs.Outline.{part_of}
use Rattle.vx_check_rules.specs.Behaviour.{gives}
use Rattle.vx_check_rules.specs.WayView.{way_in}
use Rattle.vx_check_rules.proofs.WayFacts.{any-found, any-later}
use Rattle.vx_check_rules.proofs.ways.show_part.Goals as goal

pub returns-then-is_given : goal.returns-then-is_given
returns-then-is_given c =
    sym (c.loop-way.invariant ∙ any-found (λ w. gives w (part_of c.args.wanted.now)) way_in c.args.ways.now c.loop-way.way-index c.way-item.result _ c.loop-way-test.true (c.is_given.ensures ∙ ap (λ o. list_any (λ w. gives w (part_of c.args.wanted.now)) (way_in o)) c.way-item.is) c.if-is_given.true)

pub loop-way-preserved : goal.loop-way-preserved
loop-way-preserved c =
    c.loop-way.invariant ∙ any-later (λ w. gives w (part_of c.args.wanted.now)) way_in c.args.ways.now c.loop-way.way-index c.way-item.result _ c.loop-way-test.true (c.is_given.ensures ∙ ap (λ o. list_any (λ w. gives w (part_of c.args.wanted.now)) (way_in o)) c.way-item.is) c.if-is_given.false
