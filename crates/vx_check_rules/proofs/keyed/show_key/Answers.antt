use Rattle.std.proofs.Common.{◌∙◌, sym, ap}
use Rattle.std.specs.List.{list_any}
use Rattle.vx_check_rules.specs.Behaviour.{keys_give}
use Rattle.vx_check_rules.specs.KeyedView.{keyed_in}
use Rattle.vx_check_rules.proofs.WayFacts.{any-found, any-later}
use Rattle.vx_check_rules.proofs.keyed.show_key.Goals as goal

pub returns-then-is_given : goal.returns-then-is_given
returns-then-is_given c =
    sym (c.loop-each.invariant ∙ any-found (λ k. keys_give k c.args.columns.now) keyed_in c.args.keyed.now c.loop-each.each-index c.each-item.result _ c.loop-each-test.true (c.is_given.ensures ∙ ap (λ o. list_any (λ k. keys_give k c.args.columns.now) (keyed_in o)) c.each-item.is) c.if-is_given.true)

pub loop-each-preserved : goal.loop-each-preserved
loop-each-preserved c =
    c.loop-each.invariant ∙ any-later (λ k. keys_give k c.args.columns.now) keyed_in c.args.keyed.now c.loop-each.each-index c.each-item.result _ c.loop-each-test.true (c.is_given.ensures ∙ ap (λ o. list_any (λ k. keys_give k c.args.columns.now) (keyed_in o)) c.each-item.is) c.if-is_given.false
