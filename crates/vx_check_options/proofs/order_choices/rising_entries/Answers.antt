use Rattle.std.proofs.Common.{◌∙◌, Bool, [], ◌∷◌, map, arith}
use Rattle.std.specs.List.{list_any, filter}
use Rattle.vx_rows_values.specs.declared.order.OrderEntry.{OrderEntry}
use Rattle.vx_plan_nodes.specs.Outline.{part_of}
use Rattle.vx_check_rules.specs.Rules.{rises_by}
use Rattle.vx_check_options.proofs.LoopLists.{whole, filter-next, filter-skip}
use Rattle.vx_check_options.proofs.PartLists.{some-found}
use Rattle.vx_check_options.proofs.order_choices.rising_entries.Goals as goal
use Rattle.vx_check_options.proofs.order_choices.rising_entries.Goals.{then-is_some+in_ok-push, else-is_some}

pub loop-entry-preserved : goal.loop-entry-preserved
loop-entry-preserved c =
    let test : OrderEntry → Bool = λ e. list_any (λ x. rises_by x (e ∷ [])) (map part_of c.args.parts.now) in
    let is = c.is_some.ensures ∙ some-found _ c.args.parts.now c.first_rising.result c.first_rising.ensures in
    elim c.if-is_some.branch [
      | then-is_some+in_ok-push w ↦ rw (w.rising-is, w.in_ok-push.ensures.items) (filter-next test c.args.entries.now c.loop-entry.entry-index _ _ _ c.loop-entry-test.true c.loop-entry.invariant is w.if-is_some.true)
      | else-is_some w ↦ rw w.rising-is (filter-skip test c.args.entries.now c.loop-entry.entry-index _ _ _ c.loop-entry-test.true c.loop-entry.invariant is w.if-is_some.false)
    ]

pub loop-entry-init : goal.loop-entry-init
loop-entry-init c = c.new-rising.ensures.items

pub returns : goal.returns
returns c =
    let test : OrderEntry → Bool = λ e. list_any (λ x. rises_by x (e ∷ [])) (map part_of c.args.parts.now) in
    whole (filter test) c.args.entries.now c.loop-entry.entry-index _ (omega (arith, c.loop-entry-test.false)) c.loop-entry.invariant
