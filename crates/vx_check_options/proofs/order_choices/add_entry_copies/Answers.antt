use Rattle.std.proofs.Common.{◌∙◌, ◌++◌, ℕ, List, map, ap, sym, arith}
use Rattle.std.proofs.lemmas.List.{append-nil}
use Rattle.vx_rows_values.specs.declared.order.OrderEntry.{OrderEntry}
use Rattle.vx_check_rules.specs.Rules.{entry_at}
use Rattle.vx_check_options.proofs.LoopLists.{whole, map-next}
use Rattle.vx_check_options.proofs.order_choices.add_entry_copies.Goals as goal

pub loop-column-preserved : goal.loop-column-preserved
loop-column-preserved c =
    map-next (λ n. entry_at n c.args.entry) c.as_slice-column-items.result.now c.loop-column.column-index 0 _ _ c.args.found.now.items c.loop-column-test.true c.loop-column.invariant c.in_ok-push.ensures.items

pub loop-column-init : goal.loop-column-init
loop-column-init c = sym (append-nil c.args.found.now.items)

pub returns : goal.returns
returns c =
    let all : List ℕ → List OrderEntry = λ cs. c.args.found.now.items ++ map (λ n. entry_at n c.args.entry) cs in
    whole all c.as_slice-column-items.result.now c.loop-column.column-index _ (omega (arith, c.loop-column-test.false)) c.loop-column.invariant
    ∙ ap all (c.as_slice-column-items.ensures.value ∙ (rw c.new-columns.ensures.items at c.in_ok-add_copies.ensures))
