use Rattle.std.proofs.Common.{◌≡◌, ◌∙◌, ◌++◌, [], List, Vec, Global, map, drop, ap, sym, arith}
use Rattle.std.proofs.lemmas.List.{append-nil, drop_all}
use Rattle.vx_rows_values.specs.declared.order.OrderEntry.{OrderEntry}
use Rattle.vx_plan_nodes.specs.DescribeView.{copying_of}
use Rattle.vx_check_rules.specs.Seen.{order_seen}
use Rattle.vx_check_options.specs.Placed.{order_along}
use Rattle.vx_check_options.proofs.PlaceLists.{along-past, along-none, along-some}
use Rattle.vx_check_options.proofs.placing.order_along.Goals as goal

pub returns : goal.returns
returns c =
    let i = c.loop-i.i in
    let entries = c.loop-i.entries.items in
    let k = copying_of c.args.copying in
    let past : drop i c.args.choices.now ≡ [] = drop_all i c.args.choices.now (omega (arith, c.loop-i-test.false)) in
    sym
    (c.loop-i.invariant ∙ ap (λ (ps : List (Vec OrderEntry Global)). entries ++ order_along k (drop i (order_seen c.args.order)) (map (λ (v : Vec OrderEntry Global). v.items) ps)) past
    ∙ ap (λ l. entries ++ l) (along-past k (drop i (order_seen c.args.order))) ∙ append-nil entries)

pub returns-in_default : goal.returns-in_default
returns-in_default c =
    along-none (copying_of c.args.copying) (order_seen c.args.order) c.args.choices.now c.loop-i.i c.index-choices-i.result _ c.loop-i.entries.items _ c.loop-i-test.true c.index-choices-i.is (rw c.as_slice.ensures.value at c.next_entry.ensures)
    c.loop-i.invariant c.in_default.is

pub loop-i-preserved : goal.loop-i-preserved
loop-i-preserved c =
    rw c.in_ok-push.ensures.items
    (along-some (copying_of c.args.copying) (order_seen c.args.order) c.args.choices.now c.loop-i.i c.index-choices-i.result _ c.loop-i.entries.items _ c.in-Some.entry c.loop-i-test.true c.index-choices-i.is
    (rw c.as_slice.ensures.value at c.next_entry.ensures) c.loop-i.invariant c.in-Some.is)
