use Rattle.std.proofs.Common.{◌≡◌, ◌++◌, ◌∙◌, true, false, ap, sym, take_all}
use Rattle.std.specs.List.{list_all}
use Rattle.vx_rows.specs.View.{row}
use Rattle.vx_ops_kernels.specs.Holds.{holds_of}
use Rattle.vx_ops_kernels.proofs.Conditions.{all-hold}
use Rattle.vx_match_join.proofs.MatchFacts.{fails-one}
use Rattle.vx_match_join.proofs.conditions.all_hold.Goals as goal

pub returns-then-not-holds : goal.returns-then-not-holds
returns-then-not-holds c =
    let cs = c.args.conditions.now in
    let both = row c.args.left.now c.args.i ++ row c.args.right.now c.args.place in
    let k = c.loop-k.k in
    let d = c.index-conditions-k.result in
    let fails : holds_of d both ≡ false = sym c.holds.ensures ∙ c.if-not-holds.true in
    let here = ap (λ z. holds_of z both) (sym c.index-conditions-k.is) ∙ fails in
    sym (all-hold cs both ∙ fails-one (λ z. holds_of z both) cs k d c.loop-k-test.true here)

pub returns : goal.returns
returns c =
    let cs = c.args.conditions.now in
    let both = row c.args.left.now c.args.i ++ row c.args.right.now c.args.place in
    sym (all-hold cs both ∙ (sym (ap (list_all (λ z. holds_of z both)) (take_all c.loop-k.k cs c.loop-k-test.false)) ∙ c.loop-k.invariant))
