use Rattle.std.proofs.Common.{◌≡◌, ◌∙◌, Bool, ap, sym, subst, length, ℕ, List}
use Rattle.vx_plan_nodes.specs.Plan.{left_order, right_order}
use Rattle.vx_rows.specs.View.{AreColumns}
use Rattle.vx_match.proofs.MergeJoins.{lefts-on, rights-on, falls-alike, merge-begins}
use Rattle.vx_match.proofs.MergeStarts.{merge-starts}
use Rattle.vx_match.proofs.merge_join.MergeJoin.new.Goals as goal

pub new-requires-clause-left : goal.new-requires-clause-left
new-requires-clause-left c =
    let columns = lefts-on c.args.falls.now c.args.on.now c.requires.falls c.in_ok-lefts.lefts.items c.in_ok-lefts.ensures in
    subst (AreColumns (length c.args.left.now)) (sym columns) c.requires.left

pub new-requires-clause-right : goal.new-requires-clause-right
new-requires-clause-right c =
    let columns = rights-on c.args.falls.now c.args.on.now c.requires.falls c.in_ok-rights.rights.items c.in_ok-rights.ensures in
    subst (AreColumns (length c.args.right.now)) (sym columns) c.requires.right

pub new-requires-clause-alike : goal.new-requires-clause-alike
new-requires-clause-alike c =
    falls-alike c.args.falls.now c.args.on.now c.requires.falls c.in_ok-lefts.lefts.items c.in_ok-rights.rights.items c.in_ok-lefts.ensures c.in_ok-rights.ensures

pub returns-clause-stands : goal.returns-clause-stands
returns-clause-stands c =
    let e = c.in_ok-kernel.ensures in
    let on : c.args.on.now ≡ c.in_ok-on.on.items = sym c.in_ok-on.ensures.items in
    let falls : c.args.falls.now ≡ c.in_ok-falls.falls.items = sym c.in_ok-falls.ensures.items in
    let directed : length c.in_ok-falls.falls.items ≡ length c.in_ok-on.on.items = ap (λ (l : List Bool). length l) (sym falls) ∙ (c.requires.falls ∙ ap (λ (l : List (ℕ × ℕ)). length l) on) in
    merge-begins c.args.node c.in_ok-falls.falls.items c.in_ok-on.on.items c.in_ok-kernel.kernel directed
    (e.lefts ∙ (c.in_ok-lefts.ensures ∙ (λ i. left_order (falls i) (on i)))) (e.rights ∙ (c.in_ok-rights.ensures ∙ (λ i. right_order (falls i) (on i)))) e.left_ended e.right_ended e.nothing

pub returns-clause-starts : goal.returns-clause-starts
returns-clause-starts c =
    let e = c.in_ok-kernel.ensures in
    merge-starts c.args.node c.in_ok-falls.falls.items c.in_ok-on.on.items c.in_ok-kernel.kernel e.next e.left_ended e.right_ended e.nothing
