use Rattle.std.proofs.Common.{◌≡◌, ◌∙◌, ◌+◌, ap, sym, subst}
use Rattle.vx_match_merging.specs.Merged.{merge_need}
use Rattle.vx_ops.specs.Turn.{after, Coming, Pays, if_running}
use Rattle.vx_ops.specs.declared.fault.StreamState.{StreamState}
use Rattle.vx_ops.proofs.Costs.{pays-before}
use Rattle.vx_ops.specs.declared.fault.StreamState.TheVariants.{Ended}
use Rattle.vx_ops.specs.declared.turn.Want.TheVariants as want
use Rattle.vx_ops.specs.declared.turn.Got.{Got}
use Rattle.vx_ops.specs.declared.turn.Got.TheVariants as got
use Rattle.vx_ops.specs.declared.turn.Polled.TheVariants as polled
use Rattle.vx_match.specs.MergeJoin.{MergeJoinStands, may_join, may_idle, merge_join_most, merge_join_idle, own_where}
use Rattle.vx_match.proofs.MergePays.{right-end-pays, right-end-idle}
use Rattle.vx_match.proofs.MergeJoins.{right-ends, with_right_over}
use Rattle.vx_match.proofs.merge_join.MergeJoin.read_right.Goals as goal

pub returns-in-Input-End-clause-stands : goal.returns-in-Input-End-clause-stands
returns-in-Input-End-clause-stands c l h =
    let s = c.args.self.now in
    let j = c.end_right.new.self in
    let e = c.end_right.ensures in
    let is : c.args.got ≡ got.Input polled.End = c.in-Input-End.is ∙ ap got.Input c.in-Input-End.field-0-is in
    let P : Got → Type 0 = λ q. MergeJoinStands c.go_on.new.self (after l want.Right q c.go_on.result) in
    subst P (sym is)
    (c.go_on.ensures.stands (with_right_over l Ended)
    (right-ends s.node s.falls.items s.on.items s.kernel j l s.over c.requires.running h e.shape e.left_ended e.right_ended (e.joined l.left.rows l.right.rows l.gave.rows (h.runs c.requires.running).joined)))

pub returns-in-Input-Gave-clause-pays : goal.returns-in-Input-Gave-clause-pays
returns-in-Input-Gave-clause-pays c =
    let is : c.args.got ≡ got.Input (polled.Gave c.in-Input-Gave.batch) = c.in-Input-Gave.is ∙ ap got.Input c.in-Input-Gave.field-0-is in
    rw is c.take_right.ensures.pays

pub returns-in-Input-End-clause-pays : goal.returns-in-Input-End-clause-pays
returns-in-Input-End-clause-pays c k =
    let s = c.args.self.now in
    let a = s.kernel in
    let b = c.end_right.new.self in
    let e = c.end_right.ensures in
    let new = c.go_on.new.self in
    let before : Coming = record { left = k.left; right = k.right + 0; packets = k.packets } in
    let is : c.args.got ≡ got.Input polled.End = c.in-Input-End.is ∙ ap got.Input c.in-Input-End.field-0-is in
    let Q = λ (o : StreamState). Pays 1 (if_running o (may_join a before)) (if_running o (may_idle a before)) (merge_join_most new k) (merge_join_idle new k) c.go_on.result in
    let P = λ (o : StreamState). Pays (own_where (merge_need b)) (if_running o (may_join b k)) (if_running o (may_idle b k)) (merge_join_most new k) (merge_join_idle new k) c.go_on.result in
    rw is
    (subst Q (sym c.requires.running)
    (pays-before (own_where (merge_need b)) 1 (may_join a before) (may_idle a before) (may_join b k) (may_idle b k) (merge_join_most new k) (merge_join_idle new k) c.go_on.result (right-end-pays a b k e.same)
    (right-end-idle a b k e.same c.requires.need) (subst P c.requires.running (c.go_on.ensures.pays k))))
