use Rattle.std.proofs.Common.{◌∙◌, sym, subst, arith, length, ◌+◌, ◌≤◌}
use Rattle.vx_match_merging.specs.Merged.{merge_need}
use Rattle.vx_ops.specs.Turn.{Pays, if_running}
use Rattle.vx_ops.specs.declared.fault.StreamState.{StreamState}
use Rattle.vx_match.specs.MergeJoin.{may_join, may_idle, merge_join_most, merge_join_idle, own_where}
use Rattle.vx_match.proofs.MergePays.{joins-pay, joins-idle, joins-fewer, stays-ended, concluded}
use Rattle.vx_match.proofs.MergeJoins.{none-joined, rows-joined}
use Rattle.vx_match.proofs.merge_join.MergeJoin.go_on.Goals as goal

pub returns-then-len-eq0-clause-stands : goal.returns-then-len-eq0-clause-stands
returns-then-len-eq0-clause-stands c l h =
    let s = c.args.self.now in
    c.conclude.ensures.stands l
    (none-joined s.node s.falls.items s.on.items s.kernel c.join_some.new.self l s.over c.requires.running h c.in-Ok.joined.rows (sym c.len.ensures ∙ c.if-len-eq0.true) c.in-Ok.ensures.inputs
    (c.in-Ok.ensures.joined l.left.rows l.right.rows l.gave.rows (h.runs c.requires.running).joined))

pub returns-else-len-eq0-clause-stands : goal.returns-else-len-eq0-clause-stands
returns-else-len-eq0-clause-stands c l h =
    let s = c.args.self.now in
    rows-joined s.node s.falls.items s.on.items s.kernel c.join_some.new.self l s.over c.requires.running h c.in-Ok.joined.rows c.in-Ok.ensures.inputs
    (c.in-Ok.ensures.joined l.left.rows l.right.rows l.gave.rows (h.runs c.requires.running).joined)

pub returns-then-len-eq0-clause-pays : goal.returns-then-len-eq0-clause-pays
returns-then-len-eq0-clause-pays c k =
    let s = c.args.self.now in
    let a = s.kernel in
    let b = c.join_some.new.self in
    let e = c.in-Ok.ensures in
    let new = c.conclude.new.self in
    let n = length c.in-Ok.joined.rows in
    let most : may_join b k + n ≤ may_join a k = joins-pay a b k e.inputs e.next n e.fewer in
    let before = λ (o : StreamState). Pays 0 (if_running o (may_join b k)) (if_running o (may_idle b k)) (merge_join_most new k) (merge_join_idle new k) c.conclude.result in
    let after = λ (o : StreamState). Pays (own_where (merge_need a)) (if_running o (may_join a k)) (if_running o (may_idle a k)) (merge_join_most new k) (merge_join_idle new k) c.conclude.result in
    subst after (sym c.requires.running)
    (concluded (merge_need a) (may_join a k) (may_idle a k) (may_join b k) (may_idle b k) (merge_join_most new k) (merge_join_idle new k) c.conclude.result (omega (arith, most)) (joins-idle a b k e.inputs e.next e.end)
    (λ z. joins-fewer a b k e.inputs e.next (e.goes_on (omega arith) z)) (λ z. c.conclude.ensures.ends (stays-ended a b k e.inputs e.next z)) (subst before c.requires.running (c.conclude.ensures.pays k)))
