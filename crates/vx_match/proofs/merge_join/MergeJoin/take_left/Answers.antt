use Rattle.std.proofs.Common.{◌+◌, length, zero-le}
use Rattle.vx_ops.specs.Turn.{Coming}
use Rattle.vx_ops.specs.Growing.{running-grows}
use Rattle.vx_ops.proofs.Costs.{pays-within}
use Rattle.vx_match_merging.proofs.MergeTurns.{need-left}
use Rattle.vx_match.specs.MergeJoin.{may_join, may_idle}
use Rattle.vx_match.proofs.MergePays.{lefts-pay, lefts-idle}
use Rattle.vx_match.proofs.MergeJoins.{left-came, with_left}
use Rattle.vx_match.proofs.merge_join.MergeJoin.take_left.Goals as goal

pub returns-in-Ok-clause-stands : goal.returns-in-Ok-clause-stands
returns-in-Ok-clause-stands c l h =
    let s = c.args.self.now in
    let xs = c.args.batch.rows in
    let e = c.in-Ok.ensures in
    let r = need-left s.kernel c.requires.need in
    c.go_on.ensures.stands (with_left l xs)
    (left-came s.node s.falls.items s.on.items s.kernel c.take_left.new.self l s.over c.requires.running h xs e.shape e.left_ended e.right_ended
    (e.joined r.1 l.left.rows l.right.rows l.gave.rows (h.runs c.requires.running).joined))

pub returns-in-Ok-clause-pays : goal.returns-in-Ok-clause-pays
returns-in-Ok-clause-pays c k =
    let s = c.args.self.now in
    let a = s.kernel in
    let b = c.take_left.new.self in
    let n = length c.args.batch.rows in
    let e = c.in-Ok.ensures in
    let before : Coming = record { left = k.left + n; right = k.right; packets = k.packets } in
    pays-within _ 0 _ _ _ _ _ _ c.go_on.result zero-le (running-grows s.over (may_join b k) (may_join a before) (lefts-pay a b k n e.lefts e.right))
    (running-grows s.over (may_idle b k) (may_idle a before) (lefts-idle a b k n e.lefts e.right e.end e.left_ended e.right_ended)) (c.go_on.ensures.pays k)
