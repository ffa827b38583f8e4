use Rattle.std.proofs.Common.{◌+◌, length, zero-le}
use Rattle.vx_ops.specs.Turn.{Coming}
use Rattle.vx_ops.specs.Growing.{running-grows}
use Rattle.vx_ops.proofs.Costs.{pays-within}
use Rattle.vx_match_merging.proofs.MergeTurns.{need-right}
use Rattle.vx_match.specs.MergeJoin.{may_join, may_idle}
use Rattle.vx_match.proofs.MergePays.{rights-pay, rights-idle}
use Rattle.vx_match.proofs.MergeJoins.{right-came, right-batch-fails, with_right}
use Rattle.vx_match.proofs.merge_join.MergeJoin.take_right.Goals as goal

pub returns-in-Ok-clause-stands : goal.returns-in-Ok-clause-stands
returns-in-Ok-clause-stands c l h =
    let s = c.args.self.now in
    let xs = c.args.batch.rows in
    let e = c.in-Ok.ensures in
    c.go_on.ensures.stands (with_right l xs)
    (right-came s.node s.falls.items s.on.items s.kernel c.take_right.new.self l s.over c.requires.running h xs e.shape e.left_ended e.right_ended
    (e.joined (need-right s.kernel c.requires.need) l.left.rows l.right.rows l.gave.rows (h.runs c.requires.running).joined))

pub returns-in-Ok-clause-pays : goal.returns-in-Ok-clause-pays
returns-in-Ok-clause-pays c k =
    let s = c.args.self.now in
    let a = s.kernel in
    let b = c.take_right.new.self in
    let n = length c.args.batch.rows in
    let e = c.in-Ok.ensures in
    let before : Coming = record { left = k.left; right = k.right + n; packets = k.packets } in
    pays-within _ 0 _ _ _ _ _ _ c.go_on.result zero-le (running-grows s.over (may_join b k) (may_join a before) (rights-pay a b k n e.held e.left e.next))
    (running-grows s.over (may_idle b k) (may_idle a before) (rights-idle a b k n e.rights e.left e.next e.left_ended e.right_ended)) (c.go_on.ensures.pays k)

pub returns-in-Err-clause-stands : goal.returns-in-Err-clause-stands
returns-in-Err-clause-stands c l h =
    let s = c.args.self.now in
    rw c.own_fault-fault.ensures
    (right-batch-fails s.node s.falls.items s.on.items s.kernel c.take_right.new.self l s.over c.requires.running h c.in-Err.e c.args.batch.rows
    (c.in-Err.ensures.err l.left.rows l.right.rows l.gave.rows (h.runs c.requires.running).joined))
