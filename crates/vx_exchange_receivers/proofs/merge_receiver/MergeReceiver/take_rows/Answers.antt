use Rattle.std.proofs.Common.{rules, length, refl}
use Rattle.vx_exchange_receivers.specs.Heads.{all_left}
use Rattle.vx_exchange_receivers.proofs.HeadsLeft.{put-pays}
use Rattle.vx_exchange_receivers.proofs.MergeEnds.{came_rows, has_closed, merging-rows, merging-falls, merging-refused, merging-fails}
use Rattle.vx_exchange_receivers.proofs.merge_receiver.MergeReceiver.take_rows.Goals as goal

pub returns-in-Ok-true-clause-stands : goal.returns-in-Ok-true-clause-stands
returns-in-Ok-true-clause-stands c =
    let s = c.args.self.now in
    let e = c.put.ensures in
    rw c.requires.running (λ l packet f b h.
    merging-rows s.port s.kernel l c.args.from packet f (h.runs refl).ours (h.runs refl).are_open h.same _ e.shape.many e.shape.merge e.ends c.args.rows.rows b
    (c.in-Ok-true.ensures.rises (search rules) (has_closed l) (came_rows l) l.gave.rows (h.runs refl).merged))

pub returns-in-Ok-false-clause-stands : goal.returns-in-Ok-false-clause-stands
returns-in-Ok-false-clause-stands c =
    let s = c.args.self.now in
    let e = c.put.ensures in
    let k = c.fail_by.ensures in
    rw (k.over, k.result, k.port, k.kernel, e.shape.many, e.shape.merge, c.requires.running) (λ l packet f b h.
    merging-fails _ _ _ _ refl (merging-falls s.port s.kernel l c.args.from packet f (h.runs refl).ours (h.runs refl).are_open h.same c.requires.few c.args.rows.rows b h.abides.before
    (c.in-Ok-false.ensures.falls (search rules) (has_closed l) (came_rows l) l.gave.rows (h.runs refl).merged)))

pub returns-in-Err-clause-stands : goal.returns-in-Err-clause-stands
returns-in-Err-clause-stands c =
    let s = c.args.self.now in
    let e = c.put.ensures in
    let k = c.fail_by-in-Err.ensures in
    rw (k.over, k.result, k.port, k.kernel, e.shape.many, e.shape.merge, c.requires.running) (λ l packet f b h.
    merging-fails _ _ _ _ refl (merging-refused s.port s.kernel l c.args.from packet f (h.runs refl).ours (h.runs refl).are_open h.same h.abides.before))

pub returns-in-Ok-true-clause-pays : goal.returns-in-Ok-true-clause-pays
returns-in-Ok-true-clause-pays c k =
    let s = c.args.self.now in
    let new = c.put.new.self in
    put-pays s.over (length s.kernel.heads) (length new.heads) c.args.from (length c.args.rows.rows) (all_left s.kernel.heads) (all_left new.heads) k.packets c.put.ensures.shape.many c.requires.few
    (c.in-Ok-true.ensures.left (search rules))
