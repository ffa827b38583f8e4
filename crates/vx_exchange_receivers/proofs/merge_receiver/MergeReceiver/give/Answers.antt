use Rattle.std.proofs.Common.{refl}
use Rattle.vx_exchange_receivers.proofs.MergeEnds.{came_rows, has_closed, merging-gave, merging-ends, merging-short, merging-fails}
use Rattle.vx_exchange_receivers.proofs.merge_receiver.MergeReceiver.give.Goals as goal

pub returns-then-is_empty-clause-stands : goal.returns-then-is_empty-clause-stands
returns-then-is_empty-clause-stands c =
    let s = c.args.self.now in
    let e = c.give.ensures in
    let none = c.is_empty.ensures.0 c.if-is_empty.true in
    let all = c.in-Ok.ensures.all none in
    λ l h. merging-ends s.port s.kernel _ l e.shape.many e.shape.merge (h.runs c.requires.running).ours c.in-Ok.rows.rows none (c.in-Ok.ensures.merged (has_closed l) (came_rows l) l.gave.rows (h.runs c.requires.running).merged) all.none all.full

pub returns-else-is_empty-clause-stands : goal.returns-else-is_empty-clause-stands
returns-else-is_empty-clause-stands c =
    let s = c.args.self.now in
    let e = c.give.ensures in
    rw c.requires.running (λ l h. merging-gave s.port s.kernel _ l e.shape.many e.shape.merge (h.runs refl).ours e.ends (h.runs refl).are_open h.same c.in-Ok.rows (c.in-Ok.ensures.merged (has_closed l) (came_rows l) l.gave.rows (h.runs refl).merged))

pub returns-in-Err-clause-stands : goal.returns-in-Err-clause-stands
returns-in-Err-clause-stands c =
    let s = c.args.self.now in
    let e = c.give.ensures in
    let k = c.fail_by.ensures in
    rw (k.over, k.result, k.port, k.kernel, e.shape.many, e.shape.merge, c.requires.running) (λ l h.
    merging-fails _ _ _ _ refl (merging-short s.port s.kernel l (h.runs refl).ours h.abides.before))
