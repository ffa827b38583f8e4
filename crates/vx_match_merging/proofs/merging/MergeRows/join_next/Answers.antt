use Rattle.std.proofs.Common.{◌++◌, refl}
use Rattle.vx_match_merging.specs.Merged.{rows_at}
use Rattle.vx_match_merging.proofs.MergeCalls.{paired}
use Rattle.vx_match_merging.proofs.merging.MergeRows.join_next.Goals as goal

pub returns-then-not-close_run-clause-joined : goal.returns-then-not-close_run-clause-joined
returns-then-not-close_run-clause-joined c = λ earlier passed ys h. c.if-not-close_run.ensures.kept earlier passed _ h

pub returns-clause-joined : goal.returns-clause-joined
returns-clause-joined c = λ earlier passed ys h.
    let now = c.args.self.now in
    let old = ys ++ rows_at now.left now.right c.args.pairs.now.left.items c.args.pairs.now.right.items in
    let closed = c.if-not-close_run.ensures in
    paired _ c.close_run.new.self now c.advance.new.self c.self-2.view_is closed.inputs c.args.pairs.now.left.items c.args.pairs.now.right.items c.add_pairs.new.pairs.left.items c.add_pairs.new.pairs.right.items earlier passed ys
    closed.within c.in_ok-add_pairs.ensures.rows
    (c.advance.ensures.joined earlier passed old (closed.kept earlier passed old h) (closed.run refl earlier passed old h))
