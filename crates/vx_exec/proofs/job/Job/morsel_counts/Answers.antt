use Rattle.std.proofs.Common.{length, ap, arith}
use Rattle.vx_exec.proofs.Counts.{counts-none, counts-push, counts-all}
use Rattle.vx_exec.proofs.job.Job.morsel_counts.Goals as goal

pub loop-relation-init : goal.loop-relation-init
loop-relation-init g c = counts-none c.args.self.now.morsel c.args.self.now.database.now c.in_ok-counts.counts.items c.in_ok-counts.ensures.items

pub loop-relation-preserved : goal.loop-relation-preserved
loop-relation-preserved g c =
    counts-push c.args.self.now.morsel c.args.self.now.database.now c.loop-relation.relation c.loop-relation.counts.items c.push.new.self.items c.morsel_count.result
    c.loop-relation.invariant c.in_ok-push.ensures.items c.morsel_count.ensures.value c.morsel_count.ensures.few

pub returns-clause-counts : goal.returns-clause-counts
returns-clause-counts g c = λ r.
    let j = c.args.self.now in
    let some = j.within.morsel.0 in
    let count = c.len-relations.ensures.count in
    let mine = ap length c.catalog.ensures.catalog in
    let many = c.catalog.ensures.many in
    let past = c.loop-relation-test.false in
    counts-all j.morsel j.database.now c.loop-relation.relation c.loop-relation.counts.items some (omega (arith, count, mine, many, past)) c.loop-relation.invariant r
