use Rattle.std.proofs.Common.{subst, take_all}
use Rattle.vx_exec.specs.Counts.{AreCountsOf}
use Rattle.vx_exec.proofs.CountedWorkers.{counted-push}
use Rattle.vx_exec.proofs.counting.counts_of.Goals as goal

pub loop-worker-preserved : goal.loop-worker-preserved
loop-worker-preserved g c =
    counted-push c.args.workers.now c.loop-worker.worker-index c.worker-item.result c.loop-worker.counts.items c.push.new.self.items c.in_ok-count_of.field-0
    c.loop-worker-test.true c.worker-item.is c.loop-worker.invariant c.in_ok-count_of.ensures c.in_ok-push.ensures.items

pub returns : goal.returns
returns g c =
    subst (λ ws. AreCountsOf ws c.loop-worker.counts.items) (take_all c.loop-worker.worker-index c.args.workers.now c.loop-worker-test.false) c.loop-worker.invariant
