use Rattle.std.proofs.Common.{rules, ◌≡◌, ◌<◌, length, Some, sym, ap, ◌∙◌}
use Rattle.vx_worker.specs.Worker.{outcome_of}
use Rattle.vx_exec_steps.proofs.BoardSteps.{default_is}
use Rattle.vx_exec_steps.proofs.Judging.{judged-more}
use Rattle.vx_exec_steps.proofs.verdict.judge.Goals as goal

pub loop-worker-preserved : goal.loop-worker-preserved
loop-worker-preserved g c =
    let ws = c.args.workers.now in
    let n = c.loop-worker.worker-index in
    let lt : n < length ws = search rules in
    let is : outcome_of c.worker-item.result ≡ Some c.in-Some.outcome = sym c.in-Some.ensures.outcome in
    rw c.with-verdict.ensures (judged-more ws n c.loop-worker.verdict c.in-Some.outcome c.loop-worker.invariant
    (λ d. ap outcome_of (default_is ws n c.worker-item.result d lt c.worker-item.is) ∙ is))
