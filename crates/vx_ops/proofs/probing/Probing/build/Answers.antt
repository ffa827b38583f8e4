use Rattle.std.proofs.Common.{◌+◌, length}
use Rattle.vx_ops.specs.Turn.{if_running}
use Rattle.vx_ops.specs.Probing.{rest_rows, until_ready}
use Rattle.vx_ops.proofs.ProbeCosts.{build-pays}
use Rattle.vx_ops.proofs.probing.Probing.build.Goals as goal

pub returns-in-Ok-clause-pays : goal.returns-in-Ok-clause-pays
returns-in-Ok-clause-pays g c k =
    let K = g.K.ProbeKernel in
    let i = c.self.inside in
    let left = length (rest_rows i.rest) + k.left in
    rw (← c.self.view_is)
    (build-pays i.over left (K.each i.kernel (k.right + length c.args.batch.rows)) (K.each c.build.new.self k.right) (if_running i.over (left + until_ready i.ready)) (c.in-Ok.ensures.held k.right))
