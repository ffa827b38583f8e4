use Rattle.std.proofs.Common.{ap, ◌∙◌}
use Rattle.vx_exec_setup.specs.Counts.{with_wait}
use Rattle.vx_worker.specs.Trace.{added}
use Rattle.vx_worker.proofs.Counting.{stands-counted, waits-counted}
use Rattle.vx_worker.proofs.Spending.{counted-spent}
use Rattle.vx_worker.proofs.worker.Worker.step.Goals as goal

pub returns-in-Waiting-clause-stands : goal.returns-in-Waiting-clause-stands
returns-in-Waiting-clause-stands g c =
    let w = c.args.self.now in
    let v = c.advance.new.self in
    let n = c.add_wait.new.self in
    let x = c.in-Waiting.ensures.stands in (
      x.0,
      x.1,
      λ goes r t h. stands-counted v n g.O.Source.Stands g.O.Source.op g.S.Sends.Stands g.S.Sends.task goes (g.G.Morsels.morsel_of c.args.morsels.now) (added t x.0) (x.2 goes r t h),
      waits-counted v n g.O.Source.want (g.W.Wires.IsFull c.args.wires.now) (g.W.Wires.LacksMemory c.args.wires.now) w.phase w.tree w.intake x.0 x.3,
      c.add_wait.ensures ∙ ap with_wait x.4,
      λ goes t k h. counted-spent g.O.Source.most g.O.Source.idle g.S.Sends.post g.S.Sends.held g.S.Sends.unclosed (g.G.Morsels.morsel_of c.args.morsels.now) _ _ w v n t x.0 _ (x.5 goes t k h),
    )
