use Rattle.std.proofs.Common.{refl, subst, arith}
use Rattle.vx_worker.specs.Answering.{DrainFinds}
use Rattle.vx_worker.specs.Trees.{shape}
use Rattle.vx_worker.specs.declared.worker.WorkerState.TheVariants.{Draining}
use Rattle.vx_worker.proofs.Answering.{drains-none, drains-one}
use Rattle.vx_worker.proofs.Counting.{take-counted}
use Rattle.vx_worker.proofs.Spending.{take-puts, drain-fits, drop-came, drops-spent, drained-spent}
use Rattle.vx_worker.proofs.WorkerSteps.{failed-later, operators-later}
use Rattle.vx_worker.proofs.worker.Worker.drain.Goals as goal

pub returns-in-Dropped-clause-stands : goal.returns-in-Dropped-clause-stands
returns-in-Dropped-clause-stands g c =
    let x = c.drain.ensures.drains in
    rw c.requires (
      x.0,
      x.1,
      λ goes m t h. (x.2.stands t h.0, (failed-later m goes _ _ c.args.fault t x.0 x.2.is_take h.1.0, operators-later g.O.Source.Stands m c.args.self.now.tree t x.0 x.2.is_take h.1.1)),
      drains-one g.O.Source.Stands g.O.Source.want (g.W.Wires.IsFull c.args.wires.now) (g.W.Wires.LacksMemory c.args.wires.now) (Draining c.args.fault) c.args.self.now (record c.args.self.now { intake = c.drain.new.self; phase = Draining c.args.fault }) x.0
          (subst (λ r. DrainFinds (g.W.Wires.LacksMemory c.args.wires.now) c.args.self.now.intake r x.0) c.in-Dropped.is x.3),
      take-counted c.args.self.now.counts x.0 x.2.is_take,
      λ goes m t k h. drops-spent g.O.Source.most g.O.Source.idle g.S.Sends.post g.S.Sends.held g.S.Sends.unclosed m _ _ (record c.args.self.now { phase = Draining c.args.fault }) _ c.args.fault t x.0 _ refl refl (drain-fits (g.W.Wires.LacksMemory c.args.wires.now) (shape g.O.Source.op c.args.self.now.tree) c.args.self.now.intake t c.drain.result x.0 x.3 h.0)
          (drop-came (g.W.Wires.LacksMemory c.args.wires.now) c.args.self.now.intake x.0 (subst (λ r. DrainFinds (g.W.Wires.LacksMemory c.args.wires.now) c.args.self.now.intake r x.0) c.in-Dropped.is x.3)) (take-puts x.0 x.2.is_take),
    )

pub returns-in-Nothing-clause-stands : goal.returns-in-Nothing-clause-stands
returns-in-Nothing-clause-stands g c =
    let x = c.drain.ensures.drains in
    rw c.requires (
      x.0,
      x.1,
      λ goes m t h. (x.2.stands t h.0, (failed-later m goes _ _ c.args.fault t x.0 x.2.is_take h.1.0, operators-later g.O.Source.Stands m c.args.self.now.tree t x.0 x.2.is_take h.1.1)),
      drains-none g.O.Source.Stands g.O.Source.want (g.W.Wires.IsFull c.args.wires.now) (g.W.Wires.LacksMemory c.args.wires.now) (Draining c.args.fault) c.args.self.now (record c.args.self.now { intake = c.drain.new.self; phase = Draining c.args.fault }) c.args.fault x.0 refl
          (subst (λ r. DrainFinds (g.W.Wires.LacksMemory c.args.wires.now) c.args.self.now.intake r x.0) c.in-Nothing.is x.3),
      take-counted c.args.self.now.counts x.0 x.2.is_take,
      λ goes m t k h. drops-spent g.O.Source.most g.O.Source.idle g.S.Sends.post g.S.Sends.held g.S.Sends.unclosed m _ _ (record c.args.self.now { phase = Draining c.args.fault }) _ c.args.fault t x.0 _ refl refl (drain-fits (g.W.Wires.LacksMemory c.args.wires.now) (shape g.O.Source.op c.args.self.now.tree) c.args.self.now.intake t c.drain.result x.0 x.3 h.0) (omega arith) (take-puts x.0 x.2.is_take),
    )

pub returns-in-All-clause-stands : goal.returns-in-All-clause-stands
returns-in-All-clause-stands g c =
    let x = c.drain.ensures.drains in
    rw c.requires (
      x.0,
      x.1,
      λ goes m t h. (x.2.stands t h.0, (failed-later m goes _ _ c.args.fault t x.0 x.2.is_take h.1.0, operators-later g.O.Source.Stands m c.args.self.now.tree t x.0 x.2.is_take h.1.1, c.drain.ensures.all c.in-All.is _ (x.2.stands t h.0))),
      refl,
      take-counted c.args.self.now.counts x.0 x.2.is_take,
      λ goes m t k h. drained-spent g.O.Source.most g.O.Source.idle g.S.Sends.post g.S.Sends.held g.S.Sends.unclosed m _ _ (record c.args.self.now { phase = Draining c.args.fault }) _ c.args.fault t x.0 refl refl (drain-fits (g.W.Wires.LacksMemory c.args.wires.now) (shape g.O.Source.op c.args.self.now.tree) c.args.self.now.intake t c.drain.result x.0 x.3 h.0) (take-puts x.0 x.2.is_take),
    )
