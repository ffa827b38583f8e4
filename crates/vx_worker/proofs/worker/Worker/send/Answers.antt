use Rattle.std.proofs.Common.{refl, rules, sym, ◌∙◌, subst}
use Rattle.vx_exchange_ends.specs.Tasks.{IsAt, BeganSending}
use Rattle.vx_worker.specs.Trace.{idle, put_one}
use Rattle.vx_worker.specs.Answering.{IsSending, is_full, by_event, by_fault}
use Rattle.vx_worker.specs.Intake.{IntakeStands}
use Rattle.vx_worker.specs.Worker.{IsReadyIn}
use Rattle.vx_worker.proofs.Spending.{fails-spent, put-spent, back-spent}
use Rattle.vx_worker.proofs.WorkerSteps.{closing-fails, refused, running}
use Rattle.vx_worker.proofs.worker.Worker.send.Goals as goal

pub returns-in-NoMemory-clause-ready : goal.returns-in-NoMemory-clause-ready
returns-in-NoMemory-clause-ready g c =
    let going = c.requires.going in
    subst (λ x. IsReadyIn g.S.Sends.post g.S.Sends.is_open g.S.Sends.has_closed x c.fail.new.self) (sym c.fail.ensures.phase)
    (closing-fails c.fail.new.self (g.S.Sends.post c.args.self.now.sender) c.fail.ensures.pending (c.fail.ensures.closing ∙ going.closing))

pub returns-in-NoMemory-clause-stands : goal.returns-in-NoMemory-clause-stands
returns-in-NoMemory-clause-stands g c =
    let going = c.requires.going in
    let w = c.args.self.now in
    let v = c.fail.new.self in
    let here = sym c.take.ensures.value ∙ c.in-Some.is in
    let open_sender = going.pending (c.in-Some.to, c.in-Some.packet) here ∙ c.in-NoMemory.ensures.0 in (
      idle,
      c.in-NoMemory.ensures.1,
      λ goes m t h. refused g.O.Source.Stands g.O.Source.op g.S.Sends.Stands g.S.Sends.task goes m g.met.O.Source.abides w v c.no_memory.result (g.S.Sends.post w.sender) t
          c.in-Some.to c.in-Some.packet c.fail.ensures.phase c.fail.ensures.pending (c.fail.ensures.closing ∙ going.closing)
          (subst (λ s. IsAt (g.S.Sends.post w.sender) (g.S.Sends.task s)) (sym c.fail.ensures.sender) (g.met.S.Sends.at_post w.sender))
          c.fail.ensures.tree c.no_memory.ensures (subst (λ k. IntakeStands k t) (sym c.fail.ensures.intake) h.0) here
          (λ a put s. subst (λ z. BeganSending goes (g.S.Sends.task z) a.rows put) (sym c.fail.ensures.sender) (g.met.S.Sends.begun w.sender goes a put s open_sender))
          (running g.O.Source.Stands g.O.Source.op g.S.Sends.Stands g.S.Sends.task goes m w t c.requires.running h),
      rw c.fail.ensures.moved (by_fault c.no_memory.result c.requires.running c.fail.ensures.phase),
      c.fail.ensures.counts,
      λ goes m t k h. fails-spent g.O.Source.most g.O.Source.idle g.S.Sends.post g.S.Sends.held g.S.Sends.unclosed m _ _ w v c.no_memory.result t idle c.fail.result c.fail.ensures.moved
          c.requires.running c.fail.ensures.phase c.fail.ensures.pending (c.fail.ensures.closing ∙ going.closing) (λ j. refl) tt,
    )

pub returns-in-Full-clause-stands : goal.returns-in-Full-clause-stands
returns-in-Full-clause-stands g c =
    let sending : IsSending c.args.self.now.phase = subst IsSending (sym c.requires.running) tt in (
      idle,
      c.in-Full.ensures.2,
      search rules,
      is_full c.in-Some.to c.in-Full.packet sending refl c.in-Full.ensures.1 refl,
      refl,
      λ goes m t k h. back-spent g.O.Source.most g.O.Source.idle g.S.Sends.post g.S.Sends.held g.S.Sends.unclosed m _ _ c.args.self.now c.in-Some.to c.in-Some.packet c.in-Full.packet t
          c.requires.running (sym c.take.ensures.value ∙ c.in-Some.is) c.in-Full.ensures.0,
    )

pub returns-in-Done-clause-stands : goal.returns-in-Done-clause-stands
returns-in-Done-clause-stands g c = (
  put_one c.in-Some.to c.in-Some.packet,
  c.in-Done.ensures,
  search rules,
  by_event tt,
  c.add_put.ensures,
  λ goes m t k h. put-spent g.O.Source.most g.O.Source.idle g.S.Sends.post g.S.Sends.held g.S.Sends.unclosed m _ _ c.args.self.now c.take.new.self c.add_put.new.self c.in-Some.to c.in-Some.packet t
      c.requires.running (sym c.take.ensures.value ∙ c.in-Some.is) c.take.ensures.after,
)
