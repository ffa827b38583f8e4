use Rattle.std.proofs.Common.{◌≡◌, sym, ◌∙◌, subst, refl, Option, Some, None, false, is_some}
use Rattle.vx_ops.specs.Turn.{with_packet}
use Rattle.vx_exchange_ends.specs.Sending.{RoutesAs}
use Rattle.vx_worker.specs.Trace.{idle}
use Rattle.vx_worker.specs.Worker.{with_pending}
use Rattle.vx_worker.proofs.Spending.{next-spent, none-spent, well-spent}
use Rattle.vx_worker.proofs.WorkerSteps.{asked, ends-well, running}
use Rattle.vx_worker.proofs.worker.Worker.run.Goals as goal

none_of : {A : Type 0} (o : Option A) → is_some o ≡ false → o ≡ None
none_of None e = refl
none_of (Some x) e = cc

pub returns-in-Some-clause-stands : goal.returns-in-Some-clause-stands
returns-in-Some-clause-stands g c =
    let w = c.args.self.now in
    let x = c.send-in-Some.ensures.stands in
    let none = none_of w.pending (sym c.is_some.ensures ∙ c.if-is_some.false) in
    let m = g.G.Morsels.morsel_of c.args.morsels.now in (
      x.0,
      x.1,
      λ goes r t h. x.2 goes m t (asked g.O.Source.Stands g.O.Source.op g.S.Sends.Stands g.S.Sends.task goes m w (record w { sender = c.next.new.self; pending = Some c.in-Some.next }) t
          c.requires.running c.requires.running refl refl refl
          (λ s k. subst (λ z. g.S.Sends.Stands c.next.new.self goes s (with_packet (with_pending t.sent z) c.in-Some.next.0 (Some c.in-Some.next.1))) none
          (c.in-Some.ensures.some goes s (with_pending t.sent w.pending) k)) h),
      x.3,
      x.4,
      λ goes t k h. next-spent g.O.Source.most g.O.Source.idle g.S.Sends.post g.S.Sends.held g.S.Sends.unclosed m _ _ w c.next.new.self c.in-Some.next.0 c.in-Some.next.1 _ t x.0 _ c.requires.running none c.in-Some.ensures.post c.in-Some.ensures.takes (g.met.S.Sends.held_for w.sender)
          (x.5 goes m t k (asked g.O.Source.Stands g.O.Source.op g.S.Sends.Stands g.S.Sends.task goes m w (record w { sender = c.next.new.self; pending = Some c.in-Some.next }) t
          c.requires.running c.requires.running refl refl refl
          (λ s l. subst (λ z. g.S.Sends.Stands c.next.new.self goes s (with_packet (with_pending t.sent z) c.in-Some.next.0 (Some c.in-Some.next.1))) none
          (c.in-Some.ensures.some goes s (with_pending t.sent w.pending) l)) h)),
    )

pub returns-then-self-clause-stands : goal.returns-then-self-clause-stands
returns-then-self-clause-stands g c =
    let w = c.args.self.now in
    let none = none_of w.pending (sym c.is_some.ensures ∙ c.if-is_some.false) in
    let m = g.G.Morsels.morsel_of c.args.morsels.now in (
      idle,
      g.met.W.Wires.idle c.args.wires.now,
      λ goes r t h. (
        h.0,
        ends-well g.O.Source.Stands g.O.Source.op g.S.Sends.Stands g.S.Sends.task goes m g.met.O.Source.abides w c.next.new.self t none c.if-self.true
            (c.in-None.ensures.drained goes) (running g.O.Source.Stands g.O.Source.op g.S.Sends.Stands g.S.Sends.task goes m w t c.requires.running h),
      ),
      refl,
      refl,
      λ goes t k h. well-spent g.O.Source.most g.O.Source.idle g.S.Sends.post g.S.Sends.held g.S.Sends.unclosed m _ _ w _ t c.requires.running refl,
    )

pub returns-in-None-clause-stands : goal.returns-in-None-clause-stands
returns-in-None-clause-stands g c =
    let w = c.args.self.now in
    let s' = c.next.new.self in
    let x = c.pull.ensures.stands in
    let m = g.G.Morsels.morsel_of c.args.morsels.now in
    let hash = g.R.Router.route_of c.args.router.now in (
      x.0,
      x.1,
      λ goes r t h. x.2 goes
          (subst (λ p. RoutesAs p (g.S.Sends.bounds s') hash goes) (sym c.in-None.ensures.post)
          (subst (λ b. RoutesAs (g.S.Sends.post w.sender) b hash goes) (sym c.in-None.ensures.bounds) r)) t
          (asked g.O.Source.Stands g.O.Source.op g.S.Sends.Stands g.S.Sends.task goes m w (record w { sender = s' }) t c.requires.running c.requires.running refl refl refl
          (λ s k. c.in-None.ensures.none goes s (with_pending t.sent w.pending) k) h),
      x.3,
      x.4,
      λ goes t k h. none-spent g.O.Source.most g.O.Source.idle g.S.Sends.post g.S.Sends.held g.S.Sends.unclosed m _ _ w s' _ t x.0 _ c.requires.running c.in-None.ensures.post c.in-None.ensures.keeps
          (x.5 goes t k (asked g.O.Source.Stands g.O.Source.op g.S.Sends.Stands g.S.Sends.task goes m w (record w { sender = s' }) t c.requires.running c.requires.running refl refl refl
          (λ s l. c.in-None.ensures.none goes s (with_pending t.sent w.pending) l) h)),
    )
