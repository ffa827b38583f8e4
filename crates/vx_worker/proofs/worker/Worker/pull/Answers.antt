use Rattle.std.proofs.Common.{◌≡◌, ap, refl, sym, ◌∙◌, subst, true, false, le_refl, arith, rules}
use Rattle.vx_exchange_ends.specs.Tasks.{BeganSending, IsAt}
use Rattle.vx_ops.specs.declared.fault.StreamState.TheVariants as stream_state
use Rattle.vx_ops.specs.declared.turn.Polled.TheVariants as polled
use Rattle.vx_ops.specs.Turn.{own_turn}
use Rattle.vx_worker.specs.Intake.{IntakeStands}
use Rattle.vx_worker.specs.Trees.{shape}
use Rattle.vx_worker.specs.Answering.{by_rows, by_fault}
use Rattle.vx_worker.proofs.Answering.{waits, moves}
use Rattle.vx_worker.proofs.Counting.{read-counted}
use Rattle.vx_worker.proofs.Spending.{read-puts, fails-spent, turn-spent}
use Rattle.vx_worker.proofs.Wishing.{pull-fits, came-or-own, turn-pays}
use Rattle.vx_worker.proofs.WorkerSteps.{going-of, ready-fails, ready-runs, unturned, turned, loses, gives-fault, turns, running}
use Rattle.vx_worker.proofs.worker.Worker.pull.Goals as goal

pub returns-in-Err-clause-ready : goal.returns-in-Err-clause-ready
returns-in-Err-clause-ready g c =
    let w = c.args.self.now in
    let v = c.fail.new.self in
    let going = going-of g.O.Source.types g.S.Sends.post g.S.Sends.is_open g.S.Sends.has_closed (g.G.Morsels.types_of c.args.morsels.now) w c.requires.running c.requires.ready in
    ready-fails g.O.Source.types g.S.Sends.post g.S.Sends.is_open g.S.Sends.has_closed (g.G.Morsels.types_of c.args.morsels.now) w v _ w.tree w.sender c.fail.ensures.phase c.fail.ensures.pending c.fail.ensures.closing c.fail.ensures.tree c.fail.ensures.sender
    c.requires.ready.typed refl refl going c.requires.ready.sends

pub returns-in-Err-clause-stands : goal.returns-in-Err-clause-stands
returns-in-Err-clause-stands g c =
    let w = c.args.self.now in
    let v = c.fail.new.self in
    let x = c.in-Err.ensures.fetches in
    let going = going-of g.O.Source.types g.S.Sends.post g.S.Sends.is_open g.S.Sends.has_closed (g.G.Morsels.types_of c.args.morsels.now) w c.requires.running c.requires.ready in
    let unclosed = g.met.S.Sends.open_first w.sender (going.opens c.requires.goes_on) in (
      x.0,
      x.1,
      λ goes r t h. loses g.O.Source.Stands g.O.Source.op g.S.Sends.Stands g.S.Sends.task goes (g.G.Morsels.morsel_of c.args.morsels.now) g.met.O.Source.abides w v c.no_memory.result (g.S.Sends.post w.sender) t x.0
          c.fail.ensures.phase c.fail.ensures.pending (c.fail.ensures.closing ∙ going.closing)
          (subst (λ s. IsAt (g.S.Sends.post w.sender) (g.S.Sends.task s)) (sym c.fail.ensures.sender) (g.met.S.Sends.at_post w.sender))
          (ap (Rattle.vx_worker.specs.Trees.shape g.O.Source.op) c.fail.ensures.tree) c.no_memory.ensures
          (subst (λ k. IntakeStands k (Rattle.vx_worker.specs.Trace.added t x.0)) (sym c.fail.ensures.intake) (x.2.stands t h.0)) x.2.is_read c.requires.empty
          (λ a put s. subst (λ z. BeganSending goes (g.S.Sends.task z) a.rows put) (sym c.fail.ensures.sender) (g.met.S.Sends.begun w.sender goes a put s unclosed))
          (unturned g.O.Source.Stands g.O.Source.op g.S.Sends.Stands g.S.Sends.task goes (g.G.Morsels.morsel_of c.args.morsels.now) w v.tree t x.0 c.fail.ensures.tree x.2.is_read)
          (running g.O.Source.Stands g.O.Source.op g.S.Sends.Stands g.S.Sends.task goes (g.G.Morsels.morsel_of c.args.morsels.now) w t c.requires.running h),
      rw c.fail.ensures.moved (by_fault c.no_memory.result c.requires.running c.fail.ensures.phase),
      c.fail.ensures.counts ∙ read-counted c.args.self.now.intake c.args.self.now.counts x.0 x.2.is_read,
      λ goes t k h. fails-spent g.O.Source.most g.O.Source.idle g.S.Sends.post g.S.Sends.held g.S.Sends.unclosed (g.G.Morsels.morsel_of c.args.morsels.now) (shape g.O.Source.op w.tree) _ w v c.no_memory.result t x.0 c.fail.result c.fail.ensures.moved c.requires.running c.fail.ensures.phase
          c.fail.ensures.pending (c.fail.ensures.closing ∙ going.closing) (read-puts w.intake x.0 x.2.is_read) (pull-fits g.O.Source.Stands g.O.Source.op g.S.Sends.Stands g.S.Sends.task goes (g.G.Morsels.morsel_of c.args.morsels.now) w _ t c.wants-wish.result x.0 c.requires.running x.2.is_wished c.wants-wish.ensures.wishes k h),
    )

pub returns-in-Waiting-clause-ready : goal.returns-in-Waiting-clause-ready
returns-in-Waiting-clause-ready g c =
    let w = c.args.self.now in
    let going = going-of g.O.Source.types g.S.Sends.post g.S.Sends.is_open g.S.Sends.has_closed (g.G.Morsels.types_of c.args.morsels.now) w c.requires.running c.requires.ready in
    ready-runs g.O.Source.types g.S.Sends.post g.S.Sends.is_open g.S.Sends.has_closed (g.G.Morsels.types_of c.args.morsels.now) w (record w { tree = c.turn.new.self; intake = c.fetch.new.self }) c.requires.running c.requires.empty refl
    (c.in-Waiting.ensures.typed (g.G.Morsels.types_of c.args.morsels.now) c.requires.ready.typed) c.in-Waiting.ensures.types refl going.opens going c.requires.ready.sends

pub returns-in-Waiting-clause-stands : goal.returns-in-Waiting-clause-stands
returns-in-Waiting-clause-stands g c =
    let w = c.args.self.now in
    let x = c.in-Ok.ensures.fetches in (
      x.0,
      x.1,
      λ goes r t h. turns g.O.Source.Stands g.O.Source.op g.S.Sends.Stands g.S.Sends.task goes (g.G.Morsels.morsel_of c.args.morsels.now) g.O.Source.want w (record w { tree = c.turn.new.self; intake = c.fetch.new.self }) t x.0 c.wants-wish.result c.in-Ok.got polled.Waiting
          c.requires.running c.requires.empty c.wants-wish.ensures.want x.2 h.0 c.in-Waiting.ensures.numbered c.in-Waiting.ensures.stands c.requires.empty (λ s put k. k)
          (λ s o. let off : false ≡ true = sym c.requires.goes_on ∙ o in cc) (running g.O.Source.Stands g.O.Source.op g.S.Sends.Stands g.S.Sends.task goes (g.G.Morsels.morsel_of c.args.morsels.now) w t c.requires.running h),
      waits g.O.Source.Stands g.O.Source.want (g.W.Wires.IsFull c.args.wires.now) (g.W.Wires.LacksMemory c.args.wires.now) (g.G.Morsels.morsel_of c.args.morsels.now) w (record w { tree = c.turn.new.self; intake = c.fetch.new.self }) c.fetch.new.self c.wants-wish.result c.in-Ok.got x.0 c.requires.running c.wants-wish.ensures.want (search rules) x.2.answers,
      read-counted c.args.self.now.intake c.args.self.now.counts x.0 x.2.is_read,
      λ goes t k h.
          let r' = running g.O.Source.Stands g.O.Source.op g.S.Sends.Stands g.S.Sends.task goes (g.G.Morsels.morsel_of c.args.morsels.now) w t c.requires.running h in
          turn-spent g.O.Source.most g.O.Source.idle g.S.Sends.post g.S.Sends.held g.S.Sends.unclosed (g.G.Morsels.morsel_of c.args.morsels.now) (shape g.O.Source.op w.tree) _ w (record w { tree = c.turn.new.self; intake = c.fetch.new.self }) t x.0 polled.Waiting (own_turn c.in-Ok.got) _ c.requires.running c.requires.running c.requires.empty c.requires.empty c.requires.goes_on
          (turn-pays g.O.Source.most g.O.Source.idle g.met.O.Source.most_grows g.met.O.Source.idle_grows g.O.Source.want (g.G.Morsels.morsel_of c.args.morsels.now) w.intake c.fetch.new.self c.wants-wish.result c.in-Ok.got x.0 polled.Waiting w.tree c.turn.new.self
          c.wants-wish.ensures.want x.2.answers (λ d. c.in-Waiting.ensures.pays r'.reads r'.out d k r'.tree))
          refl (λ j. omega arith) (le_refl (g.S.Sends.unclosed w.sender)) false c.requires.goes_on (omega arith) (read-puts w.intake x.0 x.2.is_read) (pull-fits g.O.Source.Stands g.O.Source.op g.S.Sends.Stands g.S.Sends.task goes (g.G.Morsels.morsel_of c.args.morsels.now) w _ t c.wants-wish.result x.0 c.requires.running x.2.is_wished c.wants-wish.ensures.wishes k h),
    )

pub returns-in-Waiting-2-clause-ready : goal.returns-in-Waiting-2-clause-ready
returns-in-Waiting-2-clause-ready g c =
    let w = c.args.self.now in
    let going = going-of g.O.Source.types g.S.Sends.post g.S.Sends.is_open g.S.Sends.has_closed (g.G.Morsels.types_of c.args.morsels.now) w c.requires.running c.requires.ready in
    ready-runs g.O.Source.types g.S.Sends.post g.S.Sends.is_open g.S.Sends.has_closed (g.G.Morsels.types_of c.args.morsels.now) w (record w { tree = c.turn.new.self; intake = c.fetch.new.self }) c.requires.running c.requires.empty refl
    (c.in-Waiting-2.ensures.typed (g.G.Morsels.types_of c.args.morsels.now) c.requires.ready.typed) c.in-Waiting-2.ensures.types refl going.opens going c.requires.ready.sends

pub returns-in-Waiting-2-clause-stands : goal.returns-in-Waiting-2-clause-stands
returns-in-Waiting-2-clause-stands g c =
    let w = c.args.self.now in
    let x = c.in-Ok.ensures.fetches in (
      x.0,
      x.1,
      λ goes r t h. turns g.O.Source.Stands g.O.Source.op g.S.Sends.Stands g.S.Sends.task goes (g.G.Morsels.morsel_of c.args.morsels.now) g.O.Source.want w (record w { tree = c.turn.new.self; intake = c.fetch.new.self }) t x.0 c.wants-wish.result c.in-Ok.got polled.Waiting
          c.requires.running c.requires.empty c.wants-wish.ensures.want x.2 h.0 c.in-Waiting-2.ensures.numbered c.in-Waiting-2.ensures.stands c.requires.empty (λ s put k. k)
          (λ s o. let off : false ≡ true = sym c.requires.goes_on ∙ o in cc) (running g.O.Source.Stands g.O.Source.op g.S.Sends.Stands g.S.Sends.task goes (g.G.Morsels.morsel_of c.args.morsels.now) w t c.requires.running h),
      moves g.O.Source.Stands g.O.Source.want (g.W.Wires.IsFull c.args.wires.now) (g.W.Wires.LacksMemory c.args.wires.now) (g.G.Morsels.morsel_of c.args.morsels.now) w (record w { tree = c.turn.new.self; intake = c.fetch.new.self }) c.fetch.new.self c.wants-wish.result c.in-Ok.got x.0 c.requires.running c.requires.empty c.requires.goes_on c.wants-wish.ensures.want (search rules) x.2.answers,
      read-counted c.args.self.now.intake c.args.self.now.counts x.0 x.2.is_read,
      λ goes t k h.
          let r' = running g.O.Source.Stands g.O.Source.op g.S.Sends.Stands g.S.Sends.task goes (g.G.Morsels.morsel_of c.args.morsels.now) w t c.requires.running h in
          turn-spent g.O.Source.most g.O.Source.idle g.S.Sends.post g.S.Sends.held g.S.Sends.unclosed (g.G.Morsels.morsel_of c.args.morsels.now) (shape g.O.Source.op w.tree) _ w (record w { tree = c.turn.new.self; intake = c.fetch.new.self }) t x.0 polled.Waiting (own_turn c.in-Ok.got) _ c.requires.running c.requires.running c.requires.empty c.requires.empty c.requires.goes_on
          (turn-pays g.O.Source.most g.O.Source.idle g.met.O.Source.most_grows g.met.O.Source.idle_grows g.O.Source.want (g.G.Morsels.morsel_of c.args.morsels.now) w.intake c.fetch.new.self c.wants-wish.result c.in-Ok.got x.0 polled.Waiting w.tree c.turn.new.self
          c.wants-wish.ensures.want x.2.answers (λ d. c.in-Waiting-2.ensures.pays r'.reads r'.out d k r'.tree))
          refl (λ j. omega arith) (le_refl (g.S.Sends.unclosed w.sender)) false c.requires.goes_on (let a = came-or-own (g.G.Morsels.morsel_of c.args.morsels.now) w.intake c.fetch.new.self c.wants-wish.result c.in-Ok.got x.0 x.2.answers (search rules) in omega (arith, a)) (read-puts w.intake x.0 x.2.is_read) (pull-fits g.O.Source.Stands g.O.Source.op g.S.Sends.Stands g.S.Sends.task goes (g.G.Morsels.morsel_of c.args.morsels.now) w _ t c.wants-wish.result x.0 c.requires.running x.2.is_wished c.wants-wish.ensures.wishes k h),
    )

pub returns-in-Fault-clause-ready : goal.returns-in-Fault-clause-ready
returns-in-Fault-clause-ready g c =
    let w = c.args.self.now in
    let v = c.fail-in-Fault.new.self in
    let going = going-of g.O.Source.types g.S.Sends.post g.S.Sends.is_open g.S.Sends.has_closed (g.G.Morsels.types_of c.args.morsels.now) w c.requires.running c.requires.ready in
    ready-fails g.O.Source.types g.S.Sends.post g.S.Sends.is_open g.S.Sends.has_closed (g.G.Morsels.types_of c.args.morsels.now) w v _ c.turn.new.self w.sender c.fail-in-Fault.ensures.phase c.fail-in-Fault.ensures.pending c.fail-in-Fault.ensures.closing c.fail-in-Fault.ensures.tree c.fail-in-Fault.ensures.sender
    (c.in-Fault.ensures.typed (g.G.Morsels.types_of c.args.morsels.now) c.requires.ready.typed) c.in-Fault.ensures.types refl going c.requires.ready.sends

pub returns-in-Fault-clause-stands : goal.returns-in-Fault-clause-stands
returns-in-Fault-clause-stands g c =
    let w = c.args.self.now in
    let v = c.fail-in-Fault.new.self in
    let x = c.in-Ok.ensures.fetches in
    let going = going-of g.O.Source.types g.S.Sends.post g.S.Sends.is_open g.S.Sends.has_closed (g.G.Morsels.types_of c.args.morsels.now) w c.requires.running c.requires.ready in
    let unclosed = g.met.S.Sends.open_first w.sender (going.opens c.requires.goes_on) in (
      x.0,
      x.1,
      λ goes r t h. gives-fault g.O.Source.Stands g.O.Source.op g.S.Sends.Stands g.S.Sends.task goes (g.G.Morsels.morsel_of c.args.morsels.now) g.met.O.Source.abides g.O.Source.want w v c.fetch.new.self c.turn.new.self c.in-Fault.fault (g.S.Sends.post w.sender) t x.0
          c.wants-wish.result c.in-Ok.got c.fail-in-Fault.ensures.phase c.fail-in-Fault.ensures.pending (c.fail-in-Fault.ensures.closing ∙ going.closing)
          (subst (λ s. IsAt (g.S.Sends.post w.sender) (g.S.Sends.task s)) (sym c.fail-in-Fault.ensures.sender) (g.met.S.Sends.at_post w.sender))
          c.fail-in-Fault.ensures.tree c.fail-in-Fault.ensures.intake c.wants-wish.ensures.want x.2 h.0 c.in-Fault.ensures.stands c.requires.empty
          (λ a put s. subst (λ z. BeganSending goes (g.S.Sends.task z) a.rows put) (sym c.fail-in-Fault.ensures.sender) (g.met.S.Sends.begun w.sender goes a put s unclosed))
          (running g.O.Source.Stands g.O.Source.op g.S.Sends.Stands g.S.Sends.task goes (g.G.Morsels.morsel_of c.args.morsels.now) w t c.requires.running h),
      rw c.fail-in-Fault.ensures.moved (by_fault c.in-Fault.fault c.requires.running c.fail-in-Fault.ensures.phase),
      c.fail-in-Fault.ensures.counts ∙ read-counted c.args.self.now.intake c.args.self.now.counts x.0 x.2.is_read,
      λ goes t k h. fails-spent g.O.Source.most g.O.Source.idle g.S.Sends.post g.S.Sends.held g.S.Sends.unclosed (g.G.Morsels.morsel_of c.args.morsels.now) (shape g.O.Source.op w.tree) _ w v c.in-Fault.fault t x.0 c.fail-in-Fault.result c.fail-in-Fault.ensures.moved c.requires.running c.fail-in-Fault.ensures.phase
          c.fail-in-Fault.ensures.pending (c.fail-in-Fault.ensures.closing ∙ going.closing) (read-puts w.intake x.0 x.2.is_read) (pull-fits g.O.Source.Stands g.O.Source.op g.S.Sends.Stands g.S.Sends.task goes (g.G.Morsels.morsel_of c.args.morsels.now) w _ t c.wants-wish.result x.0 c.requires.running x.2.is_wished c.wants-wish.ensures.wishes k h),
    )

pub returns-in-Ok-accept-clause-ready : goal.returns-in-Ok-accept-clause-ready
returns-in-Ok-accept-clause-ready g c =
    let w = c.args.self.now in
    let going = going-of g.O.Source.types g.S.Sends.post g.S.Sends.is_open g.S.Sends.has_closed (g.G.Morsels.types_of c.args.morsels.now) w c.requires.running c.requires.ready in
    ready-runs g.O.Source.types g.S.Sends.post g.S.Sends.is_open g.S.Sends.has_closed (g.G.Morsels.types_of c.args.morsels.now) w (record w { tree = c.turn.new.self; intake = c.fetch.new.self; sender = c.accept.new.self; is_over = w.is_over }) c.requires.running c.requires.empty refl
    (c.in-Gave.ensures.typed (g.G.Morsels.types_of c.args.morsels.now) c.requires.ready.typed) c.in-Gave.ensures.types c.in-Ok-accept.ensures.post (λ o. c.in-Ok-accept.ensures.open) going c.requires.ready.sends

pub returns-in-Ok-accept-clause-stands : goal.returns-in-Ok-accept-clause-stands
returns-in-Ok-accept-clause-stands g c =
    let w = c.args.self.now in
    let x = c.in-Ok.ensures.fetches in (
      x.0,
      x.1,
      λ goes r t h. turns g.O.Source.Stands g.O.Source.op g.S.Sends.Stands g.S.Sends.task goes (g.G.Morsels.morsel_of c.args.morsels.now) g.O.Source.want w (record w { tree = c.turn.new.self; intake = c.fetch.new.self; sender = c.accept.new.self; is_over = w.is_over }) t x.0 c.wants-wish.result c.in-Ok.got (polled.Gave c.in-Gave.rows)
          c.requires.running c.requires.empty c.wants-wish.ensures.want x.2 h.0 c.in-Gave.ensures.numbered c.in-Gave.ensures.stands c.requires.empty (c.in-Ok-accept.ensures.ok goes r)
          (λ s o. let off : false ≡ true = sym c.requires.goes_on ∙ o in cc) (running g.O.Source.Stands g.O.Source.op g.S.Sends.Stands g.S.Sends.task goes (g.G.Morsels.morsel_of c.args.morsels.now) w t c.requires.running h),
      by_rows c.in-Ok.got (polled.Gave c.in-Gave.rows) (λ e. cc) c.in-Gave.ensures.stands,
      read-counted c.args.self.now.intake c.args.self.now.counts x.0 x.2.is_read,
      λ goes t k h.
          let r' = running g.O.Source.Stands g.O.Source.op g.S.Sends.Stands g.S.Sends.task goes (g.G.Morsels.morsel_of c.args.morsels.now) w t c.requires.running h in
          turn-spent g.O.Source.most g.O.Source.idle g.S.Sends.post g.S.Sends.held g.S.Sends.unclosed (g.G.Morsels.morsel_of c.args.morsels.now) (shape g.O.Source.op w.tree) _ w (record w { tree = c.turn.new.self; intake = c.fetch.new.self; sender = c.accept.new.self }) t x.0 (polled.Gave c.in-Gave.rows) (own_turn c.in-Ok.got) _ c.requires.running c.requires.running c.requires.empty c.requires.empty c.requires.goes_on
          (turn-pays g.O.Source.most g.O.Source.idle g.met.O.Source.most_grows g.met.O.Source.idle_grows g.O.Source.want (g.G.Morsels.morsel_of c.args.morsels.now) w.intake c.fetch.new.self c.wants-wish.result c.in-Ok.got x.0 (polled.Gave c.in-Gave.rows) w.tree c.turn.new.self
          c.wants-wish.ensures.want x.2.answers (λ d. c.in-Gave.ensures.pays r'.reads r'.out d k r'.tree))
          c.in-Ok-accept.ensures.post c.in-Ok-accept.ensures.held c.in-Ok-accept.ensures.unclosed false c.requires.goes_on (let some = c.in-Gave.ensures.gives.1 in omega (arith, some)) (read-puts w.intake x.0 x.2.is_read) (pull-fits g.O.Source.Stands g.O.Source.op g.S.Sends.Stands g.S.Sends.task goes (g.G.Morsels.morsel_of c.args.morsels.now) w _ t c.wants-wish.result x.0 c.requires.running x.2.is_wished c.wants-wish.ensures.wishes k h),
    )

pub returns-in-Ok-accept-2-clause-ready : goal.returns-in-Ok-accept-2-clause-ready
returns-in-Ok-accept-2-clause-ready g c =
    let w = c.args.self.now in
    let going = going-of g.O.Source.types g.S.Sends.post g.S.Sends.is_open g.S.Sends.has_closed (g.G.Morsels.types_of c.args.morsels.now) w c.requires.running c.requires.ready in
    ready-runs g.O.Source.types g.S.Sends.post g.S.Sends.is_open g.S.Sends.has_closed (g.G.Morsels.types_of c.args.morsels.now) w (record w { tree = c.turn.new.self; intake = c.fetch.new.self; sender = c.accept-in-End.new.self; is_over = true }) c.requires.running c.requires.empty refl
    (c.in-End.ensures.typed (g.G.Morsels.types_of c.args.morsels.now) c.requires.ready.typed) c.in-End.ensures.types c.in-Ok-accept-2.ensures.post (λ o. cc) going c.requires.ready.sends

pub returns-in-Ok-accept-2-clause-stands : goal.returns-in-Ok-accept-2-clause-stands
returns-in-Ok-accept-2-clause-stands g c =
    let w = c.args.self.now in
    let x = c.in-Ok.ensures.fetches in (
      x.0,
      x.1,
      λ goes r t h. turns g.O.Source.Stands g.O.Source.op g.S.Sends.Stands g.S.Sends.task goes (g.G.Morsels.morsel_of c.args.morsels.now) g.O.Source.want w (record w { tree = c.turn.new.self; intake = c.fetch.new.self; sender = c.accept-in-End.new.self; is_over = true }) t x.0 c.wants-wish.result c.in-Ok.got polled.End
          c.requires.running c.requires.empty c.wants-wish.ensures.want x.2 h.0 c.in-End.ensures.numbered c.in-End.ensures.stands c.requires.empty (c.in-Ok-accept-2.ensures.ok goes r)
          (λ s o. refl) (running g.O.Source.Stands g.O.Source.op g.S.Sends.Stands g.S.Sends.task goes (g.G.Morsels.morsel_of c.args.morsels.now) w t c.requires.running h),
      by_rows c.in-Ok.got polled.End (λ e. cc) c.in-End.ensures.stands,
      read-counted c.args.self.now.intake c.args.self.now.counts x.0 x.2.is_read,
      λ goes t k h.
          let r' = running g.O.Source.Stands g.O.Source.op g.S.Sends.Stands g.S.Sends.task goes (g.G.Morsels.morsel_of c.args.morsels.now) w t c.requires.running h in
          turn-spent g.O.Source.most g.O.Source.idle g.S.Sends.post g.S.Sends.held g.S.Sends.unclosed (g.G.Morsels.morsel_of c.args.morsels.now) (shape g.O.Source.op w.tree) _ w (record w { tree = c.turn.new.self; intake = c.fetch.new.self; sender = c.accept-in-End.new.self; is_over = true }) t x.0 polled.End (own_turn c.in-Ok.got) _ c.requires.running c.requires.running c.requires.empty c.requires.empty c.requires.goes_on
          (turn-pays g.O.Source.most g.O.Source.idle g.met.O.Source.most_grows g.met.O.Source.idle_grows g.O.Source.want (g.G.Morsels.morsel_of c.args.morsels.now) w.intake c.fetch.new.self c.wants-wish.result c.in-Ok.got x.0 polled.End w.tree c.turn.new.self
          c.wants-wish.ensures.want x.2.answers (λ d. c.in-End.ensures.pays r'.reads r'.out d k r'.tree))
          c.in-Ok-accept-2.ensures.post c.in-Ok-accept-2.ensures.held c.in-Ok-accept-2.ensures.unclosed true refl (omega arith) (read-puts w.intake x.0 x.2.is_read) (pull-fits g.O.Source.Stands g.O.Source.op g.S.Sends.Stands g.S.Sends.task goes (g.G.Morsels.morsel_of c.args.morsels.now) w _ t c.wants-wish.result x.0 c.requires.running x.2.is_wished c.wants-wish.ensures.wishes k h),
    )

pub returns-in-Err-accept-clause-ready : goal.returns-in-Err-accept-clause-ready
returns-in-Err-accept-clause-ready g c =
    let w = c.args.self.now in
    let v = c.fail-in-Err-accept.new.self in
    let going = going-of g.O.Source.types g.S.Sends.post g.S.Sends.is_open g.S.Sends.has_closed (g.G.Morsels.types_of c.args.morsels.now) w c.requires.running c.requires.ready in
    ready-fails g.O.Source.types g.S.Sends.post g.S.Sends.is_open g.S.Sends.has_closed (g.G.Morsels.types_of c.args.morsels.now) w v _ c.turn.new.self c.accept.new.self c.fail-in-Err-accept.ensures.phase c.fail-in-Err-accept.ensures.pending c.fail-in-Err-accept.ensures.closing c.fail-in-Err-accept.ensures.tree c.fail-in-Err-accept.ensures.sender
    (c.in-Gave.ensures.typed (g.G.Morsels.types_of c.args.morsels.now) c.requires.ready.typed) c.in-Gave.ensures.types c.in-Err-accept.ensures.post going c.requires.ready.sends

pub returns-in-Err-accept-clause-stands : goal.returns-in-Err-accept-clause-stands
returns-in-Err-accept-clause-stands g c =
    let w = c.args.self.now in
    let v = c.fail-in-Err-accept.new.self in
    let s' = c.accept.new.self in
    let x = c.in-Ok.ensures.fetches in
    let going = going-of g.O.Source.types g.S.Sends.post g.S.Sends.is_open g.S.Sends.has_closed (g.G.Morsels.types_of c.args.morsels.now) w c.requires.running c.requires.ready in
    let unclosed = c.in-Err-accept.ensures.closed ∙ g.met.S.Sends.open_first w.sender (going.opens c.requires.goes_on) in (
      x.0,
      x.1,
      λ goes r t h. loses g.O.Source.Stands g.O.Source.op g.S.Sends.Stands g.S.Sends.task goes (g.G.Morsels.morsel_of c.args.morsels.now) g.met.O.Source.abides w v c.no_memory-in-Err-accept.result (g.S.Sends.post w.sender) t x.0
          c.fail-in-Err-accept.ensures.phase c.fail-in-Err-accept.ensures.pending (c.fail-in-Err-accept.ensures.closing ∙ going.closing)
          (subst (λ s. IsAt (g.S.Sends.post w.sender) (g.S.Sends.task s)) (sym c.fail-in-Err-accept.ensures.sender)
          (subst (λ p. IsAt p (g.S.Sends.task s')) c.in-Err-accept.ensures.post (g.met.S.Sends.at_post s')))
          (ap (Rattle.vx_worker.specs.Trees.shape g.O.Source.op) c.fail-in-Err-accept.ensures.tree ∙ c.in-Gave.ensures.shape) c.no_memory-in-Err-accept.ensures
          (subst (λ k. IntakeStands k (Rattle.vx_worker.specs.Trace.added t x.0)) (sym c.fail-in-Err-accept.ensures.intake) (x.2.stands t h.0)) x.2.is_read c.requires.empty
          (λ a put s. subst (λ z. BeganSending goes (g.S.Sends.task z) a.rows put) (sym c.fail-in-Err-accept.ensures.sender)
          (g.met.S.Sends.begun s' goes (record { rows = a.rows; over = stream_state.Failed c.no_memory-in-Err-accept.result }) put (c.in-Err-accept.ensures.err goes a put s c.no_memory-in-Err-accept.result) unclosed))
          (λ r'. turned g.O.Source.Stands g.O.Source.op g.S.Sends.Stands g.S.Sends.task goes (g.G.Morsels.morsel_of c.args.morsels.now) g.O.Source.want w c.fetch.new.self v.tree c.turn.new.self t x.0 c.wants-wish.result c.in-Ok.got (polled.Gave c.in-Gave.rows) c.fail-in-Err-accept.ensures.tree c.wants-wish.ensures.want x.2 h.0 c.in-Gave.ensures.stands r')
          (running g.O.Source.Stands g.O.Source.op g.S.Sends.Stands g.S.Sends.task goes (g.G.Morsels.morsel_of c.args.morsels.now) w t c.requires.running h),
      rw c.fail-in-Err-accept.ensures.moved (by_fault c.no_memory-in-Err-accept.result c.requires.running c.fail-in-Err-accept.ensures.phase),
      c.fail-in-Err-accept.ensures.counts ∙ read-counted c.args.self.now.intake c.args.self.now.counts x.0 x.2.is_read,
      λ goes t k h. fails-spent g.O.Source.most g.O.Source.idle g.S.Sends.post g.S.Sends.held g.S.Sends.unclosed (g.G.Morsels.morsel_of c.args.morsels.now) (shape g.O.Source.op w.tree) _ w v c.no_memory-in-Err-accept.result t x.0 c.fail-in-Err-accept.result c.fail-in-Err-accept.ensures.moved c.requires.running c.fail-in-Err-accept.ensures.phase
          c.fail-in-Err-accept.ensures.pending (c.fail-in-Err-accept.ensures.closing ∙ going.closing) (read-puts w.intake x.0 x.2.is_read) (pull-fits g.O.Source.Stands g.O.Source.op g.S.Sends.Stands g.S.Sends.task goes (g.G.Morsels.morsel_of c.args.morsels.now) w _ t c.wants-wish.result x.0 c.requires.running x.2.is_wished c.wants-wish.ensures.wishes k h),
    )

pub returns-in-Err-accept-2-clause-ready : goal.returns-in-Err-accept-2-clause-ready
returns-in-Err-accept-2-clause-ready g c =
    let w = c.args.self.now in
    let v = c.fail-in-Err-accept-2.new.self in
    let going = going-of g.O.Source.types g.S.Sends.post g.S.Sends.is_open g.S.Sends.has_closed (g.G.Morsels.types_of c.args.morsels.now) w c.requires.running c.requires.ready in
    ready-fails g.O.Source.types g.S.Sends.post g.S.Sends.is_open g.S.Sends.has_closed (g.G.Morsels.types_of c.args.morsels.now) w v _ c.turn.new.self c.accept-in-End.new.self c.fail-in-Err-accept-2.ensures.phase c.fail-in-Err-accept-2.ensures.pending c.fail-in-Err-accept-2.ensures.closing c.fail-in-Err-accept-2.ensures.tree c.fail-in-Err-accept-2.ensures.sender
    (c.in-End.ensures.typed (g.G.Morsels.types_of c.args.morsels.now) c.requires.ready.typed) c.in-End.ensures.types c.in-Err-accept-2.ensures.post going c.requires.ready.sends

pub returns-in-Err-accept-2-clause-stands : goal.returns-in-Err-accept-2-clause-stands
returns-in-Err-accept-2-clause-stands g c =
    let w = c.args.self.now in
    let v = c.fail-in-Err-accept-2.new.self in
    let s' = c.accept-in-End.new.self in
    let x = c.in-Ok.ensures.fetches in
    let going = going-of g.O.Source.types g.S.Sends.post g.S.Sends.is_open g.S.Sends.has_closed (g.G.Morsels.types_of c.args.morsels.now) w c.requires.running c.requires.ready in
    let unclosed = c.in-Err-accept-2.ensures.closed ∙ g.met.S.Sends.open_first w.sender (going.opens c.requires.goes_on) in (
      x.0,
      x.1,
      λ goes r t h. loses g.O.Source.Stands g.O.Source.op g.S.Sends.Stands g.S.Sends.task goes (g.G.Morsels.morsel_of c.args.morsels.now) g.met.O.Source.abides w v c.no_memory-in-Err-accept-2.result (g.S.Sends.post w.sender) t x.0
          c.fail-in-Err-accept-2.ensures.phase c.fail-in-Err-accept-2.ensures.pending (c.fail-in-Err-accept-2.ensures.closing ∙ going.closing)
          (subst (λ s. IsAt (g.S.Sends.post w.sender) (g.S.Sends.task s)) (sym c.fail-in-Err-accept-2.ensures.sender)
          (subst (λ p. IsAt p (g.S.Sends.task s')) c.in-Err-accept-2.ensures.post (g.met.S.Sends.at_post s')))
          (ap (Rattle.vx_worker.specs.Trees.shape g.O.Source.op) c.fail-in-Err-accept-2.ensures.tree ∙ c.in-End.ensures.shape) c.no_memory-in-Err-accept-2.ensures
          (subst (λ k. IntakeStands k (Rattle.vx_worker.specs.Trace.added t x.0)) (sym c.fail-in-Err-accept-2.ensures.intake) (x.2.stands t h.0)) x.2.is_read c.requires.empty
          (λ a put s. subst (λ z. BeganSending goes (g.S.Sends.task z) a.rows put) (sym c.fail-in-Err-accept-2.ensures.sender)
          (g.met.S.Sends.begun s' goes (record { rows = a.rows; over = stream_state.Failed c.no_memory-in-Err-accept-2.result }) put (c.in-Err-accept-2.ensures.err goes a put s c.no_memory-in-Err-accept-2.result) unclosed))
          (λ r'. turned g.O.Source.Stands g.O.Source.op g.S.Sends.Stands g.S.Sends.task goes (g.G.Morsels.morsel_of c.args.morsels.now) g.O.Source.want w c.fetch.new.self v.tree c.turn.new.self t x.0 c.wants-wish.result c.in-Ok.got polled.End c.fail-in-Err-accept-2.ensures.tree c.wants-wish.ensures.want x.2 h.0 c.in-End.ensures.stands r')
          (running g.O.Source.Stands g.O.Source.op g.S.Sends.Stands g.S.Sends.task goes (g.G.Morsels.morsel_of c.args.morsels.now) w t c.requires.running h),
      rw c.fail-in-Err-accept-2.ensures.moved (by_fault c.no_memory-in-Err-accept-2.result c.requires.running c.fail-in-Err-accept-2.ensures.phase),
      c.fail-in-Err-accept-2.ensures.counts ∙ read-counted c.args.self.now.intake c.args.self.now.counts x.0 x.2.is_read,
      λ goes t k h. fails-spent g.O.Source.most g.O.Source.idle g.S.Sends.post g.S.Sends.held g.S.Sends.unclosed (g.G.Morsels.morsel_of c.args.morsels.now) (shape g.O.Source.op w.tree) _ w v c.no_memory-in-Err-accept-2.result t x.0 c.fail-in-Err-accept-2.result c.fail-in-Err-accept-2.ensures.moved c.requires.running c.fail-in-Err-accept-2.ensures.phase
          c.fail-in-Err-accept-2.ensures.pending (c.fail-in-Err-accept-2.ensures.closing ∙ going.closing) (read-puts w.intake x.0 x.2.is_read) (pull-fits g.O.Source.Stands g.O.Source.op g.S.Sends.Stands g.S.Sends.task goes (g.G.Morsels.morsel_of c.args.morsels.now) w _ t c.wants-wish.result x.0 c.requires.running x.2.is_wished c.wants-wish.ensures.wishes k h),
    )
