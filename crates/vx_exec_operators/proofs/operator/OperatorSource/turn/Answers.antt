use Rattle.std.proofs.Common.{◌≡◌, sym, ap, ◌∙◌, subst}
use Rattle.vx_ops.specs.Turn.{after}
use Rattle.vx_exec_operators.specs.Counts.{with_got, with_given, AreCounts}
use Rattle.vx_exec_operators.specs.Kind.{kind_want}
use Rattle.vx_exec_operators.proofs.CountFacts.{turn-counted}
use Rattle.vx_exec_operators.proofs.operator.OperatorSource.turn.Goals as goal

pub returns-clause-stands : goal.returns-clause-stands
returns-clause-stands g c = λ l h.
    let o = c.args.self.now in
    let w = kind_want g.F.PlanFunctions o.kind in
    let counted : c.count_given.new.counts ≡ with_given (with_got o.counts w c.args.got) c.turn-polled.result =
    c.count_given.ensures ∙ ap (λ z. with_given z c.turn-polled.result) (c.count_got.ensures ∙ ap (λ z. with_got o.counts z c.args.got) c.wants-want.ensures.want) in
    record {
      kind = c.turn-polled.ensures.stands l h.kind;
      counts = subst (λ z. AreCounts z (after l w c.args.got c.turn-polled.result)) (sym counted) (turn-counted o.counts l w c.args.got c.turn-polled.result h.counts);
    }
