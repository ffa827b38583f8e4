use Rattle.std.proofs.Common.{◌≡◌, ◌-◌, ◌++◌, ◌∙◌, length, take, ap, arith}
use Rattle.vx_ops.proofs.Limits.{limit-front, limit-less}
use Rattle.vx_ops.proofs.limit.LimitingStepKernel.step.Goals as goal

pub returns-clause-made : goal.returns-clause-made
returns-clause-made c xs ys h =
    let s = c.args.self.now in
    let batch = c.args.batch.rows in
    let less = limit-less s.rows s.missing xs batch h.missing in
    let from_start : s.missing - 0 ≡ s.missing = omega arith in
    let front : c.in_ok-front.front.rows ≡ take s.missing batch = c.in_ok-front.ensures.rows ∙ ap (λ k. take k batch) from_start in
    record {
      rows = ap (λ zs. ys ++ zs) front ∙ limit-front s.rows s.missing xs ys batch h.rows h.missing;
      missing = omega (arith, less, c.if-count-self.false, c.len-count.ensures);
    }
