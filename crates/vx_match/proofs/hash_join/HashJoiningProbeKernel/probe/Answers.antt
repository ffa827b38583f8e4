use Rattle.std.proofs.Common.{ℕ, ◌∙◌, ◌+◌, ◌*◌, ◌≤◌, length}
use Rattle.std.proofs.lemmas.Result.{IfOk-weaker}
use Rattle.vx_match.proofs.Fewer.{probe-long}
use Rattle.vx_match.proofs.hash_join.HashJoiningProbeKernel.probe.Goals as goal

pub returns-clause-joins : goal.returns-clause-joins
returns-clause-joins c =
    let on = c.self.inside.on.items in
    let rs = c.self.inside.build.rows in
    let read = length c.self.inside.read.rows in
    let xs = c.args.batch.rows in
    let lefts = c.as_slice.ensures.value ∙ c.self.invariant.lefts in
    rw (← c.self.view_is)
    (IfOk-weaker c.probe.result _ (λ p. (n : ℕ) → length p.0.rows + length p.1.rows * (read + length rs + n) ≤ length xs * (read + length rs + n))
    (λ p h n. probe-long on h.0 p.1.rows xs p.0.rows rs read n h.1 (h.2 on lefts c.self.invariant.rights)) c.probe.ensures.rows)
