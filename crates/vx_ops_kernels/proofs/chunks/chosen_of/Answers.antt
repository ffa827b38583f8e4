use Rattle.std.proofs.Common.{filter, ap, ◌∙◌, sym}
use Rattle.vx_ops_kernels.specs.Holds.{holds_of}
use Rattle.vx_ops_kernels.proofs.Conditions.{chosen-none, chosen-more}
use Rattle.vx_ops_kernels.proofs.chunks.chosen_of.Goals as goal

pub loop-i-init : goal.loop-i-init
loop-i-init c = (ap (λ t. t.types) c.in_ok-found.ensures, ap (λ t. t.rows) c.in_ok-found.ensures ∙ chosen-none c.args.chunk.now.rows)

pub loop-i-preserved : goal.loop-i-preserved
loop-i-preserved c =
    let condition = c.index-conditions-i.result in (
      c.in_ok-found-2.ensures.types ∙ c.loop-i.invariant.0,
      c.in_ok-found-2.ensures.rows
          ∙ (ap (filter (holds_of condition)) c.loop-i.invariant.1
          ∙ chosen-more c.args.conditions.now c.loop-i.i condition c.args.chunk.now.rows c.loop-i-test.true (sym c.index-conditions-i.is)),
    )
