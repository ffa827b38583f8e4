use Rattle.std.proofs.Common.{ap, ◌∙◌, [], ◌∷◌}
use Rattle.vx_ops.specs.Turn.{Shape}
use Rattle.vx_rows_values.specs.declared.value.ColType.TheVariants.{Int}
use Rattle.test_worker.proofs.workers.scanner.Goals as goal

pub returns : goal.returns
returns c = c.new-5.ensures.ready (λ _. Int ∷ []) (ap (λ (s : Shape). s.left) c.new.ensures.types ∙ c.in_ok-types.ensures.items)
