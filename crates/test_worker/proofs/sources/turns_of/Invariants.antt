use Rattle.std.proofs.Common.{◌≡◌, [], ◌∷◌}
use Rattle.vx_rows_values.specs.declared.value.ColType.TheVariants.{Int}
use Rattle.test_worker.proofs.sources.turns_of.Given as goal

abbrev pub invariant-loop-word : goal.invariant-loop-word
invariant-loop-word g l = (g.S.Source.types l.source).left ≡ Int ∷ []
