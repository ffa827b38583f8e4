use Rattle.std.proofs.Common.{sym, subst}
use Rattle.vx_ops.specs.Turn.{fresh_ledger}
use Rattle.vx_exec_operators.specs.Counts.{AreCounts}
use Rattle.vx_exec_operators.proofs.CountFacts.{nothing-counted}
use Rattle.vx_exec_operators.proofs.operator.Operator.of.Goals as goal

pub returns-clause-stands : goal.returns-clause-stands
returns-clause-stands g c = record { kind = c.requires; counts = subst (λ z. AreCounts z fresh_ledger) (sym c.new.ensures) nothing-counted }
