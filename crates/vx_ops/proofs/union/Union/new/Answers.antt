use Rattle.std.proofs.Common.{false, refl}
use Rattle.vx_ops.specs.Turn.{fresh_ledger}
use Rattle.vx_ops.proofs.Unions.{union-running}
use Rattle.vx_ops.proofs.union.Union.new.Goals as goal

pub returns-clause-stands : goal.returns-clause-stands
returns-clause-stands c = union-running c.args.node false fresh_ledger (refl, refl, refl) refl refl
