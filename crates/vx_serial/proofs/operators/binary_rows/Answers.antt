use Rattle.std.proofs.Common.{◌≡◌, true, subst}
use Rattle.vx_plan_nodes.specs.Outline.{binary_of}
use Rattle.vx_plan_nodes.specs.Typed.{is_binary}
use Rattle.vx_plan_nodes.specs.declared.typed.Binary.{Binary}
use Rattle.vx_ops_kernels.proofs.ColumnFacts.{union-types}
use Rattle.vx_serial.proofs.operators.binary_rows.Goals as goal

pub united-requires : goal.united-requires
united-requires c =
    let P : Binary → Type 0 = λ b. is_binary c.args.left.types c.args.right.types (binary_of b) ≡ true in
    union-types c.args.left.types c.args.right.types (subst P c.in-Union.is c.requires)
