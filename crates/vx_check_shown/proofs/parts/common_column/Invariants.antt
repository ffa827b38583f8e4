use Rattle.std.proofs.Common.{◌≡◌, ◌&&◌}
use Rattle.vx_check_rules.specs.DerivedView.{equality_of}
use Rattle.vx_check_shown.specs.ShownPart.{common_column}
use Rattle.vx_check_shown.proofs.FirstColumns.{first_from}
use Rattle.vx_check_shown.proofs.parts.common_column.Given as goal

abbrev pub invariant-loop-common : goal.invariant-loop-common
invariant-loop-common l =
    common_column l.outputs (equality_of l.left) (equality_of l.right) l.column l.other
    ≡ first_from l.common l.outputs (λ c. equality_of l.left l.column c && equality_of l.right l.other c)
