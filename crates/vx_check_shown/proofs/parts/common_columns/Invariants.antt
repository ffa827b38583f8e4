use Rattle.std.proofs.Common.{◌≡◌, drop, length}
use Rattle.vx_check_rules.specs.DerivedView.{equality_of}
use Rattle.vx_check_shown.specs.ShownPart.{common_columns}
use Rattle.vx_check_shown.proofs.FirstColumns.{behind}
use Rattle.vx_check_shown.proofs.parts.common_columns.Given as goal

abbrev pub invariant-loop-i : goal.invariant-loop-i
invariant-loop-i l = record {
  as_long : length l.columns ≡ length l.others;
  rest : behind l.found.items (common_columns l.outputs (equality_of l.left) (equality_of l.right) (drop l.i l.columns) (drop l.i l.others))
      ≡ common_columns l.outputs (equality_of l.left) (equality_of l.right) l.columns l.others;
}
