use Rattle.std.proofs.Common.{subst, ◌≡◌, true}
use Rattle.vx_rows_values.specs.Values.{Row, row_eq}
use Rattle.vx_exec_laws.proofs.Apart.{same-from-counts}
use Rattle.vx_rows_values.proofs.Compare.{row_eq-same, row_eq-refl}
use Rattle.vx_exec_laws.proofs.Permutation.{IsPermutation-same, same-IsPermutation}
use Rattle.vx_exec_laws.proofs.same_rows_is_a_permutation.Goals as goal

pub returns : goal.returns
returns c = record {
  permutation = λ xs ys. (same-IsPermutation xs ys, IsPermutation-same xs ys);
  counts = λ xs ys. (λ s row. s.totals _, same-from-counts xs ys);
  same_row = λ a b. (row_eq-same a b, λ e. let P : Row → Type 0 = λ v. row_eq a v ≡ true in subst P e (row_eq-refl a));
}
