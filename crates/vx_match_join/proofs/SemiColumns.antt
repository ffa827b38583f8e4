-- The pairs of a semi or an anti join that fits its inputs name columns of them.
use Rattle.std.proofs.Common.{◌≡◌, ℕ, Bool, true, ◌&&◌, List, ◌++◌, map, length}
use Rattle.std.specs.List.{list_all}
use Rattle.vx_rows_values.specs.Lists.{is_some_list}
use Rattle.vx_rows_values.specs.declared.value.ColType.{ColType}
use Rattle.vx_rows_values.proofs.Booleans.{and-left, and-right}
use Rattle.vx_rows.specs.View.{AreColumns}
use Rattle.vx_plan_nodes.specs.Plan.{Condition, semi_join}
use Rattle.vx_plan_nodes.specs.Typed.{is_pair, are_distinct_pairs, is_condition, is_binary}
use Rattle.vx_ops_kernels.proofs.ColumnFacts.{left-columns, right-columns}

module _ (ts us : List ColType) (matched : Bool) (on : List (ℕ × ℕ)) (conditions : List Condition) (h : is_binary ts us (semi_join matched on conditions) ≡ true) where
  pub semi-pairs : list_all (is_pair ts us) on ≡ true
  semi-pairs =
      let rest : Bool = are_distinct_pairs on && list_all (is_condition (ts ++ us)) conditions in
      and-left (list_all (is_pair ts us) on) rest (and-right (is_some_list on) (list_all (is_pair ts us) on && rest) h)

  pub semi-left-columns : AreColumns (length ts) (map (λ p. p.0) on)
  semi-left-columns = left-columns ts us on semi-pairs

  pub semi-right-columns : AreColumns (length us) (map (λ p. p.1) on)
  semi-right-columns = right-columns ts us on semi-pairs
