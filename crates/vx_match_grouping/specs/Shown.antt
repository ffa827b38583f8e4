-- What the aggregates of all groups show.
use Rattle.std.specs.Prelude.{pos, ℕ, Bool, List, map}
use Rattle.std.specs.Ordering.{is_gt, is_lt}
use Rattle.vx_rows_values.specs.Values.{Val, num, val_cmp}
use Rattle.vx_rows_values.specs.ValueView.{val_of}
use Rattle.vx_plan_nodes.specs.Plan.{Aggregate, least, greatest, sum, count_rows}
use Rattle.vx_match_grouping.specs.declared.folds.End.{End}
use Rattle.vx_match_grouping.specs.declared.folds.End.TheVariants.{Least, Greatest}
use Rattle.vx_match_grouping.specs.declared.sum.WideSum.{WideSum}
use Rattle.vx_match_grouping.specs.declared.column.Extremes.{Extremes}
use Rattle.vx_match_grouping.specs.declared.column.Extremes.TheVariants.{Numbers, Values}
use Rattle.vx_match_grouping.specs.declared.column.AggregateColumn.{AggregateColumn}
use Rattle.vx_match_grouping.specs.declared.column.AggregateColumn.TheVariants.{Extreme, Sum, CountRows}
use Rattle.vx_match_grouping.specs.Groups.{Held}
use Rattle.vx_match_grouping.specs.Takes.{entry_held}

-- the least or the greatest value of a column
abbrev pub aggregate_at : End → ℕ → Aggregate
aggregate_at Least c = least c
aggregate_at Greatest c = greatest c

-- whether the first value is nearer to this end than the second
abbrev pub is_beyond : End → Val → Val → Bool
is_beyond Least v kept = is_gt (val_cmp kept v)
is_beyond Greatest v kept = is_lt (val_cmp kept v)

abbrev pub extremes_held : Aggregate → Extremes → List Held
extremes_held a (Numbers v) = map (entry_held a (λ n. num n) (λ _. 0)) v.items
extremes_held a (Values v) = map (entry_held a (λ x. val_of x) (λ _. 0)) v.items

abbrev pub sum_held : ℕ → WideSum → Held
sum_held c s = entry_held (sum c) (λ (s : WideSum). num s.total) (λ (s : WideSum). s.taken) s

-- the aggregate of each group
abbrev pub column_held : AggregateColumn → List Held
column_held (Extreme end c e) = extremes_held (aggregate_at end c) e
column_held (Sum c v) = map (sum_held c) v.items
column_held (CountRows v) = map (entry_held count_rows (λ n. num (pos n)) (λ n. n)) v.items

-- and which one it is
abbrev pub aggregate_in : AggregateColumn → Aggregate
aggregate_in (Extreme end c e) = aggregate_at end c
aggregate_in (Sum c v) = sum c
aggregate_in (CountRows v) = count_rows
