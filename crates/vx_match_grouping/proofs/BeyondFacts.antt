-- The least and the greatest value with one more.
use Rattle.std.proofs.Common.{◌≡◌, ℕ, false, sym}
use Rattle.vx_rows_values.specs.Values.{Val, Row, value_at}
use Rattle.vx_match_grouping.specs.declared.folds.End.{End}
use Rattle.vx_match_grouping.specs.declared.folds.End.TheVariants.{Least, Greatest}
use Rattle.vx_plan_nodes.specs.Plan.{least, greatest}
use Rattle.vx_match_grouping.specs.Groups.{Held, advance}
use Rattle.vx_match_grouping.specs.Shown.{aggregate_at, is_beyond}
use Rattle.vx_match_grouping.proofs.AggregateFacts.{smaller_first, larger_first}

-- what is kept of a column's values
abbrev pub kept_held : End → ℕ → Val → Held
kept_held end c v = record { aggregate = aggregate_at end c; value = v; taken = 0 }

-- a value that comes and is not nearer to the end
pub same_held : (end : End) (c : ℕ) (v : Val) (row : Row) → is_beyond end (value_at row c) v ≡ false → kept_held end c v ≡ advance row (kept_held end c v)
same_held Least c v row h = λ i. record { aggregate = least c; value = sym (smaller_first v (value_at row c) h) i; taken = 0 }
same_held Greatest c v row h = λ i. record { aggregate = greatest c; value = sym (larger_first v (value_at row c) h) i; taken = 0 }
