-- Columns that stand for others: the first of those that are equal, and copies in an output.
use Rattle.std.specs.Prelude.{ℕ, List, filter, map, unwrap_or}
use Rattle.vx_rows_values.specs.declared.order.OrderEntry.{OrderEntry}
use Rattle.vx_plan_nodes.specs.Phases.{first_columns}
use Rattle.vx_plan_facts.specs.Equal.{Equality}
use Rattle.vx_check_rules.specs.Rules.{entry_at}
use Rattle.vx_check_rules.specs.Derived.{first_of}

-- the first of w columns that is equal to this one
abbrev pub first_equal : ℕ → Equality → ℕ → ℕ
first_equal w e c = unwrap_or (first_of (filter (λ d. e d c) (first_columns w))) c

-- the columns by these first ones
abbrev pub named_first : ℕ → Equality → List ℕ → List ℕ
named_first w e cols = map (first_equal w e) cols

-- the entries of an order by them, in their directions
abbrev pub ordered_first : ℕ → Equality → List OrderEntry → List OrderEntry
ordered_first w e order = map (λ x. entry_at (first_equal w e x.column) x) order
