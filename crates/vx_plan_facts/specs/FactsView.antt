-- The facts of a node, as the program holds them.
use Rattle.std.specs.Prelude.{ℕ, map, length}
use Rattle.vx_rows_values.specs.Values.{Val}
use Rattle.vx_rows_values.specs.ValueView.{val_of}
use Rattle.vx_plan_facts.specs.declared.facts.FixedColumn as rust_fixed
use Rattle.vx_plan_facts.specs.declared.facts.ColumnFacts as rust_facts
use Rattle.vx_plan_facts.specs.Facts.{Facts}

-- a column with its value
abbrev pub fixed_of : rust_fixed.FixedColumn → ℕ × Val
fixed_of e = (e.column, val_of e.value.now)

abbrev pub facts_of : rust_facts.ColumnFacts → Facts
facts_of k = record { firsts = k.firsts.items; fixed = map fixed_of k.fixed.items }

-- how many columns the node has
abbrev pub width_of : rust_facts.ColumnFacts → ℕ
width_of k = length k.firsts.items
