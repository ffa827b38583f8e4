use Rattle.std.proofs.Common.{◌≡◌, map, take}
use Rattle.std.specs.Prelude.{pos}
use Rattle.vx_rows_values.specs.Values.{num}
use Rattle.vx_wisconsin.specs.Wisconsin.{column_types}
use Rattle.vx_wisconsin.proofs.rows.push_numbers.Given as goal

abbrev pub invariant-loop-number : goal.invariant-loop-number
invariant-loop-number l = record {
  types : l.rows.types ≡ column_types;
  rows : l.rows.rows ≡ l.initial.rows.rows;
  front : l.rows.front ≡ map (λ k. num (pos k)) (take l.number-index l.numbers);
}
