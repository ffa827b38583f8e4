use Rattle.std.proofs.Common.{◌≡◌, [], length, map, drop}
use Rattle.csv.specs.Records.{fields_of}
use Rattle.vx_rows_values.specs.declared.value.ColType.{ColType}
use Rattle.vx_catalog_relations.specs.Walk.{walk_onto}
use Rattle.vx_catalog.specs.Loading.{next_value}
use Rattle.vx_catalog.proofs.record.push_values.Given as goal

abbrev pub invariant-loop-col : goal.invariant-loop-col
invariant-loop-col l = record {
  types : l.rows.types ≡ l.initial.rows.types;
  rows : l.rows.rows ≡ l.initial.rows.rows;
  column : length l.rows.front ≡ l.col;
  so_far : walk_onto (next_value l.row (fields_of l.line)) l.rows.front (map (λ (t : ColType). t) (drop l.col l.initial.rows.types)) ≡ walk_onto (next_value l.row (fields_of l.line)) [] l.initial.rows.types;
}
