use Rattle.std.proofs.Common.{◌≡◌, map, take, drop, length}
use Rattle.vx_match_grouping.specs.Shown.{aggregate_in}
use Rattle.vx_match_grouping.proofs.FrontFacts.{Pairs}
use Rattle.vx_match_grouping.proofs.ColumnFacts.{TookRows}
use Rattle.vx_match_grouping.proofs.grouping.add_columns.Given as goal

-- the front has the rows, the rest is as it was
abbrev pub invariant-loop-place : goal.invariant-loop-place
invariant-loop-place l = record {
  front : Pairs (TookRows l.chunk.rows l.numbers) (take l.place l.initial.columns.items) (take l.place l.columns.items);
  rest : drop l.place l.columns.items ≡ drop l.place l.initial.columns.items;
  long : length l.columns.items ≡ length l.initial.columns.items;
  same : map aggregate_in l.columns.items ≡ map aggregate_in l.initial.columns.items;
}
