use Rattle.std.proofs.Common.{◌≡◌, map, fold, take}
use Rattle.std.specs.Hash.FoldHasher.{write}
use Rattle.vx_rows_values.specs.ValueView.{cell_val}
use Rattle.vx_rows.specs.Hashing.{row_feed}
use Rattle.vx_match_keys.proofs.column_keys.hash_of.Given as goal

abbrev pub invariant-loop-cell : goal.invariant-loop-cell
invariant-loop-cell l = l.hasher ≡ fold write l.initial.hasher (row_feed (map cell_val (take l.cell-index l.cells)))
