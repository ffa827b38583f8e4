use Rattle.std.proofs.Common.{◌≡◌, map, fold, take}
use Rattle.vx_rows.specs.Hashing.{row_feed}
use Rattle.vx_rows_values.specs.ValueView.{val_of}
use Rattle.vx_rows.proofs.row.RowHash.hash.Given as goal

abbrev pub invariant-loop-value : goal.invariant-loop-value
invariant-loop-value g l = l.state ≡ fold g.H.Hasher.write l.initial.state (row_feed (map val_of (take l.value-index l.value-items)))
