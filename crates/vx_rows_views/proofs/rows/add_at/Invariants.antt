use Rattle.std.proofs.Common.{◌≡◌, ◌++◌, ◌-◌, ◌≤◌, [], length, map, get_or, take}
use Rattle.vx_rows_views.specs.Chunks.{all_rows}
use Rattle.vx_rows_views.proofs.rows.add_at.Given as goal

abbrev pub invariant-runs : goal.invariant-runs
invariant-runs l = record {
  far : l.from ≤ length l.places;
  types : l.found.types ≡ l.initial.found.types;
  rows : l.found.rows ≡ l.initial.found.rows ++ map (λ i. get_or (all_rows l.fn.chunks) i []) (take l.from l.places);
}

abbrev pub decreases-runs : goal.decreases-runs
decreases-runs l = length l.places - l.from
