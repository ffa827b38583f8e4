use Rattle.std.proofs.Common.{◌≡◌, ◌-◌, ◌<◌, ◌≤◌, ◌++◌, take, length, flat_map}
use Rattle.vx_rows_views.specs.Chunks.{all_rows}
use Rattle.vx_match_keys.specs.Matched.{matched}
use Rattle.vx_match_join.proofs.join.Build.probe.Given as goal

abbrev pub invariant-loop-next : goal.invariant-loop-next
invariant-loop-next l = record {
  same : l.self ≡ l.initial.self;
  types : l.joined.types ≡ l.fn.batch.types ++ l.initial.self.types;
  within : l.taken ≤ length (all_rows l.chunks);
  rows : l.joined.rows ≡ flat_map (matched l.columns l.initial.self.columns l.initial.self.rows) (take l.taken (all_rows l.chunks));
  whole : length l.joined.rows < l.room → l.taken ≡ length (all_rows (take l.next l.chunks));
  start : l.taken ≡ 0 → length (all_rows (take l.next l.chunks)) ≡ 0;
}

abbrev pub decreases-loop-next : goal.decreases-loop-next
decreases-loop-next l = length l.chunks - l.next
