use Rattle.std.proofs.Common.{◌≡◌, ◌≤◌, length, take, map, []}
use Rattle.vx_rows.specs.Lists.{each_below}
use Rattle.vx_exchange.proofs.places.clear_places.Given as goal

abbrev pub invariant-loop-consumer : goal.invariant-loop-consumer
invariant-loop-consumer l = record {
  long : l.consumer ≤ length l.places.items;
  bound : length l.places.items ≤ l.n;
  none : take l.consumer (map (λ p. p.items) l.places.items) ≡ each_below l.consumer (λ j. []);
}
