use Rattle.std.proofs.Common.{◌≡◌, ◌+◌, ◌%◌}
use Rattle.vx_rows.specs.Lists.{each_below}
use Rattle.vx_exchange.proofs.places.turns.Given as goal

abbrev pub invariant-loop-i : goal.invariant-loop-i
invariant-loop-i l = record {
  found : l.found.items ≡ each_below l._i (λ j. (l.next + j) % l.n);
  turn : l.consumer ≡ (l.next + l._i) % l.n;
}
