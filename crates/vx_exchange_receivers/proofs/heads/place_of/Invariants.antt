use Rattle.std.proofs.Common.{◌-◌, ◌≤◌, length}
use Rattle.std.specs.List.{AllWithin}
use Rattle.vx_exchange_receivers.specs.Heads.{Precedes}
use Rattle.vx_exchange_receivers.proofs.heads.place_of.Given as goal

abbrev pub invariant-halves : goal.invariant-halves
invariant-halves l = record {
  order : l.low ≤ l.high;
  bound : l.high ≤ length l.order;
  before : AllWithin (λ q. Precedes l.merge l.heads q l.p) l.order 0 l.low;
  behind : AllWithin (λ q. Precedes l.merge l.heads l.p q) l.order l.high (length l.order);
}

abbrev pub decreases-halves : goal.decreases-halves
decreases-halves l = l.high - l.low
