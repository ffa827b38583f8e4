use Rattle.std.proofs.Common.{◌≤◌, ◌+◌, length}
use Rattle.vx_exec_wiring.specs.Making.{AddsProducers, made_of}
use Rattle.vx_exec_wiring.proofs.making.Making.add_producers.Given as goal

abbrev pub invariant-loop-from : goal.invariant-loop-from
invariant-loop-from l = record {
  there : l.exchange.above + l.exchange.consumers ≤ length l.self.shares.items;
  added : AddsProducers l.exchange l.from (made_of l.fn.self) (made_of l.self);
}
