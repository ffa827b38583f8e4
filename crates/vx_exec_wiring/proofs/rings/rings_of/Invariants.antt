use Rattle.std.proofs.Common.{◌≡◌, length}
use Rattle.vx_exec_wiring.specs.Giving.{MakesRings, holds_of}
use Rattle.vx_exec_wiring.proofs.rings.rings_of.Given as goal

abbrev pub invariant-loop-place : goal.invariant-loop-place
invariant-loop-place l = record {
  same : length l.shares.items ≡ length l.fn.shares.items;
  makes : MakesRings l.exchange l.from (holds_of l.fn.shares.items) l.place l.outs.items (holds_of l.shares.items);
}
