use Rattle.std.proofs.Common.{◌≡◌, length}
use Rattle.vx_exec_wiring.specs.Giving.{GainsHand, GivesEach, holds_of}
use Rattle.vx_exec_wiring.proofs.scans.deal_hands.Given as goal

abbrev pub invariant-loop-place : goal.invariant-loop-place
invariant-loop-place l = record {
  same : length l.shares.items ≡ length l.fn.shares.items;
  given : GivesEach (GainsHand l.scan.number l.morsels) (holds_of l.fn.shares.items) l.scan.first l.place (holds_of l.shares.items);
}
