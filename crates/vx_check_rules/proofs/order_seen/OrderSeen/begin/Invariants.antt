use Rattle.std.proofs.Common.{◌≡◌, ◌≤◌, drop, length}
use Rattle.vx_check_rules.specs.Rules.{is_front}
use Rattle.vx_check_rules.specs.Seen.{order_seen}
use Rattle.vx_check_rules.proofs.order_seen.OrderSeen.begin.Given as goal

abbrev pub invariant-loop-i : goal.invariant-loop-i
invariant-loop-i l = record {
  as_long : length (order_seen l.self) ≤ length l.order;
  rest : is_front (order_seen l.self) l.order ≡ is_front (drop l.i (order_seen l.self)) (drop l.i l.order);
}
