use Rattle.std.proofs.Common.{◌≡◌, take, length, map, get_or, pos}
use Rattle.vx_match_keys.proofs.columns.copy_at.Given as goal

abbrev pub invariant-loop-i : goal.invariant-loop-i
invariant-loop-i g l = record {
  len : length l.numbers ≡ length l.fn.numbers;
  numbers : take l.i l.numbers ≡ map (λ p. get_or l.wide (g.P.Position.place p) (pos 0)) (take l.i l.positions);
}
