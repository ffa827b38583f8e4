use Rattle.std.proofs.Common.{◌≡◌, ◌++◌, take, map, get_or, pos}
use Rattle.vx_catalog.proofs.key_numbers.push_wide_at.Given as goal

abbrev pub invariant-loop-i : goal.invariant-loop-i
invariant-loop-i g l = l.found.items ≡ l.initial.found.items ++ map (λ p. get_or l.wide (g.P.Position.place p) (pos 0)) (take l.i l.positions)
