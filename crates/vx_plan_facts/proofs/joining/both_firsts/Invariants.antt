use Rattle.std.proofs.Common.{◌≡◌, ◌+◌, ◌++◌, map, length, take}
use Rattle.vx_plan_facts.proofs.joining.both_firsts.Given as goal

abbrev pub invariant-loop-first : goal.invariant-loop-first
invariant-loop-first l = l.firsts.items ≡ l.left ++ map (λ c. length l.left + c) (take l.first-index l.right)
