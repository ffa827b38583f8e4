use Rattle.std.proofs.Common.{◌≡◌, ℕ, ◌<◌, Some, get_or, pos}
use Rattle.vx_ops_computing.proofs.loops.fill.Given as goal

abbrev pub invariant-loop-k : goal.invariant-loop-k
invariant-loop-k g l =
    (j : ℕ) → j < l.k → g.F.NumberPair.says l.function (g.L.NumberSource.number_at l.left j) (g.R.NumberSource.number_at l.right j) ≡ Some (get_or l.numbers j (pos 0))
