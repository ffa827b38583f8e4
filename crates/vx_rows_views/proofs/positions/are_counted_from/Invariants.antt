use Rattle.std.proofs.Common.{◌≡◌, ◌+◌, take}
use Rattle.vx_rows.specs.Lists.{each_below}
use Rattle.vx_rows_views.proofs.positions.are_counted_from.Given as goal

abbrev pub invariant-loop-i : goal.invariant-loop-i
invariant-loop-i l = take l.i l.numbers ≡ each_below l.i (λ k. l.first + k)
