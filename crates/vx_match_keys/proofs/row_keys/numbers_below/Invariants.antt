use Rattle.std.proofs.Common.{◌≡◌}
use Rattle.vx_rows.specs.Lists.{each_below}
use Rattle.vx_match_keys.proofs.row_keys.numbers_below.Given as goal

abbrev pub invariant-loop-number : goal.invariant-loop-number
invariant-loop-number l = l.numbers.items ≡ each_below l.number (λ k. k)
