use Rattle.std.proofs.Common.{◌≤◌, ◌+◌, ◌-◌, length}
use Rattle.vx_match_keys.proofs.RiseFacts.{KeysRise}
use Rattle.vx_match_keys.proofs.rising.numbers_rise.Given as goal

abbrev pub invariant-loop-from : goal.invariant-loop-from
invariant-loop-from l = record { within : l.from ≤ length l.numbers - 1; rises : KeysRise l.falling l.numbers (l.from + 1) }

abbrev pub decreases-loop-from : goal.decreases-loop-from
decreases-loop-from l = l.count - l.from
