use Rattle.std.proofs.Common.{◌≡◌}
use Rattle.vx_rows.specs.Lists.{each_below}
use Rattle.vx_exec_steps.specs.Scans.{full_hand}
use Rattle.vx_exec_steps.proofs.scans.WholeScan.new.Given as goal

abbrev pub invariant-loop : goal.invariant-loop
invariant-loop l = l.hands.items ≡ each_below l.counter (λ _. full_hand l.morsels)
