use Rattle.std.proofs.Common.{◌≡◌, ◌++◌}
use Rattle.vx_rows.specs.Lists.{each_below}
use Rattle.vx_exec.proofs.links.add_sends.Given as goal

abbrev pub invariant-loop : goal.invariant-loop
invariant-loop l = l.sends.items ≡ l.fn.sends.items ++ each_below l.counter (λ _. l.exchange.number)
