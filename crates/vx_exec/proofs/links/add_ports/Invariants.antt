use Rattle.std.proofs.Common.{◌≡◌, ◌++◌}
use Rattle.vx_rows.specs.Lists.{each_below}
use Rattle.vx_exec_steps.specs.Queues.{open_line}
use Rattle.vx_exec.proofs.links.add_ports.Given as goal

abbrev pub invariant-loop : goal.invariant-loop
invariant-loop l = l.ports.items ≡ l.fn.ports.items ++ each_below l.counter (λ _. each_below l.exchange.consumers (λ _. open_line))
