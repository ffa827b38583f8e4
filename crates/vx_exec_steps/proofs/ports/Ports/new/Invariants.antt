use Rattle.std.proofs.Common.{◌≡◌, [], false, vec_len}
use Rattle.std.specs.List.{All}
use Rattle.vx_exec_steps.proofs.ports.Ports.new.Given as goal

abbrev pub invariant-loop : goal.invariant-loop
invariant-loop l = record {
  count : vec_len l.links ≡ l.counter;
  empty : All (λ x. x ≡ record { queue = []; closed = false }) l.links.items;
}
