use Rattle.std.proofs.Common.{◌≡◌, length, All}
use Rattle.vx_exchange_receivers.specs.Heads.{IsFresh}
use Rattle.vx_exchange_receivers.proofs.heads.new_heads.Given as goal

abbrev pub invariant-loop : goal.invariant-loop
invariant-loop l = (length l.heads.items ≡ l.counter) × All (IsFresh l.types) l.heads.items
