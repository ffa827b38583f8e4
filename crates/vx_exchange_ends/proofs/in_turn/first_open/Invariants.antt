use Rattle.std.proofs.Common.{◌≡◌, true}
use Rattle.std.specs.List.{AllWithin}
use Rattle.vx_exchange_ends.proofs.in_turn.first_open.Given as goal

abbrev pub invariant-loop-i : goal.invariant-loop-i
invariant-loop-i g l = AllWithin (λ e. g.E.MayEnd.ended e ≡ true) l.inputs l.from l.i
