use Rattle.std.proofs.Common.{◌≡◌, ◌≢◌, ◌≤◌, ◌+◌, ◌⊎◌, length}
use Rattle.vx_exec_assembly.specs.SeatsTaken.{HeldIn, Remains}
use Rattle.vx_exec_assembly.proofs.seats.take_seats.Given as goal

abbrev pub invariant-loop-w : goal.invariant-loop-w
invariant-loop-w l =
    (length l.seats.items ≡ l.w)
    × HeldIn l.fn.draws.items l.number l.place l.seats.items
    × Remains (λ a k. (k ≢ l.number) ⊎ (l.place.first + l.w ≤ a)) l.fn.draws.items l.draws.items
