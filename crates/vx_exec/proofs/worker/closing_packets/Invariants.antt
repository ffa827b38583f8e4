use Rattle.std.proofs.Common.{◌≡◌}
use Rattle.vx_rows.specs.Lists.{each_below}
use Rattle.vx_ports.specs.Packets.{fault}
use Rattle.vx_exchange_ends.specs.Ship.{Ship, packet_of}
use Rattle.vx_exec.proofs.worker.closing_packets.Given as goal

abbrev pub invariant-loop-to : goal.invariant-loop-to
invariant-loop-to l =
    (ship : Ship) → ship.exchange ≡ l.exchange → ship.place ≡ l.place → ship.types ≡ l.types → l.packets.items ≡ each_below l.to (λ j. packet_of ship j fault)
