-- What a worker begins with: the packets that close its ports.
use Rattle.std.proofs.Common.{◌≡◌, ℕ, ◌+◌, List, [], ◌∷◌, ◌++◌, sym, ap, ◌∙◌}
use Rattle.vx_rows_values.specs.declared.value.ColType.{ColType}
use Rattle.vx_rows.specs.Lists.{each_below}
use Rattle.vx_ports.specs.Packets.{PacketView, fault}
use Rattle.vx_exchange_ends.specs.Ship.{Ship, packet_of}
use Rattle.vx_exec.proofs.Each.{each-pushed}

-- one more closing packet
pub closing_more : (ship : Ship) (exchange place k : ℕ) (types : List ColType) (old new : List PacketView) (p : PacketView)
    → ship.exchange ≡ exchange → ship.place ≡ place → ship.types ≡ types → old ≡ each_below k (λ j. packet_of ship j fault)
    → new ≡ old ++ p ∷ [] → p ≡ record { exchange = exchange; from = place; to = k; types = types; content = fault }
    → new ≡ each_below (k + 1) (λ j. packet_of ship j fault)
closing_more ship exchange place k types old new p ex pl ty so_far e is =
    let same : p ≡ packet_of ship k fault =
    is ∙ ap (λ z. record { exchange = z; from = place; to = k; types = types; content = fault }) (sym ex)
    ∙ ap (λ z. record { exchange = ship.exchange; from = z; to = k; types = types; content = fault }) (sym pl)
    ∙ ap (λ z. record { exchange = ship.exchange; from = ship.place; to = k; types = z; content = fault }) (sym ty)
    in
    each-pushed (λ j. packet_of ship j fault) k [] old new p e same so_far
