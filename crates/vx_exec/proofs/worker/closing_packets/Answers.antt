use Rattle.std.proofs.Common.{[], ap, ◌∙◌}
use Rattle.vx_ports.specs.Packets.{fault}
use Rattle.vx_exchange_ends.specs.Ship.{packet_of}
use Rattle.vx_exec.proofs.Each.{each-begun}
use Rattle.vx_exec.proofs.Starting.{closing_more}
use Rattle.vx_exec.proofs.worker.closing_packets.Goals as goal

pub loop-to-preserved : goal.loop-to-preserved
loop-to-preserved c = λ ship ex pl ty.
    closing_more ship c.args.exchange c.args.place c.loop-to.to c.args.types.now c.loop-to.packets.items c.push.new.self.items c.closing.result ex pl ty
    (c.loop-to.invariant ship ex pl ty) c.in_ok-push.ensures.items
    (c.closing.ensures ∙ ap (λ z. record { exchange = c.args.exchange; from = c.args.place; to = c.loop-to.to; types = z; content = fault }) c.in_ok-none.ensures.types)

pub loop-to-init : goal.loop-to-init
loop-to-init c = λ ship ex pl ty. c.new-packets.ensures.items ∙ each-begun (λ j. packet_of ship j fault) []
