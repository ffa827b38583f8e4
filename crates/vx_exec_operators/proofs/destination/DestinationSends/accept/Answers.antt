use Rattle.std.proofs.Common.{ℕ, List, sym, subst}
use Rattle.std.specs.Prelude.{OnOk, OnErr}
use Rattle.vx_plan_nodes.specs.Routes.{Routing}
use Rattle.vx_ports.specs.Packets.{PacketView}
use Rattle.vx_ops.specs.Ledger.{Stream}
use Rattle.vx_ops.specs.Turn.{heard}
use Rattle.vx_ops.specs.declared.fault.Fault.{Fault}
use Rattle.vx_ops.specs.declared.fault.StreamState.TheVariants.{Failed}
use Rattle.vx_exchange.specs.Sender.{SenderStands}
use Rattle.vx_exchange.specs.Collector.{CollectorStands}
use Rattle.vx_exchange_ends.specs.Sending.{RoutesAs}
use Rattle.vx_exec_operators.specs.Destination.{DestinationStands, post_of, bounds_of}
use Rattle.vx_exec_operators.specs.declared.destination.Destination.{Destination}
use Rattle.vx_exec_operators.proofs.destination.DestinationSends.accept.Goals as goal

pub returns-in-Send-clause-ok : goal.returns-in-Send-clause-ok
returns-in-Send-clause-ok g c =
    let P : Destination → Type 0 = λ d. OnOk c.accept.result ((goes : Routing) → RoutesAs (post_of d) (bounds_of d) (g.R.Router.route_of c.args.router.now) goes
    → (a : Stream) (put : ℕ → List PacketView) → DestinationStands d goes a put → SenderStands c.accept.new.self goes (heard a c.args.polled) put) in
    subst P (sym c.in-Send.is) c.accept.ensures.ok

pub returns-in-Send-clause-err : goal.returns-in-Send-clause-err
returns-in-Send-clause-err g c =
    let P : Destination → Type 0 = λ d. OnErr c.accept.result ((goes : Routing) (a : Stream) (put : ℕ → List PacketView) → DestinationStands d goes a put
    → (f : Fault) → SenderStands c.accept.new.self goes (record { rows = a.rows; over = Failed f }) put) in
    subst P (sym c.in-Send.is) c.accept.ensures.err

pub returns-in-Collect-clause-ok : goal.returns-in-Collect-clause-ok
returns-in-Collect-clause-ok g c =
    let P : Destination → Type 0 = λ d. OnOk c.accept-in-Collect.result ((goes : Routing) → RoutesAs (post_of d) (bounds_of d) (g.R.Router.route_of c.args.router.now) goes
    → (a : Stream) (put : ℕ → List PacketView) → DestinationStands d goes a put → CollectorStands c.accept-in-Collect.new.self goes (heard a c.args.polled) put) in
    subst P (sym c.in-Collect.is) c.accept-in-Collect.ensures.ok

pub returns-in-Collect-clause-err : goal.returns-in-Collect-clause-err
returns-in-Collect-clause-err g c =
    let P : Destination → Type 0 = λ d. OnErr c.accept-in-Collect.result ((goes : Routing) (a : Stream) (put : ℕ → List PacketView) → DestinationStands d goes a put
    → (f : Fault) → CollectorStands c.accept-in-Collect.new.self goes (record { rows = a.rows; over = Failed f }) put) in
    subst P (sym c.in-Collect.is) c.accept-in-Collect.ensures.err
