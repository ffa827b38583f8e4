use Rattle.std.proofs.Common.{◌≡◌, ℕ, List, Some, sym, subst}
use Rattle.std.specs.Prelude.{IfSome, IfNone}
use Rattle.vx_plan_nodes.specs.Routes.{Routing}
use Rattle.vx_ports.specs.Packets.{PacketView}
use Rattle.vx_ops.specs.Ledger.{Stream}
use Rattle.vx_ops.specs.Turn.{with_packet}
use Rattle.vx_exchange.specs.Sender.{SenderStands, sender_task}
use Rattle.vx_ops.specs.declared.fault.Fault.{Fault}
use Rattle.vx_ops.specs.declared.fault.StreamState.TheVariants.{Ended, Failed}
use Rattle.vx_exchange_ends.specs.Tasks.{Finished, Stopped}
use Rattle.vx_exchange.specs.Collector.{CollectorStands, collector_task}
use Rattle.vx_exec_operators.specs.Destination.{DestinationStands}
use Rattle.vx_exec_operators.specs.declared.destination.Destination.{Destination}
use Rattle.vx_exec_operators.proofs.destination.DestinationSends.next.Goals as goal

pub returns-in-Send-clause-some : goal.returns-in-Send-clause-some
returns-in-Send-clause-some c =
    let P : Destination → Type 0 = λ d. IfSome c.next.result (λ x. (goes : Routing) (a : Stream) (put : ℕ → List PacketView) → DestinationStands d goes a put
    → SenderStands c.next.new.self goes a (with_packet put x.0 (Some x.1))) in
    subst P (sym c.in-Send.is) c.next.ensures.some

pub returns-in-Send-clause-none : goal.returns-in-Send-clause-none
returns-in-Send-clause-none c =
    let P : Destination → Type 0 = λ d. IfNone c.next.result ((goes : Routing) (a : Stream) (put : ℕ → List PacketView) → DestinationStands d goes a put → SenderStands c.next.new.self goes a put) in
    subst P (sym c.in-Send.is) c.next.ensures.none

pub returns-in-Send-clause-drained : goal.returns-in-Send-clause-drained
returns-in-Send-clause-drained c =
    let P : Destination → Type 0 = λ d. IfNone c.next.result ((goes : Routing) (a : Stream) (put : ℕ → List PacketView) → DestinationStands d goes a put
    → a.over ≡ Ended → Finished goes (sender_task c.next.new.self) a.rows put) in
    subst P (sym c.in-Send.is) c.next.ensures.drained

pub returns-in-Send-clause-cut : goal.returns-in-Send-clause-cut
returns-in-Send-clause-cut c =
    let P : Destination → Type 0 = λ d. IfNone c.next.result ((goes : Routing) (a : Stream) (put : ℕ → List PacketView) → DestinationStands d goes a put
    → (f : Fault) → a.over ≡ Failed f → Stopped goes (sender_task c.next.new.self) a.rows put) in
    subst P (sym c.in-Send.is) c.next.ensures.cut

pub returns-in-Collect-clause-some : goal.returns-in-Collect-clause-some
returns-in-Collect-clause-some c =
    let P : Destination → Type 0 = λ d. IfSome c.next-in-Collect.result (λ x. (goes : Routing) (a : Stream) (put : ℕ → List PacketView) → DestinationStands d goes a put
    → CollectorStands c.next-in-Collect.new.self goes a (with_packet put x.0 (Some x.1))) in
    subst P (sym c.in-Collect.is) c.next-in-Collect.ensures.some

pub returns-in-Collect-clause-none : goal.returns-in-Collect-clause-none
returns-in-Collect-clause-none c =
    let P : Destination → Type 0 = λ d. IfNone c.next-in-Collect.result ((goes : Routing) (a : Stream) (put : ℕ → List PacketView) → DestinationStands d goes a put → CollectorStands c.next-in-Collect.new.self goes a put) in
    subst P (sym c.in-Collect.is) c.next-in-Collect.ensures.none

pub returns-in-Collect-clause-drained : goal.returns-in-Collect-clause-drained
returns-in-Collect-clause-drained c =
    let P : Destination → Type 0 = λ d. IfNone c.next-in-Collect.result ((goes : Routing) (a : Stream) (put : ℕ → List PacketView) → DestinationStands d goes a put
    → a.over ≡ Ended → Finished goes (collector_task c.next-in-Collect.new.self) a.rows put) in
    subst P (sym c.in-Collect.is) c.next-in-Collect.ensures.drained

pub returns-in-Collect-clause-cut : goal.returns-in-Collect-clause-cut
returns-in-Collect-clause-cut c =
    let P : Destination → Type 0 = λ d. IfNone c.next-in-Collect.result ((goes : Routing) (a : Stream) (put : ℕ → List PacketView) → DestinationStands d goes a put
    → (f : Fault) → a.over ≡ Failed f → Stopped goes (collector_task c.next-in-Collect.new.self) a.rows put) in
    subst P (sym c.in-Collect.is) c.next-in-Collect.ensures.cut
