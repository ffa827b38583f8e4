-- A sending end keeps no rows.
use Rattle.std.proofs.Common.{◌≡◌, List, subst}
use Rattle.vx_rows_values.specs.declared.value.ColType.{ColType}
use Rattle.vx_exchange_ends.specs.Tasks.{Post, sends_by_ship, keeps}
use Rattle.vx_exchange.specs.declared.sender.Sender.{Sender}
use Rattle.vx_exec_operators.specs.Destination.{post_of}
use Rattle.vx_exec_operators.specs.declared.destination.Destination.TheVariants as destination

Sends : Post → Type 0
Sends (sends_by_ship s) = Unit {0}
Sends (keeps types) = ⊥

pub sender-keeps-not : (s : Sender) (types : List ColType) → post_of (destination.Send s) ≡ keeps types → ⊥
unfolding Sends
sender-keeps-not s types e = subst Sends e tt
