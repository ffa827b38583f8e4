-- A destination stands as the one that it is.
use Rattle.std.specs.Prelude.{◌≡◌, ◌≤◌, ℕ, Bool, true, false, List}
use Rattle.vx_rows_values.specs.Values.{Val}
use Rattle.vx_plan_nodes.specs.Routes.{Routing}
use Rattle.vx_ports.specs.Packets.{PacketView}
use Rattle.vx_ops.specs.Ledger.{Stream}
use Rattle.vx_exchange_ends.specs.Tasks.{Task, Post, BeganSending, IsAt}
use Rattle.vx_exchange.specs.Sender.{SenderStands, sender_task, sender_post, sender_bounds, sender_is_open, sender_has_closed, sender_open_first, sender_begun, sender_at_post, sender_streams}
use Rattle.vx_exchange.specs.Collector.{CollectorStands, collector_task, collector_post, collector_bounds, collector_is_open, collector_has_closed, collector_held, collector_unclosed, collector_held_for, collector_few_closings, collector_open_first, collector_begun, collector_at_post, collector_streams}
use Rattle.vx_exchange.specs.Queued.{sender_held, sender_unclosed, sender_held_for, sender_few_closings}
use Rattle.vx_exchange_ends.specs.Queued.{consumers_of}
use Rattle.vx_exchange_ends.specs.Streams.{AreStreams}
use Rattle.vx_exec_operators.specs.declared.destination.Destination.{Destination}
use Rattle.vx_exec_operators.specs.declared.destination.Destination.TheVariants as destination

abbrev pub DestinationStands : Destination → Routing → Stream → (ℕ → List PacketView) → Type 0
DestinationStands (destination.Send s) = SenderStands s
DestinationStands (destination.Collect s) = CollectorStands s

abbrev pub task_of : Destination → Task
task_of (destination.Send s) = sender_task s
task_of (destination.Collect s) = collector_task s

abbrev pub post_of : Destination → Post
post_of (destination.Send s) = sender_post s
post_of (destination.Collect s) = collector_post s

abbrev pub bounds_of : Destination → List Val
bounds_of (destination.Send s) = sender_bounds s
bounds_of (destination.Collect s) = collector_bounds s

abbrev pub is_open : Destination → Bool
is_open (destination.Send s) = sender_is_open s
is_open (destination.Collect s) = collector_is_open s

abbrev pub has_closed : Destination → Bool
has_closed (destination.Send s) = sender_has_closed s
has_closed (destination.Collect s) = collector_has_closed s

abbrev pub held_in : Destination → ℕ → ℕ
held_in (destination.Send s) = sender_held s
held_in (destination.Collect s) = collector_held s

abbrev pub unclosed_in : Destination → ℕ
unclosed_in (destination.Send s) = sender_unclosed s
unclosed_in (destination.Collect s) = collector_unclosed s

-- the laws of a sending end

pub held_for : (s : Destination) (j : ℕ) → consumers_of (post_of s) ≤ j → held_in s j ≡ 0
held_for (destination.Send s) j h = sender_held_for s j h
held_for (destination.Collect s) j h = collector_held_for s j h

pub few_closings : (s : Destination) → unclosed_in s ≤ consumers_of (post_of s)
few_closings (destination.Send s) = sender_few_closings s
few_closings (destination.Collect s) = collector_few_closings s

pub open_first : (s : Destination) → is_open s ≡ true → has_closed s ≡ false
open_first (destination.Send s) e = sender_open_first s e
open_first (destination.Collect s) e = collector_open_first s e

pub begun : (s : Destination) (goes : Routing) (a : Stream) (g : ℕ → List PacketView) → DestinationStands s goes a g → has_closed s ≡ false → BeganSending goes (task_of s) a.rows g
begun (destination.Send s) goes a g h e = sender_begun s goes a g h e
begun (destination.Collect s) goes a g h e = collector_begun s goes a g h e

pub at_post : (s : Destination) → IsAt (post_of s) (task_of s)
at_post (destination.Send s) = sender_at_post s
at_post (destination.Collect s) = collector_at_post s

pub streams : (s : Destination) (goes : Routing) (a : Stream) (g : ℕ → List PacketView) → DestinationStands s goes a g → AreStreams (consumers_of (post_of s)) g
streams (destination.Send s) goes a g h = sender_streams s goes a g h
streams (destination.Collect s) goes a g h = collector_streams s goes a g h
