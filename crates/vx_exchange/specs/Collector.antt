-- When the root may have accepted a stream: it kept the rows, and returned no packet.
use Rattle.std.specs.Prelude.{ℕ, ◌≡◌, ◌≤◌, Bool, true, false, List, []}
use Rattle.std.proofs.Common.{refl, le_refl}
use Rattle.vx_rows_values.specs.Values.{Val}
use Rattle.vx_plan_nodes.specs.Routes.{Routing}
use Rattle.vx_ports.specs.Packets.{PacketView}
use Rattle.vx_ops.specs.Ledger.{Stream}
use Rattle.vx_exchange_ends.specs.Queued.{consumers_of}
use Rattle.vx_exchange_ends.specs.Streams.{AreStreams, no-streams}
use Rattle.vx_exchange_ends.specs.Tasks.{Task, keep, Post, keeps, BeganSending, IsAt}
use Rattle.vx_exchange.specs.declared.collector.Collector.{Collector}

-- the rows are its task
abbrev pub collector_task : Collector → Task
collector_task s = keep s.rows.rows

-- and their types its post
abbrev pub collector_post : Collector → Post
collector_post s = keeps s.rows.types

-- it sends nowhere
abbrev pub collector_bounds : Collector → List Val
collector_bounds s = []

-- whether rows may come
abbrev pub collector_is_open : Collector → Bool
collector_is_open s = s.takes_more

-- it returns no packet
abbrev pub collector_has_closed : Collector → Bool
collector_has_closed s = false

-- all rows are kept, and none went anywhere
pub record CollectorStands (s : Collector) (goes : Routing) (a : Stream) (g : ℕ → List PacketView) : Type 0 where
  pub all : s.rows.rows ≡ a.rows
  pub nothing : (j : ℕ) → g j ≡ []

-- it never closes
pub collector_open_first : (s : Collector) → collector_is_open s ≡ true → collector_has_closed s ≡ false
collector_open_first s e = refl

-- nothing was returned
pub collector_begun : (s : Collector) (goes : Routing) (a : Stream) (g : ℕ → List PacketView) → CollectorStands s goes a g → collector_has_closed s ≡ false → BeganSending goes (collector_task s) a.rows g
collector_begun s goes a g h e = h.nothing

-- its post is that of its task
pub collector_at_post : (s : Collector) → IsAt (collector_post s) (collector_task s)
collector_at_post s = tt

-- it holds rows for no consumer, and closes none
abbrev pub collector_held : Collector → ℕ → ℕ
collector_held s j = 0

abbrev pub collector_unclosed : Collector → ℕ
collector_unclosed s = 0

pub collector_held_for : (s : Collector) (j : ℕ) → consumers_of (collector_post s) ≤ j → collector_held s j ≡ 0
collector_held_for s j h = refl

pub collector_few_closings : (s : Collector) → collector_unclosed s ≤ consumers_of (collector_post s)
collector_few_closings s = le_refl 0

-- nothing was returned
pub collector_streams : (s : Collector) (goes : Routing) (a : Stream) (g : ℕ → List PacketView) → CollectorStands s goes a g → AreStreams (consumers_of (collector_post s)) g
collector_streams s goes a g h = no-streams 0 g h.nothing
