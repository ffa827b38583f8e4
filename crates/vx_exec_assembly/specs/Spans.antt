-- The rings of one node of a plan, by its place in the layout (our own).
use Rattle.std.specs.Prelude.{ℕ, ◌<◌, ◌≤◌, ◌+◌, List, Vec}
use Rattle.std.specs.declared.alloc.Global.{Global}
use Rattle.vx_exec_layout.specs.declared.span.NodeSpan.{NodeSpan}
use Rattle.vx_exec_layout.specs.declared.span.NodeSpan.TheVariants.{Inner, Exchange, Scan}
use Rattle.vx_ports_rings.specs.declared.ring.RingOut.{RingOut}
use Rattle.vx_exec_threads.specs.declared.inlet.Inlet.{Inlet}
use Rattle.vx_exec_assembly.specs.Plans.{PairIn}
use Rattle.vx_rows_values.specs.Limits.{max_group_workers, max_workers}

-- each producer and each consumer of the exchange have a pair of ends, and a fact about them; other nodes have no rings
abbrev pub IsSpanned : (P : RingOut → Inlet → Type 0) → List (Vec RingOut Global) → List (Vec Inlet Global) → NodeSpan → Type 0
IsSpanned P os is Inner = Unit {0}
IsSpanned P os is (Exchange s) = (i j : ℕ) → i < s.producers → j < s.consumers → PairIn P os is (s.below + i) j (s.above + j) s.number i
IsSpanned P os is (Scan s) = Unit {0}

-- few workers at either side
abbrev pub IsSmall : NodeSpan → Type 0
IsSmall Inner = Unit {0}
IsSmall (Exchange s) = (s.below ≤ max_workers) × (s.producers ≤ max_group_workers) × (s.above ≤ max_workers) × (s.consumers ≤ max_group_workers)
IsSmall (Scan s) = Unit {0}
