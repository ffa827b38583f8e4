-- Which ends are the two ends of one ring, before any step and after the last one (our own).
use Rattle.std.specs.Prelude.{◌≡◌, ℕ, ◌<◌, ◌+◌, List, Some, slice_get}
use Rattle.vx_plan_nodes.specs.Plan.{target, Plan, scan, unary, binary, exchange, size}
use Rattle.vx_plan_nodes.specs.Streams.{workers}
use Rattle.vx_worker.specs.Fragment.{RunModel}
use Rattle.vx_plan_nodes.specs.Workers.{workers_below}
use Rattle.vx_ports_rings.specs.Ends.{IsRing}
use Rattle.vx_ports_rings.specs.declared.ring.RingOut.{RingOut}
use Rattle.vx_exec_threads.specs.declared.inlet.Inlet.{Inlet}
use Rattle.vx_exec_threads.specs.Holds.{Hold, SameEnds}
use Rattle.vx_exec_threads.specs.Joined.{PairAt}

abbrev pub IsRingOf : RingOut → Inlet → Type 0
IsRingOf o e = IsRing o e.ring

-- at each exchange each producer and each consumer hold the ends of one ring
abbrev pub Paired : RunModel → Plan → (top next : ℕ) → List Hold → Type 0
Paired S (scan n c r m z) top next hs = Unit {0}
Paired S (unary n c op p) top next hs = Paired S p top next hs
Paired S (binary n c op p q) top next hs = Paired S p top next hs × Paired S q top (next + workers_below S.sizes p) hs
Paired S (exchange n c k merge p) top next hs =
    ((i j : ℕ) → i < workers S.sizes (size p) → j < workers S.sizes (target k) → PairAt IsRingOf hs (next + i) j (top + j) n i)
    × Paired S p next (next + workers S.sizes (size p)) hs

-- each thread gave back the ends that it was given
abbrev pub AllSame : List Hold → List Hold → Type 0
AllSame gs hs = (a : ℕ) (h : Hold) → slice_get gs a ≡ Some h → (g : Hold) × (slice_get hs a ≡ Some g) × SameEnds h g

-- the law: then they still are the ends of the same rings
abbrev pub PairedStays : Type 0
PairedStays = (S : RunModel) (gs hs : List Hold) → AllSame gs hs → (p : Plan) (top next : ℕ) → Paired S p top next gs → Paired S p top next hs
