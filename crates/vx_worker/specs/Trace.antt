-- The trace of a worker, one event, and what an ended worker's trace says.
use Rattle.std.specs.Prelude.{ℕ, ◌≡◌, ◌==◌, ◌⊎◌, List, [], ◌∷◌, ◌++◌, true, false, Option, Some, None, cond}
use Rattle.vx_rows_values.specs.Values.{Row}
use Rattle.vx_plan_nodes.specs.Routes.{Routing}
use Rattle.vx_ports.specs.Packets.{PacketView}
use Rattle.vx_morsel.specs.Draws.{Draws}
use Rattle.vx_worker.specs.Morsels.{morsel_of, morsels}
use Rattle.vx_ops.specs.Ledger.{Stream}
use Rattle.vx_ops.specs.Turn.{with_packet}
use Rattle.vx_rows.specs.Lists.{IsBeginning}
use Rattle.vx_exchange_ends.specs.Tasks.{Task, Finished, Stopped}
use Rattle.vx_worker.specs.Fragment.{RunModel, goes, Frag, Reads, FragAbides}
use Rattle.vx_ops.specs.declared.fault.Code.TheVariants.{NoMemory}
use Rattle.vx_ops.specs.declared.fault.Fault.{Fault}
use Rattle.vx_ops.specs.declared.fault.Fault.TheVariants.{Own}
use Rattle.vx_ops.specs.declared.fault.StreamState.TheVariants.{Ended, Failed}

-- what one step may do to what is shared
pub data Event : Type 0 where
  idle : Event
  drew_one : (scan : ℕ) → (number : Option ℕ) → Event
  took_one : (exchange from : ℕ) → (packet : Option PacketView) → Event
  put_one : (to : ℕ) → (packet : PacketView) → Event

-- the numbers drawn for each scan, the packets taken from each producer of each exchange, and those put to each consumer
pub record Trace : Type 0 where
  pub drew : ℕ → Draws
  pub came : ℕ → ℕ → List PacketView
  pub sent : ℕ → List PacketView

-- of a worker that made no step
abbrev pub empty_trace : Trace
empty_trace = record { drew = λ _. record { numbers = []; met_end = false }; came = λ _ _. []; sent = λ _. [] }

-- one more draw: a number, or the end
abbrev pub drawn : Draws → Option ℕ → Draws
drawn d None = record { numbers = d.numbers; met_end = true }
drawn d (Some n) = record { numbers = d.numbers ++ n ∷ []; met_end = d.met_end }

-- the trace with one more event
abbrev pub added : Trace → Event → Trace
added t idle = t
added t (drew_one k d) = record t { drew = λ j. cond (j == k) (drawn (t.drew j) d) (t.drew j) }
added t (took_one k i o) = record t { came = λ j. cond (j == k) (with_packet (t.came j) i o) (t.came j) }
added t (put_one j p) = record t { sent = with_packet t.sent j (Some p) }

-- the stream of a scan has the rows of the morsels drawn, and never fails: a worker that is refused memory for a morsel fails itself
pub record Scanned (m : ℕ → List Row) (d : Draws) (s : Stream) : Type 0 where
  pub rows : s.rows ≡ morsels m d.numbers
  pub ended : s.over ≡ Ended → d.met_end ≡ true
  pub never_fails : (f : Fault) → s.over ≡ Failed f → ⊥

-- what the leaves read is what was drawn and taken
pub record ReadsAreOf (m : ℕ → ℕ → List Row) (t : Trace) (r : Reads) : Type 0 where
  pub scanned : (n : ℕ) → Scanned (m n) (t.drew n) (r.scanned n)
  pub came : (n : ℕ) → r.came n ≡ t.came n

-- a beginning of what was drawn
pub record ScanBegins (m : ℕ → List Row) (d : Draws) (s : Stream) : Type 0 where
  pub numbers : List ℕ
  pub begins : IsBeginning numbers d.numbers
  pub rows : s.rows ≡ morsels m numbers
  pub ended : s.over ≡ Ended → (numbers ≡ d.numbers) × (d.met_end ≡ true)
  pub never_fails : (f : Fault) → s.over ≡ Failed f → ⊥

-- a beginning of what was drawn and taken: a worker that failed goes on taking and dropping
pub record ReadsBeginOf (m : ℕ → ℕ → List Row) (t : Trace) (r : Reads) : Type 0 where
  pub scanned : (n : ℕ) → ScanBegins (m n) (t.drew n) (r.scanned n)
  pub came : (n i : ℕ) → IsBeginning (r.came n i) (t.came n i)

-- memory was refused
abbrev pub IsNoMemory : Fault → Type 0
IsNoMemory (Own NoMemory node) = Unit {0}
IsNoMemory f = ⊥

-- how a worker ended
pub data Fate : Type 0 where
  well : Fate
  failed : Fault → Fate

-- it took all that came, its top ended, and all that the top gave went on its way. That each taken list ends with Last follows: Last is in it
-- (a consumer end that ended had one from each producer), and what flowed through a port has nothing behind Last
pub record IsWellBy (m : ℕ → ℕ → List Row) (goes : Routing) (f : Frag) (task : Task) (t : Trace) : Type 0 where
  pub reads : Reads
  pub reads_are : ReadsAreOf m t reads
  pub out : Stream
  pub abides : FragAbides f reads out
  pub ended : out.over ≡ Ended
  pub finished : Finished goes task out.rows t.sent

-- its sources stood as they should when it failed: the top gave the fault, or memory was refused to the worker
pub record HasFailedBy (m : ℕ → ℕ → List Row) (goes : Routing) (f : Frag) (task : Task) (x : Fault) (t : Trace) : Type 0 where
  pub reads : Reads
  pub reads_begin : ReadsBeginOf m t reads
  pub out : Stream
  pub abides : FragAbides f reads out
  pub why : (out.over ≡ Failed x) ⊎ IsNoMemory x
  pub stopped : Stopped goes task out.rows t.sent

-- what the trace of an ended worker says, by the morsels of each scan and the routes
abbrev pub HonestBy : (ℕ → ℕ → List Row) → Routing → Frag → Task → Fate → Trace → Type 0
HonestBy m goes f task well t = IsWellBy m goes f task t
HonestBy m goes f task (failed x) t = HasFailedBy m goes f task x t

-- the morsels of the relation that a scan reads
abbrev pub scan_morsels : RunModel → (scan : ℕ) → (k : ℕ) → List Row
scan_morsels S n = morsel_of S.morsel (S.db (S.relation_of n))

-- the same in a setting
abbrev pub ReadsAre : RunModel → Trace → Reads → Type 0
ReadsAre S t r = ReadsAreOf (scan_morsels S) t r

abbrev pub ReadsBegin : RunModel → Trace → Reads → Type 0
ReadsBegin S t r = ReadsBeginOf (scan_morsels S) t r

-- `IsWellBy` and `HonestBy`, by the morsels and the routes of a setting
abbrev pub IsWell : RunModel → Frag → Task → Trace → Type 0
IsWell S f task t = IsWellBy (scan_morsels S) (goes S) f task t

abbrev pub HasFailed : RunModel → Frag → Task → Fault → Trace → Type 0
HasFailed S f task x t = HasFailedBy (scan_morsels S) (goes S) f task x t

abbrev pub Honest : RunModel → Frag → Task → Fate → Trace → Type 0
Honest S f task fate t = HonestBy (scan_morsels S) (goes S) f task fate t

-- how it ended is open
abbrev pub Ends : RunModel → Frag → Task → Trace → Type 0
Ends S f task t = (fate : Fate) × Honest S f task fate t
