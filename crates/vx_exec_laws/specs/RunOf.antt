-- What the traces of all workers of a plan say together, and the laws: they are a run of the plan, and the rows that the plan delivers (`Delivers`).
use Rattle.vx_worker.specs.Fragment.{goes, IsSet, RunModel, Frag, Reads, FragMakes, fragment}
use Rattle.std.specs.Prelude.{◌≡◌, ℕ, ◌<◌, Bool, true, false, List, length}
use Rattle.vx_rows_values.specs.Values.{Row}
use Rattle.vx_plan_nodes.specs.Plan.{ExchangeKind, target, Plan, scan, unary, binary, exchange, size, is_one}
use Rattle.vx_plan_nodes.specs.Types.{well_formed, types_of}
use Rattle.vx_plan_nodes.specs.Streams.{Streams, workers}
use Rattle.vx_plan_nodes.specs.Runs.{Runs}
use Rattle.vx_check_rules.specs.Rules.{allowed, root_allowed}
use Rattle.vx_check_rules.specs.Claims.{Delivers}
use Rattle.vx_ports.specs.Packets.{Flows}
use Rattle.vx_worker.specs.Morsels.{Dispatched, morsel_count}
use Rattle.vx_exchange_ends.specs.Ship.{Ship}
use Rattle.vx_worker.specs.Trace.{Trace, IsWell, ReadsAre}
use Rattle.vx_exchange_ends.specs.Tasks.{keep, send, Task}
use Rattle.vx_plan_nodes.specs.Numbering.{is_fit}
use Rattle.vx_plan_nodes.specs.Phases.{is_open}

-- the sending end of the producer at a place, for an exchange above the plan p
abbrev pub ship_of : RunModel → (exchange place : ℕ) → ExchangeKind → Plan → Ship
ship_of S n i k p = record { exchange = n; place = i; consumers = workers S.sizes (target k); types = types_of S.catalog p; kind = k; size = S.packet }

-- what is known of a worker by its fragment, its task and its trace
abbrev pub Known : Type 1
Known = Frag → Task → Trace → Type 0

-- for the workers of the fragment at the top, with these traces. The deck of each shared scan dealt out its morsels, and a whole scan was drawn by each worker
-- alone. At each exchange there are producers, known one by one, whose packets flowed to the workers
abbrev pub RunOf : RunModel → Known → Plan → (ℕ → Trace) → Type 0
RunOf S E (scan n c r true z) ts = Dispatched (workers S.sizes z) (morsel_count S.morsel (length (S.db r))) (λ w. (ts w).drew n)
RunOf S E (scan n c r false z) ts = (w : ℕ) → w < workers S.sizes z → Dispatched 1 (morsel_count S.morsel (length (S.db r))) (λ _. (ts w).drew n)
RunOf S E (unary n c op p) ts = RunOf S E p ts
RunOf S E (binary n c op p q) ts = RunOf S E p ts × RunOf S E q ts
RunOf S E (exchange n c k merge p) ts =
    (us : ℕ → Trace) × RunOf S E p us
    × ((i : ℕ) → i < workers S.sizes (size p) → E (fragment S i p) (send (ship_of S n i k p)) (us i))
    × ((i j : ℕ) → i < workers S.sizes (size p) → j < workers S.sizes (target k) → Flows ((us i).sent j) ((ts j).came n i))

-- a worker made these rows of what its trace says that it read
pub record Made (S : RunModel) (f : Frag) (t : Trace) (rows : List Row) : Type 0 where
  pub reads : Reads
  pub reads_are : ReadsAre S t reads
  pub makes : FragMakes f reads rows

-- the law: where all workers are well, what those at the top made are streams of a run
abbrev pub WellRuns : Type 0
WellRuns =
    (S : RunModel) → IsSet S → (p : Plan) → is_fit S.relation_of p ≡ true
    → (ts : ℕ → Trace) (out : Streams) → ((w : ℕ) → w < workers S.sizes (size p) → Made S (fragment S w p) (ts w) (out w))
    → RunOf S (IsWell S) p ts → Runs S.db S.sizes (goes S) p out

-- and at the root: the rows gathered are stream 0
abbrev pub WellRunGives : Type 0
WellRunGives =
    (S : RunModel) → IsSet S → (p : Plan) → is_fit S.relation_of p ≡ true → is_one (size p) ≡ true
    → (t : Trace) (rows : List Row) → IsWell S (fragment S 0 p) (keep rows) t
    → RunOf S (IsWell S) p (λ _. t) → Runs S.db S.sizes (goes S) p (λ _. rows)

-- the main theorem, for a run of which all workers are well
abbrev pub WellRunDelivers : Type 0
WellRunDelivers =
    (S : RunModel) → IsSet S
    → (is_total : Bool) (p : Plan) → is_fit S.relation_of p ≡ true
    → well_formed S.catalog p ≡ true → is_open p ≡ false → allowed S.catalog p ≡ true → root_allowed S.catalog is_total p ≡ true
    → (t : Trace) (rows : List Row) → IsWell S (fragment S 0 p) (keep rows) t
    → RunOf S (IsWell S) p (λ _. t) → Delivers S.db is_total p rows
