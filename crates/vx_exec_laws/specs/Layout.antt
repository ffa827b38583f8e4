-- Workers by their numbers: the top fragment's first, then those of the fragments below its exchanges, in preorder of their tops.
use Rattle.std.specs.Prelude.{Bool, List, ◌≡◌, ℕ, ◌+◌, ◌<◌, true, false, length}
use Rattle.vx_rows_values.specs.Values.{Row}
use Rattle.vx_plan_nodes.specs.Types.{well_formed}
use Rattle.vx_plan_nodes.specs.Runs.{Runs}
use Rattle.vx_plan_facts.specs.RowFacts.{all_inputs_fit}
use Rattle.vx_check_rules.specs.Tables.{allowed_by, root_allowed_by}
use Rattle.vx_check_rules.specs.Claims.{Delivers}
use Rattle.vx_worker.specs.Fragment.{goes, IsSet, RunModel, fragment}
use Rattle.vx_worker.specs.Trace.{Trace, IsWell, Ends}
use Rattle.vx_exchange_ends.specs.Tasks.{keep, send}
use Rattle.vx_plan_nodes.specs.Plan.{target, Plan, scan, unary, binary, exchange, size}
use Rattle.vx_catalog_relations.specs.Relation.{Relation}
use Rattle.vx_plan_nodes.specs.Streams.{workers}
use Rattle.vx_plan_nodes.specs.Workers.{workers_below}
use Rattle.vx_ports.specs.Packets.{Flows}
use Rattle.vx_worker.specs.Morsels.{Dispatched, morsel_count}
use Rattle.vx_exec_laws.specs.RunOf.{Known, RunOf, ship_of}
use Rattle.vx_plan_nodes.specs.Numbering.{is_fit, is_numbered, relation_in}
use Rattle.vx_plan_nodes.specs.Phases.{is_open}

-- the same as RunOf, of one list of traces: the top fragment's workers begin at `top`, those below at `next`
abbrev pub FlatRun : RunModel → Known → (ts : ℕ → Trace) → Plan → (top next : ℕ) → Type 0
FlatRun S E ts (scan n c r true z) top next = Dispatched (workers S.sizes z) (morsel_count S.morsel (length (S.db r))) (λ w. (ts (top + w)).drew n)
FlatRun S E ts (scan n c r false z) top next =
    (w : ℕ) → w < workers S.sizes z → Dispatched 1 (morsel_count S.morsel (length (S.db r))) (λ _. (ts (top + w)).drew n)
FlatRun S E ts (unary n c op p) top next = FlatRun S E ts p top next
FlatRun S E ts (binary n c op p q) top next = FlatRun S E ts p top next × FlatRun S E ts q top (next + workers_below S.sizes p)
FlatRun S E ts (exchange n c k merge p) top next =
    FlatRun S E ts p next (next + workers S.sizes (size p))
    × ((i : ℕ) → i < workers S.sizes (size p) → E (fragment S i p) (send (ship_of S n i k p)) (ts (next + i)))
    × ((i j : ℕ) → i < workers S.sizes (size p) → j < workers S.sizes (target k) → Flows ((ts (next + i)).sent j) ((ts (top + j)).came n i))

-- for workers that are well, and for workers that ended (a clause cannot speak of every Known at once)
abbrev pub FlatIsRun : Type 0
FlatIsRun =
    (S : RunModel) (ts : ℕ → Trace) (p : Plan) (top next : ℕ)
    → (FlatRun S (IsWell S) ts p top next → RunOf S (IsWell S) p (λ w. ts (top + w))) × (FlatRun S (Ends S) ts p top next → RunOf S (Ends S) p (λ w. ts (top + w)))

-- a numbered plan that either rule table allows is fit
abbrev pub NumberedIsFit : Type 0
NumberedIsFit =
    (derives : Bool) (catalog : ℕ → Relation) (p : Plan) → is_numbered 0 p ≡ true → allowed_by derives catalog p ≡ true → is_fit (relation_in p) p ≡ true

-- all workers of a run ended well: worker 0 gathered these rows at the root, the others are numbered from 1 on
pub record AllWell (S : RunModel) (p : Plan) (ts : ℕ → Trace) (rows : List Row) : Type 0 where
  pub root : IsWell S (fragment S 0 p) (keep rows) (ts 0)
  pub below : FlatRun S (IsWell S) ts p 0 1

-- the main theorem, from traces by number, of a plan that is judged by either rule table. The rows are stream 0 of a run of the plan relation. They are those
-- of the plan without its exchanges, each as often, and the same list where the root claims a total order
abbrev pub NumberedRunDelivers : Type 0
NumberedRunDelivers =
    (S : RunModel) → IsSet S → (derives is_total : Bool) (p : Plan) → is_fit S.relation_of p ≡ true
    → well_formed S.catalog p ≡ true → all_inputs_fit S.catalog p ≡ true → is_open p ≡ false
    → allowed_by derives S.catalog p ≡ true → root_allowed_by derives S.catalog is_total p ≡ true
    → (ts : ℕ → Trace) (rows : List Row) → AllWell S p ts rows
    → Runs S.db S.sizes (goes S) p (λ _. rows) × Delivers S.db is_total p rows
