-- The lists that connect the workers of a plan: by node number, and by worker number, each by recursion on the plan.
use Rattle.std.specs.Prelude.{ℕ, ◌≡◌, ◌+◌, true, false, List, [], ◌∷◌, ◌++◌, length, map}
use Rattle.vx_rows.specs.Lists.{each_below}
use Rattle.vx_plan_nodes.specs.Plan.{Plan, scan, unary, binary, exchange, size, target, ExchangeKind}
use Rattle.vx_plan_nodes.specs.Streams.{workers}
use Rattle.vx_plan_nodes.specs.Types.{types_of}
use Rattle.vx_plan_nodes.specs.Numbering.{is_numbered}
use Rattle.vx_exchange_ends.specs.Tasks.{Post, sends_by_ship, keeps}
use Rattle.vx_worker.specs.Morsels.{morsel_count}
use Rattle.vx_worker.specs.Fragment.{RunModel, Frag, fragment}
use Rattle.vx_worker.specs.Worker.{Role}
use Rattle.vx_exec_laws.specs.RunOf.{ship_of}
use Rattle.vx_plan_nodes.specs.Workers.{workers_below}
use Rattle.vx_exec_steps.specs.Scans.{full_hand}
use Rattle.vx_ports.specs.LinkView.{LinkView}
use Rattle.vx_exec_steps.specs.Queues.{open_line}
use Rattle.vx_exec_steps.specs.LinksView.{LinksView}
use Rattle.vx_exec_steps.specs.declared.station.Station.{Station}
use Rattle.vx_exec_steps.specs.declared.station.Station.TheVariants.{Inner, Exchange, Shared, Whole}

-- what stands at the nodes of a plan, in the order of their numbers
abbrev pub stations_of : RunModel → Plan → (top next : ℕ) → List Station
stations_of S (scan n c r true z) top next =
    Shared (record { first = top; workers = workers S.sizes z; deck = record { morsels = morsel_count S.morsel (length (S.db r)); next = 0 } }) ∷ []
stations_of S (scan n c r false z) top next =
    Whole (record { first = top; hands = each_below (workers S.sizes z) (λ _. full_hand (morsel_count S.morsel (length (S.db r)))) }) ∷ []
stations_of S (unary n c op p) top next = Inner ∷ stations_of S p top next
stations_of S (binary n c op p q) top next = Inner ∷ (stations_of S p top next ++ stations_of S q top (next + workers_below S.sizes p))
stations_of S (exchange n c k merge p) top next = Exchange next top ∷ stations_of S p next (next + workers S.sizes (size p))

-- the exchanges to which the workers below the top fragment send
abbrev pub sends_below : RunModel → Plan → List ℕ
sends_below S (scan n c r m z) = []
sends_below S (unary n c op p) = sends_below S p
sends_below S (binary n c op p q) = sends_below S p ++ sends_below S q
sends_below S (exchange n c k merge p) = each_below (workers S.sizes (size p)) (λ _. n) ++ sends_below S p

-- the queues of the workers below the top fragment: one to each consumer, open and without packets
abbrev pub queues_below : RunModel → Plan → List (List LinkView)
queues_below S (scan n c r m z) = []
queues_below S (unary n c op p) = queues_below S p
queues_below S (binary n c op p q) = queues_below S p ++ queues_below S q
queues_below S (exchange n c k merge p) = each_below (workers S.sizes (size p)) (λ _. each_below (workers S.sizes (target k)) (λ _. open_line)) ++ queues_below S p

-- what a worker is to do, by its operators and where its rows go
pub record Duty : Type 0 where
  pub frag : Frag
  pub post : Post

abbrev pub duty_of : Role → Duty
duty_of r = record { frag = r.frag; post = r.post }

-- of the worker at the root
abbrev pub root_duty : RunModel → Plan → Duty
root_duty S p = record { frag = fragment S 0 p; post = keeps (types_of S.catalog p) }

-- of the producer at place i of exchange n, over the plan p
abbrev pub producer_duty : RunModel → (n : ℕ) → ExchangeKind → Plan → (i : ℕ) → Duty
producer_duty S n k p i = record { frag = fragment S i p; post = sends_by_ship (ship_of S n i k p) }

-- of the workers below the top fragment
abbrev pub duties_below : RunModel → Plan → List Duty
duties_below S (scan n c r m z) = []
duties_below S (unary n c op p) = duties_below S p
duties_below S (binary n c op p q) = duties_below S p ++ duties_below S q
duties_below S (exchange n c k merge p) = each_below (workers S.sizes (size p)) (producer_duty S n k p) ++ duties_below S p

-- the workers of a plan with these roles, the first of which is at the root, and the board that connects them; the root has no queues, and those of all others are open and empty
pub record IsCrew (S : RunModel) (p : Plan) (roles : List Role) (w : LinksView) : Type 0 where
  pub numbered : is_numbered 0 p ≡ true
  pub duties : map duty_of roles ≡ root_duty S p ∷ duties_below S p
  pub outside : ℕ
  pub sends : w.sends ≡ outside ∷ sends_below S p
  pub stations : w.stations ≡ stations_of S p 0 1
  pub queues : w.queues ≡ [] ∷ queues_below S p
