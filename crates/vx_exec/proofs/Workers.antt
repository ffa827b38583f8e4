-- A worker that was made of a tree and a destination is to do what the plan says, and is new.
use Rattle.std.proofs.Common.{◌≡◌, ℕ, List, [], sym, ap, ◌∙◌, subst}
use Rattle.std.specs.List.{Contains}
use Rattle.vx_rows_values.specs.Values.{Row, Val}
use Rattle.vx_rows_values.specs.declared.value.ColType.{ColType}
use Rattle.vx_plan_nodes.specs.Plan.{Plan, ExchangeKind, target}
use Rattle.vx_plan_nodes.specs.Streams.{workers}
use Rattle.vx_plan_nodes.specs.Routes.{Routing}
use Rattle.vx_plan_nodes.specs.Types.{types_of}
use Rattle.vx_plan_nodes.specs.Under.{under}
use Rattle.vx_check_rules.specs.Checked.{relations}
use Rattle.vx_ops.specs.Ledger.{fresh}
use Rattle.vx_exchange_ends.specs.Tasks.{Post, sends_by_ship}
use Rattle.vx_exchange_ends.specs.Sending.{RoutesAs}
use Rattle.vx_worker.specs.Fragment.{Frag, fragment, goes}
use Rattle.vx_worker.specs.Trace.{empty_trace}
use Rattle.vx_worker.specs.Remaining.{Starts, TreeStarts}
use Rattle.vx_worker.specs.Trees.{shape, TakesFrom}
use Rattle.vx_worker.specs.Wishes.{TreeTyped}
use Rattle.vx_worker.specs.Worker.{Role, role_of, tree_of, inputs_of as sources_in, closing_of, IsReady, WorkerStands}
use Rattle.vx_rows.specs.Lists.{each_below}
use Rattle.vx_ports.specs.Packets.{PacketView, fault}
use Rattle.vx_exchange_ends.specs.Ship.{packet_of}
use Rattle.vx_exec_operators.specs.Operator.{OperatorStands, operator_op, operator_types, operator_most, operator_idle}
use Rattle.vx_exec_operators.specs.Destination.{DestinationStands, task_of, post_of, bounds_of, is_open, has_closed, held_in, unclosed_in}
use Rattle.vx_exec_operators.specs.declared.operator.Operator.{Operator}
use Rattle.vx_exec_operators.specs.declared.destination.Destination.{Destination}
use Rattle.vx_worker.specs.declared.tree.Tree.{Tree}
use Rattle.vx_worker.specs.declared.worker.Worker.{Worker}
use Rattle.vx_exec_steps.specs.Crews.{Duty}
use Rattle.vx_exec_laws.specs.RunOf.{ship_of}
use Rattle.vx_exec_steps.specs.Ready.{IsRested}
use Rattle.vx_plan_nodes.specs.Workers.{worker_group_at}
use Rattle.vx_plan_nodes.specs.declared.functions.PlanFunctions.{Ghosts}
use Rattle.vx_exec.specs.Inputs.{inputs_of}
use Rattle.vx_exec.specs.Job.{model_of, types_at}
use Rattle.vx_exec.specs.LeafTypes.{LeavesFit}
use Rattle.vx_exec.specs.Crew.{IsTreeOf, IsNew, IsUnused}
use Rattle.vx_exec.specs.declared.job.Job.{Job}
use Rattle.vx_exec.proofs.Taking.{inputs-take, inputs-under}

duty-with : Frag → Post → Duty
duty-with f p = record { frag = f; post = p }

-- made of the operators of a plan, it is to do what these do there
pub made-does : {F : Type 0} (given : Ghosts F) (j : Job F) (hash : List ℕ → Row → ℕ → ℕ) (place : ℕ) (p : Plan) (tree : Tree (Operator F given)) (post : Post) → IsTreeOf given j place p tree
    → ◌≡◌ {A = Duty} (record { frag = shape (operator_op given) tree; post = post }) (record { frag = fragment (model_of hash j) place (under (given.functions j.functions) p); post = post })
unfolding duty-with
made-does given j hash place p tree post h = ap (λ z. duty-with z post) (h.shape_is hash)

-- at a post that is the plan's, it does what the plan says
pub does-at : (f : Frag) (post post' : Post) → post ≡ post' → ◌≡◌ {A = Duty} (record { frag = f; post = post }) (record { frag = f; post = post' })
unfolding duty-with
does-at f post post' e = ap (duty-with f) e

-- what a producer sends by is the plan's
pub sends-as : {F : Type 0} (j : Job F) (hash : List ℕ → Row → ℕ → ℕ) (n place : ℕ) (k : ExchangeKind) (p : Plan)
    (consumers : ℕ) (types : List ColType) (kind : ExchangeKind) (size : ℕ)
    → consumers ≡ workers (worker_group_at j.layout.worker_groups.items) (target k) → types ≡ types_of (relations j.plan.now) p → kind ≡ k → size ≡ j.packet
    → sends_by_ship (record { exchange = n; place = place; consumers = consumers; types = types; kind = kind; size = size }) ≡ sends_by_ship (ship_of (model_of hash j) n place k p)
sends-as j hash n place k p consumers types kind size many same is packet =
    ap (λ z. sends_by_ship (record { exchange = n; place = place; consumers = z; types = types; kind = kind; size = size })) many
    ∙ ap (λ z. sends_by_ship (record { exchange = n; place = place; consumers = workers (worker_group_at j.layout.worker_groups.items) (target k); types = z; kind = kind; size = size })) same
    ∙ ap (λ z. sends_by_ship (record { exchange = n; place = place; consumers = workers (worker_group_at j.layout.worker_groups.items) (target k); types = types_of (relations j.plan.now) p; kind = z; size = size })) is
    ∙ ap (λ z. sends_by_ship (record { exchange = n; place = place; consumers = workers (worker_group_at j.layout.worker_groups.items) (target k); types = types_of (relations j.plan.now) p; kind = k; size = z })) packet

-- and so are the packets that close its ports
pub closes-as : {F : Type 0} (j : Job F) (hash : List ℕ → Row → ℕ → ℕ) (n place : ℕ) (k : ExchangeKind) (p : Plan) (consumers : ℕ) (closing : List PacketView)
    → consumers ≡ workers (worker_group_at j.layout.worker_groups.items) (target k)
    → closing ≡ each_below consumers (λ i. packet_of (ship_of (model_of hash j) n place k p) i fault)
    → closing ≡ closing_of (sends_by_ship (ship_of (model_of hash j) n place k p))
closes-as j hash n place k p consumers closing many h = h ∙ ap (λ z. each_below z (λ i. packet_of (ship_of (model_of hash j) n place k p) i fault)) many

-- made of this tree, over these producers, it has no more to do than its operators have, and takes of no others
made-rested : {F : Type 0} (given : Ghosts F) (j : Job F) (place : ℕ) (p : Plan) (tree : Tree (Operator F given)) (inputs : List (ℕ × ℕ)) (post : Post) (bounds : List Val) (w : Worker (Operator F given) Destination) → IsTreeOf given j place p tree
    → role_of (operator_op given) post_of bounds_of w ≡ record { frag = shape (operator_op given) tree; post = post; bounds = bounds; inputs = inputs }
    → inputs ≡ inputs_of (worker_group_at j.layout.worker_groups.items) p
    → Starts (operator_most given) (operator_idle given) post_of held_in unclosed_in (shape (operator_op given) tree) w
    → IsRested (operator_op given) (operator_most given) (operator_idle given) post_of held_in unclosed_in w
made-rested given j place p tree inputs post bounds w h role sources starts =
    let S = model_of (λ name key n. 0) j in
    let frag : shape (operator_op given) (tree_of w) ≡ shape (operator_op given) tree = ap (λ (x : Role). x.frag) role in
    let are : sources_in w ≡ inputs_of S.sizes (under (given.functions j.functions) p) = ap (λ (x : Role). x.inputs) role ∙ sources ∙ sym (inputs-under (given.functions j.functions) S.sizes p) in
    let q = under (given.functions j.functions) p in
    let placed : shape (operator_op given) (tree_of w) ≡ fragment S place q = frag ∙ h.shape_is (λ name key n. 0) in
    record {
      starts = subst (λ (f : Frag). Starts (operator_most given) (operator_idle given) post_of held_in unclosed_in f w) (sym frag) starts;
      takes = λ x i k.
          subst (λ (f : Frag). TakesFrom x i f) (sym placed) (inputs-take S place q x i (subst (λ (l : List (ℕ × ℕ)). Contains l (x, i)) are k));
    }

-- made of this tree and destination it is new
pub made-new : {F : Type 0} (given : Ghosts F) (j : Job F) (place : ℕ) (p : Plan) (tree : Tree (Operator F given)) (d : Destination) (inputs : List (ℕ × ℕ)) (w : Worker (Operator F given) Destination)
    → IsTreeOf given j place p tree → LeavesFit (types_at j) (relations j.plan.now) p → IsUnused j d
    → ((m : ℕ → List ColType) → TreeTyped (operator_types given) m tree → IsReady (operator_types given) post_of is_open has_closed m w)
    → role_of (operator_op given) post_of bounds_of w ≡ record { frag = shape (operator_op given) tree; post = post_of d; bounds = bounds_of d; inputs = inputs }
    → ((goes : Routing) (m : ℕ → ℕ → List Row) → DestinationStands d goes fresh (λ _. []) → WorkerStands (OperatorStands given) (operator_op given) DestinationStands task_of goes m w empty_trace)
    → inputs ≡ inputs_of (worker_group_at j.layout.worker_groups.items) p
    → (TreeStarts (operator_op given) (operator_most given) (operator_idle given) tree → ((k : ℕ) → held_in d k ≡ 0) → Starts (operator_most given) (operator_idle given) post_of held_in unclosed_in (shape (operator_op given) tree) w)
    → IsNew given j w
made-new given j place p tree d inputs w h leaves unused ready role stands sources starts = record {
  ready = ready (types_at j) (h.typed (types_at j) leaves);
  stands = λ r m. stands r m (unused.stands r);
  routes = λ hash. subst (λ (x : Role). RoutesAs x.post x.bounds hash (goes (model_of hash j))) (sym role) (unused.routes hash);
  rested = made-rested given j place p tree inputs (post_of d) (bounds_of d) w h role sources (starts h.starts unused.empty);
}
