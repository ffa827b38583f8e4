-- Trees and workers of a job, before any step.
use Rattle.std.specs.Prelude.{ℕ, ◌≡◌, ◌+◌, true, List, []}
use Rattle.vx_catalog_relations.specs.Relation.{Relation}
use Rattle.vx_rows_values.specs.Values.{Row}
use Rattle.vx_rows_values.specs.declared.value.ColType.{ColType}
use Rattle.vx_plan_nodes.specs.Plan.{Plan, scan, unary, binary, exchange, size}
use Rattle.vx_plan_nodes.specs.Streams.{workers}
use Rattle.vx_plan_nodes.specs.Routes.{Routing}
use Rattle.vx_plan_nodes.specs.Runs.{is_concat}
use Rattle.vx_plan_nodes.specs.Types.{types_of}
use Rattle.vx_plan_nodes.specs.Numbering.{is_numbered, nodes}
use Rattle.vx_plan_nodes.specs.Under.{under}
use Rattle.vx_plan_nodes.specs.declared.functions.PlanFunctions.{Ghosts}
use Rattle.vx_check_rules.specs.Checked.{relations}
use Rattle.vx_ops.specs.Ledger.{fresh, Op, scan_op, one_op, two_op, receive}
use Rattle.vx_ops.specs.Starts.{StartsWithin}
use Rattle.vx_ops.specs.Turn.{Shape, fresh_ledger}
use Rattle.vx_exchange_ends.specs.Sending.{RoutesAs}
use Rattle.vx_worker.specs.Fragment.{RunModel, fragment, goes}
use Rattle.vx_worker.specs.Trace.{empty_trace}
use Rattle.vx_worker.specs.Remaining.{TreeStarts}
use Rattle.vx_worker.specs.Trees.{shape, TreeStands}
use Rattle.vx_worker.specs.Wishes.{fresh_reads, tree_types, Numbered, TreeTyped}
use Rattle.vx_worker.specs.Worker.{role_of, sender_of, IsReady, WorkerStands}
use Rattle.vx_exec_operators.specs.Operator.{OperatorStands, operator_op, operator_types, operator_most, operator_idle}
use Rattle.vx_exec_operators.specs.Destination.{DestinationStands, task_of, post_of, bounds_of, is_open, has_closed, held_in, unclosed_in}
use Rattle.vx_exec_operators.specs.declared.operator.Operator.{Operator}
use Rattle.vx_exec_operators.specs.declared.destination.Destination.{Destination}
use Rattle.vx_worker.specs.declared.tree.Tree.{Tree}
use Rattle.vx_worker.specs.declared.worker.Worker.{Worker}
use Rattle.vx_exec_steps.specs.Crews.{Duty, duty_of}
use Rattle.vx_exec_steps.specs.Ready.{IsRested}
use Rattle.vx_exec.specs.Job.{model_of, types_at}
use Rattle.vx_exec.specs.LeafTypes.{LeavesFit}
use Rattle.vx_exec.specs.declared.job.Job.{Job}

-- what the operator at the top of a plan does, for the worker at a place
abbrev pub op_at : RunModel → (place : ℕ) → Plan → Op
op_at S place (scan n c r m z) = scan_op
op_at S place (unary n c op p) = one_op n op
op_at S place (binary n c op p q) = two_op n op
op_at S place (exchange n c k merge p) =
    receive (record { exchange = n; place = place; producers = workers S.sizes (size p); types = types_of S.catalog p; merge = merge; in_order = is_concat k })

-- it takes rows of its inputs' types; what has no input takes rows of the types that it gives
abbrev pub TakesAt : (ℕ → Relation) → Plan → Shape → Type 0
TakesAt catalog (scan n c r m z) s = s.left ≡ (catalog r).types
TakesAt catalog (unary n c op p) s = s.left ≡ types_of catalog p
TakesAt catalog (binary n c op p q) s = (s.left ≡ types_of catalog p) × (s.right ≡ types_of catalog q)
TakesAt catalog (exchange n c k merge p) s = s.left ≡ types_of catalog p

-- the operator at the top of a plan for the worker at a place, to which nothing came: it does what that of the plan under the job's functions does
pub record IsOperatorOf {F : Type 0} (given : Ghosts F) (j : Job F) (place : ℕ) (p : Plan) (o : Operator F given) : Type 0 where
  pub op_is : (hash : List ℕ → Row → ℕ → ℕ) → operator_op given o ≡ op_at (model_of hash j) place (under (given.functions j.functions) p)
  pub stands : OperatorStands given o fresh_ledger
  pub starts : StartsWithin (operator_op given o) (operator_most given o) (operator_idle given o)
  pub takes : TakesAt (relations j.plan.now) p (operator_types given o)
  pub gives : (operator_types given o).out ≡ types_of (relations j.plan.now) p

-- the operators of the plan's top fragment for the worker at a place, to which nothing came: they are that fragment under the job's functions
pub record IsTreeOf {F : Type 0} (given : Ghosts F) (j : Job F) (place : ℕ) (p : Plan) (tree : Tree (Operator F given)) : Type 0 where
  pub shape_is : (hash : List ℕ → Row → ℕ → ℕ) → shape (operator_op given) tree ≡ fragment (model_of hash j) place (under (given.functions j.functions) p)
  pub gives : tree_types (operator_types given) tree ≡ types_of (relations j.plan.now) p
  pub stands : TreeStands (OperatorStands given) tree fresh_reads fresh
  pub starts : TreeStarts (operator_op given) (operator_most given) (operator_idle given) tree
  pub numbered : (i : ℕ) → is_numbered i p ≡ true → Numbered i (i + nodes p) tree
  pub typed : (leaves : ℕ → List ColType) → LeavesFit leaves (relations j.plan.now) p → TreeTyped (operator_types given) leaves tree

-- what a worker is to do
abbrev pub duty : {F : Type 0} (given : Ghosts F) → Worker (Operator F given) Destination → Duty
duty given w = duty_of (role_of (operator_op given) post_of bounds_of w)

-- a destination of a job's rows to which none came
pub record IsUnused {F : Type 0} (j : Job F) (d : Destination) : Type 0 where
  pub opened : is_open d ≡ true
  pub stands : (goes : Routing) → DestinationStands d goes fresh (λ _. [])
  pub routes : (hash : List ℕ → Row → ℕ → ℕ) → RoutesAs (post_of d) (bounds_of d) hash (goes (model_of hash j))
  pub empty : (k : ℕ) → held_in d k ≡ 0

-- a worker of a job that can make its first step, and has made none
pub record IsNew {F : Type 0} (given : Ghosts F) (j : Job F) (w : Worker (Operator F given) Destination) : Type 0 where
  pub ready : IsReady (operator_types given) post_of is_open has_closed (types_at j) w
  pub stands : (goes : Routing) (m : ℕ → ℕ → List Row) → WorkerStands (OperatorStands given) (operator_op given) DestinationStands task_of goes m w empty_trace
  pub routes : (hash : List ℕ → Row → ℕ → ℕ) → RoutesAs (post_of (sender_of w)) (bounds_of (sender_of w)) hash (goes (model_of hash j))
  pub rested : IsRested (operator_op given) (operator_most given) (operator_idle given) post_of held_in unclosed_in w
