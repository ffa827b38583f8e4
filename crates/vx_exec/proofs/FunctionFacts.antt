-- A job's plan under its functions: what carries over from the plan as it was typed.
use Rattle.std.proofs.Common.{◌≡◌, ℕ, Ok, Err, Result, IfErr, sym, ap, ◌∙◌, subst}
use Rattle.vx_catalog.specs.Database.{Database}
use Rattle.vx_plan_nodes.specs.Names.{TypedPlanView}
use Rattle.vx_plan_nodes.specs.Outline.{plan_in, outline_of}
use Rattle.vx_plan_nodes.specs.Plan.{ExchangeKind, Plan, target}
use Rattle.vx_plan_nodes.specs.Streams.{workers}
use Rattle.vx_plan_nodes.specs.TypedView.{names_in, plan, resolved_of}
use Rattle.vx_plan_nodes.specs.Under.{Functions, under, typed_plan_under}
use Rattle.vx_plan_nodes.specs.declared.typed_plan.TypedPlan.{TypedPlan}
use Rattle.vx_plan_nodes.proofs.UnderErased.{functions-go-along}
use Rattle.vx_plan_nodes.proofs.UnderFacts.{types-under}
use Rattle.vx_exec_setup.specs.Setup.{SetupView}
use Rattle.vx_exec_setup.specs.declared.fault.RunFault.{RunFault}
use Rattle.vx_worker.specs.Fragment.{RunModel}
use Rattle.vx_exec_laws.specs.RunOf.{ship_of}
use Rattle.vx_exec_runs.specs.Runs.{HasSizes, IsSetUp, RunFails, for_setup}
use Rattle.vx_exec_runs.specs.Setup.{Fails, Gives, sizes_set}
use Rattle.vx_exec_runs.specs.Sizes.{Sizes}
use Rattle.vx_exec_runs.proofs.UnderFacts.{setup-stays}

-- with its names it has the same plan
pub plan-under : (given : Functions) (p : TypedPlan) → plan_in (typed_plan_under given (resolved_of p)).root ≡ under given (plan p)
plan-under given p = functions-go-along.with_names given (outline_of p.root)

-- a setup comes to the same sizes
pub sizes-under : (given : Functions) (p : TypedPlanView) (setup : SetupView) → sizes_set setup p.names.sizes (plan_in (typed_plan_under given p).root) ≡ sizes_set setup p.names.sizes (plan_in p.root)
sizes-under given p setup = ap (sizes_set setup p.names.sizes) (functions-go-along.with_names given p.root) ∙ setup-stays.sizes given setup p.names.sizes (plan_in p.root)

-- so what is set up has its sizes, whatever its functions are
pub has-sizes : (given : Functions) (p : TypedPlanView) (db : Database) (setup : SetupView) (s : Sizes) → IsSetUp (typed_plan_under given p) db setup s → HasSizes p db setup s
has-sizes given p db setup s h = record { same = h.same; sizes = sym (sizes-under given p setup) ∙ h.sizes }

-- and it is refused as without them
pub fails-under : {X : Type 0} (given : Functions) (p : TypedPlan) (db : Database) (setup : SetupView) (look : X → Sizes) (r : Result X RunFault) → db.catalog ≡ (names_in p).catalog
    → Gives look r (sizes_set setup (names_in p).sizes (plan p)) → IfErr r (RunFails (typed_plan_under given (resolved_of p)) db setup)
fails-under given p db setup look (Ok x) same h = tt
fails-under given p db setup look (Err e) same h = for_setup same (subst (λ z. Fails e z) (sym (sizes-under given (resolved_of p) setup)) h)

-- its producers send the same rows to as many
pub ships-under : (given : Functions) (S : RunModel) (n i : ℕ) (k : ExchangeKind) (p : Plan) → ship_of S n i k (under given p) ≡ ship_of S n i k p
ships-under given S n i k p =
    ap (λ z. record { exchange = n; place = i; consumers = workers S.sizes (target k); types = z; kind = k; size = S.packet }) (types-under given S.catalog p)
