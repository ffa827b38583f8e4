-- What a plan's functions do not decide: the laws of plans under other functions.
use Rattle.std.specs.Prelude.{◌≡◌, ℕ, List}
use Rattle.vx_rows_values.specs.declared.value.ColType.{ColType}
use Rattle.vx_catalog_relations.specs.Relation.{Relation}
use Rattle.vx_plan_nodes.specs.Plan.{Aggregate, Unary, Plan, number, claim, size}
use Rattle.vx_plan_nodes.specs.Types.{types_of, width, well_formed}
use Rattle.vx_plan_nodes.specs.Numbering.{nodes, is_numbered, relation_in, is_fit}
use Rattle.vx_plan_nodes.specs.Describe.{described}
use Rattle.vx_plan_nodes.specs.Phases.{is_open, opens, phase_fits, spoken}
use Rattle.vx_plan_nodes.specs.Erase.{erase}
use Rattle.vx_plan_nodes.specs.Typed.{Scope, is_unary, typed, IsTyped}
use Rattle.vx_plan_nodes.specs.Outline.{Outline, plan_in, outline_of, plan_of, function_of}
use Rattle.vx_plan_nodes.specs.Outputs.{HasOutputs}
use Rattle.vx_plan_nodes.specs.Workers.{crew_size}
use Rattle.vx_plan_nodes.specs.TypedView.{resolved_of}
use Rattle.vx_plan_nodes.specs.declared.typed.TypedNode.{TypedNode}
use Rattle.vx_plan_nodes.specs.declared.typed_plan.TypedPlan.{TypedPlan}
use Rattle.vx_plan_nodes.specs.Under.{Functions, unary_under, under, outline_under, typed_plan_under}

-- its nodes are numbered, claim and have workers as before, and its scans read the same relations
pub record NodesStay : Type 0 where
  pub numbers : (given : Functions) (p : Plan) → number (under given p) ≡ number p
  pub claims : (given : Functions) (p : Plan) → claim (under given p) ≡ claim p
  pub sizes : (given : Functions) (p : Plan) → size (under given p) ≡ size p
  pub counts : (given : Functions) (p : Plan) → nodes (under given p) ≡ nodes p
  pub numbered : (given : Functions) (i : ℕ) (p : Plan) → is_numbered i (under given p) ≡ is_numbered i p
  pub relations : (given : Functions) (p : Plan) (k : ℕ) → relation_in (under given p) k ≡ relation_in p k
  pub fit : (given : Functions) (relation_of : ℕ → ℕ) (p : Plan) → is_fit relation_of (under given p) ≡ is_fit relation_of p
  pub crews : (given : Functions) (sizes : ℕ → ℕ) (p : Plan) → crew_size sizes (under given p) ≡ crew_size sizes p

-- an operator copies columns as before, and keeps the order and the keys that it kept
abbrev pub DescriptionsStay : Type 0
DescriptionsStay = (given : Functions) (op : Unary) → described (unary_under given op) ≡ described op

-- finals stand over their partials as before
pub record PhasesStay : Type 0 where
  pub opened : (given : Functions) (p : Plan) → is_open (under given p) ≡ is_open p
  pub finals : (given : Functions) (keys : List ℕ) (aggregates : List Aggregate) (p : Plan) → opens keys aggregates (under given p) ≡ opens keys aggregates p
  pub fitting : (given : Functions) (op : Unary) (p : Plan) → phase_fits (unary_under given op) (under given p) ≡ phase_fits op p

-- its columns have the same types, and it is typed just if it was
pub record TypesStay : Type 0 where
  pub types : (given : Functions) (catalog : ℕ → Relation) (p : Plan) → types_of catalog (under given p) ≡ types_of catalog p
  pub widths : (given : Functions) (catalog : ℕ → Relation) (p : Plan) → width catalog (under given p) ≡ width catalog p
  pub formed : (given : Functions) (catalog : ℕ → Relation) (p : Plan) → well_formed catalog (under given p) ≡ well_formed catalog p
  pub operators : (given : Functions) (types : List ColType) (op : Unary) → is_unary types (unary_under given op) ≡ is_unary types op
  pub all_nodes : (given : Functions) (s : Scope) (p : Plan) → typed s (under given p) ≡ typed s p
  pub whole : (given : Functions) (s : Scope) (p : Plan) → IsTyped s p → IsTyped s (under given p)

-- without its exchanges it is the plan without exchanges under these functions; so is the plan that its top's claim speaks of
pub record FunctionsGoAlong : Type 0 where
  pub without_exchanges : (given : Functions) (p : Plan) → erase (under given p) ≡ under given (erase p)
  pub spoken_of : (given : Functions) (p : Plan) → spoken (under given p) ≡ under given (spoken p)
  pub with_names : (given : Functions) (o : Outline) → plan_in (outline_under given o) ≡ under given (plan_in o)
  pub outputs : (given : Functions) (catalog : ℕ → Relation) (o : Outline) → HasOutputs catalog o → HasOutputs catalog (outline_under given o)

-- of functions that are given one after the other the last ones stand; and what the program holds is the same under the program's functions
pub record LastFunctionsStand : Type 0 where
  pub last : (first given : Functions) (p : Plan) → under given (under first p) ≡ under given p
  pub own : (t : TypedNode) → under function_of (plan_of t) ≡ plan_of t
  pub own_outline : (t : TypedNode) → outline_under function_of (outline_of t) ≡ outline_of t
  pub own_plan : (p : TypedPlan) → typed_plan_under function_of (resolved_of p) ≡ resolved_of p
