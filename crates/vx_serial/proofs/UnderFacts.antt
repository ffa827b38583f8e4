-- A typed plan under functions: its exchanges, and what of it is not known, by its root.
use Rattle.std.proofs.Common.{◌≡◌, ℕ, Option, None, refl, sym, ap, ap₂, ◌∙◌}
use Rattle.vx_catalog_relations.specs.Catalog.{relation_at}
use Rattle.vx_catalog.specs.Database.{Database}
use Rattle.vx_plan_nodes.specs.Known.{first_unknown}
use Rattle.vx_plan_nodes.specs.Names.{TypedPlanView}
use Rattle.vx_plan_nodes.specs.Outline.{outline_of, plan_in, plan_of}
use Rattle.vx_plan_nodes.specs.Plan.{Plan, scan, unary, binary, exchange}
use Rattle.vx_plan_nodes.specs.Under.{Functions, under, typed_plan_under}
use Rattle.vx_plan_nodes.specs.declared.typed.TypedNode.{TypedNode}
use Rattle.vx_plan_nodes.proofs.UnderErased.{functions-go-along}
use Rattle.vx_serial.specs.Evaluated.{first_of, first_exchange}
use Rattle.vx_serial.specs.Results.{IsPlain, unknown_in}

exchange-under : (given : Functions) (p : Plan) → first_exchange (under given p) ≡ first_exchange p
exchange-under given (scan n c r m z) = refl
exchange-under given (unary n c op p) = exchange-under given p
exchange-under given (binary n c op p q) = ap₂ first_of (exchange-under given p) (exchange-under given q)
exchange-under given (exchange n c k m p) = refl

-- its root is that of the plan under these functions
pub root-under : (given : Functions) (p : TypedPlanView) (t : TypedNode) → outline_of t ≡ p.root → plan_in (typed_plan_under given p).root ≡ under given (plan_of t)
root-under given p t root = functions-go-along.with_names given p.root ∙ ap (λ o. under given (plan_in o)) (sym root)

pub exchange-is : (given : Functions) (p : TypedPlanView) (t : TypedNode) (n : Option ℕ) → outline_of t ≡ p.root → first_exchange (plan_of t) ≡ n
    → first_exchange (plan_in (typed_plan_under given p).root) ≡ n
exchange-is given p t n root h = ap first_exchange (root-under given p t root) ∙ exchange-under given (plan_of t) ∙ h

pub is-plain : (given : Functions) (p : TypedPlanView) (t : TypedNode) (db : Database) → outline_of t ≡ p.root → db.catalog ≡ p.names.catalog → first_exchange (plan_of t) ≡ None
    → IsPlain (typed_plan_under given p) db
is-plain given p t db root same h = record { same = same; none = exchange-is given p t None root h }

pub unknown-is : (given : Functions) (p : TypedPlanView) (t : TypedNode) (n : Option ℕ) → outline_of t ≡ p.root → first_unknown (relation_at p.names.catalog) (under given (plan_of t)) ≡ n
    → unknown_in (typed_plan_under given p) ≡ n
unknown-is given p t n root h = ap (first_unknown (relation_at p.names.catalog)) (root-under given p t root) ∙ h
