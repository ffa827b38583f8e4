-- Claims of a plan that tell at least as much as those of another plan with the same nodes, by what is known of the columns of the first.
use Rattle.std.specs.Prelude.{◌≡◌, ℕ, Bool, true, false, ◌&&◌, ◌||◌}
use Rattle.std.specs.List.{list_all}
use Rattle.vx_catalog_relations.specs.Relation.{Relation}
use Rattle.vx_plan_nodes.specs.Plan.{Plan, scan, unary, binary, exchange, claim, size, is_one}
use Rattle.vx_plan_nodes.specs.Types.{well_formed}
use Rattle.vx_plan_facts.specs.declared.known.KnownColumns as rust_known
use Rattle.vx_plan_facts.specs.Determined.{determined}
use Rattle.vx_plan_facts.specs.Equal.{equal_at}
use Rattle.vx_plan_facts.specs.Following.{order_follows, key_follows}
use Rattle.vx_plan_facts.specs.KnownView.{IsKnownOf}
use Rattle.vx_check_options.specs.Placed.{bare}
use Rattle.vx_check_shown.specs.PartLaws.{told}

-- at a node: a part that tells the other one, if there are several workers; an order from which the other one follows; and for each key of the other one a key that
-- it determines
abbrev pub tells_here : (ℕ → Relation) → (f e : Plan) → Bool
tells_here catalog f e =
    (is_one (size f) || told (equal_at catalog f) (claim f).part (claim e).part)
    && (order_follows (equal_at catalog f) (determined catalog f) (claim f).order (claim e).order
    && list_all (key_follows (determined catalog f) (claim f).keys) (claim e).keys)

-- so at every node of plans with the same nodes
abbrev pub tells_derived : (ℕ → Relation) → (f e : Plan) → Bool
tells_derived catalog (scan n c r m z) (scan i d s o y) = tells_here catalog (scan n c r m z) (scan i d s o y)
tells_derived catalog (unary n c op p) (unary i d o q) = tells_derived catalog p q && tells_here catalog (unary n c op p) (unary i d o q)
tells_derived catalog (binary n c op p p2) (binary i d o q q2) =
    tells_derived catalog p q && (tells_derived catalog p2 q2 && tells_here catalog (binary n c op p p2) (binary i d o q q2))
tells_derived catalog (exchange n c k m p) (exchange i d l o q) = tells_derived catalog p q && tells_here catalog (exchange n c k m p) (exchange i d l o q)
tells_derived catalog p q = false

-- a known plan, and one with the same nodes whose claims name columns of these
pub record IsBesideKnown (catalog : ℕ → Relation) (k : rust_known.KnownColumns) (f e : Plan) : Type 0 where
  pub known : IsKnownOf catalog k f
  pub formed : well_formed catalog e ≡ true
  pub same : bare e ≡ bare f

-- each plan tells what it claims itself
abbrev pub TellsItself : Type 0
TellsItself = (catalog : ℕ → Relation) (p : Plan) → tells_derived catalog p p ≡ true
