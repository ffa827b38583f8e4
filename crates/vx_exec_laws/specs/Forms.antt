-- Definitions that stand in two forms, and that the two say the same.
use Rattle.std.specs.Prelude.{length, ◌≡◌, ◌↔◌, ℕ, ◌<◌, ◌≤◌, Bool, true, false, not, ◌&&◌, List, None, IsPermutation}
use Rattle.vx_catalog_relations.specs.Catalog.{relation_at}
use Rattle.vx_plan_nodes.specs.Typed.{Scope, typed, IsTyped}
use Rattle.vx_plan_nodes.specs.Types.{types_of, width, well_formed}
use Rattle.vx_plan_nodes.specs.Phases.{phased, phases_seen, is_open}
use Rattle.vx_plan_nodes.specs.Numbering.{is_numbered}
use Rattle.vx_plan_nodes.specs.Erase.{erase}
use Rattle.std.specs.Ordering.{is_le}
use Rattle.vx_rows_values.specs.Values.{Val, Row, val_cmp, row_eq}
use Rattle.vx_rows_values.specs.Bags.{count, SameRows}
use Rattle.vx_rows_values.specs.Keys.{HasKey, is_key}
use Rattle.vx_plan_nodes.specs.Plan.{Route, Plan}
use Rattle.vx_catalog_relations.specs.Relation.{Relation}
use Rattle.vx_plan_nodes.specs.Routes.{range_consumer, sends_by}
use Rattle.vx_check_rules.specs.Rules.{allowed, root_allowed}
use Rattle.vx_check_rules.specs.Refusal.{refusal}

-- a key by a test is a key; the ranges and a hash router that keeps its law answer below the number of consumers; the ranges rise with the value
pub record FormsAgree : Type 0 where
  pub key : (cols : List ℕ) (xs : List Row) → (is_key cols xs ≡ true) ↔ HasKey cols xs
  pub router : (hash : List ℕ → Row → ℕ → ℕ) (bounds : ℕ → List Val) → ((name : List ℕ) (key : Row) (n : ℕ) → 0 < n → hash name key n < n)
      → (r : Route) (key : Row) (n : ℕ) → 0 < n → sends_by hash bounds r key n < n
  pub rising : (bounds : List Val) (v w : Val) (n : ℕ) → is_le (val_cmp v w) ≡ true → range_consumer bounds v n ≤ range_consumer bounds w n

-- nothing is refused of exactly those plans that are allowed at every node, and at the root
abbrev pub RefusalDecides : Type 0
RefusalDecides =
    (catalog : ℕ → Relation) (is_total : Bool) (p : Plan) → (refusal catalog is_total p ≡ None) ↔ ((allowed catalog p ≡ true) × (root_allowed catalog is_total p ≡ true))

-- what is typed is well formed, and has as many columns as types
abbrev pub TypedIsWellFormed : Type 0
TypedIsWellFormed =
    (s : Scope) (p : Plan) → typed s p ≡ true → (well_formed (relation_at s.catalog) p ≡ true) × (length (types_of (relation_at s.catalog) p) ≡ width (relation_at s.catalog) p)

-- the plan without exchanges is numbered in preorder, typed where the plan is, and has the same types
pub record ErasedIsTyped : Type 0 where
  pub numbered : (p : Plan) → is_numbered 0 (erase p) ≡ true
  pub typed : (s : Scope) (p : Plan) → IsTyped s p → IsTyped s (erase p)
  pub types : (s : Scope) (p : Plan) → IsTyped s p → types_of (relation_at s.catalog) (erase p) ≡ types_of (relation_at s.catalog) p

-- the same rows, each as often, is a permutation, and it is equal counts of each row
pub record SameRowsIs : Type 0 where
  pub permutation : (xs ys : List Row) → SameRows xs ys ↔ IsPermutation xs ys
  pub counts : (xs ys : List Row) → SameRows xs ys ↔ ((row : Row) → count (row_eq row) xs ≡ count (row_eq row) ys)
  pub same_row : (a b : Row) → (row_eq a b ≡ true) ↔ (a ≡ b)

-- the phases of a plan fit, seen from below, where each node sees that its own does; and those of a typed plan fit
pub record PhasesAgree : Type 0 where
  pub seen : (p : Plan) → phases_seen false p ≡ (phased p && not (is_open p))
  pub well : (s : Scope) (p : Plan) → typed s p ≡ true → phased p ≡ true
