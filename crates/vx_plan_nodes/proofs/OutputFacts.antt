-- The columns of a node whose plan is known, and those of a plan without its exchanges.
use Rattle.std.proofs.Common.{◌≡◌, ℕ, ◌+◌, Bool, true, false, cond, ◌&&◌, List, sym, ap, ◌∙◌, subst}
use Rattle.vx_rows_values.specs.declared.value.ColType.{ColType}
use Rattle.vx_catalog_relations.specs.Relation.{Relation}
use Rattle.vx_catalog_relations.specs.Catalog.{relation_at}
use Rattle.vx_plan_nodes.specs.Phases.{is_final, both_closed}
use Rattle.vx_plan_nodes.specs.Typed.{Scope, is_binary, is_output, typed}
use Rattle.vx_plan_nodes.specs.Erase.{nodes_left, at_once}
use Rattle.vx_plan_nodes.specs.Outline.{Columns, Outline, scan, unary, binary, exchange, plan_in}
use Rattle.vx_plan_nodes.specs.Types.{unary_types, binary_types, types_of}
use Rattle.vx_plan_nodes.specs.Erased.{erased_top, erased_from}
use Rattle.vx_plan_nodes.specs.Outputs.{IsOutputOf, IsOutputAt, HasOutputs}
use Rattle.vx_plan_nodes.proofs.ErasedFacts.{typed-below, once-types, erased-types, erased-plan}
use Rattle.vx_rows_values.proofs.Booleans.{and-left, and-right}

pub top-output : (catalog : ℕ → Relation) (o : Outline) → HasOutputs catalog o → IsOutputAt catalog o
top-output catalog (scan h r m z p) k = k
top-output catalog (unary h op flags t) k = k.0
top-output catalog (binary h op t u) k = k.0
top-output catalog (exchange h x m t) k = k.0

-- an erased outline gives the same types
outline-types : (s : Scope) (i : ℕ) (o : Outline) → typed s (plan_in o) ≡ true
    → types_of (relation_at s.catalog) (plan_in (erased_from i o)) ≡ types_of (relation_at s.catalog) (plan_in o)
outline-types s i o h = ap (types_of (relation_at s.catalog)) (erased-plan i o) ∙ erased-types s i (plan_in o) h

-- columns are those of other types that are the same
along : (ts us : List ColType) (cols : Columns) → ts ≡ us → IsOutputOf us cols → IsOutputOf ts cols
along ts us cols e h = let P : List ColType → Type 0 = λ xs. IsOutputOf xs cols in subst P (sym e) h

pub erased-outputs : (s : Scope) (i : ℕ) (o : Outline) → typed s (plan_in o) ≡ true → HasOutputs (relation_at s.catalog) o → HasOutputs (relation_at s.catalog) (erased_from i o)
erased-outputs s i (scan h r m z p) ok k = record { types_are = k.types_are; names_are = k.names_are }
erased-outputs s i (unary h op flags t) ok k =
    let below = typed-below s h.number h.claim op (plan_in t) ok in
    go (is_final op) (erased-outputs s i t below.0 k.1) (erased-outputs s (i + 1) t below.0 k.1) (outline-types s (i + 1) t below.0)
  where
    ts : List ColType
    ts = types_of (relation_at s.catalog) (plan_in t)

    us : List ColType
    us = types_of (relation_at s.catalog) (plan_in (erased_from (i + 1) t))

    go : (b : Bool) → HasOutputs (relation_at s.catalog) (erased_from i t) → HasOutputs (relation_at s.catalog) (erased_from (i + 1) t) → us ≡ ts
        → HasOutputs (relation_at s.catalog) (cond b (erased_from i t) (unary (erased_top i h) (at_once op) flags (erased_from (i + 1) t)))
    go true a b e = a
    go false a b e = (along (unary_types (at_once op) us) (unary_types op ts) h.columns (ap (unary_types (at_once op)) e ∙ once-types op ts) k.0, b)
erased-outputs s i (binary h op t u) ok k =
    let j : ℕ = i + 1 + nodes_left (plan_in t) in
    let ts : List ColType = types_of (relation_at s.catalog) (plan_in t) in
    let us : List ColType = types_of (relation_at s.catalog) (plan_in u) in
    let vs : List ColType = types_of (relation_at s.catalog) (plan_in (erased_from (i + 1) t)) in
    let ws : List ColType = types_of (relation_at s.catalog) (plan_in (erased_from j u)) in
    let rest : Bool = typed s (plan_in u) && (both_closed (plan_in t) (plan_in u) && (is_binary ts us op && is_output s (binary_types op ts us) h.claim)) in
    let left = and-left (typed s (plan_in t)) rest ok in
    let right = and-left (typed s (plan_in u)) (both_closed (plan_in t) (plan_in u) && (is_binary ts us op && is_output s (binary_types op ts us) h.claim)) (and-right (typed s (plan_in t)) rest ok) in (
      along (binary_types op vs ws) (binary_types op ts us) h.columns
          (ap (λ xs. binary_types op xs ws) (outline-types s (i + 1) t left) ∙ ap (λ xs. binary_types op ts xs) (outline-types s j u right)) k.0,
      erased-outputs s (i + 1) t left k.1,
      erased-outputs s j u right k.2,
    )
erased-outputs s i (exchange h x m t) ok k = erased-outputs s i t (and-left (typed s (plan_in t)) _ ok) k.1
