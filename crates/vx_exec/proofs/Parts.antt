-- The nodes of a job's plan: its root, and the inputs of each.
use Rattle.std.proofs.Common.{◌≡◌, ℕ, suc, ◌+◌, Bool, true, false, ◌==◌, ◌&&◌, cond, List, length, Option, Some, None, refl, sym, ap, ◌∙◌, subst}
use Rattle.std.specs.Option.{option_or}
use Rattle.vx_rows_values.specs.Order.{order_columns}
use Rattle.vx_rows_values.specs.declared.order.OrderEntry.{OrderEntry}
use Rattle.vx_rows_values.proofs.Booleans.{and-left, and-right}
use Rattle.vx_catalog_relations.specs.Catalog.{relation_at}
use Rattle.vx_catalog_relations.specs.Relation.{Relation}
use Rattle.vx_plan_nodes.specs.Known.{first_unknown, unary_known}
use Rattle.vx_plan_nodes.specs.Numbering.{nodes, is_numbered}
use Rattle.vx_plan_nodes.specs.Outline.{Top, Outline, plan_in, outline_of}
use Rattle.vx_plan_nodes.specs.Outline as outline
use Rattle.vx_plan_nodes.specs.Phases.{phase_fits, both_closed}
use Rattle.vx_plan_nodes.specs.Plan.{Plan, Claim, Unary, Binary, ExchangeKind, unary, binary, exchange}
use Rattle.vx_plan_nodes.specs.Typed.{Scope, typed, are_columns, is_unary, is_binary, is_kind, is_output, may_merge}
use Rattle.vx_plan_nodes.specs.TypedView.{scope, plan, resolved_of}
use Rattle.vx_plan_nodes.specs.Types.{types_of}
use Rattle.vx_plan_nodes.specs.Under.{Functions, unary_under, under}
use Rattle.vx_plan_nodes.specs.declared.typed.TypedNode.{TypedNode}
use Rattle.vx_plan_nodes.specs.declared.typed_plan.TypedPlan.{TypedPlan}
use Rattle.vx_plan_nodes.specs.declared.functions.PlanFunctions.{Ghosts}
use Rattle.vx_plan_nodes.proofs.UnderFacts.{types-under}
use Rattle.vx_check_rules.specs.Checked.{relations}
use Rattle.vx_exec.specs.Part.{HasKnown, IsPartOf}
use Rattle.vx_exec.specs.declared.job.Job.{Job}
use Rattle.vx_exec.proofs.FunctionFacts.{plan-under}
use Rattle.vx_exec.proofs.Leaves.{leaves-fit}

part-root : {F : Type 0} (given : Ghosts F) (j : Job F) → HasKnown given j → IsPartOf given j (outline_of j.plan.now.root)
part-root given j known = record {
  nodes_typed = j.plan.now.typed_nodes;
  outputs = j.plan.now.outputs;
  numbered = (0, j.plan.now.numbered);
  known = subst (λ z. first_unknown (relations j.plan.now) z ≡ None) (plan-under (given.functions j.functions) j.plan.now) known;
  leaves = leaves-fit (relations j.plan.now) (plan j.plan.now) j.plan.now.numbered;
}

pub root-is-part : {F : Type 0} (given : Ghosts F) (j : Job F) → HasKnown given j → (p : TypedPlan) (node : TypedNode) → p ≡ j.plan.now → outline_of node ≡ (resolved_of p).root
    → IsPartOf given j (outline_of node)
root-is-part given j known p node same root = subst (λ z. IsPartOf given j z) (sym (root ∙ ap (λ z. (resolved_of z).root) same)) (part-root given j known)

-- where neither of two numbers is there
none-first : (a b : Option ℕ) → option_or a b ≡ None → a ≡ None
none-first None b h = refl
none-first (Some n) b h = (cc)

none-second : (a b : Option ℕ) → option_or a b ≡ None → b ≡ None
none-second None b h = h
none-second (Some n) b h = (cc)

is-known : (b : Bool) (n : ℕ) → ◌≡◌ {A = Option ℕ} (cond b None (Some n)) None → b ≡ true
is-known true n h = refl
is-known false n h = (cc)

-- the functions of an operator over one input are among those that are given
pub operator-known : (given : Functions) (catalog : ℕ → Relation) (n : ℕ) (c : Claim) (op : Unary) (p : Plan) → first_unknown catalog (under given (unary n c op p)) ≡ None
    → unary_known (types_of catalog p) (unary_under given op) ≡ true
operator-known given catalog n c op p h =
    let q = under given p in
    let known : Bool = unary_known (types_of catalog q) (unary_under given op) in
    sym (ap (λ z. unary_known z (unary_under given op)) (types-under given catalog p)) ∙ is-known known n (none-second (first_unknown catalog q) (cond known None (Some n)) h)

-- and it is typed
pub operator-typed : (s : Scope) (n : ℕ) (c : Claim) (op : Unary) (p : Plan) → typed s (unary n c op p) ≡ true → is_unary (types_of (relation_at s.catalog) p) op ≡ true
operator-typed s n c op p h =
    let rows = types_of (relation_at s.catalog) p in
    let output = is_output s (types_of (relation_at s.catalog) (unary n c op p)) c in
    and-left (is_unary rows op) output
    (and-right (phase_fits op p) (is_unary rows op && output) (and-right (typed s p) (phase_fits op p && (is_unary rows op && output)) h))

module _ {F : Type 0} (given : Ghosts F) (j : Job F) where
  abbrev G : Functions
  G = given.functions j.functions

  abbrev R : ℕ → Relation
  R = relations j.plan.now

  abbrev S : Scope
  S = scope j.plan.now

  -- the inputs of a node are nodes of the plan

  pub unary-part : (h : Top) (op : Unary) (flags : List Bool) (t : Outline) → IsPartOf given j (outline.unary h op flags t) → IsPartOf given j t
  unary-part h op flags t part =
      let p = plan_in t in
      let i = part.numbered.0 in
      record {
        nodes_typed = and-left (typed S p) (phase_fits op p && (is_unary (types_of R p) op && is_output S (types_of R (unary h.number h.claim op p)) h.claim)) part.nodes_typed;
        outputs = part.outputs.1;
        numbered = (suc i, and-right (h.number == i) (is_numbered (suc i) p) part.numbered.1);
        known = none-first (first_unknown R (under G p)) (cond (unary_known (types_of R (under G p)) (unary_under G op)) None (Some h.number)) part.known;
        leaves = part.leaves;
      }

  pub exchange-part : (h : Top) (k : ExchangeKind) (m : List OrderEntry) (t : Outline) → IsPartOf given j (outline.exchange h k m t) → IsPartOf given j t
  exchange-part h k m t part =
      let p = plan_in t in
      let i = part.numbered.0 in
      record {
        nodes_typed = and-left (typed S p)
            (is_kind S (types_of R p) k && (are_columns (length (types_of R p)) (order_columns m) && (may_merge k m && is_output S (types_of R p) h.claim))) part.nodes_typed;
        outputs = part.outputs.1;
        numbered = (suc i, and-right (h.number == i) (is_numbered (suc i) p) part.numbered.1);
        known = part.known;
        leaves = part.leaves.1;
      }

  module _ (h : Top) (op : Binary) (t u : Outline) (part : IsPartOf given j (outline.binary h op t u)) where
    abbrev p : Plan
    p = plan_in t

    abbrev q : Plan
    q = plan_in u

    abbrev rest : Bool
    rest = both_closed p q && (is_binary (types_of R p) (types_of R q) op && is_output S (types_of R (binary h.number h.claim op p q)) h.claim)

    abbrev i : ℕ
    i = part.numbered.0

    below : (is_numbered (suc i) p && is_numbered (suc i + nodes p) q) ≡ true
    below = and-right (h.number == i) (is_numbered (suc i) p && is_numbered (suc i + nodes p) q) part.numbered.1

    pub left-part : IsPartOf given j t
    left-part = record {
      nodes_typed = and-left (typed S p) (typed S q && rest) part.nodes_typed;
      outputs = part.outputs.1;
      numbered = (suc i, and-left (is_numbered (suc i) p) (is_numbered (suc i + nodes p) q) below);
      known = none-first (first_unknown R (under G p)) (first_unknown R (under G q)) part.known;
      leaves = part.leaves.0;
    }

    pub right-part : IsPartOf given j u
    right-part = record {
      nodes_typed = and-left (typed S q) rest (and-right (typed S p) (typed S q && rest) part.nodes_typed);
      outputs = part.outputs.2;
      numbered = (suc i + nodes p, and-right (is_numbered (suc i) p) (is_numbered (suc i + nodes p) q) below);
      known = none-second (first_unknown R (under G p)) (first_unknown R (under G q)) part.known;
      leaves = part.leaves.1;
    }
