-- What the inputs of a node have where the node has it, and what a rule table asks of a plan.
use Rattle.std.proofs.Common.{◌≡◌, ℕ, Bool, true, ◌&&◌, List}
use Rattle.vx_rows_values.specs.declared.order.OrderEntry.{OrderEntry}
use Rattle.vx_catalog_relations.specs.Relation.{Relation}
use Rattle.vx_plan_nodes.specs.Plan.{Claim, Unary, Binary, ExchangeKind, Plan, unary, binary, exchange, size, size_eq}
use Rattle.vx_plan_nodes.specs.Types.{width, well_formed, names_columns}
use Rattle.vx_plan_nodes.specs.Numbering.{is_fit}
use Rattle.vx_plan_facts.specs.RowFacts.{all_inputs_fit, inputs_fit}
use Rattle.vx_check_rules.specs.Rules.{allowed, allowed_here}
use Rattle.vx_check_rules.specs.Derived.{allowed_derived, allowed_here_derived}
use Rattle.vx_worker.specs.Fragment.{RunModel}
use Rattle.vx_exec_laws.proofs.Bags.{and-left, and-right}
use Rattle.vx_exec_laws.proofs.WellFormed.{well-under, well-both}

-- the inputs of a node that has it have it too
pub record Inherited (Has : Plan → Type 0) : Type 0 where
  pub input : (n : ℕ) (c : Claim) (op : Unary) (p : Plan) → Has (unary n c op p) → Has p
  pub left : (n : ℕ) (c : Claim) (op : Binary) (p q : Plan) → Has (binary n c op p q) → Has p
  pub right : (n : ℕ) (c : Claim) (op : Binary) (p q : Plan) → Has (binary n c op p q) → Has q
  pub sent : (n : ℕ) (c : Claim) (k : ExchangeKind) (merge : List OrderEntry) (p : Plan) → Has (exchange n c k merge p) → Has p

pub inherited-both : (A B : Plan → Type 0) → Inherited A → Inherited B → Inherited (λ p. A p × B p)
inherited-both A B a b = record {
  input = λ n c op p h. (a.input n c op p h.0, b.input n c op p h.1);
  left = λ n c op p q h. (a.left n c op p q h.0, b.left n c op p q h.1);
  right = λ n c op p q h. (a.right n c op p q h.0, b.right n c op p q h.1);
  sent = λ n c k merge p h. (a.sent n c k merge p h.0, b.sent n c k merge p h.1);
}

pub fit-inherited : (relation_of : ℕ → ℕ) → Inherited (λ p. is_fit relation_of p ≡ true)
fit-inherited relation_of = record {
  input = λ n c op p h. h;
  left = λ n c op p q h. and-left (is_fit relation_of p) (is_fit relation_of q) (and-right (size_eq (size p) (size q)) (is_fit relation_of p && is_fit relation_of q) h);
  right = λ n c op p q h. and-right (is_fit relation_of p) (is_fit relation_of q) (and-right (size_eq (size p) (size q)) (is_fit relation_of p && is_fit relation_of q) h);
  sent = λ n c k merge p h. h;
}

module _ (catalog : ℕ → Relation) where
  well-inherited : Inherited (λ p. well_formed catalog p ≡ true)
  well-inherited = record {
    input = λ n c op p h. (well-under catalog n c op p h).0;
    left = λ n c op p q h. (well-both catalog n c op p q h).0;
    right = λ n c op p q h. (well-both catalog n c op p q h).1;
    sent = λ n c k merge p h. and-left (well_formed catalog p) (names_columns (width catalog p) c) h;
  }

  pub allowed-inherited : Inherited (λ p. allowed catalog p ≡ true)
  allowed-inherited = record {
    input = λ n c op p h. and-left (allowed catalog p) (allowed_here catalog (unary n c op p)) h;
    left = λ n c op p q h. and-left (allowed catalog p) (allowed catalog q && allowed_here catalog (binary n c op p q)) h;
    right = λ n c op p q h.
        let here : Bool = allowed_here catalog (binary n c op p q) in
        and-left (allowed catalog q) here (and-right (allowed catalog p) (allowed catalog q && here) h);
    sent = λ n c k merge p h. and-left (allowed catalog p) (allowed_here catalog (exchange n c k merge p)) h;
  }

  inputs-inherited : Inherited (λ p. all_inputs_fit catalog p ≡ true)
  inputs-inherited = record {
    input = λ n c op p h. h;
    left = λ n c op p q h. and-left (all_inputs_fit catalog p) (all_inputs_fit catalog q && inputs_fit (width catalog p) (width catalog q) op) h;
    right = λ n c op p q h.
        let here : Bool = inputs_fit (width catalog p) (width catalog q) op in
        and-left (all_inputs_fit catalog q) here (and-right (all_inputs_fit catalog p) (all_inputs_fit catalog q && here) h);
    sent = λ n c k merge p h. h;
  }

  pub derived-inherited : Inherited (λ p. allowed_derived catalog p ≡ true)
  derived-inherited = record {
    input = λ n c op p h. and-left (allowed_derived catalog p) (allowed_here_derived catalog (unary n c op p)) h;
    left = λ n c op p q h. and-left (allowed_derived catalog p) (allowed_derived catalog q && allowed_here_derived catalog (binary n c op p q)) h;
    right = λ n c op p q h.
        let here : Bool = allowed_here_derived catalog (binary n c op p q) in
        and-left (allowed_derived catalog q) here (and-right (allowed_derived catalog p) (allowed_derived catalog q && here) h);
    sent = λ n c k merge p h. and-left (allowed_derived catalog p) (allowed_here_derived catalog (exchange n c k merge p)) h;
  }

-- what the first table asks of a plan
abbrev pub IsAllowed : RunModel → Plan → Type 0
IsAllowed S p = (is_fit S.relation_of p ≡ true) × ((well_formed S.catalog p ≡ true) × (allowed S.catalog p ≡ true))

-- what the table with what is known of columns asks of it
abbrev pub IsAllowedDerived : RunModel → Plan → Type 0
IsAllowedDerived S p = (is_fit S.relation_of p ≡ true) × ((well_formed S.catalog p ≡ true) × ((all_inputs_fit S.catalog p ≡ true) × (allowed_derived S.catalog p ≡ true)))

pub first-inherited : (S : RunModel) → Inherited (IsAllowed S)
first-inherited S =
    let W : Plan → Type 0 = λ p. well_formed S.catalog p ≡ true in
    let A : Plan → Type 0 = λ p. allowed S.catalog p ≡ true in
    inherited-both (λ p. is_fit S.relation_of p ≡ true) (λ p. W p × A p) (fit-inherited S.relation_of) (inherited-both W A (well-inherited S.catalog) (allowed-inherited S.catalog))

pub second-inherited : (S : RunModel) → Inherited (IsAllowedDerived S)
second-inherited S =
    let W : Plan → Type 0 = λ p. well_formed S.catalog p ≡ true in
    let I : Plan → Type 0 = λ p. all_inputs_fit S.catalog p ≡ true in
    let D : Plan → Type 0 = λ p. allowed_derived S.catalog p ≡ true in
    inherited-both (λ p. is_fit S.relation_of p ≡ true) (λ p. W p × (I p × D p)) (fit-inherited S.relation_of)
    (inherited-both W (λ p. I p × D p) (well-inherited S.catalog) (inherited-both I D (inputs-inherited S.catalog) (derived-inherited S.catalog)))
