-- What does not look at claims, at plans with the same nodes; and plans that are typed with other claims.
use Rattle.std.proofs.Common.{◌≡◌, ℕ, nat_lt, nat_le, List, [], length, Bool, true, false, not, ◌&&◌, refl, sym, ap, ◌∙◌, subst}
use Rattle.std.specs.List.{list_all}
use Rattle.vx_rows_values.specs.declared.value.ColType.{ColType}
use Rattle.vx_rows_values.specs.Order.{order_columns}
use Rattle.vx_rows_values.proofs.Booleans.{and-left, and-right, and-both}
use Rattle.vx_catalog_relations.specs.Relation.{Relation}
use Rattle.vx_catalog_relations.specs.Catalog.{relation_at}
use Rattle.vx_plan_nodes.specs.Plan.{any, Claim, Aggregate, Size, select, project, distinct, sort, group, limit, plain, partial, final, Unary, Plan, scan, unary, binary, exchange, claim, size}
use Rattle.vx_plan_nodes.specs.Types.{types_of, unary_types, binary_types, width, unary_width, binary_width}
use Rattle.vx_plan_nodes.specs.Phases.{unary_open, is_open, unary_opens, opens, phase_fits, both_closed}
use Rattle.vx_plan_nodes.specs.Typed.{Scope, are_columns, is_size, is_part, is_unary, is_binary, is_kind, may_merge, is_claim, is_output, typed}
use Rattle.vx_plan_facts.specs.Equal.{Equality, unary_equal, binary_equal, equal_at}
use Rattle.vx_plan_facts.specs.Fixed.{Values, unary_fixed, binary_fixed, fixed_at}
use Rattle.vx_check_options.specs.Placed.{keyless, bare}
use Rattle.vx_check_options.specs.Laws.{AtEach}

-- ---- without claims

size-bare : (p : Plan) → size (bare p) ≡ size p
size-bare (scan n c r m z) = refl
size-bare (unary n c op p) = size-bare p
size-bare (binary n c op p q) = size-bare p
size-bare (exchange n c k m p) = refl

width-bare : (catalog : ℕ → Relation) (p : Plan) → width catalog (bare p) ≡ width catalog p
width-bare catalog (scan n c r m z) = refl
width-bare catalog (unary n c op p) = ap (unary_width op) (width-bare catalog p)
width-bare catalog (binary n c op p q) = λ i. binary_width op (width-bare catalog p i) (width-bare catalog q i)
width-bare catalog (exchange n c k m p) = width-bare catalog p

types-bare : (catalog : ℕ → Relation) (p : Plan) → types_of catalog (bare p) ≡ types_of catalog p
types-bare catalog (scan n c r m z) = refl
types-bare catalog (unary n c op p) = ap (unary_types op) (types-bare catalog p)
types-bare catalog (binary n c op p q) = λ i. binary_types op (types-bare catalog p i) (types-bare catalog q i)
types-bare catalog (exchange n c k m p) = types-bare catalog p

equal-bare : (catalog : ℕ → Relation) (p : Plan) → equal_at catalog (bare p) ≡ equal_at catalog p
equal-bare catalog (scan n c r m z) = refl
equal-bare catalog (unary n c op p) = ap (unary_equal op) (equal-bare catalog p)
equal-bare catalog (binary n c op p q) = λ i. binary_equal (width-bare catalog p i) op (equal-bare catalog p i) (equal-bare catalog q i)
equal-bare catalog (exchange n c k m p) = equal-bare catalog p

fixed-bare : (catalog : ℕ → Relation) (p : Plan) → fixed_at catalog (bare p) ≡ fixed_at catalog p
fixed-bare catalog (scan n c r m z) = refl
fixed-bare catalog (unary n c op p) = λ i. unary_fixed (width-bare catalog p i) (unary_equal op (equal-bare catalog p i)) op (fixed-bare catalog p i)
fixed-bare catalog (binary n c op p q) = λ i.
    binary_fixed (width-bare catalog p i) (binary_width op (width-bare catalog p i) (width-bare catalog q i)) (binary_equal (width-bare catalog p i) op (equal-bare catalog p i) (equal-bare catalog q i)) op
    (fixed-bare catalog p i) (fixed-bare catalog q i)
fixed-bare catalog (exchange n c k m p) = fixed-bare catalog p

open-bare : (p : Plan) → is_open (bare p) ≡ is_open p
open-bare (scan n c r m z) = refl
open-bare (unary n c op p) = ap (unary_open op) (open-bare p)
open-bare (binary n c op p q) = refl
open-bare (exchange n c k m p) = open-bare p

opens-bare : (keys : List ℕ) (puts : List Aggregate) (p : Plan) → opens keys puts (bare p) ≡ opens keys puts p
opens-bare keys puts (scan n c r m z) = refl
opens-bare keys puts (unary n c op p) = ap (unary_opens keys puts op) (opens-bare keys puts p)
opens-bare keys puts (binary n c op p q) = refl
opens-bare keys puts (exchange n c k m p) = opens-bare keys puts p

fits-bare : (op : Unary) (p : Plan) → phase_fits op (bare p) ≡ phase_fits op p
fits-bare (select fs) p = ap not (open-bare p)
fits-bare (project es) p = ap not (open-bare p)
fits-bare (distinct cols) p = ap not (open-bare p)
fits-bare (sort false order) p = ap not (open-bare p)
fits-bare (sort true order) p = open-bare p
fits-bare (group plain by aggregates) p = ap not (open-bare p)
fits-bare (group partial by aggregates) p = ap not (open-bare p)
fits-bare (group final by aggregates) p = opens-bare by aggregates p
fits-bare (limit m) p = ap not (open-bare p)

closed-bare : (p q : Plan) → both_closed (bare p) (bare q) ≡ both_closed p q
closed-bare p q = λ i. not (open-bare p i) && not (open-bare q i)

-- ---- plans with the same nodes

module _ (p q : Plan) (e : bare p ≡ bare q) where
  pub size-same : size p ≡ size q
  size-same = sym (size-bare p) ∙ (ap size e ∙ size-bare q)

module _ (catalog : ℕ → Relation) (p q : Plan) (e : bare p ≡ bare q) where
  pub width-same : width catalog p ≡ width catalog q
  width-same = sym (width-bare catalog p) ∙ (ap (width catalog) e ∙ width-bare catalog q)

  pub types-same : types_of catalog p ≡ types_of catalog q
  types-same = sym (types-bare catalog p) ∙ (ap (types_of catalog) e ∙ types-bare catalog q)

  pub equal-same : equal_at catalog p ≡ equal_at catalog q
  equal-same = sym (equal-bare catalog p) ∙ (ap (equal_at catalog) e ∙ equal-bare catalog q)

  pub fixed-same : fixed_at catalog p ≡ fixed_at catalog q
  fixed-same = sym (fixed-bare catalog p) ∙ (ap (fixed_at catalog) e ∙ fixed-bare catalog q)

-- ---- typed plans

-- the claim of the node is typed
abbrev pub IsClaimTyped : Scope → Plan → Type 0
IsClaimTyped s p = is_claim s (types_of (relation_at s.catalog) p) (claim p) ≡ true

-- with claims that are typed a plan is typed where it is without them
with-claim : (s : Scope) (types : List ColType) (c : Claim) → is_claim s types c ≡ true → is_output s types (keyless any []) ≡ is_output s types c
with-claim s types c h = ap (λ b. nat_le (length types) 64 && b) (sym h)

split : (s : Scope) (p : Plan) → AtEach (IsClaimTyped s) p → typed s (bare p) ≡ typed s p
split s (scan n c r m z) h = ap (λ b. nat_lt r (length s.catalog) && (is_size s.sizes z && b)) (with-claim s (types_of (relation_at s.catalog) (scan n c r m z)) c h)
split s (unary n c op p) h =
    let C : ℕ → Relation = relation_at s.catalog in
    (λ i. split s p h.0 i && (fits-bare op p i && (is_unary (types-bare C p i) op && is_output s (unary_types op (types-bare C p i)) (keyless any []))))
    ∙ ap (λ b. typed s p && (phase_fits op p && (is_unary (types_of C p) op && b))) (with-claim s (unary_types op (types_of C p)) c h.1)
split s (binary n c op p q) h =
    let C : ℕ → Relation = relation_at s.catalog in
    (λ i. split s p h.0 i && (split s q h.1 i && (closed-bare p q i && (is_binary (types-bare C p i) (types-bare C q i) op && is_output s (binary_types op (types-bare C p i) (types-bare C q i)) (keyless any [])))))
    ∙ ap (λ b. typed s p && (typed s q && (both_closed p q && (is_binary (types_of C p) (types_of C q) op && b)))) (with-claim s (binary_types op (types_of C p) (types_of C q)) c h.2)
split s (exchange n c k m p) h =
    let C : ℕ → Relation = relation_at s.catalog in
    (λ i. split s p h.0 i && (is_kind s (types-bare C p i) k && (are_columns (length (types-bare C p i)) (order_columns m) && (may_merge k m && is_output s (types-bare C p i) (keyless any [])))))
    ∙ ap (λ b. typed s p && (is_kind s (types_of C p) k && (are_columns (length (types_of C p)) (order_columns m) && (may_merge k m && b)))) (with-claim s (types_of C p) c h.1)

-- the claims of a typed plan are
fourth : (a b c d : Bool) → (a && (b && (c && d))) ≡ true → d ≡ true
fourth a b c d h = and-right c d (and-right b (c && d) (and-right a (b && (c && d)) h))

pub claims-typed : (s : Scope) (p : Plan) → typed s p ≡ true → AtEach (IsClaimTyped s) p
claims-typed s (scan n c r m z) h =
    let types : List ColType = types_of (relation_at s.catalog) (scan n c r m z) in
    and-right (nat_le (length types) 64) (is_claim s types c) (and-right (is_size s.sizes z) _ (and-right (nat_lt r (length s.catalog)) _ h))
claims-typed s (unary n c op p) h =
    let types : List ColType = types_of (relation_at s.catalog) (unary n c op p) in (
      claims-typed s p (and-left (typed s p) _ h),
      and-right (nat_le (length types) 64) (is_claim s types c) (fourth (typed s p) (phase_fits op p) (is_unary (types_of (relation_at s.catalog) p) op) (is_output s types c) h),
    )
claims-typed s (binary n c op p q) h =
    let types : List ColType = types_of (relation_at s.catalog) (binary n c op p q) in
    let rest = and-right (typed s p) _ h in (
      claims-typed s p (and-left (typed s p) _ h),
      claims-typed s q (and-left (typed s q) _ rest),
      and-right (nat_le (length types) 64) (is_claim s types c)
          (fourth (typed s q) (both_closed p q) (is_binary (types_of (relation_at s.catalog) p) (types_of (relation_at s.catalog) q) op) (is_output s types c) rest),
    )
claims-typed s (exchange n c k m p) h =
    let types : List ColType = types_of (relation_at s.catalog) p in (
      claims-typed s p (and-left (typed s p) _ h),
      and-right (nat_le (length types) 64) (is_claim s types c)
          (fourth (is_kind s types k) (are_columns (length types) (order_columns m)) (may_merge k m) (is_output s types c) (and-right (typed s p) _ h)),
    )

bare-typed : (s : Scope) (p : Plan) → typed s p ≡ true → typed s (bare p) ≡ true
bare-typed s p h = split s p (claims-typed s p h) ∙ h

-- so a plan is typed with other claims that are
pub typed-with : (s : Scope) (p x : Plan) → bare x ≡ bare p → typed s p ≡ true → AtEach (IsClaimTyped s) x → typed s x ≡ true
typed-with s p x e h claims = sym (split s x claims) ∙ (ap (typed s) e ∙ bare-typed s p h)
