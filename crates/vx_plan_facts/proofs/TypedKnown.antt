-- The nodes of a typed plan have columns within the limit, and copy columns that their inputs have.
use Rattle.std.proofs.Common.{◌≡◌, ℕ, nat_lt, nat_le, true, ◌&&◌, List, length, subst}
use Rattle.vx_rows_values.specs.Limits.{max_columns}
use Rattle.vx_rows_values.specs.Order.{order_columns}
use Rattle.vx_rows_values.proofs.Booleans.{and-left, and-right, and-both}
use Rattle.vx_catalog_relations.specs.Catalog.{relation_at}
use Rattle.vx_plan_nodes.specs.Plan.{Plan, Claim, scan, unary, binary, exchange}
use Rattle.vx_plan_nodes.specs.Phases.{phase_fits, both_closed}
use Rattle.vx_plan_nodes.specs.Types.{types_of, width, well_formed}
use Rattle.vx_plan_nodes.specs.Typed.{Scope, is_size, is_unary, is_binary, is_kind, are_columns, may_merge, is_claim, is_output, typed}
use Rattle.vx_plan_facts.specs.Naming.{names_within}
use Rattle.vx_plan_facts.specs.Facts.{Facts, AreNumbered}
use Rattle.vx_plan_facts.specs.Asking.{is_within, IsKnown}
use Rattle.vx_plan_facts.proofs.NamedColumns.{types-width, unary-names}

output-few : (s : Scope) (p : Plan) (c : Claim) → is_output s (types_of (relation_at s.catalog) p) c ≡ true → nat_le (width (relation_at s.catalog) p) max_columns ≡ true
output-few s p c h =
    let types = types_of (relation_at s.catalog) p in
    let P : ℕ → Type 0 = λ w. nat_le w max_columns ≡ true in
    subst P (types-width (relation_at s.catalog) p) (and-left (nat_le (length types) max_columns) (is_claim s types c) h)

pub typed-within : (s : Scope) (p : Plan) → typed s p ≡ true → is_within (relation_at s.catalog) p ≡ true
typed-within s (scan n c r m z) h =
    let out = is_output s (types_of (relation_at s.catalog) (scan n c r m z)) c in
    output-few s (scan n c r m z) c (and-right (is_size s.sizes z) out (and-right (nat_lt r (length s.catalog)) (is_size s.sizes z && out) h))
typed-within s (unary n c op p) h =
    let catalog = relation_at s.catalog in
    let types = types_of catalog p in
    let out = is_output s (types_of catalog (unary n c op p)) c in
    let rest = and-right (typed s p) (phase_fits op p && (is_unary types op && out)) h in
    let more = and-right (phase_fits op p) (is_unary types op && out) rest in
    let P : ℕ → Type 0 = λ w. names_within w op ≡ true in
    and-both (is_within catalog p) (names_within (width catalog p) op && nat_le (width catalog (unary n c op p)) max_columns)
    (typed-within s p (and-left (typed s p) (phase_fits op p && (is_unary types op && out)) h))
    (and-both (names_within (width catalog p) op) (nat_le (width catalog (unary n c op p)) max_columns)
    (subst P (types-width catalog p) (unary-names types op (and-left (is_unary types op) out more)))
    (output-few s (unary n c op p) c (and-right (is_unary types op) out more)))
typed-within s (binary n c op p q) h =
    let catalog = relation_at s.catalog in
    let out = is_output s (types_of catalog (binary n c op p q)) c in
    let fits = is_binary (types_of catalog p) (types_of catalog q) op in
    let rest = and-right (typed s p) (typed s q && (both_closed p q && (fits && out))) h in
    let more = and-right (typed s q) (both_closed p q && (fits && out)) rest in
    let few = nat_le (width catalog (binary n c op p q)) max_columns in
    and-both (is_within catalog p) (is_within catalog q && few) (typed-within s p (and-left (typed s p) (typed s q && (both_closed p q && (fits && out))) h))
    (and-both (is_within catalog q) few (typed-within s q (and-left (typed s q) (both_closed p q && (fits && out)) rest))
    (output-few s (binary n c op p q) c (and-right fits out (and-right (both_closed p q) (fits && out) more))))
typed-within s (exchange n c k m p) h =
    let types = types_of (relation_at s.catalog) p in
    typed-within s p (and-left (typed s p) (is_kind s types k && (are_columns (length types) (order_columns m) && (may_merge k m && is_output s types c))) h)

-- what a caller of the search has to show
pub typed-known : (s : Scope) (facts : List Facts) (p : Plan) → typed s p ≡ true → well_formed (relation_at s.catalog) p ≡ true → AreNumbered (relation_at s.catalog) facts p
    → IsKnown (relation_at s.catalog) facts p
typed-known s facts p h formed numbered = record { formed = formed; within = typed-within s p h; numbered = numbered }
