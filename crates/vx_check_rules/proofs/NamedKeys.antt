-- In a typed plan the claimed keys of every node name its columns.
use Rattle.std.proofs.Common.{◌≡◌, Bool, true, ◌&&◌, ℕ, List, length, nat_le, nat_lt, sym, ap, ◌∙◌}
use Rattle.std.specs.List.{list_all}
use Rattle.vx_rows_values.specs.Order.{order_columns}
use Rattle.vx_rows_values.specs.declared.value.ColType.{ColType}
use Rattle.vx_rows_values.proofs.Booleans.{and-left, and-right}
use Rattle.vx_catalog_relations.specs.Relation.{Relation}
use Rattle.vx_catalog_relations.specs.Catalog.{relation_at, all_below, are_distinct}
use Rattle.vx_plan_nodes.specs.Plan.{Plan, scan, unary, binary, exchange, claim}
use Rattle.vx_plan_nodes.specs.Types.{types_of, width}
use Rattle.vx_plan_nodes.specs.Typed.{Scope, are_columns, is_part, is_claim, is_size, is_unary, is_binary, is_kind, may_merge, is_output, typed}
use Rattle.vx_plan_nodes.specs.Phases.{phase_fits, both_closed}
use Rattle.vx_check_rules.specs.Rules.{within, numbers_below}
use Rattle.vx_check_rules.specs.Exactly.{keys_name_columns, KeysNameColumns}
use Rattle.vx_check_rules.proofs.Bools.{all-more}
use Rattle.vx_check_rules.proofs.ColumnFacts.{within-below}
use Rattle.vx_check_rules.proofs.WidthFacts.{types_of-width}

-- at the node itself
pub named-here : (catalog : ℕ → Relation) (p : Plan) → KeysNameColumns catalog p → keys_name_columns catalog p ≡ true
named-here catalog (scan n c r m z) h = h
named-here catalog (unary n c op p) h = h.0
named-here catalog (binary n c op p q) h = h.0
named-here catalog (exchange n c k m p) h = h.0

-- those of a claim on the node's output do
output-keys : (s : Scope) (p : Plan) → is_output s (types_of (relation_at s.catalog) p) (claim p) ≡ true → keys_name_columns (relation_at s.catalog) p ≡ true
output-keys s p h =
    let types : List ColType = types_of (relation_at s.catalog) p in
    let w : ℕ = width (relation_at s.catalog) p in
    let claimed : is_claim s types (claim p) ≡ true = and-right (nat_le (length types) 64) (is_claim s types (claim p)) h in
    let keys : list_all (are_columns (length types)) (claim p).keys ≡ true =
    and-right (are_columns (length types) (order_columns (claim p).order)) _ (and-right (is_part s types (claim p).part) _ claimed) in
    let wide : list_all (are_columns w) (claim p).keys ≡ true = sym (ap (λ n. list_all (are_columns n) (claim p).keys) (types_of-width (relation_at s.catalog) p)) ∙ keys in
    all-more (are_columns w) (λ k. within k (numbers_below w)) (claim p).keys (λ k e. sym (within-below w k) ∙ and-left (all_below w k) (are_distinct k) e) wide

-- the third and the fourth of tests that pass
third : (a b c : Bool) → (a && (b && c)) ≡ true → c ≡ true
third a b c h = and-right b c (and-right a (b && c) h)

fourth : (a b c d : Bool) → (a && (b && (c && d))) ≡ true → d ≡ true
fourth a b c d h = and-right c d (third a b (c && d) h)

pub typed-keys : (s : Scope) (p : Plan) → typed s p ≡ true → KeysNameColumns (relation_at s.catalog) p
typed-keys s (scan n c r m z) h = output-keys s (scan n c r m z) (third (nat_lt r (length s.catalog)) (is_size s.sizes z) _ h)
typed-keys s (unary n c op p) h =
    let ts : List ColType = types_of (relation_at s.catalog) p in
    (output-keys s (unary n c op p) (fourth (typed s p) (phase_fits op p) (is_unary ts op) _ h), typed-keys s p (and-left (typed s p) _ h))
typed-keys s (binary n c op p q) h =
    let ts : List ColType = types_of (relation_at s.catalog) p in
    let us : List ColType = types_of (relation_at s.catalog) q in
    let rest = and-right (typed s p) _ h in
    (output-keys s (binary n c op p q) (fourth (typed s q) (both_closed p q) (is_binary ts us op) _ rest), typed-keys s p (and-left (typed s p) _ h), typed-keys s q (and-left (typed s q) _ rest))
typed-keys s (exchange n c k m p) h =
    let ts : List ColType = types_of (relation_at s.catalog) p in
    let rest = and-right (typed s p) _ h in
    (output-keys s (exchange n c k m p) (fourth (is_kind s ts k) (are_columns (length ts) (order_columns m)) (may_merge k m) _ rest), typed-keys s p (and-left (typed s p) _ h))
