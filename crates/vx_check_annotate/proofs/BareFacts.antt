-- Typed plans without claims.
use Rattle.std.proofs.Common.{◌≡◌, ℕ, nat_lt, nat_le, List, [], length, Bool, true, false, not, ◌&&◌, refl, sym, ap, ◌∙◌, subst}
use Rattle.vx_rows_values.specs.declared.value.ColType.{ColType}
use Rattle.vx_rows_values.proofs.Booleans.{and-left, and-right, and-both}
use Rattle.vx_rows_values.specs.Order.{order_columns}
use Rattle.vx_catalog_relations.specs.Relation.{Relation}
use Rattle.vx_catalog_relations.specs.Naming.{order_text}
use Rattle.vx_catalog_relations.specs.Catalog.{relation_at}
use Rattle.vx_plan_nodes.specs.Plan.{any, Claim, Aggregate, select, project, distinct, sort, group, limit, plain, partial, final, Unary, Plan, scan, unary, binary, exchange}
use Rattle.vx_plan_nodes.specs.Types.{types_of, unary_types, binary_types}
use Rattle.vx_plan_nodes.specs.Phases.{unary_open, is_open, unary_opens, opens, phase_fits, both_closed}
use Rattle.vx_plan_nodes.specs.Typed.{Scope, are_columns, is_size, is_unary, is_binary, is_kind, may_merge, is_claim, is_output, typed}
use Rattle.vx_plan_nodes.specs.Outline.{Outline, plan_in}
use Rattle.vx_plan_nodes.specs.Outline as outline
use Rattle.vx_plan_nodes.specs.Names.{Names}
use Rattle.vx_plan_json.specs.Document.{Tree}
use Rattle.vx_plan_json.specs.Document as form
use Rattle.vx_plan.specs.ByName.{unary_by_name, binary_by_name, kind_by_name, tree_by_name, column_names}
use Rattle.vx_check_options.specs.Placed.{keyless, bare}
use Rattle.vx_check_annotate.specs.Unclaimed.{no_claim, without_claims}
use Rattle.vx_check_annotate.specs.Claimed.{with_claims}
use Rattle.vx_check_annotate.proofs.ClaimedFacts.{columns-claimed}

pub bare-once : (p : Plan) → bare (bare p) ≡ bare p
bare-once (scan n c r m z) = refl
bare-once (unary n c op p) = ap (unary n (keyless any []) op) (bare-once p)
bare-once (binary n c op p q) = λ i. binary n (keyless any []) op (bare-once p i) (bare-once q i)
bare-once (exchange n c k m p) = ap (exchange n (keyless any []) k m) (bare-once p)

types-bare : (catalog : ℕ → Relation) (p : Plan) → types_of catalog p ≡ types_of catalog (bare p)
types-bare catalog (scan n c r m z) = refl
types-bare catalog (unary n c op p) = ap (unary_types op) (types-bare catalog p)
types-bare catalog (binary n c op p q) = λ i. binary_types op (types-bare catalog p i) (types-bare catalog q i)
types-bare catalog (exchange n c k m p) = types-bare catalog p

open-bare : (p : Plan) → is_open (bare p) ≡ is_open p
open-bare (scan n c r m z) = refl
open-bare (unary n c op p) = ap (unary_open op) (open-bare p)
open-bare (binary n c op p q) = refl
open-bare (exchange n c k m p) = open-bare p

opens-bare : (keys : List ℕ) (puts : List Aggregate) (p : Plan) → opens keys puts (bare p) ≡ opens keys puts p
opens-bare keys puts (scan n c r m z) = refl
opens-bare keys puts (unary n c op p) = ap (unary_opens keys puts op) (opens-bare keys puts p)
opens-bare keys puts (binary n c op p q) = refl
opens-bare keys puts (exchange n c k m p) = opens-bare keys puts p

fits-bare : (op : Unary) (p : Plan) → phase_fits op (bare p) ≡ phase_fits op p
fits-bare (select fs) p = ap not (open-bare p)
fits-bare (project es) p = ap not (open-bare p)
fits-bare (distinct cols) p = ap not (open-bare p)
fits-bare (sort false cols) p = ap not (open-bare p)
fits-bare (sort true cols) p = open-bare p
fits-bare (group plain by aggregates) p = ap not (open-bare p)
fits-bare (group partial by aggregates) p = ap not (open-bare p)
fits-bare (group final by aggregates) p = opens-bare by aggregates p
fits-bare (limit m) p = ap not (open-bare p)

output-bare : (s : Scope) (types : List ColType) (c : Claim) → is_output s types c ≡ true → is_output s types (keyless any []) ≡ true
output-bare s types c h = and-both (nat_le (length types) 64) true (and-left (nat_le (length types) 64) (is_claim s types c) h) refl

-- a typed plan stays typed without its claims
pub typed-bare : (s : Scope) (p : Plan) → typed s p ≡ true → typed s (bare p) ≡ true
typed-bare s (scan n c r m z) h =
    let types : List ColType = (relation_at s.catalog r).types in
    let rest = and-right (nat_lt r (length s.catalog)) (is_size s.sizes z && is_output s types c) h in
    and-both (nat_lt r (length s.catalog)) (is_size s.sizes z && is_output s types (keyless any [])) (and-left (nat_lt r (length s.catalog)) (is_size s.sizes z && is_output s types c) h)
    (and-both (is_size s.sizes z) (is_output s types (keyless any [])) (and-left (is_size s.sizes z) (is_output s types c) rest) (output-bare s types c (and-right (is_size s.sizes z) (is_output s types c) rest)))
typed-bare s (unary n c op p) h =
    let ts : List ColType = types_of (relation_at s.catalog) p in
    let last : Bool = is_unary ts op && is_output s (unary_types op ts) c in
    let P : List ColType → Type 0 = λ ts. (is_unary ts op && is_output s (unary_types op ts) (keyless any [])) ≡ true in
    let rest = and-right (typed s p) (phase_fits op p && last) h in
    let own = and-right (phase_fits op p) last rest in
    let bare_own = and-both (is_unary ts op) (is_output s (unary_types op ts) (keyless any [])) (and-left (is_unary ts op) (is_output s (unary_types op ts) c) own)
    (output-bare s (unary_types op ts) c (and-right (is_unary ts op) (is_output s (unary_types op ts) c) own)) in
    let us : List ColType = types_of (relation_at s.catalog) (bare p) in
    and-both (typed s (bare p)) (phase_fits op (bare p) && (is_unary us op && is_output s (unary_types op us) (keyless any []))) (typed-bare s p (and-left (typed s p) (phase_fits op p && last) h))
    (and-both (phase_fits op (bare p)) (is_unary us op && is_output s (unary_types op us) (keyless any [])) (fits-bare op p ∙ and-left (phase_fits op p) last rest) (subst P (types-bare (relation_at s.catalog) p) bare_own))
typed-bare s (binary n c op p q) h =
    let ts : List ColType = types_of (relation_at s.catalog) p in
    let us : List ColType = types_of (relation_at s.catalog) q in
    let vs : List ColType = types_of (relation_at s.catalog) (bare p) in
    let ws : List ColType = types_of (relation_at s.catalog) (bare q) in
    let last : Bool = is_binary ts us op && is_output s (binary_types op ts us) c in
    let next : Bool = is_binary vs ws op && is_output s (binary_types op vs ws) (keyless any []) in
    let one = and-right (typed s p) (typed s q && (both_closed p q && last)) h in
    let two = and-right (typed s q) (both_closed p q && last) one in
    let own = and-right (both_closed p q) last two in
    let bare_own = and-both (is_binary ts us op) (is_output s (binary_types op ts us) (keyless any [])) (and-left (is_binary ts us op) (is_output s (binary_types op ts us) c) own)
    (output-bare s (binary_types op ts us) c (and-right (is_binary ts us op) (is_output s (binary_types op ts us) c) own)) in
    let same : (is_binary ts us op && is_output s (binary_types op ts us) (keyless any [])) ≡ next =
    λ i. is_binary (types-bare (relation_at s.catalog) p i) (types-bare (relation_at s.catalog) q i) op && is_output s (binary_types op (types-bare (relation_at s.catalog) p i) (types-bare (relation_at s.catalog) q i)) (keyless any []) in
    let closed : both_closed (bare p) (bare q) ≡ both_closed p q = λ i. not (open-bare p i) && not (open-bare q i) in
    and-both (typed s (bare p)) (typed s (bare q) && (both_closed (bare p) (bare q) && next)) (typed-bare s p (and-left (typed s p) (typed s q && (both_closed p q && last)) h))
    (and-both (typed s (bare q)) (both_closed (bare p) (bare q) && next) (typed-bare s q (and-left (typed s q) (both_closed p q && last) one))
    (and-both (both_closed (bare p) (bare q)) next (closed ∙ and-left (both_closed p q) last two) (sym same ∙ bare_own)))
typed-bare s (exchange n c k m p) h =
    let ts : List ColType = types_of (relation_at s.catalog) p in
    let us : List ColType = types_of (relation_at s.catalog) (bare p) in
    let last : Bool = is_kind s ts k && (are_columns (length ts) (order_columns m) && (may_merge k m && is_output s ts c)) in
    let P : List ColType → Type 0 = λ ts. (is_kind s ts k && (are_columns (length ts) (order_columns m) && (may_merge k m && is_output s ts (keyless any [])))) ≡ true in
    let own = and-right (typed s p) last h in
    let one = and-right (is_kind s ts k) (are_columns (length ts) (order_columns m) && (may_merge k m && is_output s ts c)) own in
    let two = and-right (are_columns (length ts) (order_columns m)) (may_merge k m && is_output s ts c) one in
    let bare_own =
    and-both (is_kind s ts k) (are_columns (length ts) (order_columns m) && (may_merge k m && is_output s ts (keyless any []))) (and-left (is_kind s ts k) (are_columns (length ts) (order_columns m) && (may_merge k m && is_output s ts c)) own)
    (and-both (are_columns (length ts) (order_columns m)) (may_merge k m && is_output s ts (keyless any [])) (and-left (are_columns (length ts) (order_columns m)) (may_merge k m && is_output s ts c) one)
    (and-both (may_merge k m) (is_output s ts (keyless any [])) (and-left (may_merge k m) (is_output s ts c) two) (output-bare s ts c (and-right (may_merge k m) (is_output s ts c) two)))) in
    and-both (typed s (bare p)) (is_kind s us k && (are_columns (length us) (order_columns m) && (may_merge k m && is_output s us (keyless any [])))) (typed-bare s p (and-left (typed s p) last h))
    (subst P (types-bare (relation_at s.catalog) p) bare_own)

-- without its claims it says the document without claims
pub tree-bare : (s : Names) (o : Outline) → tree_by_name s (with_claims (bare (plan_in o)) o) ≡ without_claims (tree_by_name s o)
tree-bare s (outline.scan h r shared z prefix) = refl
tree-bare s (outline.unary h op renamed t) =
    let this : unary_by_name (column_names (with_claims (bare (plan_in t)) t)) h.columns.names op renamed ≡ unary_by_name (column_names t) h.columns.names op renamed =
    ap (λ (cols : outline.Columns). unary_by_name cols.names h.columns.names op renamed) (columns-claimed (bare (plan_in t)) t) in
    λ i. form.unary no_claim (this i) (tree-bare s t i)
tree-bare s (outline.binary h op t u) =
    let this : binary_by_name (column_names (with_claims (bare (plan_in t)) t)) (column_names (with_claims (bare (plan_in u)) u)) op ≡ binary_by_name (column_names t) (column_names u) op =
    λ i. binary_by_name (columns-claimed (bare (plan_in t)) t i).names (columns-claimed (bare (plan_in u)) u i).names op in
    λ i. form.binary no_claim (this i) (tree-bare s t i) (tree-bare s u i)
tree-bare s (outline.exchange h k merge t) =
    let this : kind_by_name s (column_names (with_claims (bare (plan_in t)) t)) k ≡ kind_by_name s (column_names t) k = ap (λ (cols : outline.Columns). kind_by_name s cols.names k) (columns-claimed (bare (plan_in t)) t) in
    let merged : order_text (column_names (with_claims (bare (plan_in t)) t)) merge ≡ order_text (column_names t) merge = ap (λ (cols : outline.Columns). order_text cols.names merge) (columns-claimed (bare (plan_in t)) t) in
    λ i. form.exchange no_claim (this i) (merged i) (tree-bare s t i)
