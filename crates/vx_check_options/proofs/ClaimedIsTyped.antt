-- Claims with the keys that are found are typed.
use Rattle.std.proofs.Common.{◌≡◌, ℕ, nat_lt, nat_le, Bool, true, false, not, ◌&&◌, List, [], length, refl, sym, ap, ◌∙◌}
use Rattle.std.specs.List.{list_all}
use Rattle.vx_rows_values.specs.Order.{order_columns}
use Rattle.vx_rows_values.specs.declared.order.OrderEntry.{OrderEntry}
use Rattle.vx_rows_values.specs.declared.value.ColType.{ColType}
use Rattle.vx_catalog_relations.specs.Relation.{Relation}
use Rattle.vx_catalog_relations.specs.Catalog.{relation_at}
use Rattle.vx_plan_nodes.specs.Plan.{Part, any, Aggregate, Claim, Unary, select, project, distinct, sort, group, limit, plain, partial, final, Plan, scan, unary, binary, exchange}
use Rattle.vx_plan_nodes.specs.Types.{unary_types, binary_types, types_of}
use Rattle.vx_plan_nodes.specs.Typed.{Scope, are_columns, is_size, is_part, is_unary, is_binary, is_kind, may_merge, is_output, typed}
use Rattle.vx_plan_nodes.specs.Phases.{unary_open, is_open, unary_opens, opens, phase_fits, both_closed}
use Rattle.vx_check_rules.proofs.WidthFacts.{types_of-width}
use Rattle.vx_check_options.specs.Placed.{keyless, bare}
use Rattle.vx_check_options.specs.Laws.{AtEach}
use Rattle.vx_check_options.specs.Claimed.{IsClaimed, ClaimedIsTyped}
use Rattle.vx_check_options.proofs.PlacedIsTyped.{placed-is-typed}
use Rattle.vx_check_options.proofs.WithoutKeys.{without_keys, HasShownKeys, claimed-placed, claimed-keys}

-- ---- what does not look at keys

-- the types of the output
types-without : (catalog : ℕ → Relation) (p : Plan) → types_of catalog (without_keys p) ≡ types_of catalog p
types-without catalog (scan n c r m z) = refl
types-without catalog (unary n c op p) = ap (unary_types op) (types-without catalog p)
types-without catalog (binary n c op p q) =
    ap (λ ts. binary_types op ts (types_of catalog (without_keys q))) (types-without catalog p) ∙ ap (binary_types op (types_of catalog p)) (types-without catalog q)
types-without catalog (exchange n c k m p) = types-without catalog p

-- that no partial is left open
open-without : (p : Plan) → is_open (without_keys p) ≡ is_open p
open-without (scan n c r m z) = refl
open-without (unary n c op p) = ap (unary_open op) (open-without p)
open-without (binary n c op p q) = refl
open-without (exchange n c k m p) = open-without p

-- that a final has its partial
opens-without : (keys : List ℕ) (aggregates : List Aggregate) (p : Plan) → opens keys aggregates (without_keys p) ≡ opens keys aggregates p
opens-without keys aggregates (scan n c r m z) = refl
opens-without keys aggregates (unary n c op p) = ap (unary_opens keys aggregates op) (opens-without keys aggregates p)
opens-without keys aggregates (binary n c op p q) = refl
opens-without keys aggregates (exchange n c k m p) = opens-without keys aggregates p

-- that the phases fit
fits-without : (op : Unary) (p : Plan) → phase_fits op (without_keys p) ≡ phase_fits op p
fits-without (select fs) p = ap not (open-without p)
fits-without (project es) p = ap not (open-without p)
fits-without (distinct cols) p = ap not (open-without p)
fits-without (sort false cols) p = ap not (open-without p)
fits-without (sort true cols) p = open-without p
fits-without (group plain by aggregates) p = ap not (open-without p)
fits-without (group partial by aggregates) p = ap not (open-without p)
fits-without (group final by aggregates) p = opens-without by aggregates p
fits-without (limit m) p = ap not (open-without p)

closed-without : (p q : Plan) → both_closed (without_keys p) (without_keys q) ≡ both_closed p q
closed-without p q = rw (open-without p, open-without q) refl

-- ---- typed plans

-- keys of columns that are there
output-without : (s : Scope) (ts : List ColType) (w : ℕ) (c : Claim) → length ts ≡ w → list_all (are_columns w) c.keys ≡ true → is_output s ts (keyless c.part c.order) ≡ is_output s ts c
output-without s ts w c e h =
    ap (λ b. nat_le (length ts) 64 && (is_part s ts c.part && (are_columns (length ts) (order_columns c.order) && b))) (sym (ap (λ v. list_all (are_columns v) c.keys) e ∙ h))

-- with keys of columns that are there, a plan is typed where it is without them
typed-without : (s : Scope) (p : Plan) → AtEach (HasShownKeys (relation_at s.catalog)) p → typed s (without_keys p) ≡ typed s p
typed-without s (scan n c r m z) h =
    let node : Plan = scan n c r m z in
    ap (λ b. nat_lt r (length s.catalog) && (is_size s.sizes z && b))
    (output-without s (types_of (relation_at s.catalog) node) _ c (types_of-width (relation_at s.catalog) node) h.columns)
typed-without s (unary n c op p) h =
    let node : Plan = unary n c op p in
    same (typed-without s p h.0) (fits-without op p) (types-without (relation_at s.catalog) p)
    (output-without s (types_of (relation_at s.catalog) node) _ c (types_of-width (relation_at s.catalog) node) h.1.columns)
  where
    same : {a a' f f' : Bool} {ts ts' : List ColType} → a ≡ a' → f ≡ f' → ts ≡ ts' → is_output s (unary_types op ts') (keyless c.part c.order) ≡ is_output s (unary_types op ts') c
        → (a && (f && (is_unary ts op && is_output s (unary_types op ts) (keyless c.part c.order)))) ≡ (a' && (f' && (is_unary ts' op && is_output s (unary_types op ts') c)))
    same d e f g = rw (d, e, f, g) refl
typed-without s (binary n c op p q) h =
    let node : Plan = binary n c op p q in
    same (typed-without s p h.0) (typed-without s q h.1) (closed-without p q) (types-without (relation_at s.catalog) p) (types-without (relation_at s.catalog) q)
    (output-without s (types_of (relation_at s.catalog) node) _ c (types_of-width (relation_at s.catalog) node) h.2.columns)
  where
    same : {a a' b b' f f' : Bool} {ts ts' us us' : List ColType} → a ≡ a' → b ≡ b' → f ≡ f' → ts ≡ ts' → us ≡ us'
        → is_output s (binary_types op ts' us') (keyless c.part c.order) ≡ is_output s (binary_types op ts' us') c
        → (a && (b && (f && (is_binary ts us op && is_output s (binary_types op ts us) (keyless c.part c.order)))))
        ≡ (a' && (b' && (f' && (is_binary ts' us' op && is_output s (binary_types op ts' us') c))))
    same d e f g k o = rw (d, e, f, g, k, o) refl
typed-without s (exchange n c k m p) h =
    same (typed-without s p h.0) (types-without (relation_at s.catalog) p)
    (output-without s (types_of (relation_at s.catalog) p) _ c (types_of-width (relation_at s.catalog) p) h.1.columns)
  where
    same : {a a' : Bool} {ts ts' : List ColType} → a ≡ a' → ts ≡ ts' → is_output s ts' (keyless c.part c.order) ≡ is_output s ts' c
        → (a && (is_kind s ts k && (are_columns (length ts) (order_columns m) && (may_merge k m && is_output s ts (keyless c.part c.order)))))
        ≡ (a' && (is_kind s ts' k && (are_columns (length ts') (order_columns m) && (may_merge k m && is_output s ts' c))))
    same d e f = rw (d, e, f) refl

-- ---- the law

-- the nodes are those of the plan
claimed-bare : (catalog : ℕ → Relation) (p : Plan) (q : Part) (order : List OrderEntry) (x : Plan) → IsClaimed catalog p q order x → bare x ≡ bare p
claimed-bare catalog (scan n c r m z) q order x h = ap bare h.1
claimed-bare catalog (unary n c op p) q order x h = ap bare h.2 ∙ ap (unary n (keyless any []) op) (claimed-bare catalog p _ _ h.1 h.3)
claimed-bare catalog (binary n c op p p2) q order x h = ap bare h.3 ∙ both (claimed-bare catalog p _ _ h.1 h.4) (claimed-bare catalog p2 _ _ h.2 h.5)
  where
    both : {y y' z z' : Plan} → y ≡ y' → z ≡ z' → binary n (keyless any []) op y z ≡ binary n (keyless any []) op y' z'
    both e f = cc
claimed-bare catalog (exchange n c k m p) q order x h = ap bare h.2 ∙ ap (exchange n (keyless any []) k m) (claimed-bare catalog p _ _ h.1 h.3)

pub claimed-is-typed : ClaimedIsTyped
claimed-is-typed s p q order x ready h = (
  sym (typed-without s x (claimed-keys (relation_at s.catalog) p q order x h))
      ∙ ap (typed s) (claimed-placed (relation_at s.catalog) p q order x h) ∙ placed-is-typed s p q order ready.0 ready.1 ready.2 ready.3,
  claimed-bare (relation_at s.catalog) p q order x h,
)
