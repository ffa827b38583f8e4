-- The same of the second table's tests.
use Rattle.std.proofs.Common.{◌≡◌, ℕ, ◌&&◌, ◌||◌, List, refl, ap, ap₂, ◌∙◌}
use Rattle.std.specs.List.{list_all}
use Rattle.vx_rows_values.specs.declared.order.OrderEntry.{OrderEntry}
use Rattle.vx_catalog_relations.specs.Relation.{Relation}
use Rattle.vx_plan_nodes.specs.Plan.{Part, select, project, distinct, sort, group, limit, by_hashing, by_merging, union, join, semi_join, ExchangeKind, route_to, round, broadcast, gather, concat, Plan, scan, unary, binary, exchange, claim, is_one}
use Rattle.vx_plan_nodes.specs.Types.{width}
use Rattle.vx_plan_facts.specs.Equal.{equal_at}
use Rattle.vx_plan_facts.specs.Determined.{determined}
use Rattle.vx_plan_facts.specs.Following.{order_follows}
use Rattle.vx_check_rules.specs.Derived.{binary_meets_equally, inputs_match_derived, is_total_derived, first_rows_known_derived, part_derived, part_shown_derived, goes_on_with, goes_on_derived, binary_order, order_derived, order_shown_derived, key_below, key_derived, keys_shown_derived, unary_order, follows_at, rises_equally}
use Rattle.vx_check_directions.specs.Turned.{pairs_of, in_falls, Choice, turned}
use Rattle.vx_check_directions.proofs.Alike.{alike, claim-alike, size-alike, width-alike, equal-alike, determined-alike, aside-alike}
use Rattle.vx_check_directions.proofs.Tests.{inputs-alike, total-alike, part-alike, ordered-alike, key-alike}

pub meets-alike : (catalog : ℕ → Relation) (h : Choice) (p : Plan) → inputs_match_derived catalog (turned h p) ≡ inputs_match_derived catalog p
meets-alike catalog h (scan n c r m z) = refl
meets-alike catalog h (unary n c op p) = ap₂ (λ a b. a || b) (inputs-alike h (unary n c op p)) (rw (equal-alike catalog h p, claim-alike h p) refl)
meets-alike catalog h (binary n c op p q) =
    ap₂ (λ a b. a || b) (inputs-alike h (binary n c op p q))
    (rw (equal-alike catalog h p, claim-alike h p, equal-alike catalog h q, claim-alike h q)
    (alike (λ o. binary_meets_equally (equal_at catalog p) (equal_at catalog q) o (claim p).part (claim q).part) (λ old new on. refl) (h (pairs_of op) p q) op))
meets-alike catalog h (exchange n c k m p) = refl

pub totals-alike : (catalog : ℕ → Relation) (h : Choice) (p : Plan) → is_total_derived catalog (turned h p) ≡ is_total_derived catalog p
totals-alike catalog h p = ap₂ (λ a b. a || b) (total-alike catalog h p) (rw (determined-alike catalog h p, claim-alike h p, width-alike catalog h p) refl)

pub firsts-alike : (catalog : ℕ → Relation) (h : Choice) (p : Plan) → first_rows_known_derived catalog (turned h p) ≡ first_rows_known_derived catalog p
firsts-alike catalog h (scan n c r m z) = refl
firsts-alike catalog h (unary n c (select fs) p) = refl
firsts-alike catalog h (unary n c (project es) p) = refl
firsts-alike catalog h (unary n c (distinct cols) p) = refl
firsts-alike catalog h (unary n c (sort of_parts order) p) = refl
firsts-alike catalog h (unary n c (group phase by aggregates) p) = refl
firsts-alike catalog h (unary n c (limit m) p) = ap₂ (λ a b. is_one a && b) (size-alike h p) (totals-alike catalog h p)
firsts-alike catalog h (binary n c op p q) = refl
firsts-alike catalog h (exchange n c k m p) = refl

parts-at : (catalog : ℕ → Relation) (h : Choice) (p : Plan) (x : Part) → part_derived catalog (turned h p) x ≡ part_derived catalog p x
parts-at catalog h (scan n c r m z) x = refl
parts-at catalog h (unary n c op p) x = rw (width-alike catalog h p, equal-alike catalog h p, claim-alike h p) refl
parts-at catalog h (binary n c union p q) x = rw (equal-alike catalog h p, claim-alike h p, equal-alike catalog h q, claim-alike h q) refl
parts-at catalog h (binary n c (join by_hashing on) p q) x =
    rw (equal-alike catalog h p, width-alike catalog h p, claim-alike h p, size-alike h p, equal-alike catalog h q, width-alike catalog h q, claim-alike h q, size-alike h q) refl
parts-at catalog h (binary n c (join (by_merging old) on) p q) x =
    rw (equal-alike catalog h p, width-alike catalog h p, claim-alike h p, size-alike h p, equal-alike catalog h q, width-alike catalog h q, claim-alike h q, size-alike h q) refl
parts-at catalog h (binary n c (semi_join matched on conditions) p q) x =
    rw (equal-alike catalog h p, width-alike catalog h p, claim-alike h p, equal-alike catalog h q, claim-alike h q, size-alike h q) refl
parts-at catalog h (exchange n c k m p) x = rw (equal-alike catalog h p) refl

pub parts-alike : (catalog : ℕ → Relation) (h : Choice) (p : Plan) → part_shown_derived catalog (turned h p) ≡ part_shown_derived catalog p
parts-alike catalog h p =
    ap₂ (λ a b. a || b) (part-alike catalog h p) (ap (λ c. part_derived catalog (turned h p) c.part) (claim-alike h p) ∙ parts-at catalog h p (claim p).part)

goes-alike : (catalog : ℕ → Relation) (h : Choice) (k : ExchangeKind) (p : Plan) → goes_on_derived catalog k (turned h p) ≡ goes_on_derived catalog k p
goes-alike catalog h (route_to z r cols) p = refl
goes-alike catalog h (round z) p = refl
goes-alike catalog h (broadcast z) p = refl
goes-alike catalog h gather p = refl
goes-alike catalog h concat p =
    ap (λ c. goes_on_with catalog concat (turned h p) c.part c.order) (claim-alike h p) ∙ go (claim p).part (claim p).order
  where
    go : (q : Part) (order : List OrderEntry) → goes_on_with catalog concat (turned h p) q order ≡ goes_on_with catalog concat p q order
    go q order = ap₂ (λ e d. rises_equally e d q order) (equal-alike catalog h p) (determined-alike catalog h p)

-- what follows at a node
follows-alike : (catalog : ℕ → Relation) (h : Choice) (p : Plan) (given order : List OrderEntry) → follows_at catalog (turned h p) given order ≡ follows_at catalog p given order
follows-alike catalog h p given order = ap₂ (λ e d. order_follows e d given order) (equal-alike catalog h p) (determined-alike catalog h p)

orders-at : (catalog : ℕ → Relation) (h : Choice) (p : Plan) (order : List OrderEntry) → order_derived catalog (turned h p) order ≡ order_derived catalog p order
orders-at catalog h (scan n c r m z) order = refl
orders-at catalog h (unary n c op p) order =
    ap (λ o. follows_at catalog (turned h (unary n c op p)) o order) given ∙ follows-alike catalog h (unary n c op p) (unary_order (width catalog (unary n c op p)) op (equal_at catalog p) (determined catalog p) (claim p).order) order
  where
    given : unary_order (width catalog (unary n c op (turned h p))) op (equal_at catalog (turned h p)) (determined catalog (turned h p)) (claim (turned h p)).order
        ≡ unary_order (width catalog (unary n c op p)) op (equal_at catalog p) (determined catalog p) (claim p).order
    given =
        ap₂ (λ e d. unary_order (width catalog (unary n c op (turned h p))) op e d (claim (turned h p)).order) (equal-alike catalog h p) (determined-alike catalog h p)
        ∙ ap₂ (λ w c. unary_order w op (equal_at catalog p) (determined catalog p) c.order) (width-alike catalog h (unary n c op p)) (claim-alike h p)
orders-at catalog h (binary n c op p q) order =
    ap (λ o. follows_at catalog (turned h (binary n c op p q)) o order) given ∙ follows-alike catalog h (binary n c op p q) (binary_order op (claim p).order) order
  where
    given : binary_order (in_falls (h (pairs_of op) p q) op) (claim (turned h p)).order ≡ binary_order op (claim p).order
    given = ap (λ c. binary_order (in_falls (h (pairs_of op) p q) op) c.order) (claim-alike h p)
        ∙ alike (λ o. binary_order o (claim p).order) (λ old new on. refl) (h (pairs_of op) p q) op
orders-at catalog h (exchange n c k m p) order =
    ap₂ (λ a b. a || b) (follows-alike catalog h (exchange n c k m p) m order)
    (ap₂ (λ a b. a && b) (ap₂ (λ a b. is_one a || b) (size-alike h p) (goes-alike catalog h k p))
    (ap (λ d. follows_at catalog (turned h (exchange n c k m p)) d.order order) (claim-alike h p) ∙ follows-alike catalog h (exchange n c k m p) (claim p).order order))

pub orders-alike : (catalog : ℕ → Relation) (h : Choice) (p : Plan) → order_shown_derived catalog (turned h p) ≡ order_shown_derived catalog p
orders-alike catalog h p =
    ap₂ (λ a b. a || b) (ordered-alike catalog h p) (ap (λ c. order_derived catalog (turned h p) c.order) (claim-alike h p) ∙ orders-at catalog h p (claim p).order)

below-alike : (catalog : ℕ → Relation) (h : Choice) (p : Plan) (key : List ℕ) → key_below catalog (turned h p) key ≡ key_below catalog p key
below-alike catalog h (scan n c r m z) key = refl
below-alike catalog h (unary n c (select fs) p) key = refl
below-alike catalog h (unary n c (project es) p) key = rw (determined-alike catalog h p, claim-alike h p) refl
below-alike catalog h (unary n c (distinct cols) p) key = refl
below-alike catalog h (unary n c (sort of_parts order) p) key = refl
below-alike catalog h (unary n c (group phase by aggregates) p) key = refl
below-alike catalog h (unary n c (limit m) p) key = refl
below-alike catalog h (binary n c op p q) key = refl
below-alike catalog h (exchange n c k m p) key = refl

key-derived-at : (catalog : ℕ → Relation) (h : Choice) (p : Plan) (key : List ℕ) → key_derived catalog (turned h p) key ≡ key_derived catalog p key
key-derived-at catalog h p key = rw (key-alike catalog h p, aside-alike catalog h p, width-alike catalog h p, below-alike catalog h p key) refl

pub keys-alike : (catalog : ℕ → Relation) (h : Choice) (p : Plan) → keys_shown_derived catalog (turned h p) ≡ keys_shown_derived catalog p
keys-alike catalog h p =
    ap (λ c. list_all (key_derived catalog (turned h p)) c.keys) (claim-alike h p)
    ∙ ap (λ f. list_all f (claim p).keys) (λ i key. key-derived-at catalog h p key i)
