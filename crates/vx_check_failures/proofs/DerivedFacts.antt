-- What is asked for the claim of a node by what is known of columns: its inputs' claims name columns of them.
use Rattle.std.proofs.Common.{◌≡◌, ◌∙◌, ℕ, ◌<◌, ◌==◌, nat_lt, nat_le, Bool, true, ◌&&◌, List, [], ◌∷◌, map, length, slice_index, refl, sym, ap, arith, lt-ltb, ltb-true}
use Rattle.std.specs.List.{list_all}
use Rattle.vx_rows_values.specs.declared.order.OrderEntry.{OrderEntry}
use Rattle.vx_rows_values.specs.Order.{order_columns}
use Rattle.vx_rows_values.proofs.Booleans.{and-left, and-right, and-both}
use Rattle.vx_catalog_relations.specs.Relation.{Relation}
use Rattle.vx_catalog_relations.specs.Catalog.{relation_at, all_below, is_key_of, IsRelation, IsCatalog}
use Rattle.vx_plan_nodes.specs.Plan.{Part, Claim, Plan, scan, unary, binary, exchange, claim}
use Rattle.vx_plan_nodes.specs.Types.{width, part_columns}
use Rattle.vx_plan_facts.specs.declared.known.KnownColumns.{KnownColumns}
use Rattle.vx_plan_facts.specs.KnownView.{IsKnownOf}
use Rattle.vx_plan_facts.proofs.NamedColumns.{typed-scan}
use Rattle.vx_plan_facts.proofs.KnownFacts.{known-under, known-passed, known-both}
use Rattle.vx_check_rules.specs.KnownNode.{IsKnownTyped}
use Rattle.vx_check_rules.proofs.NamedNodes.{part-below, order-below, keys-below}
use Rattle.vx_check_options.specs.FoundKeys.{with_column}
use Rattle.vx_check_shown.specs.ShownPart.{are_named}
use Rattle.vx_check_shown.specs.ShownOrder.{are_of, are_of_input}
use Rattle.vx_check_failures.specs.Shown.{first_input, second_input, derived_claim, with_named, with_new, with_named_keys}
use Rattle.vx_check_failures.proofs.CarriedKeys.{KeysBelow}

pub parts-named : (catalog : ℕ → Relation) (k : KnownColumns) (p : Plan) → IsKnownOf catalog k p → are_named catalog p (claim (first_input p)).part (claim (second_input p)).part ≡ true
parts-named catalog k (scan n c r m z) h = refl
parts-named catalog k (unary n c op p) h = part-below catalog k p (known-under catalog k n c op p h)
parts-named catalog k (binary n c op p q) h =
    let both = known-both catalog k n c op p q h in
    and-both (all_below (width catalog p) (part_columns (claim p).part)) (all_below (width catalog q) (part_columns (claim q).part)) (part-below catalog k p both.0) (part-below catalog k q both.1)
parts-named catalog k (exchange n c x m p) h = refl

claimed-named : (catalog : ℕ → Relation) (k : KnownColumns) (p : Plan) → IsKnownOf catalog k p → are_of catalog p (claim p).part (claim p).order ≡ true
claimed-named catalog k p h =
    and-both (all_below (width catalog p) (part_columns (claim p).part)) (all_below (width catalog p) (order_columns (claim p).order)) (part-below catalog k p h) (order-below catalog k p h)

pub order-named : (catalog : ℕ → Relation) (k : KnownColumns) (p : Plan) → IsKnownOf catalog k p → are_of_input catalog p (claim (first_input p)).part (claim (first_input p)).order ≡ true
order-named catalog k (scan n c r m z) h = refl
order-named catalog k (unary n c op p) h = claimed-named catalog k p (known-under catalog k n c op p h)
order-named catalog k (binary n c op p q) h = claimed-named catalog k p (known-both catalog k n c op p q h).0
order-named catalog k (exchange n c x m p) h = claimed-named catalog k p (known-passed catalog k n c x m p h)

-- ---- keys

-- a relation's keys name its columns
declared-below : (w : ℕ) (keys : List (List ℕ)) → list_all (is_key_of w) keys ≡ true → list_all (all_below w) keys ≡ true
declared-below w [] h = refl
declared-below w (key ∷ keys) h =
    let own = and-left (is_key_of w key) (list_all (is_key_of w) keys) h in
    and-both (all_below w key) (list_all (all_below w) keys) (and-left (all_below w key) _ (and-right (nat_lt 0 (length key)) _ own)) (declared-below w keys (and-right (is_key_of w key) (list_all (is_key_of w) keys) h))

scanned-below : (catalog : List Relation) (r : ℕ) → IsRelation (relation_at catalog r) → list_all (all_below (length (relation_at catalog r).types)) (relation_at catalog r).keys ≡ true
scanned-below catalog r is = rw is.typed (declared-below (length (relation_at catalog r).names) (relation_at catalog r).keys is.keys)

pub inputs-keys-below : (catalog : List Relation) (k : KnownColumns) (p : Plan) → IsCatalog catalog → IsKnownTyped catalog k p → KeysBelow (relation_at catalog) p
inputs-keys-below catalog k (scan n c r m z) is h =
    scanned-below catalog r (is.each r (lt-ltb r (length catalog) (typed-scan catalog (scan n c r m z) n c r m z refl h.typed)))
inputs-keys-below catalog k (unary n c op p) is h = keys-below (relation_at catalog) k p (known-under (relation_at catalog) k n c op p h.known)
inputs-keys-below catalog k (binary n c op p q) is h =
    let both = known-both (relation_at catalog) k n c op p q h.known in
    (keys-below (relation_at catalog) k p both.0, keys-below (relation_at catalog) k q both.1)
inputs-keys-below catalog k (exchange n c x m p) is h = keys-below (relation_at catalog) k p (known-passed (relation_at catalog) k n c x m p h.known)

-- columns that are named alike where they are below w
module _ (w : ℕ) (f g : ℕ → ℕ) (same : (c : ℕ) → c < w → f c ≡ g c) where
  named-same : (named cols : List ℕ) → all_below w cols ≡ true → with_named f named cols ≡ with_named g named cols
  named-same named [] h = refl
  named-same named (c ∷ cols) h =
      ap (λ d. with_named f (with_column named d) cols) (same c (ltb-true c w (and-left (nat_lt c w) (all_below w cols) h)))
      ∙ named-same (with_column named (g c)) cols (and-right (nat_lt c w) (all_below w cols) h)

  pub keys-same : (found keys : List (List ℕ)) → list_all (all_below w) keys ≡ true → with_named_keys f found keys ≡ with_named_keys g found keys
  keys-same found [] h = refl
  keys-same found (key ∷ keys) h =
      ap (λ x. with_named_keys f (with_new found x) keys) (named-same [] key (and-left (all_below w key) (list_all (all_below w) keys) h))
      ∙ keys-same (with_new found (with_named g [] key)) keys (and-right (all_below w key) (list_all (all_below w) keys) h)

-- a claim by its parts
abbrev claim_with : Part → List OrderEntry → List (List ℕ) → Claim
claim_with part order keys = record { part = part; order = order; keys = keys }

pub claim-is : (catalog : ℕ → Relation) (p : Plan) (part : Part) (order : List OrderEntry) (keys : List (List ℕ)) → part ≡ (derived_claim catalog p).part → order ≡ (derived_claim catalog p).order
    → keys ≡ (derived_claim catalog p).keys → claim_with part order keys ≡ derived_claim catalog p
claim-is catalog p part order keys a b c = rw (a, b, c) refl
