-- The lists of columns that a typed node names are of columns that there are.
use Rattle.std.proofs.Common.{◌≡◌, ℕ, ◌+◌, nat_lt, Bool, true, false, ◌&&◌, List, [], ◌∷◌, map, length, refl, ap, ◌∙◌, subst, ◌==◌}
use Rattle.std.proofs.lemmas.Bool.{and_parts}
use Rattle.std.specs.List.{list_all}
use Rattle.vx_rows_values.specs.declared.order.OrderEntry.{OrderEntry}
use Rattle.vx_rows_values.specs.Order.{order_columns, in_directions}
use Rattle.vx_rows_values.proofs.Booleans.{and-left, and-right, and-both}
use Rattle.vx_catalog_relations.specs.Relation.{Relation}
use Rattle.vx_catalog_relations.specs.Catalog.{relation_at, all_below, are_distinct}
use Rattle.vx_plan_nodes.specs.Plan.{Part, Claim, claim, JoinMethod, by_hashing, by_merging, Binary, union, join, semi_join, ExchangeKind, Plan, scan, unary, binary, exchange, left_order, right_order}
use Rattle.vx_plan_nodes.specs.Phases.{phase_fits, both_closed}
use Rattle.vx_plan_nodes.specs.Typed.{is_kind, are_columns, typed}
use Rattle.vx_plan_nodes.specs.Types.{types_of, width, part_columns, names_columns, well_formed}
use Rattle.vx_plan_facts.specs.Naming.{pair_within, IsTypedOver}
use Rattle.vx_plan_facts.specs.KnownView.{IsKnownOf}
use Rattle.vx_plan_facts.specs.declared.known.KnownColumns as rust_known
use Rattle.vx_plan_facts.proofs.NamedColumns.{types-width, typed-both}
use Rattle.vx_plan_facts.proofs.KnownFacts.{known-passed, known-both}
use Rattle.vx_check_rules.specs.KnownNode.{AreOrdersOf, AreGivenOf, AreJoined, pairs_follow, IsKnownTyped, StaysKnown}
use Rattle.vx_check_rules.specs.Derived.{needed_follows}

claim-named : (catalog : ℕ → Relation) (p : Plan) → well_formed catalog p ≡ true → names_columns (width catalog p) (claim p) ≡ true
claim-named catalog (scan n c r m z) h = h
claim-named catalog (unary n c op p) h =
    let named = names_columns (width catalog (unary n c op p)) c in
    and-right (phase_fits op p) named (and-right (well_formed catalog p) (phase_fits op p && named) h)
claim-named catalog (binary n c union p q) h =
    let named = names_columns (width catalog p) c in
    let wide = width catalog p == width catalog q in
    and-right wide named
    (and-right (both_closed p q) (wide && named)
    (and-right (well_formed catalog q) (both_closed p q && (wide && named)) (and-right (well_formed catalog p) (well_formed catalog q && (both_closed p q && (wide && named))) h)))
claim-named catalog (binary n c (join m on) p q) h =
    let named = names_columns (width catalog p + width catalog q) c in
    and-right (both_closed p q) named
    (and-right (well_formed catalog q) (both_closed p q && named) (and-right (well_formed catalog p) (well_formed catalog q && (both_closed p q && named)) h))
claim-named catalog (binary n c (semi_join matched on conditions) p q) h =
    let named = names_columns (width catalog p) c in
    and-right (both_closed p q) named
    (and-right (well_formed catalog q) (both_closed p q && named) (and-right (well_formed catalog p) (well_formed catalog q && (both_closed p q && named)) h))
claim-named catalog (exchange n c k m p) h = and-right (well_formed catalog p) (names_columns (width catalog p) c) h

-- the claimed part, order and keys of a node
pub part-below : (catalog : ℕ → Relation) (k : rust_known.KnownColumns) (p : Plan) → IsKnownOf catalog k p → all_below (width catalog p) (part_columns (claim p).part) ≡ true
part-below catalog k p h =
    let w : ℕ = width catalog p in
    and-left (all_below w (part_columns (claim p).part)) (all_below w (order_columns (claim p).order) && list_all (all_below w) (claim p).keys) (claim-named catalog p h.known.formed)

pub order-below : (catalog : ℕ → Relation) (k : rust_known.KnownColumns) (p : Plan) → IsKnownOf catalog k p → all_below (width catalog p) (order_columns (claim p).order) ≡ true
order-below catalog k p h =
    let w : ℕ = width catalog p in
    let rest : Bool = all_below w (order_columns (claim p).order) && list_all (all_below w) (claim p).keys in
    and-left (all_below w (order_columns (claim p).order)) (list_all (all_below w) (claim p).keys) (and-right (all_below w (part_columns (claim p).part)) rest (claim-named catalog p h.known.formed))

pub keys-below : (catalog : ℕ → Relation) (k : rust_known.KnownColumns) (p : Plan) → IsKnownOf catalog k p → list_all (all_below (width catalog p)) (claim p).keys ≡ true
keys-below catalog k p h =
    let w : ℕ = width catalog p in
    let rest : Bool = all_below w (order_columns (claim p).order) && list_all (all_below w) (claim p).keys in
    and-right (all_below w (order_columns (claim p).order)) (list_all (all_below w) (claim p).keys) (and-right (all_below w (part_columns (claim p).part)) rest (claim-named catalog p h.known.formed))

-- ---- the pairs of a join

lefts-below : (v w : ℕ) (on : List (ℕ × ℕ)) → list_all (pair_within v w) on ≡ true → all_below v (map (λ x. x.0) on) ≡ true
lefts-below v w [] h = refl
lefts-below v w (x ∷ on) h =
    and-both (nat_lt x.0 v) (all_below v (map (λ y. y.0) on)) (and-left (nat_lt x.0 v) (nat_lt x.1 w) (and-left (pair_within v w x) (list_all (pair_within v w) on) h))
    (lefts-below v w on (and-right (pair_within v w x) (list_all (pair_within v w) on) h))

rights-below : (v w : ℕ) (on : List (ℕ × ℕ)) → list_all (pair_within v w) on ≡ true → all_below w (map (λ x. x.1) on) ≡ true
rights-below v w [] h = refl
rights-below v w (x ∷ on) h =
    and-both (nat_lt x.1 w) (all_below w (map (λ y. y.1) on)) (and-right (nat_lt x.0 v) (nat_lt x.1 w) (and-left (pair_within v w x) (list_all (pair_within v w) on) h))
    (rights-below v w on (and-right (pair_within v w x) (list_all (pair_within v w) on) h))

-- no column is in an order on these that is not one of them
directed-below : (w : ℕ) (cols : List ℕ) (falls : List Bool) → all_below w cols ≡ true → all_below w (order_columns (in_directions cols falls)) ≡ true
directed-below w [] [] h = refl
directed-below w [] (f ∷ falls) h = refl
directed-below w (c ∷ cols) [] h = refl
directed-below w (c ∷ cols) (f ∷ falls) h =
    and-both (nat_lt c w) (all_below w (order_columns (in_directions cols falls))) (and-left (nat_lt c w) (all_below w cols) h)
    (directed-below w cols falls (and-right (nat_lt c w) (all_below w cols) h))

-- a join's inputs, in the orders in which it has to have them
pub left-orders : (catalog : ℕ → Relation) (k : rust_known.KnownColumns) (m : JoinMethod) (falls : List Bool) (on : List (ℕ × ℕ)) (p q : Plan)
    → AreJoined catalog k (join m on) p q → AreOrdersOf catalog k p (claim p).order (left_order falls on)
left-orders catalog k m falls on p q h = record {
  known = h.left;
  given_below = order-below catalog k p h.left;
  order_below = directed-below (width catalog p) (map (λ y. y.0) on) falls (lefts-below (width catalog p) (width catalog q) on h.named);
}

pub right-orders : (catalog : ℕ → Relation) (k l : rust_known.KnownColumns) (m : JoinMethod) (falls : List Bool) (on : List (ℕ × ℕ)) (p q : Plan)
    → AreJoined catalog k (join m on) p q → IsKnownOf catalog l q → AreOrdersOf catalog l q (claim q).order (right_order falls on)
right-orders catalog k l m falls on p q h later = record {
  known = later;
  given_below = order-below catalog l q later;
  order_below = directed-below (width catalog q) (map (λ y. y.1) on) falls (rights-below (width catalog p) (width catalog q) on h.named);
}

pub pairs-are : (catalog : ℕ → Relation) (n : ℕ) (c : Claim) (op : Binary) (p q : Plan) → needed_follows catalog (binary n c op p q) ≡ pairs_follow catalog op p q
pairs-are catalog n c union p q = refl
pairs-are catalog n c (join by_hashing on) p q = refl
pairs-are catalog n c (join (by_merging falls) on) p q = refl
pairs-are catalog n c (semi_join matched on conditions) p q = refl

module _ (catalog : List Relation) (k : rust_known.KnownColumns) (x : Plan) (h : IsKnownTyped catalog k x) (n : ℕ) (c : Claim) where
  pub joined-by : (op : Binary) (p q : Plan) → x ≡ binary n c op p q → AreJoined (relation_at catalog) k op p q
  joined-by op p q is =
      let P : Plan → Type 0 = λ y. IsKnownOf (relation_at catalog) k y in
      let both = known-both (relation_at catalog) k n c op p q (subst P is h.known) in
      record { left = both.0; right = both.1; named = (typed-both catalog x n c op p q is h.typed).2 }

  -- the columns by which an exchange merges
  pub merge-below : (kind : ExchangeKind) (m : List OrderEntry) (p : Plan) → x ≡ exchange n c kind m p → all_below (width (relation_at catalog) p) (order_columns m) ≡ true
  merge-below kind m p is = go h.typed
    where
      go : IsTypedOver catalog x → all_below (width (relation_at catalog) p) (order_columns m) ≡ true
      go (s, same, typed_x) =
          let t = rw is at typed_x in
          let u = and_parts (typed s p) _ t in
          let v = and_parts (is_kind s (types_of (relation_at s.catalog) p) kind) _ u.1 in
          let y = and_parts (are_columns (length (types_of (relation_at s.catalog) p)) (order_columns m)) _ v.1 in
          let wide : length (types_of (relation_at s.catalog) p) ≡ width (relation_at catalog) p = types-width (relation_at s.catalog) p ∙ ap (λ l. width (relation_at l) p) same in
          rw wide at (and-left (all_below (length (types_of (relation_at s.catalog) p)) (order_columns m)) (are_distinct (order_columns m)) y.0)

  pub exchange-orders : (kind : ExchangeKind) (m : List OrderEntry) (p : Plan) → x ≡ exchange n c kind m p → AreOrdersOf (relation_at catalog) k p (claim p).order m
  exchange-orders kind m p is =
      let known = known-passed (relation_at catalog) k n c kind m p (rw is at h.known) in
      record {
        known = known;
        given_below = order-below (relation_at catalog) k p known;
        order_below = merge-below kind m p is;
      }

-- a node whose orders and columns were known is still
pub still-typed : (catalog : List Relation) (k l : rust_known.KnownColumns) (p x : Plan) → StaysKnown k l p → IsKnownOf (relation_at catalog) k p → IsKnownTyped catalog k x
    → IsKnownTyped catalog l x
still-typed catalog k l p x kept under h = record { known = kept (relation_at catalog) under x h.known; typed = h.typed }

-- one order of its columns twice, and the part and the order that it claims
pub same-orders : (catalog : ℕ → Relation) (k : rust_known.KnownColumns) (p : Plan) → IsKnownOf catalog k p → (order : List OrderEntry) → all_below (width catalog p) (order_columns order) ≡ true
    → AreOrdersOf catalog k p order order
same-orders catalog k p h order below = record { known = h; given_below = below; order_below = below }

pub given-own : (catalog : ℕ → Relation) (k : rust_known.KnownColumns) (p : Plan) → IsKnownOf catalog k p → (q : Part) (order : List OrderEntry) → q ≡ (claim p).part → order ≡ (claim p).order
    → AreGivenOf catalog k p q order
given-own catalog k p h q order part same =
    let w : ℕ = width catalog p in
    record {
      known = h;
      part_below = ap (λ x. all_below w (part_columns x)) part ∙ part-below catalog k p h;
      order_below = ap (λ xs. all_below w (order_columns xs)) same ∙ order-below catalog k p h;
    }
