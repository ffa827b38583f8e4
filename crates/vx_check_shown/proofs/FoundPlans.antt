-- Plans with the parts and the orders that are found: the same nodes with the same keys, typed, and telling the most.
use Rattle.std.proofs.Common.{◌≡◌, ℕ, Bool, true, false, cond, not, ◌&&◌, ◌||◌, List, [], ◌∷◌, length, refl, sym, ap, ◌∙◌, subst}
use Rattle.std.specs.List.{list_all, list_any}
use Rattle.vx_rows_values.specs.declared.order.OrderEntry.{OrderEntry}
use Rattle.vx_rows_values.proofs.Booleans.{and-left, and-right, and-both}
use Rattle.vx_catalog_relations.specs.Relation.{Relation}
use Rattle.vx_catalog_relations.specs.Catalog.{relation_at, all_below, are_distinct, IsCatalog}
use Rattle.vx_plan_nodes.specs.Plan.{Part, one, any, Claim, Unary, Binary, ExchangeKind, concat, route_to, round, broadcast, gather, Size, Plan, scan, unary, binary, exchange, claim, size, is_one}
use Rattle.vx_plan_nodes.specs.Types.{types_of, width, unary_width, binary_width}
use Rattle.vx_plan_nodes.specs.Describe.{whole_rows, described, described_both}
use Rattle.vx_plan_nodes.specs.Typed.{Scope, are_columns, is_part, is_claim, typed}
use Rattle.vx_plan_facts.specs.Equal.{Equality, unary_equal, binary_equal, equal_at}
use Rattle.vx_plan_facts.specs.Fixed.{fixed_at}
use Rattle.vx_plan_facts.specs.Determined.{Columns, closure, by_none, by_input, by_both, determined}
use Rattle.vx_plan_facts.specs.Following.{short}
use Rattle.vx_check_rules.specs.Derived.{rises_equally, goes_on_with, unary_order, binary_order}
use Rattle.vx_check_rules.specs.Behaviour.{keyed_by, keyed_after, keyed_over, behaviour, shown_key}
use Rattle.vx_check_options.specs.Placed.{keyless, bare}
use Rattle.vx_check_options.specs.Laws.{AtEach}
use Rattle.vx_check_shown.specs.Standing.{ordered_first}
use Rattle.vx_check_shown.specs.ShownPart.{shown_part}
use Rattle.vx_check_shown.specs.ShownOrder.{order_had, shown_order}
use Rattle.vx_check_shown.specs.PartLaws.{PartTellsTheMost, PartIsClaimless, PartIsTyped}
use Rattle.vx_check_shown.specs.OrderLaws.{ShownOrderTellsTheMost}
use Rattle.vx_check_shown.specs.Found.{no_claim, found_claim, found}
use Rattle.vx_check_shown.specs.Strongest.{HasAllKeysDerived, IsStrongestDerived}
use Rattle.vx_check_shown.proofs.SameNodes.{size-same, width-same, types-same, equal-same, fixed-same, IsClaimTyped, claims-typed, typed-with}

-- ---- the nodes

module _ (catalog : ℕ → Relation) where
  pub found-bare : (p : Plan) → bare (found catalog p) ≡ bare p
  found-bare (scan n c r m z) = refl
  found-bare (unary n c op p) = ap (unary n (keyless any []) op) (found-bare p)
  found-bare (binary n c op p q) = λ i. binary n (keyless any []) op (found-bare p i) (found-bare q i)
  found-bare (exchange n c k m p) = ap (exchange n (keyless any []) k m) (found-bare p)

  pub size-found : (p : Plan) → size (found catalog p) ≡ size p
  size-found p = size-same (found catalog p) p (found-bare p)

  pub width-found : (p : Plan) → width catalog (found catalog p) ≡ width catalog p
  width-found p = width-same catalog (found catalog p) p (found-bare p)

  pub types-found : (p : Plan) → types_of catalog (found catalog p) ≡ types_of catalog p
  types-found p = types-same catalog (found catalog p) p (found-bare p)

  equal-found : (p : Plan) → equal_at catalog (found catalog p) ≡ equal_at catalog p
  equal-found p = equal-same catalog (found catalog p) p (found-bare p)

  fixed-found : (p : Plan) → fixed_at catalog (found catalog p) ≡ fixed_at catalog p
  fixed-found p = fixed-same catalog (found catalog p) p (found-bare p)

  -- the node with its inputs as they are found, and the claim found over these
  pub keys-found : (p : Plan) → (claim (found catalog p)).keys ≡ (claim p).keys
  keys-found (scan n c r m z) = refl
  keys-found (unary n c op p) = refl
  keys-found (binary n c op p q) = refl
  keys-found (exchange n c k m p) = refl

  -- what is determined follows from keys alone
  pub determined-found : (p : Plan) → determined catalog (found catalog p) ≡ determined catalog p
  determined-found (scan n c r m z) = refl
  determined-found (unary n c op p) = λ i.
      closure (width-found (unary n c op p) i) (equal-found (unary n c op p) i) (fixed-found (unary n c op p) i) c.keys
      (by_input (width-found (unary n c op p) i) (described op).copying (determined-found p i))
  determined-found (binary n c op p q) = λ i.
      closure (width-found (binary n c op p q) i) (equal-found (binary n c op p q) i) (fixed-found (binary n c op p q) i) c.keys
      (by_both (width-found p i) (width-found (binary n c op p q) i) op (determined-found p i) (determined-found q i))
  determined-found (exchange n c k m p) = λ i.
      closure (width-found p i) (equal-found p i) (fixed-found p i) c.keys (by_input (width-found p i) whole_rows (determined-found p i))

  -- so do orders
  goes-found : (k : ExchangeKind) (p : Plan) (q : Part) (below : List OrderEntry) → goes_on_with catalog k (found catalog p) q below ≡ goes_on_with catalog k p q below
  goes-found concat p q below = λ i. rises_equally (equal-found p i) (determined-found p i) q below
  goes-found (route_to z r cols) p q below = refl
  goes-found (round z) p q below = refl
  goes-found (broadcast z) p q below = refl
  goes-found gather p q below = refl

  had-found : (p : Plan) (q : Part) (below : List OrderEntry) → order_had catalog (found catalog p) q below ≡ order_had catalog p q below
  had-found (scan n c r m z) q below = refl
  had-found (unary n c op p) q below = λ i. unary_order (width-found (unary n c op p) i) op (equal-found p i) (determined-found p i) below
  had-found (binary n c op p p2) q below = refl
  had-found (exchange n c k m p) q below = λ i. cond (is_one (size-found p i) || goes-found k p q below i) below m

  pub order-found : (p : Plan) (q : Part) (below : List OrderEntry) → shown_order catalog (found catalog p) q below ≡ shown_order catalog p q below
  order-found p q below = λ i. ordered_first (width-found p i) (equal-found p i) (short (determined-found p i) (had-found p q below i))

  -- and the keys that the inputs have
  keyed-found : (p : Plan) → (behaviour catalog (found catalog p)).keyed ≡ (behaviour catalog p).keyed
  keyed-found (scan n c r m z) = refl
  keyed-found (unary n c op p) = ap (keyed_after (described op).keys (described op).copying) (keys-found p)
  keyed-found (binary n c op p q) = λ i. keyed_over (described_both (width-found p i) op).meeting (described_both (width-found p i) op) (keys-found p i) (keys-found q i)
  keyed-found (exchange n c k m p) = ap (λ ks. keyed_by ((whole_rows, ks) ∷ []) ∷ []) (keys-found p)

  pub all-found : (p : Plan) → HasAllKeysDerived catalog p → HasAllKeysDerived catalog (found catalog p)
  all-found p h = record {
    few = rw (keys-found p) h.few;
    keys = rw (keys-found p, width-found p, equal-found p, keyed-found p) h.keys;
  }
