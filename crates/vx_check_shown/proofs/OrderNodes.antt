-- The orders that a typed node has are of its columns, where those of its inputs are.
use Rattle.std.proofs.Common.{◌≡◌, ◌≤◌, ℕ, ◌+◌, nat_lt, Bool, true, false, cond, List, [], ◌∷◌, refl, ap, sym, subst, arith, true≢false}
use Rattle.std.proofs.lemmas.Bool.Decides.{nat_tests}
use Rattle.vx_rows_values.specs.declared.order.OrderEntry.{OrderEntry}
use Rattle.vx_rows_values.specs.Order.{order_columns}
use Rattle.vx_rows_values.proofs.Booleans.{and-left, and-right, and-both}
use Rattle.vx_catalog_relations.specs.Relation.{Relation}
use Rattle.vx_catalog_relations.specs.Catalog.{relation_at, all_below}
use Rattle.vx_plan_nodes.specs.Plan.{Part, Claim, Unary, select, project, distinct, sort, group, limit, plain, partial, final, Binary, union, join, semi_join, ExchangeKind, Plan, unary, binary, exchange}
use Rattle.vx_plan_nodes.specs.Types.{width, part_columns}
use Rattle.vx_plan_nodes.specs.Describe.{Copying, columns_kept, OrderAfter, described}
use Rattle.vx_plan_facts.specs.Equal.{Equality}
use Rattle.vx_plan_facts.specs.KnownView.{IsKnownOf}
use Rattle.vx_plan_facts.specs.declared.known.KnownColumns as rust_known
use Rattle.vx_check_rules.specs.Behaviour.{order_after}
use Rattle.vx_check_rules.specs.Derived.{binary_order, front_copies}
use Rattle.vx_check_rules.specs.KnownNode.{AreGivenOf, AreOrdersOf, HasInput, IsKnownTyped, is_whole}
use Rattle.vx_check_rules.proofs.CopySteps.{copies-below}
use Rattle.vx_check_rules.proofs.NamedNodes.{merge-below}
use Rattle.vx_check_rules.proofs.ShownNodes.{unary-input, passed-by}
use Rattle.vx_check_shown.specs.ShownOrder.{are_of_input, HasOrderBelow}

pub copies-orders : (catalog : ℕ → Relation) (k : rust_known.KnownColumns) (p : Plan) (copying : Copying) (e : Equality) (order : List OrderEntry) → IsKnownOf catalog k p
    → (given : List OrderEntry) → given ≡ front_copies (width catalog p) copying e order → AreOrdersOf catalog k p given given
copies-orders catalog k p copying e order h given is =
    let P : List OrderEntry → Type 0 = λ xs. all_below (width catalog p) (order_columns xs) ≡ true in
    let below = subst P (sym is) (copies-below (width catalog p) copying e order) in
    record { known = h; given_below = below; order_below = below }

pub longer-below : (v w : ℕ) (cols : List ℕ) → v ≤ w → all_below v cols ≡ true → all_below w cols ≡ true
longer-below v w [] l h = refl
longer-below v w (c ∷ cols) l h =
    and-both (nat_lt c w) (all_below w cols) (more c (and-left (nat_lt c v) (all_below v cols) h)) (longer-below v w cols l (and-right (nat_lt c v) (all_below v cols) h))
  where
    more : (x : ℕ) → nat_lt x v ≡ true → nat_lt x w ≡ true
    more x e = grind (arith, nat_tests)

-- what becomes of an order over two inputs
pub both-below : (catalog : ℕ → Relation) (n : ℕ) (c : Claim) (op : Binary) (p q : Plan) (below : List OrderEntry) → all_below (width catalog p) (order_columns below) ≡ true
    → all_below (width catalog (binary n c op p q)) (order_columns (binary_order op below)) ≡ true
both-below catalog n c union p q below h = refl
both-below catalog n c (join m on) p q below h = longer-below (width catalog p) (width catalog p + width catalog q) (order_columns below) (omega arith) h
both-below catalog n c (semi_join matched on conditions) p q below h = h

kept-whole : {A : Type 0} (cols : List ℕ) → is_whole (columns_kept cols) ≡ true → A
kept-whole cols e = absurd (true≢false (sym e))

module _ (catalog : List Relation) (k : rust_known.KnownColumns) where
  sorted-below : (n : ℕ) (c : Claim) (op : Unary) (p : Plan) → HasInput (relation_at catalog) k (unary n c op p) p (described op).copying (described op).order
      → (below : List OrderEntry) → all_below (width (relation_at catalog) p) (order_columns below) ≡ true
      → is_whole (described op).copying ≡ true → all_below (width (relation_at catalog) (unary n c op p)) (order_columns (order_after (described op).order below)) ≡ true
  sorted-below n c (select fs) p h below l whole = l
  sorted-below n c (project es) p h below l whole = absurd (true≢false (sym whole))
  sorted-below n c (distinct cols) p h below l whole = kept-whole cols whole
  sorted-below n c (sort of_parts order) p h below l whole = h.sorted_below whole
  sorted-below n c (group plain by aggregates) p h below l whole = kept-whole by whole
  sorted-below n c (group partial by aggregates) p h below l whole = kept-whole by whole
  sorted-below n c (group final by aggregates) p h below l whole = kept-whole by whole
  sorted-below n c (limit m) p h below l whole = l

  pub order-over : (x : Plan) → IsKnownTyped catalog k x → (n : ℕ) (c : Claim) (op : Unary) (p : Plan) → x ≡ unary n c op p → (copying : Copying) (after : OrderAfter)
      → copying ≡ (described op).copying → after ≡ (described op).order → (q : Part) (below : List OrderEntry) → are_of_input (relation_at catalog) x q below ≡ true
      → HasOrderBelow (relation_at catalog) k x p copying after below
  order-over x h n c op p is copying after same order q below of_input =
      let rel : ℕ → Relation = relation_at catalog in
      let whole = unary-input catalog k x h n c op p is copying after same order in
      let A : Plan → Type 0 = λ y. are_of_input rel y q below ≡ true in
      let of_p = and-right (all_below (width rel p) (part_columns q)) (all_below (width rel p) (order_columns below)) (subst A is of_input) in
      let P : Plan → Type 0 = λ y. HasInput rel k y p (described op).copying (described op).order in
      let described_input = subst P is (unary-input catalog k x h n c op p is (described op).copying (described op).order refl refl) in
      record {
        input = whole.input;
        of_input = of_p;
        sorted_below = λ w.
            let R : Copying → Type 0 = λ y. is_whole y ≡ true in
            let S : Plan → Type 0 = λ y. all_below (width rel y) (order_columns (order_after (described op).order below)) ≡ true in
            let T : OrderAfter → Type 0 = λ y. all_below (width rel x) (order_columns (order_after y below)) ≡ true in
            subst T (sym order) (subst S (sym is) (sorted-below n c op p described_input below of_p (subst R same w)));
      }

  pub orders-over-both : (x : Plan) → IsKnownTyped catalog k x → (n : ℕ) (c : Claim) (op : Binary) (p p2 : Plan) → x ≡ binary n c op p p2
      → (q : Part) (below : List OrderEntry) → are_of_input (relation_at catalog) x q below ≡ true → AreOrdersOf (relation_at catalog) k x (binary_order op below) (binary_order op below)
  orders-over-both x h n c op p p2 is q below of_input =
      let rel : ℕ → Relation = relation_at catalog in
      let A : Plan → Type 0 = λ y. are_of_input rel y q below ≡ true in
      let of_p = and-right (all_below (width rel p) (part_columns q)) (all_below (width rel p) (order_columns below)) (subst A is of_input) in
      let P : Plan → Type 0 = λ y. all_below (width rel y) (order_columns (binary_order op below)) ≡ true in
      let under = subst P (sym is) (both-below rel n c op p p2 below of_p) in
      record { known = h.known; given_below = under; order_below = under }

  pub given-passed : (x : Plan) → IsKnownTyped catalog k x → (n : ℕ) (c : Claim) (kind : ExchangeKind) (m : List OrderEntry) (p : Plan) → x ≡ exchange n c kind m p
      → (q : Part) (below : List OrderEntry) → are_of_input (relation_at catalog) x q below ≡ true → AreGivenOf (relation_at catalog) k p q below
  given-passed x h n c kind m p is q below of_input =
      let rel : ℕ → Relation = relation_at catalog in
      let A : Plan → Type 0 = λ y. are_of_input rel y q below ≡ true in
      let of_p = subst A is of_input in
      record {
        known = (passed-by catalog k x h n c kind m p is).input;
        part_below = and-left (all_below (width rel p) (part_columns q)) (all_below (width rel p) (order_columns below)) of_p;
        order_below = and-right (all_below (width rel p) (part_columns q)) (all_below (width rel p) (order_columns below)) of_p;
      }

  pub orders-passed : (x : Plan) → IsKnownTyped catalog k x → (n : ℕ) (c : Claim) (kind : ExchangeKind) (m : List OrderEntry) (p : Plan) → x ≡ exchange n c kind m p
      → (q : Part) (below : List OrderEntry) → are_of_input (relation_at catalog) x q below ≡ true → (b : Bool) (l : rust_known.KnownColumns) → IsKnownOf (relation_at catalog) l x
      → AreOrdersOf (relation_at catalog) l x (cond b below m) (cond b below m)
  orders-passed x h n c kind m p is q below of_input b l later =
      let rel : ℕ → Relation = relation_at catalog in
      let wide : width rel x ≡ width rel p = ap (width rel) is in
      let P : ℕ → Type 0 = λ w. all_below w (order_columns (cond b below m)) ≡ true in
      let under = subst P (sym wide) (either b (given-passed x h n c kind m p is q below of_input).order_below (merge-below catalog k x h n c kind m p is)) in
      record { known = later; given_below = under; order_below = under }
    where
      either : (b : Bool) → all_below (width (relation_at catalog) p) (order_columns below) ≡ true → all_below (width (relation_at catalog) p) (order_columns m) ≡ true
          → all_below (width (relation_at catalog) p) (order_columns (cond b below m)) ≡ true
      either true u v = u
      either false u v = v
