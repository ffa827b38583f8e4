-- The orders that a typed node has are of its columns.
use Rattle.std.proofs.Common.{◌≡◌, ◌≤◌, ℕ, ◌+◌, nat_lt, Bool, true, false, List, [], ◌∷◌, map, length, get_or, refl, ap, sym, ◌∙◌, subst, arith, true≢false, Option}
use Rattle.std.proofs.lemmas.Bool.{and_parts}
use Rattle.std.proofs.lemmas.Bool.Decides.{nat_tests}
use Rattle.vx_rows_values.specs.Lists.{is_some_list}
use Rattle.vx_rows_values.specs.declared.order.OrderEntry.{OrderEntry}
use Rattle.vx_rows_values.specs.Order.{order_columns}
use Rattle.vx_rows_values.proofs.Booleans.{and-left, and-right, and-both}
use Rattle.vx_catalog_relations.specs.Relation.{Relation}
use Rattle.vx_catalog_relations.specs.Catalog.{relation_at, all_below, are_distinct, IsRelation}
use Rattle.vx_plan_nodes.specs.Plan.{by_range, routed, Claim, claim, Size, Unary, select, project, distinct, sort, group, limit, plain, partial, final, Binary, union, join, semi_join, ExchangeKind, Plan, scan, unary, binary, exchange}
use Rattle.vx_plan_nodes.specs.Phases.{phase_fits}
use Rattle.vx_plan_nodes.specs.Typed.{are_columns, is_unary, typed}
use Rattle.vx_plan_nodes.specs.Types.{types_of, width}
use Rattle.vx_plan_nodes.specs.Describe.{Copying, whole_rows, columns_kept, entries_kept, kept_column, left_of, right_of, no_columns, OrderAfter, described}
use Rattle.vx_plan_facts.specs.Determined.{Columns}
use Rattle.vx_plan_facts.specs.Equal.{Equality}
use Rattle.vx_plan_facts.specs.FactsView.{facts_of}
use Rattle.vx_plan_facts.specs.Following.{short, order_follows}
use Rattle.vx_plan_facts.specs.Naming.{IsTypedOver}
use Rattle.vx_plan_facts.specs.KnownView.{IsKnownOf}
use Rattle.vx_plan_facts.specs.declared.known.KnownColumns as rust_known
use Rattle.vx_plan_facts.proofs.NamedColumns.{types-width}
use Rattle.vx_plan_facts.proofs.KnownFacts.{known-under, known-passed, known-both}
use Rattle.vx_plan_facts.proofs.Searching.{known-left}
use Rattle.vx_check_rules.specs.Behaviour.{order_after}
use Rattle.vx_check_rules.specs.Derived.{unary_order, binary_order, front_copies, rises_equally}
use Rattle.vx_check_rules.specs.KnownNode.{AreOrdersOf, AreGivenOf, HasInput, IsPassed, IsKnownTyped, is_whole, order_by}
use Rattle.vx_check_rules.proofs.CopySteps.{copies-below}
use Rattle.vx_check_rules.proofs.NamedNodes.{order-below, merge-below}

-- the order of an output by its description
pub unary-order-by : (w : ℕ) (op : Unary) (e : Equality) (det : Columns → Columns) (below : List OrderEntry)
    → unary_order w op e det below ≡ order_by w (described op).copying (described op).order e det below
unary-order-by w (select fs) e det below = refl
unary-order-by w (project es) e det below = refl
unary-order-by w (distinct cols) e det below = refl
unary-order-by w (sort of_parts order) e det below = refl
unary-order-by w (group plain by aggregates) e det below = refl
unary-order-by w (group partial by aggregates) e det below = refl
unary-order-by w (group final by aggregates) e det below = refl
unary-order-by w (limit m) e det below = refl

-- where rows stay whole, and where they do not
pub whole-by : (k : Copying) → is_whole k ≡ true → (w : ℕ) (after : OrderAfter) (e : Equality) (det : Columns → Columns) (below : List OrderEntry)
    → order_by w k after e det below ≡ order_after after below
whole-by whole_rows h w after e det below = refl
whole-by (columns_kept cols) h w after e det below = absurd (true≢false (sym h))
whole-by (entries_kept ks) h w after e det below = absurd (true≢false (sym h))
whole-by (left_of v) h w after e det below = absurd (true≢false (sym h))
whole-by (right_of v) h w after e det below = absurd (true≢false (sym h))
whole-by no_columns h w after e det below = absurd (true≢false (sym h))

pub carried-by : (k : Copying) → is_whole k ≡ false → (w : ℕ) (after : OrderAfter) (e : Equality) (det : Columns → Columns) (below : List OrderEntry)
    → order_by w k after e det below ≡ front_copies w k e (short det below)
carried-by whole_rows h w after e det below = absurd (true≢false h)
carried-by (columns_kept cols) h w after e det below = refl
carried-by (entries_kept ks) h w after e det below = refl
carried-by (left_of v) h w after e det below = refl
carried-by (right_of v) h w after e det below = refl
carried-by no_columns h w after e det below = refl

kept-whole : {A : Type 0} (cols : List ℕ) → is_whole (columns_kept cols) ≡ true → A
kept-whole cols e = absurd (true≢false (sym e))

entries-whole : {A : Type 0} (ks : List (Option ℕ)) → is_whole (entries_kept ks) ≡ true → A
entries-whole ks e = absurd (true≢false (sym e))

longer-below : (v w : ℕ) (cols : List ℕ) → v ≤ w → all_below v cols ≡ true → all_below w cols ≡ true
longer-below v w [] l h = refl
longer-below v w (c ∷ cols) l h =
    and-both (nat_lt c w) (all_below w cols) (more c (and-left (nat_lt c v) (all_below v cols) h)) (longer-below v w cols l (and-right (nat_lt c v) (all_below v cols) h))
  where
    more : (x : ℕ) → nat_lt x v ≡ true → nat_lt x w ≡ true
    more x e = grind (arith, nat_tests)

sorted-columns : (catalog : List Relation) (n : ℕ) (c : Claim) (of_parts : Bool) (order : List OrderEntry) (p : Plan) → IsTypedOver catalog (unary n c (sort of_parts order) p)
    → all_below (width (relation_at catalog) p) (order_columns order) ≡ true
sorted-columns catalog n c of_parts order p (s, same, typed_x) =
    let types = types_of (relation_at s.catalog) p in
    let u = and_parts (typed s p) _ typed_x in
    let v = and_parts (phase_fits (sort of_parts order) p) _ u.1 in
    let y = and_parts (is_unary types (sort of_parts order)) _ v.1 in
    let named = and-right (is_some_list order) (are_columns (length types) (order_columns order)) y.0 in
    let wide : length types ≡ width (relation_at catalog) p = types-width (relation_at s.catalog) p ∙ ap (λ l. width (relation_at l) p) same in
    let P : ℕ → Type 0 = λ w. all_below w (order_columns order) ≡ true in
    subst P wide (and-left (all_below (length types) (order_columns order)) (are_distinct (order_columns order)) named)

module _ (catalog : List Relation) (k : rust_known.KnownColumns) where
  sorted-below : (n : ℕ) (c : Claim) (op : Unary) (p : Plan) → IsKnownTyped catalog k (unary n c op p) → IsKnownOf (relation_at catalog) k p
      → is_whole (described op).copying ≡ true → all_below (width (relation_at catalog) (unary n c op p)) (order_columns (order_after (described op).order (claim p).order)) ≡ true
  sorted-below n c (select fs) p h under whole = order-below (relation_at catalog) k p under
  sorted-below n c (project es) p h under whole = entries-whole (map kept_column es) whole
  sorted-below n c (distinct cols) p h under whole = kept-whole cols whole
  sorted-below n c (sort of_parts order) p h under whole = sorted-columns catalog n c of_parts order p h.typed
  sorted-below n c (group plain by aggregates) p h under whole = kept-whole by whole
  sorted-below n c (group partial by aggregates) p h under whole = kept-whole by whole
  sorted-below n c (group final by aggregates) p h under whole = kept-whole by whole
  sorted-below n c (limit m) p h under whole = order-below (relation_at catalog) k p under

  has-input : (n : ℕ) (c : Claim) (op : Unary) (p : Plan) → IsKnownTyped catalog k (unary n c op p)
      → HasInput (relation_at catalog) k (unary n c op p) p (described op).copying (described op).order
  has-input n c op p h =
      let under = known-under (relation_at catalog) k n c op p h.known in
      record {
        input = record {
          known = h.known;
          copies = record {
            known = under;
            reaches = (known-left (relation_at catalog) (map facts_of k.facts.items) (unary n c op p) h.known.known).reaches;
          };
        };
        sorted_below = sorted-below n c op p h under;
      }

  pub unary-input : (x : Plan) → IsKnownTyped catalog k x → (n : ℕ) (c : Claim) (op : Unary) (p : Plan) → x ≡ unary n c op p → (copying : Copying) (after : OrderAfter)
      → copying ≡ (described op).copying → after ≡ (described op).order → HasInput (relation_at catalog) k x p copying after
  unary-input x h n c op p is copying after same order =
      let P : Plan → Type 0 = λ y. IsKnownTyped catalog k y in
      let Q : Plan → Type 0 = λ y. HasInput (relation_at catalog) k y p (described op).copying (described op).order in
      let R : Copying → Type 0 = λ y. HasInput (relation_at catalog) k x p y (described op).order in
      let S : OrderAfter → Type 0 = λ y. HasInput (relation_at catalog) k x p copying y in
      subst S (sym order) (subst R (sym same) (subst Q (sym is) (has-input n c op p (subst P is h))))

  both-below : (n : ℕ) (c : Claim) (op : Binary) (p q : Plan) → IsKnownOf (relation_at catalog) k p
      → all_below (width (relation_at catalog) (binary n c op p q)) (order_columns (binary_order op (claim p).order)) ≡ true
  both-below n c union p q under = refl
  both-below n c (join m on) p q under =
      longer-below (width (relation_at catalog) p) (width (relation_at catalog) p + width (relation_at catalog) q) (order_columns (claim p).order) (omega arith) (order-below (relation_at catalog) k p under)
  both-below n c (semi_join matched on conditions) p q under = order-below (relation_at catalog) k p under

  pub both-orders : (x : Plan) → IsKnownTyped catalog k x → (n : ℕ) (c : Claim) (op : Binary) (p q : Plan) → x ≡ binary n c op p q
      → AreOrdersOf (relation_at catalog) k x (binary_order op (claim p).order) (claim x).order
  both-orders x h n c op p q is =
      let P : Plan → Type 0 = λ y. IsKnownOf (relation_at catalog) k y in
      let Q : Plan → Type 0 = λ y. all_below (width (relation_at catalog) y) (order_columns (binary_order op (claim p).order)) ≡ true in
      record {
        known = h.known;
        given_below = subst Q (sym is) (both-below n c op p q (known-both (relation_at catalog) k n c op p q (subst P is h.known)).0);
        order_below = order-below (relation_at catalog) k x h.known;
      }

  pub scan-orders : (x : Plan) → IsKnownTyped catalog k x → (n : ℕ) (c : Claim) (r : ℕ) (m : Bool) (z : Size) → x ≡ scan n c r m z → (rel : Relation) → IsRelation rel
      → rel ≡ relation_at catalog r → AreOrdersOf (relation_at catalog) k x rel.order (claim x).order
  scan-orders x h n c r m z is rel fine same =
      let P : Plan → Type 0 = λ y. all_below (width (relation_at catalog) y) (order_columns rel.order) ≡ true in
      let wide : length rel.names ≡ width (relation_at catalog) (scan n c r m z) = sym fine.typed ∙ ap (λ y. length y.types) same in
      let Q : ℕ → Type 0 = λ w. all_below w (order_columns rel.order) ≡ true in
      record {
        known = h.known;
        given_below = subst P (sym is) (subst Q wide (and-left (all_below (length rel.names) (order_columns rel.order)) (are_distinct (order_columns rel.order)) fine.order));
        order_below = order-below (relation_at catalog) k x h.known;
      }

  pub passed-by : (x : Plan) → IsKnownTyped catalog k x → (n : ℕ) (c : Claim) (kind : ExchangeKind) (m : List OrderEntry) (p : Plan) → x ≡ exchange n c kind m p
      → IsPassed (relation_at catalog) k x p
  passed-by x h n c kind m p is =
      let P : Plan → Type 0 = λ y. IsKnownOf (relation_at catalog) k y in
      record {
        known = h.known;
        input = known-passed (relation_at catalog) k n c kind m p (subst P is h.known);
        wide = ap (width (relation_at catalog)) is;
      }

  pub merge-orders : (x : Plan) → (h : IsKnownTyped catalog k x) → (n : ℕ) (c : Claim) (kind : ExchangeKind) (m : List OrderEntry) (p : Plan) → x ≡ exchange n c kind m p
      → AreOrdersOf (relation_at catalog) k x m (claim x).order
  merge-orders x h n c kind m p is =
      let P : ℕ → Type 0 = λ w. all_below w (order_columns m) ≡ true in
      record {
        known = h.known;
        given_below = subst P (sym (ap (width (relation_at catalog)) is)) (merge-below catalog k x h n c kind m p is);
        order_below = order-below (relation_at catalog) k x h.known;
      }

-- an exchange's input's order is of the columns of the exchange
pub passed-orders : (catalog : ℕ → Relation) (k : rust_known.KnownColumns) (x p : Plan) → IsPassed catalog k x p → AreOrdersOf catalog k x (claim p).order (claim x).order
passed-orders catalog k x p h =
    let P : ℕ → Type 0 = λ w. all_below w (order_columns (claim p).order) ≡ true in
    record {
      known = h.known;
      given_below = subst P (sym h.wide) (order-below catalog k p h.input);
      order_below = order-below catalog k x h.known;
    }

-- ---- where the order of the output stands

pub whole-orders : (catalog : ℕ → Relation) (k : rust_known.KnownColumns) (p q : Plan) (copying : Copying) (after : OrderAfter) → HasInput catalog k p q copying after
    → is_whole copying ≡ true → (given : List OrderEntry) → given ≡ order_after after (claim q).order → AreOrdersOf catalog k p given (claim p).order
whole-orders catalog k p q copying after h whole given is =
    let P : List OrderEntry → Type 0 = λ xs. all_below (width catalog p) (order_columns xs) ≡ true in
    record { known = h.input.known; given_below = subst P (sym is) (h.sorted_below whole); order_below = order-below catalog k p h.input.known }

pub copied-orders : (catalog : ℕ → Relation) (k : rust_known.KnownColumns) (p : Plan) (copying : Copying) (e : Equality) (order : List OrderEntry) → IsKnownOf catalog k p
    → (given : List OrderEntry) → given ≡ front_copies (width catalog p) copying e order → AreOrdersOf catalog k p given (claim p).order
copied-orders catalog k p copying e order h given is =
    let P : List OrderEntry → Type 0 = λ xs. all_below (width catalog p) (order_columns xs) ≡ true in
    record { known = h; given_below = subst P (sym is) (copies-below (width catalog p) copying e order); order_below = order-below catalog k p h }

-- ---- ranges on a column

-- rows that a range on one column routed rise with their workers if they rise in this column
pub rises-by : (e : Equality) (det : Columns → Columns) (i : ℕ) (cols : List ℕ) (order : List OrderEntry) → length cols ≡ 1
    → rises_equally e det (routed (by_range i) cols) order ≡ order_follows e det order (record { column = get_or cols 0 0; falling = false } ∷ [])
rises-by e det i [] order h = absurd (omega (arith, h))
rises-by e det i (c ∷ []) order h = refl
rises-by e det i (c ∷ d ∷ cols) order h = absurd (omega (arith, h))

pub rises-not : (e : Equality) (det : Columns → Columns) (i : ℕ) (cols : List ℕ) (order : List OrderEntry) → (length cols ≡ 1 → ⊥) → rises_equally e det (routed (by_range i) cols) order ≡ false
rises-not e det i [] order h = refl
rises-not e det i (c ∷ []) order h = absurd (h refl)
rises-not e det i (c ∷ d ∷ cols) order h = refl

pub rising-orders : (catalog : ℕ → Relation) (k : rust_known.KnownColumns) (p : Plan) (i : ℕ) (cols : List ℕ) (order : List OrderEntry)
    → AreGivenOf catalog k p (routed (by_range i) cols) order → length cols ≡ 1 → AreOrdersOf catalog k p order (record { column = get_or cols 0 0; falling = false } ∷ [])
rising-orders catalog k p i [] order h l = absurd (omega (arith, l))
rising-orders catalog k p i (c ∷ []) order h l = record { known = h.known; given_below = h.order_below; order_below = h.part_below }
rising-orders catalog k p i (c ∷ d ∷ cols) order h l = absurd (omega (arith, l))
