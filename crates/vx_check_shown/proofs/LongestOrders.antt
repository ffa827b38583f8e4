-- The order that a node shows: each other one that is shown follows from it.
use Rattle.std.proofs.Common.{◌≡◌, ◌∙◌, ℕ, ◌<◌, ◌==◌, nat_lt, Bool, true, false, cond, not, ◌&&◌, ◌||◌, ⊎_elim, List, [], ◌∷◌, map, length, Option, Some, None, refl, sym, ap, subst, true≢false, eqb-true, arith}
use Rattle.vx_rows_values.specs.declared.order.OrderEntry.{OrderEntry}
use Rattle.vx_rows_values.specs.Order.{order_columns, entry_eq}
use Rattle.vx_rows_values.proofs.Booleans.{and-left, and-right, and-both}
use Rattle.vx_catalog_relations.specs.Relation.{Relation}
use Rattle.vx_catalog_relations.specs.Catalog.{relation_at, all_below, are_distinct, IsCatalog}
use Rattle.vx_plan_nodes.specs.Plan.{by_hash, by_range, Part, one, any, all, routed, Claim, claim, Unary, select, project, distinct, sort, group, limit, plain, partial, final, Binary, union, join, semi_join, ExchangeKind, route_to, round, broadcast, gather, concat, Plan, scan, unary, binary, exchange, size, is_one}
use Rattle.vx_plan_nodes.specs.Typed.{Scope, typed}
use Rattle.vx_plan_nodes.specs.Types.{width, well_formed}
use Rattle.vx_plan_nodes.specs.Describe.{Copying, columns_kept, entries_kept, kept_column, source, described}
use Rattle.vx_plan_facts.specs.Determined.{Columns, determined}
use Rattle.vx_plan_facts.specs.Equal.{Equality, both_equal, equal_at}
use Rattle.vx_plan_facts.specs.Following.{short, order_follows}
use Rattle.vx_plan_facts.specs.Labels.{source_within}
use Rattle.vx_plan_facts.specs.Naming.{names_within}
use Rattle.vx_plan_facts.proofs.NamedColumns.{project-within, distinct-within, group-within}
use Rattle.vx_plan_facts.proofs.Tests.{or-cases, or-left, or-right}
use Rattle.vx_plan_facts.proofs.WellTyped.{typed-well-formed}
use Rattle.vx_check_rules.specs.Rules.{is_front, entry_at, entry_both, if_order, unary_orders, goes_on, order_given, orders}
use Rattle.vx_check_rules.specs.Behaviour.{order_sources}
use Rattle.vx_check_rules.specs.Derived.{goes_on_with, unary_order, binary_order, front_copies, needed_follows, order_given_derived, order_derived}
use Rattle.vx_check_rules.proofs.CopySteps.{copies-below}
use Rattle.vx_check_rules.proofs.Exact.{order-copied, order-entries}
use Rattle.vx_check_rules.proofs.OrderSteps.{short-below as shortened-below}
use Rattle.vx_check_rules.proofs.Shortening.{Closes}
use Rattle.vx_check_shown.specs.Standing.{first_equal}
use Rattle.vx_check_shown.specs.ShownOrder.{order_had}
use Rattle.vx_check_shown.specs.OrderLaws.{part_below, order_below, order_over_claims, IsLongestOrder}
use Rattle.vx_check_shown.proofs.Entries.{entry-same}
use Rattle.vx_check_shown.proofs.Equivalent.{equal-equivalence}
use Rattle.vx_check_shown.proofs.Standing.{first-equal, first-before, ordered-below, ordered-firsts}
use Rattle.vx_check_shown.proofs.ShortOrders.{begins-chain, front-follows, named-short, named-follows, follows-named, follows-more, short-distinct}
use Rattle.vx_check_shown.proofs.CopiedOrders.{AreCopies, copies-follow}
use Rattle.vx_check_shown.proofs.OrderNodes.{both-below}
use Rattle.vx_check_shown.proofs.TypedNodes.{closes-at, goes-up, exchange-more, order-below, relation-below, sorted-below, merged-below, copies-reach}

-- ---- at any node

-- the second order follows from the first
abbrev Follows : (ℕ → Relation) → Plan → (given order : List OrderEntry) → Type 0
Follows catalog p given order = order_follows (equal_at catalog p) (determined catalog p) given order ≡ true

module _ (catalog : ℕ → Relation) (p : Plan) (formed : well_formed catalog p ≡ true) where
  -- an order begins another
  front : (given order : List OrderEntry) → all_below (width catalog p) (order_columns given) ≡ true → all_below (width catalog p) (order_columns order) ≡ true → is_front order given ≡ true
      → Follows catalog p given order
  front given order l m h =
      front-follows (width catalog p) (equal_at catalog p) (determined catalog p) (closes-at catalog p formed) (equal-equivalence catalog p) given order l m h

  chain : (xs ys zs : List OrderEntry) → Follows catalog p xs ys → Follows catalog p ys zs → Follows catalog p xs zs
  chain xs ys zs h k =
      let det : Columns → Columns = determined catalog p in
      begins-chain (equal_at catalog p) (equal-equivalence catalog p) (short det zs) (short det ys) (short det xs) k h

-- ---- copies

none-copied : {A : Type 0} (o : Option ℕ) (e : OrderEntry) (os : Option (List OrderEntry)) → if_order (entry_both o e os) (λ ys. is_front ys []) ≡ true → A
none-copied None e os h = absurd (true≢false (sym h))
none-copied (Some x) e None h = absurd (true≢false (sym h))
none-copied (Some x) e (Some ys) h = absurd (true≢false (sym h))

-- an order of which the columns that it copies begin an order copies that
copies-of : (k : Copying) (order xs : List OrderEntry) → if_order (order_sources k order) (λ ys. is_front ys xs) ≡ true → AreCopies k order xs
copies-of k [] xs h = tt
copies-of k (c ∷ order) [] h = none-copied (source k c.column) c (order_sources k order) h
copies-of k (c ∷ order) (z ∷ zs) h = go (source k c.column) (order_sources k order) refl h (copies-of k order zs)
  where
    go : (o : Option ℕ) (os : Option (List OrderEntry)) → source k c.column ≡ o → if_order (entry_both o c os) (λ ys. is_front ys (z ∷ zs)) ≡ true
        → (if_order os (λ ys. is_front ys zs) ≡ true → AreCopies k order zs)
        → (source k c.column ≡ Some z.column) × (c.falling ≡ z.falling) × AreCopies k order zs
    go None os is k rest = absurd (true≢false (sym k))
    go (Some x) None is k rest = absurd (true≢false (sym k))
    go (Some x) (Some ys) is k rest =
        let copy : OrderEntry = entry_at x c in
        let same : copy ≡ z = entry-same copy z (and-left (entry_eq copy z) (is_front ys zs) k) in
        (is ∙ ap (λ (y : OrderEntry). Some y.column) same, ap (λ (y : OrderEntry). y.falling) same, rest (and-right (entry_eq copy z) (is_front ys zs) k))

module _ (s : Scope) (n : ℕ) (c : Claim) (op : Unary) (p : Plan) (h : typed s (unary n c op p) ≡ true) where
  abbrev rel : ℕ → Relation
  rel = relation_at s.catalog

  abbrev node : Plan
  node = unary n c op p

  formed : well_formed rel node ≡ true
  formed = typed-well-formed s node h

  input-formed : well_formed rel p ≡ true
  input-formed = typed-well-formed s p (and-left (typed s p) _ h)

  -- an order of copies of what begins the input's order
  carried-follows : (copying : Copying) (order : List OrderEntry) → (described op).copying ≡ copying
      → ((a b : ℕ) → both_equal (equal_at rel p) (source copying a) (source copying b) ≡ true → equal_at rel node a b ≡ true)
      → ((w : ℕ) → names_within w op ≡ true → (d : ℕ) → source_within w (source (described op).copying d) ≡ true)
      → all_below (width rel node) (order_columns order) ≡ true → if_order (order_sources copying order) (λ ys. is_front ys (claim p).order) ≡ true
      → Follows rel node (front_copies (width rel node) copying (equal_at rel p) (short (determined rel p) (claim p).order)) order
  carried-follows copying order is lifts within l begins =
      let P : Copying → Type 0 = λ k. ((a b : ℕ) → both_equal (equal_at rel p) (source k a) (source k b) ≡ true → equal_at rel node a b ≡ true) → AreCopies k order (claim p).order
      → Follows rel node (front_copies (width rel node) k (equal_at rel p) (short (determined rel p) (claim p).order)) order in
      let at : P (described op).copying = λ lifts' copies.
      copies-follow (width rel p) (width rel node) (described op).copying (equal_at rel p) (equal_at rel node) (determined rel p) (determined rel node)
      (closes-at rel p input-formed) (closes-at rel node formed) (equal-equivalence rel p) lifts'
      (goes-up rel node p (described op).copying (λ t d. refl) formed input-formed (copies-reach s n c op p h within))
      order (claim p).order copies l (order-below rel p input-formed) in
      subst P is at lifts (copies-of copying order (claim p).order begins)

-- what the first table shows
unary-front : (s : Scope) (n : ℕ) (c : Claim) (op : Unary) (p : Plan) → typed s (unary n c op p) ≡ true
    → (order : List OrderEntry) → all_below (width (relation_at s.catalog) (unary n c op p)) (order_columns order) ≡ true → unary_orders op (claim p).order order ≡ true
    → Follows (relation_at s.catalog) (unary n c op p)
    (unary_order (width (relation_at s.catalog) (unary n c op p)) op (equal_at (relation_at s.catalog) p) (determined (relation_at s.catalog) p) (claim p).order) order
unary-front s n c (select fs) p h order l k =
    let rel : ℕ → Relation = relation_at s.catalog in
    front rel (unary n c (select fs) p) (typed-well-formed s (unary n c (select fs) p) h) (claim p).order order
    (order-below rel p (typed-well-formed s p (and-left (typed s p) _ h))) l k
unary-front s n c (sort of_parts given) p h order l k =
    front (relation_at s.catalog) (unary n c (sort of_parts given) p) (typed-well-formed s (unary n c (sort of_parts given) p) h) given order (sorted-below s n c of_parts given p h) l k
unary-front s n c (project es) p h order l k =
    carried-follows s n c (project es) p h (entries_kept (map kept_column es)) order refl (λ a b e. or-right (a == b) _ e) (λ w m d. project-within w (project es) es refl m d) l
    (ap (λ o. if_order o (λ ys. is_front ys (claim p).order)) (order-entries (map kept_column es) order) ∙ k)
unary-front s n c (distinct cols) p h order l k =
    carried-follows s n c (distinct cols) p h (columns_kept cols) order refl (λ a b e. or-right (a == b) _ e) (λ w m d. distinct-within w (distinct cols) cols refl m d) l
    (ap (λ o. if_order o (λ ys. is_front ys (claim p).order)) (order-copied cols order) ∙ k)
unary-front s n c (group plain by aggregates) p h order l k =
    carried-follows s n c (group plain by aggregates) p h (columns_kept by) order refl (λ a b e. or-right (a == b) _ e) (λ w m d. group-within w (group plain by aggregates) plain by aggregates refl m d) l
    (ap (λ o. if_order o (λ ys. is_front ys (claim p).order)) (order-copied by order) ∙ k)
unary-front s n c (group partial by aggregates) p h order l k =
    carried-follows s n c (group partial by aggregates) p h (columns_kept by) order refl (λ a b e. or-right (a == b) _ e) (λ w m d. group-within w (group partial by aggregates) partial by aggregates refl m d) l
    (ap (λ o. if_order o (λ ys. is_front ys (claim p).order)) (order-copied by order) ∙ k)
unary-front s n c (group final by aggregates) p h order l k =
    carried-follows s n c (group final by aggregates) p h (columns_kept by) order refl (λ a b e. or-right (a == b) _ e) (λ w m d. group-within w (group final by aggregates) final by aggregates refl m d) l
    (ap (λ o. if_order o (λ ys. is_front ys (claim p).order)) (order-copied by order) ∙ k)
unary-front s n c (limit m) p h order l k =
    let rel : ℕ → Relation = relation_at s.catalog in
    front rel (unary n c (limit m) p) (typed-well-formed s (unary n c (limit m) p) h) (claim p).order order
    (order-below rel p (typed-well-formed s p (and-left (typed s p) _ h))) l k

-- the order that an operator over one input has is of its columns
unary-below : (s : Scope) (n : ℕ) (c : Claim) (op : Unary) (p : Plan) → typed s (unary n c op p) ≡ true
    → all_below (width (relation_at s.catalog) (unary n c op p))
    (order_columns (unary_order (width (relation_at s.catalog) (unary n c op p)) op (equal_at (relation_at s.catalog) p) (determined (relation_at s.catalog) p) (claim p).order)) ≡ true
unary-below s n c (select fs) p h = order-below (relation_at s.catalog) p (typed-well-formed s p (and-left (typed s p) _ h))
unary-below s n c (sort of_parts order) p h = sorted-below s n c of_parts order p h
unary-below s n c (project es) p h =
    copies-below (length es) (entries_kept (map kept_column es)) (equal_at (relation_at s.catalog) p) (short (determined (relation_at s.catalog) p) (claim p).order)
unary-below s n c (distinct cols) p h =
    copies-below (length cols) (columns_kept cols) (equal_at (relation_at s.catalog) p) (short (determined (relation_at s.catalog) p) (claim p).order)
unary-below s n c (group plain by aggregates) p h =
    copies-below (width (relation_at s.catalog) (unary n c (group plain by aggregates) p)) (columns_kept by) (equal_at (relation_at s.catalog) p)
    (short (determined (relation_at s.catalog) p) (claim p).order)
unary-below s n c (group partial by aggregates) p h =
    copies-below (width (relation_at s.catalog) (unary n c (group partial by aggregates) p)) (columns_kept by) (equal_at (relation_at s.catalog) p)
    (short (determined (relation_at s.catalog) p) (claim p).order)
unary-below s n c (group final by aggregates) p h =
    copies-below (width (relation_at s.catalog) (unary n c (group final by aggregates) p)) (columns_kept by) (equal_at (relation_at s.catalog) p)
    (short (determined (relation_at s.catalog) p) (claim p).order)
unary-below s n c (limit m) p h = order-below (relation_at s.catalog) p (typed-well-formed s p (and-left (typed s p) _ h))

-- ---- exchanges

-- rows of producers that rise by the first table do by the second one
goes-too : (catalog : ℕ → Relation) (p : Plan) → well_formed catalog p ≡ true → (k : ExchangeKind) (q : Part) (order : List OrderEntry) (keys : List (List ℕ))
    → all_below (width catalog p) (order_columns order) ≡ true → goes_on k (record { part = q; order = order; keys = keys }) ≡ true → goes_on_with catalog k p q order ≡ true
goes-too catalog p fine concat (routed (by_range j) (c ∷ [])) (d ∷ order) keys l h =
    let w : ℕ = width catalog p in
    let rising : OrderEntry = record { column = c; falling = false } in
    let P : ℕ → Type 0 = λ v. nat_lt v w ≡ true in
    let same : c ≡ d.column = eqb-true c d.column (and-left (c == d.column) (not d.falling) h) in
    let below : nat_lt c w ≡ true = subst P (sym same) (and-left (nat_lt d.column w) (all_below w (order_columns order)) l) in
    front catalog p fine (d ∷ order) (rising ∷ []) l (and-both (nat_lt c w) true below refl) (and-both (entry_eq rising d) true h refl)
goes-too catalog p fine concat (routed (by_range j) (c ∷ [])) [] keys l h = absurd (true≢false (sym h))
goes-too catalog p fine concat (routed (by_range j) []) order keys l h = absurd (true≢false (sym h))
goes-too catalog p fine concat (routed (by_range j) (c ∷ d ∷ cs)) order keys l h = absurd (true≢false (sym h))
goes-too catalog p fine concat (routed (by_hash name) cols) order keys l h = absurd (true≢false (sym h))
goes-too catalog p fine concat one order keys l h = absurd (true≢false (sym h))
goes-too catalog p fine concat any order keys l h = absurd (true≢false (sym h))
goes-too catalog p fine concat all order keys l h = absurd (true≢false (sym h))
goes-too catalog p fine (route_to z r cols) q order keys l h = absurd (true≢false (sym h))
goes-too catalog p fine (round z) q order keys l h = absurd (true≢false (sym h))
goes-too catalog p fine (broadcast z) q order keys l h = absurd (true≢false (sym h))
goes-too catalog p fine gather q order keys l h = absurd (true≢false (sym h))

module _ (s : Scope) (n : ℕ) (c : Claim) (k : ExchangeKind) (merge : List OrderEntry) (p : Plan) (h : typed s (exchange n c k merge p) ≡ true) where
  abbrev sent : Plan
  sent = exchange n c k merge p

  abbrev catalog_of : ℕ → Relation
  catalog_of = relation_at s.catalog

  abbrev given : List OrderEntry
  given = (claim p).order

  abbrev keeps : Bool
  keeps = is_one (size p) || goes_on_with catalog_of k p (claim p).part given

  sent-formed : well_formed catalog_of sent ≡ true
  sent-formed = typed-well-formed s sent h

  below-formed : well_formed catalog_of p ≡ true
  below-formed = typed-well-formed s p (and-left (typed s p) _ h)

  given-below : all_below (width catalog_of p) (order_columns given) ≡ true
  given-below = order-below catalog_of p below-formed

  merge-below : all_below (width catalog_of p) (order_columns merge) ≡ true
  merge-below = merged-below s n c k merge p h

  -- the order by which it merges follows from the input's
  merge-follows : order_given_derived catalog_of sent ≡ true → Follows catalog_of sent given merge
  merge-follows needed = ⊎_elim
      (λ begins. front catalog_of sent sent-formed given merge given-below merge-below begins)
      (λ follows. follows-more (width catalog_of p) (equal_at catalog_of p) (determined catalog_of p) (determined catalog_of sent)
      (closes-at catalog_of p below-formed) (closes-at catalog_of sent sent-formed) (exchange-more catalog_of n c k merge p sent-formed below-formed)
      given merge given-below merge-below follows)
      (or-cases (order_given sent) (needed_follows catalog_of sent) needed)

  -- the order that it has, by whether the input's goes on
  by-merge : (b : Bool) → Follows catalog_of sent given merge → (order : List OrderEntry) → Follows catalog_of sent merge order → Follows catalog_of sent (cond b given merge) order
  by-merge true needed order f = chain catalog_of sent sent-formed given merge order needed f
  by-merge false needed order f = f

  by-given : (b : Bool) → b ≡ true → (order : List OrderEntry) → Follows catalog_of sent given order → Follows catalog_of sent (cond b given merge) order
  by-given true going order f = f
  by-given false going order f = absurd (true≢false (sym going))

  going : (is_one (size p) || goes_on k (claim p)) ≡ true → keeps ≡ true
  going e = ⊎_elim
      (λ alone. or-left (is_one (size p)) (goes_on_with catalog_of k p (claim p).part given) alone)
      (λ goes. or-right (is_one (size p)) (goes_on_with catalog_of k p (claim p).part given)
      (goes-too catalog_of p below-formed k (claim p).part given (claim p).keys given-below goes))
      (or-cases (is_one (size p)) (goes_on k (claim p)) e)

  sent-follows : order_given_derived catalog_of sent ≡ true → (order : List OrderEntry) → all_below (width catalog_of sent) (order_columns order) ≡ true
      → (orders catalog_of sent order || order_derived catalog_of sent order) ≡ true → Follows catalog_of sent (cond keeps given merge) order
  sent-follows needed order l e =
      let merges = merge-follows needed in
      let by_table : Bool = (is_one (size p) || goes_on k (claim p)) && is_front order given in
      let by_facts : Bool = keeps && order_follows (equal_at catalog_of sent) (determined catalog_of sent) given order in
      ⊎_elim
      (λ first. ⊎_elim
      (λ m. by-merge keeps merges order (front catalog_of sent sent-formed merge order merge-below l m))
      (λ g. by-given keeps (going (and-left (is_one (size p) || goes_on k (claim p)) (is_front order given) g)) order
      (front catalog_of sent sent-formed given order given-below l (and-right (is_one (size p) || goes_on k (claim p)) (is_front order given) g)))
      (or-cases (is_front order merge) by_table first))
      (λ second. ⊎_elim
      (λ m. by-merge keeps merges order m)
      (λ g. by-given keeps (and-left keeps (order_follows (equal_at catalog_of sent) (determined catalog_of sent) given order) g) order
      (and-right keeps (order_follows (equal_at catalog_of sent) (determined catalog_of sent) given order) g))
      (or-cases (order_follows (equal_at catalog_of sent) (determined catalog_of sent) merge order) by_facts second))
      (or-cases (orders catalog_of sent order) (order_derived catalog_of sent order) e)

  sent-shown : (b : Bool) (order : List OrderEntry) → Follows catalog_of sent (cond b given merge) order
      → (order_follows (equal_at catalog_of sent) (determined catalog_of sent) merge order
      || (b && order_follows (equal_at catalog_of sent) (determined catalog_of sent) given order)) ≡ true
  sent-shown true order f = or-right (order_follows (equal_at catalog_of sent) (determined catalog_of sent) merge order) _ f
  sent-shown false order f = or-left (order_follows (equal_at catalog_of sent) (determined catalog_of sent) merge order) _ f

  sent-below : (b : Bool) → all_below (width catalog_of sent) (order_columns (cond b given merge)) ≡ true
  sent-below true = given-below
  sent-below false = merge-below

-- ---- all nodes

abbrev had : (ℕ → Relation) → Plan → List OrderEntry
had catalog p = order_had catalog p (part_below p) (order_below p)

-- of the order that a node has: it is of its columns; what follows from it is shown; and what is shown follows from it
record IsHad (catalog : ℕ → Relation) (p : Plan) : Type 0 where
  pub of_node : all_below (width catalog p) (order_columns (had catalog p)) ≡ true
  pub gives : (order : List OrderEntry) → Follows catalog p (had catalog p) order → order_derived catalog p order ≡ true
  pub tells : order_given_derived catalog p ≡ true → (order : List OrderEntry) → all_below (width catalog p) (order_columns order) ≡ true
      → (orders catalog p order || order_derived catalog p order) ≡ true → Follows catalog p (had catalog p) order

is-had : (s : Scope) (p : Plan) → IsCatalog s.catalog → typed s p ≡ true → IsHad (relation_at s.catalog) p
is-had s (scan n c r m z) catalog h =
    let rel : ℕ → Relation = relation_at s.catalog in
    let p : Plan = scan n c r m z in
    let under = relation-below s n c r m z catalog h in
    record {
      of_node = under;
      gives = λ order f. f;
      tells = λ needed order l e. ⊎_elim (λ k. front rel p (typed-well-formed s p h) (rel r).order order under l k) (λ f. f) (or-cases (orders rel p order) (order_derived rel p order) e);
    }
is-had s (unary n c op p) catalog h =
    let rel : ℕ → Relation = relation_at s.catalog in
    let x : Plan = unary n c op p in
    record {
      of_node = unary-below s n c op p h;
      gives = λ order f. f;
      tells = λ needed order l e. ⊎_elim (λ k. unary-front s n c op p h order l k) (λ f. f) (or-cases (orders rel x order) (order_derived rel x order) e);
    }
is-had s (binary n c op p q) catalog h =
    let rel : ℕ → Relation = relation_at s.catalog in
    let x : Plan = binary n c op p q in
    let under = both-below rel n c op p q (claim p).order (order-below rel p (typed-well-formed s p (and-left (typed s p) _ h))) in
    record {
      of_node = under;
      gives = λ order f. f;
      tells = λ needed order l e.
          ⊎_elim (λ k. front rel x (typed-well-formed s x h) (binary_order op (claim p).order) order under l (begins order op k)) (λ f. f) (or-cases (orders rel x order) (order_derived rel x order) e);
    }
  where
    begins : (order : List OrderEntry) (o : Binary) → orders (relation_at s.catalog) (binary n c o p q) order ≡ true → is_front order (binary_order o (claim p).order) ≡ true
    begins order union k = k
    begins order (join m on) k = k
    begins order (semi_join matched on conditions) k = k
is-had s (exchange n c k merge p) catalog h = record {
  of_node = sent-below s n c k merge p h (is_one (size p) || goes_on_with (relation_at s.catalog) k p (claim p).part (claim p).order);
  gives = λ order f. sent-shown s n c k merge p h (is_one (size p) || goes_on_with (relation_at s.catalog) k p (claim p).part (claim p).order) order f;
  tells = λ needed order l e. sent-follows s n c k merge p h needed order l e;
}

pub longest-order : (s : Scope) (p : Plan) → IsCatalog s.catalog → typed s p ≡ true → IsLongestOrder (relation_at s.catalog) p (order_over_claims (relation_at s.catalog) p)
longest-order s p catalog h =
    let rel : ℕ → Relation = relation_at s.catalog in
    let w : ℕ = width rel p in
    let e : Equality = equal_at rel p in
    let det : Columns → Columns = determined rel p in
    let is = equal-equivalence rel p in
    let closes : Closes w e det = closes-at rel p (typed-well-formed s p h) in
    let told = is-had s p catalog h in
    let low : (c : ℕ) → c < w → first_equal w e c < w = λ c l. let b = first-before w e is c l in omega (arith, l, b) in
    let given : List OrderEntry = had rel p in
    let under = ordered-below w e is (short det given) (shortened-below w det [] given told.of_node) in
    let short_is = named-short w e det closes is (first_equal w e) (first-equal w e is) low (ordered-below w e is) given told.of_node in
    record {
      shown = told.gives (order_over_claims rel p) (named-follows w e det closes is (first_equal w e) (first-equal w e is) low (ordered-below w e is) given told.of_node);
      most = λ needed order l k.
          follows-named w e det closes is (first_equal w e) (first-equal w e is) low (ordered-below w e is) given order told.of_node (told.tells needed order l k);
      shortened = short_is;
      firsts = ordered-firsts w e is (short det given) (shortened-below w det [] given told.of_node);
      columns = and-both (all_below w (order_columns (order_over_claims rel p))) (are_distinct (order_columns (order_over_claims rel p))) under (short-distinct w e det closes (order_over_claims rel p) under short_is);
    }
