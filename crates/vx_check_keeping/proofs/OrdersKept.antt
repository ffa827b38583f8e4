-- At the nodes of two plans of the same operators: orders that are shown and needed, over inputs whose claims tell the other ones'.
use Rattle.std.proofs.Common.{◌≡◌, ℕ, ◌+◌, ◌==◌, nat_lt, Bool, true, false, cond, not, ◌&&◌, ◌||◌, ⊎_elim, List, [], ◌∷◌, map, length, refl, sym, ap, ◌∙◌, subst, true≢false, eqb-true, arith, Option, Some, None}
use Rattle.std.specs.List.{list_all}
use Rattle.std.proofs.lemmas.Bool.{and_parts}
use Rattle.vx_rows_values.specs.declared.order.OrderEntry.{OrderEntry}
use Rattle.vx_rows_values.specs.Order.{order_columns, in_directions, entry_eq}
use Rattle.vx_rows_values.specs.Lists.{is_some_list}
use Rattle.vx_rows_values.proofs.Booleans.{and-left, and-right, and-both}
use Rattle.vx_catalog_relations.specs.Relation.{Relation}
use Rattle.vx_catalog_relations.specs.Catalog.{relation_at, all_below, are_distinct, IsRelation, IsCatalog}
use Rattle.vx_plan_nodes.specs.Plan.{by_hash, by_range, Part, one, any, all, routed, Claim, claim, Size, size, is_one, Unary, select, project, distinct, sort, group, limit, Phase, plain, partial, final, Aggregate, by_hashing, by_merging, Binary, union, join, semi_join, ExchangeKind, route_to, round, broadcast, gather, concat, Plan, scan, unary, binary, exchange, left_order, right_order}
use Rattle.vx_plan_nodes.specs.Phases.{phase_fits}
use Rattle.vx_plan_nodes.specs.Types.{types_of, width, part_columns}
use Rattle.vx_plan_nodes.specs.Typed.{are_columns, is_unary, is_kind, typed}
use Rattle.vx_plan_nodes.specs.Describe.{Copying, whole_rows, kept_column, source, left_of, described}
use Rattle.vx_plan_facts.specs.Equal.{Equality, equal_at}
use Rattle.vx_plan_facts.specs.Determined.{determined}
use Rattle.vx_plan_facts.specs.Following.{equal_entries, short, equal_lists}
use Rattle.vx_plan_facts.specs.Naming.{pair_within, both_within, IsTypedOver}
use Rattle.vx_plan_facts.proofs.NamedColumns.{types-width, typed-scan, typed-unary, typed-both, typed-sent}
use Rattle.vx_plan_facts.proofs.Tests.{or-cases, or-left, or-right, or-more}
use Rattle.vx_plan_facts.proofs.ClosingFacts.{is-below}
use Rattle.vx_check_rules.specs.Rules.{route_eq, is_front, entry_at, entry_both, copied_order, if_order, unary_orders, rises_by, goes_on, orders}
use Rattle.vx_check_rules.specs.Behaviour.{order_sources}
use Rattle.vx_check_rules.proofs.Exact.{order-copied, order-entries}
use Rattle.vx_check_rules.specs.Derived.{part_matches, order_given_derived, front_copies, rises_equally, goes_on_derived, unary_order, follows_at, order_derived}
use Rattle.vx_check_rules.proofs.CopySteps.{copies-below}
use Rattle.vx_check_shown.specs.PartLaws.{told}
use Rattle.vx_check_shown.proofs.Entries.{rise, entry-same}
use Rattle.vx_check_keeping.specs.Keeping.{KeysTell, TellsHere}
use Rattle.vx_check_keeping.proofs.EqualLaws.{equal-is}
use Rattle.vx_check_keeping.proofs.SameFacts.{under, beside, with_claims, width-same, equal-same, size-same}
use Rattle.vx_check_keeping.proofs.NodeFacts.{formed-over, claim-named, part-named, order-named, closes-at}
use Rattle.vx_check_keeping.proofs.MoreDetermined.{more-over}
use Rattle.vx_check_keeping.proofs.MoreFollows.{larger-at}
use Rattle.vx_check_keeping.proofs.OrdersFollow.{Larger, longer-below, front-begins, begins-follows, follows-more, follows-joins, follows-self}
use Rattle.vx_check_keeping.proofs.PartsTold.{told-routed}
use Rattle.vx_check_keeping.proofs.FrontCopies.{AreCopies, fronts-told, copies-follow, stays-larger}
use Rattle.vx_check_keeping.proofs.NodeCarries.{unary-carries, left-carries, kept-carries, passed-carries}

-- a plan and the one with other claims, whose keys say more
pub record Both (catalog : List Relation) (e g : Plan) : Type 0 where
  pub typed : IsTypedOver catalog e
  pub also : IsTypedOver catalog (with_claims e g)
  pub keys : KeysTell (relation_at catalog) (with_claims e g) e

-- an input whose claim tells the other one's
pub record Under (catalog : List Relation) (p g : Plan) : Type 0 where
  pub both : Both catalog p g
  pub tells : TellsHere (relation_at catalog) (with_claims p g) p

-- ---- columns that are named

pub order-below : (catalog : List Relation) (p : Plan) → IsTypedOver catalog p → all_below (width (relation_at catalog) p) (order_columns (claim p).order) ≡ true
order-below catalog p h = order-named (width (relation_at catalog) p) (claim p) (claim-named (relation_at catalog) p (formed-over catalog p h))

pub part-below : (catalog : List Relation) (p : Plan) → IsTypedOver catalog p → all_below (width (relation_at catalog) p) (part_columns (claim p).part) ≡ true
part-below catalog p h = part-named (width (relation_at catalog) p) (claim p) (claim-named (relation_at catalog) p (formed-over catalog p h))

sorted-below : (catalog : List Relation) (n : ℕ) (c : Claim) (of_parts : Bool) (order : List OrderEntry) (p : Plan) → IsTypedOver catalog (unary n c (sort of_parts order) p)
    → all_below (width (relation_at catalog) p) (order_columns order) ≡ true
sorted-below catalog n c of_parts order p (s, same, typed_x) =
    let types = types_of (relation_at s.catalog) p in
    let u = and_parts (typed s p) _ typed_x in
    let v = and_parts (phase_fits (sort of_parts order) p) _ u.1 in
    let y = and_parts (is_unary types (sort of_parts order)) _ v.1 in
    let named = and-right (is_some_list order) (are_columns (length types) (order_columns order)) y.0 in
    let wide : length types ≡ width (relation_at catalog) p = types-width (relation_at s.catalog) p ∙ ap (λ l. width (relation_at l) p) same in
    let P : ℕ → Type 0 = λ w. all_below w (order_columns order) ≡ true in
    subst P wide (and-left (all_below (length types) (order_columns order)) (are_distinct (order_columns order)) named)

merge-below : (catalog : List Relation) (n : ℕ) (c : Claim) (k : ExchangeKind) (m : List OrderEntry) (p : Plan) → IsTypedOver catalog (exchange n c k m p)
    → all_below (width (relation_at catalog) p) (order_columns m) ≡ true
merge-below catalog n c k m p (s, same, typed_x) =
    let types = types_of (relation_at s.catalog) p in
    let u = and_parts (typed s p) _ typed_x in
    let v = and_parts (is_kind s types k) _ u.1 in
    let y = and_parts (are_columns (length types) (order_columns m)) _ v.1 in
    let wide : length types ≡ width (relation_at catalog) p = types-width (relation_at s.catalog) p ∙ ap (λ l. width (relation_at l) p) same in
    let P : ℕ → Type 0 = λ w. all_below w (order_columns m) ≡ true in
    subst P wide (and-left (all_below (length types) (order_columns m)) (are_distinct (order_columns m)) y.0)

scanned-below : (catalog : List Relation) → IsCatalog catalog → (n : ℕ) (c : Claim) (r : ℕ) (m : Bool) (z : Size) → IsTypedOver catalog (scan n c r m z)
    → all_below (width (relation_at catalog) (scan n c r m z)) (order_columns (relation_at catalog r).order) ≡ true
scanned-below catalog fine n c r m z h =
    let rel : Relation = relation_at catalog r in
    let is : IsRelation rel = fine.each r (is-below r (length catalog) (typed-scan catalog (scan n c r m z) n c r m z refl h)) in
    subst (λ (w : ℕ). all_below w (order_columns rel.order) ≡ true) (sym is.typed) (and-left (all_below (length rel.names) (order_columns rel.order)) (are_distinct (order_columns rel.order)) is.order)

lefts-below : (v w : ℕ) (on : List (ℕ × ℕ)) → list_all (pair_within v w) on ≡ true → all_below v (map (λ x. x.0) on) ≡ true
lefts-below v w [] h = refl
lefts-below v w (x ∷ on) h =
    and-both (nat_lt x.0 v) (all_below v (map (λ y. y.0) on)) (and-left (nat_lt x.0 v) (nat_lt x.1 w) (and-left (pair_within v w x) (list_all (pair_within v w) on) h))
    (lefts-below v w on (and-right (pair_within v w x) (list_all (pair_within v w) on) h))

rights-below : (v w : ℕ) (on : List (ℕ × ℕ)) → list_all (pair_within v w) on ≡ true → all_below w (map (λ x. x.1) on) ≡ true
rights-below v w [] h = refl
rights-below v w (x ∷ on) h =
    and-both (nat_lt x.1 w) (all_below w (map (λ y. y.1) on)) (and-right (nat_lt x.0 v) (nat_lt x.1 w) (and-left (pair_within v w x) (list_all (pair_within v w) on) h))
    (rights-below v w on (and-right (pair_within v w x) (list_all (pair_within v w) on) h))

-- an order on columns that are there is of them
directed-below : (w : ℕ) (cols : List ℕ) (falls : List Bool) → all_below w cols ≡ true → all_below w (order_columns (in_directions cols falls)) ≡ true
directed-below w [] [] h = refl
directed-below w [] (f ∷ falls) h = refl
directed-below w (c ∷ cols) [] h = refl
directed-below w (c ∷ cols) (f ∷ falls) h =
    and-both (nat_lt c w) (all_below w (order_columns (in_directions cols falls))) (and-left (nat_lt c w) (all_below w cols) h)
    (directed-below w cols falls (and-right (nat_lt c w) (all_below w cols) h))

front-below : (v : ℕ) (xs ys : List OrderEntry) → is_front xs ys ≡ true → all_below v (order_columns ys) ≡ true → all_below v (order_columns xs) ≡ true
front-below v [] ys h l = refl
front-below v (x ∷ xs) [] h l = absurd (true≢false (sym h))
front-below v (x ∷ xs) (y ∷ ys) h l =
    let same : x ≡ y = entry-same x y (and-left (entry_eq x y) (is_front xs ys) h) in
    and-both (nat_lt x.column v) (all_below v (order_columns xs))
    (subst (λ (z : OrderEntry). nat_lt z.column v ≡ true) (sym same) (and-left (nat_lt y.column v) (all_below v (order_columns ys)) l))
    (front-below v xs ys (and-right (entry_eq x y) (is_front xs ys) h) (and-right (nat_lt y.column v) (all_below v (order_columns ys)) l))

-- ---- copies

order-is : (o : Option (List OrderEntry)) (test : List OrderEntry → Bool) → if_order o test ≡ true → (cs : List OrderEntry) × (o ≡ Some cs) × (test cs ≡ true)
order-is None test h = absurd (true≢false (sym h))
order-is (Some cs) test h = (cs, refl, h)

both-is : (o : Option ℕ) (x : OrderEntry) (os : Option (List OrderEntry)) (ds : List OrderEntry) → entry_both o x os ≡ Some ds
    → (d : ℕ) × (es : List OrderEntry) × (o ≡ Some d) × (os ≡ Some es) × (ds ≡ entry_at d x ∷ es)
both-is None x os ds h = absurd cc
both-is (Some d) x None ds h = absurd cc
both-is (Some d) x (Some es) ds h = (d, es, refl, refl, cc)

sources-copies : (k : Copying) (cs ds : List OrderEntry) → order_sources k cs ≡ Some ds → AreCopies k cs ds
sources-copies k [] [] h = tt
sources-copies k [] (d ∷ ds) h = absurd cc
sources-copies k (c ∷ cs) ds h =
    let t = both-is (source k c.column) c (order_sources k cs) ds h in
    subst (λ (xs : List OrderEntry). AreCopies k (c ∷ cs) xs) (sym t.4) (t.2, refl, sources-copies k cs t.1 t.3)

group-order : (phase : Phase) (by : List ℕ) (aggregates : List Aggregate) (order : List OrderEntry) → order_sources (described (group phase by aggregates)).copying order ≡ copied_order by order
group-order plain by aggregates order = order-copied by order
group-order partial by aggregates order = order-copied by order
group-order final by aggregates order = order-copied by order

module _ (catalog : List Relation) where
  abbrev C : ℕ → Relation
  C = relation_at catalog

  larger-over : (e g : Plan) → Both catalog e g
      → Larger (width C e) (width C (with_claims e g)) (equal_at C e) (equal_at C (with_claims e g)) (determined C e) (determined C (with_claims e g))
  larger-over e g b =
      larger-at C e (with_claims e g) (formed-over catalog e b.typed) (formed-over catalog (with_claims e g) b.also) (width-same C e g) (equal-same C e g)
      (more-over catalog e g b.typed b.also b.keys)

  follows-over : (e g : Plan) → Both catalog e g → (given order : List OrderEntry) → all_below (width C e) (order_columns given) ≡ true → all_below (width C e) (order_columns order) ≡ true
      → follows_at C e given order ≡ true → follows_at C (with_claims e g) given order ≡ true
  follows-over e g b given order l m h =
      follows-more (width C e) (width C (with_claims e g)) (equal_at C e) (equal_at C (with_claims e g)) (determined C e) (determined C (with_claims e g)) (larger-over e g b) given order l m h

  front-at : (p : Plan) → IsTypedOver catalog p → (given order : List OrderEntry) → all_below (width C p) (order_columns given) ≡ true → all_below (width C p) (order_columns order) ≡ true
      → is_front order given ≡ true → follows_at C p given order ≡ true
  front-at p h given order l m k =
      begins-follows (width C p) (equal_at C p) (determined C p) (closes-at C p (formed-over catalog p h)) given order l m (front-begins (equal_at C p) (equal-is C p) order given k)

  joins-at : (p : Plan) (given mid order : List OrderEntry) → follows_at C p given mid ≡ true → follows_at C p mid order ≡ true → follows_at C p given order ≡ true
  joins-at p given mid order h k = follows-joins (equal_at C p) (determined C p) (equal-is C p) given mid order h k

  below-over : (p g : Plan) (cols : List ℕ) → all_below (width C p) cols ≡ true → all_below (width C (with_claims p g)) cols ≡ true
  below-over p g cols l = subst (λ (w : ℕ). all_below w cols ≡ true) (sym (width-same C p g)) l

  -- ---- orders that are needed

  -- what follows from the one input's order follows from the other one's
  need-over : (p g : Plan) → Under catalog p g → (order : List OrderEntry) → all_below (width C p) (order_columns order) ≡ true → follows_at C p (claim p).order order ≡ true
      → follows_at C (with_claims p g) (claim (with_claims p g)).order order ≡ true
  need-over p g u order l h =
      joins-at (with_claims p g) (claim (with_claims p g)).order (claim p).order order u.tells.order
      (follows-over p g u.both (claim p).order order (order-below catalog p u.both.typed) l h)

  front-need : (p : Plan) → IsTypedOver catalog p → (order : List OrderEntry) → all_below (width C p) (order_columns order) ≡ true → is_front order (claim p).order ≡ true
      → follows_at C p (claim p).order order ≡ true
  front-need p h order l k = front-at p h (claim p).order order (order-below catalog p h) l k

  pub merged-given : (n i : ℕ) (c d : Claim) (k : ExchangeKind) (m : List OrderEntry) (p g : Plan) → IsTypedOver catalog (exchange n c k m p) → Under catalog p g
      → order_given_derived C (exchange n c k m p) ≡ true → order_given_derived C (exchange i d k m (with_claims p g)) ≡ true
  merged-given n i c d k m p g h u given =
      let l = merge-below catalog n c k m p h in
      or-right (is_front m (claim (with_claims p g)).order) (follows_at C (with_claims p g) (claim (with_claims p g)).order m)
      (need-over p g u m l
      (⊎_elim (λ j. front-need p u.both.typed m l j) (λ j. j) (or-cases (is_front m (claim p).order) (follows_at C p (claim p).order m) given)))

  pub joined-given : (n i : ℕ) (c d : Claim) (op : Binary) (p q g h : Plan) → both_within (width C p) (width C q) op ≡ true → Under catalog p g → Under catalog q h
      → order_given_derived C (binary n c op p q) ≡ true → order_given_derived C (binary i d op (with_claims p g) (with_claims q h)) ≡ true
  joined-given n i c d union p q g h names u v given = refl
  joined-given n i c d (join by_hashing on) p q g h names u v given = refl
  joined-given n i c d (semi_join matched on conditions) p q g h names u v given = refl
  joined-given n i c d (join (by_merging falls) on) p q g h names u v given =
      let ls : List OrderEntry = left_order falls on in
      let rs : List OrderEntry = right_order falls on in
      let s : Plan = with_claims p g in
      let t : Plan = with_claims q h in
      let l = directed-below (width C p) (map (λ x. x.0) on) falls (lefts-below (width C p) (width C q) on names) in
      let r = directed-below (width C q) (map (λ x. x.1) on) falls (rights-below (width C p) (width C q) on names) in
      or-right (is_front ls (claim s).order && is_front rs (claim t).order) (follows_at C s (claim s).order ls && follows_at C t (claim t).order rs)
      (⊎_elim
      (λ j. and-both (follows_at C s (claim s).order ls) (follows_at C t (claim t).order rs)
      (need-over p g u ls l (front-need p u.both.typed ls l (and-left (is_front ls (claim p).order) (is_front rs (claim q).order) j)))
      (need-over q h v rs r (front-need q v.both.typed rs r (and-right (is_front ls (claim p).order) (is_front rs (claim q).order) j))))
      (λ j. and-both (follows_at C s (claim s).order ls) (follows_at C t (claim t).order rs)
      (need-over p g u ls l (and-left (follows_at C p (claim p).order ls) (follows_at C q (claim q).order rs) j))
      (need-over q h v rs r (and-right (follows_at C p (claim p).order ls) (follows_at C q (claim q).order rs) j)))
      (or-cases (is_front ls (claim p).order && is_front rs (claim q).order) (follows_at C p (claim p).order ls && follows_at C q (claim q).order rs) given))

  -- ---- what the first table shows of orders

  kept-first : (n : ℕ) (c : Claim) (op : Unary) (p : Plan) → IsTypedOver catalog (unary n c op p) → (order : List OrderEntry) (o : Option (List OrderEntry)) → order_sources (described op).copying order ≡ o
      → all_below (width C (unary n c op p)) (order_columns order) ≡ true → if_order o (λ cs. is_front cs (claim p).order) ≡ true
      → follows_at C (unary n c op p) (front_copies (width C (unary n c op p)) (described op).copying (equal_at C p) (short (determined C p) (claim p).order)) order ≡ true
  kept-first n c op p h order o is l k =
      let x : Plan = unary n c op p in
      let t = typed-unary catalog x n c op p refl h in
      let cs = order-is o (λ ds. is_front ds (claim p).order) k in
      let below = order-below catalog p t.0 in
      copies-follow (width C x) (width C p) (described op).copying (equal_at C p) (equal_at C x) (determined C p) (determined C x)
      (unary-carries C n c op p (formed-over catalog x h) (formed-over catalog p t.0) t.1) (claim p).order order cs.0 below
      (front-below (width C p) cs.0 (claim p).order cs.2 below) l (sources-copies (described op).copying order cs.0 (is ∙ cs.1)) cs.2

  first-unary : (n : ℕ) (c : Claim) (op : Unary) (p : Plan) → IsTypedOver catalog (unary n c op p) → (order : List OrderEntry) → all_below (width C (unary n c op p)) (order_columns order) ≡ true
      → unary_orders op (claim p).order order ≡ true → order_derived C (unary n c op p) order ≡ true
  first-unary n c (select fs) p h order l k =
      front-at (unary n c (select fs) p) h (claim p).order order (order-below catalog p (typed-unary catalog (unary n c (select fs) p) n c (select fs) p refl h).0) l k
  first-unary n c (project es) p h order l k = kept-first n c (project es) p h order _ (order-entries (map kept_column es) order) l k
  first-unary n c (distinct cols) p h order l k = kept-first n c (distinct cols) p h order _ (order-copied cols order) l k
  first-unary n c (sort of_parts given) p h order l k = front-at (unary n c (sort of_parts given) p) h given order (sorted-below catalog n c of_parts given p h) l k
  first-unary n c (group phase by aggregates) p h order l k = kept-first n c (group phase by aggregates) p h order _ (group-order phase by aggregates order) l k
  first-unary n c (limit m) p h order l k =
      front-at (unary n c (limit m) p) h (claim p).order order (order-below catalog p (typed-unary catalog (unary n c (limit m) p) n c (limit m) p refl h).0) l k

  rises-first : (p : Plan) → IsTypedOver catalog p → (q : Part) (order : List OrderEntry) → all_below (width C p) (order_columns order) ≡ true → rises_by q order ≡ true
      → rises_equally (equal_at C p) (determined C p) q order ≡ true
  rises-first p h one order l k = absurd (true≢false (sym k))
  rises-first p h any order l k = absurd (true≢false (sym k))
  rises-first p h all order l k = absurd (true≢false (sym k))
  rises-first p h (routed (by_hash name) cols) order l k = absurd (true≢false (sym k))
  rises-first p h (routed (by_range j) []) order l k = absurd (true≢false (sym k))
  rises-first p h (routed (by_range j) (c ∷ d ∷ cols)) order l k = absurd (true≢false (sym k))
  rises-first p h (routed (by_range j) (c ∷ [])) [] l k = absurd (true≢false (sym k))
  rises-first p h (routed (by_range j) (c ∷ [])) (d ∷ order) l k =
      let w : ℕ = width C p in
      let same : c ≡ d.column = eqb-true c d.column (and-left (c == d.column) (not d.falling) k) in
      front-at p h (d ∷ order) (rise c ∷ []) l
      (and-both (nat_lt c w) true (subst (λ (z : ℕ). nat_lt z w ≡ true) (sym same) (and-left (nat_lt d.column w) (all_below w (order_columns order)) l)) refl)
      (and-both (entry_eq (rise c) d) true k refl)

  goes-first : (k : ExchangeKind) (p : Plan) → IsTypedOver catalog p → goes_on k (claim p) ≡ true → goes_on_derived C k p ≡ true
  goes-first concat p h k = rises-first p h (claim p).part (claim p).order (order-below catalog p h) k
  goes-first gather p h k = absurd (true≢false (sym k))
  goes-first (broadcast z) p h k = absurd (true≢false (sym k))
  goes-first (round z) p h k = absurd (true≢false (sym k))
  goes-first (route_to z r cols) p h k = absurd (true≢false (sym k))

  pub first-orders : IsCatalog catalog → (e : Plan) → IsTypedOver catalog e → (order : List OrderEntry) → all_below (width C e) (order_columns order) ≡ true → orders C e order ≡ true → order_derived C e order ≡ true
  first-orders fine (scan n c r m z) h order l k = front-at (scan n c r m z) h (C r).order order (scanned-below catalog fine n c r m z h) l k
  first-orders fine (unary n c op p) h order l k = first-unary n c op p h order l k
  first-orders fine (binary n c union p q) h order l k = front-at (binary n c union p q) h [] order refl l k
  first-orders fine (binary n c (join m on) p q) h order l k =
      front-at (binary n c (join m on) p q) h (claim p).order order
      (longer-below (width C p) (width C p + width C q) (order_columns (claim p).order) (omega arith) (order-below catalog p (typed-both catalog (binary n c (join m on) p q) n c (join m on) p q refl h).0)) l k
  first-orders fine (binary n c (semi_join matched on conditions) p q) h order l k =
      let x : Plan = binary n c (semi_join matched on conditions) p q in
      front-at x h (claim p).order order (order-below catalog p (typed-both catalog x n c (semi_join matched on conditions) p q refl h).0) l k
  first-orders fine (exchange n c kind m p) h order l k =
      let x : Plan = exchange n c kind m p in
      let t = typed-sent catalog x n c kind m p refl h in
      let alone : Bool = is_one (size p) in
      or-more (is_front order m) ((alone || goes_on kind (claim p)) && is_front order (claim p).order)
      (follows_at C x m order) ((alone || goes_on_derived C kind p) && follows_at C x (claim p).order order)
      (λ i. front-at x h m order (merge-below catalog n c kind m p h) l i)
      (λ i. and-both (alone || goes_on_derived C kind p) (follows_at C x (claim p).order order)
      (or-more alone (goes_on kind (claim p)) alone (goes_on_derived C kind p) (λ j. j) (goes-first kind p t) (and-left (alone || goes_on kind (claim p)) (is_front order (claim p).order) i))
      (front-at x h (claim p).order order (order-below catalog p t) l (and-right (alone || goes_on kind (claim p)) (is_front order (claim p).order) i))) k

  -- ---- orders over inputs whose orders tell the other ones

  copied-up : (n : ℕ) (c : Claim) (op : Unary) (p g : Plan) → Both catalog (unary n c op p) g → Under catalog p (under g)
      → follows_at C (with_claims (unary n c op p) g)
      (front_copies (width C (with_claims (unary n c op p) g)) (described op).copying (equal_at C (with_claims p (under g)))
      (short (determined C (with_claims p (under g))) (claim (with_claims p (under g))).order))
      (front_copies (width C (unary n c op p)) (described op).copying (equal_at C p) (short (determined C p) (claim p).order)) ≡ true
  copied-up n c op p g b u =
      let e : Plan = unary n c op p in
      let f : Plan = with_claims e g in
      let s : Plan = with_claims p (under g) in
      let k : Copying = (described op).copying in
      let t = typed-unary catalog f n (claim g) op s refl b.also in
      let told_so : follows_at C f (front_copies (width C f) k (equal_at C s) (short (determined C s) (claim s).order)) (front_copies (width C f) k (equal_at C s) (short (determined C p) (claim p).order)) ≡ true =
      fronts-told (width C f) (width C s) k (equal_at C s) (equal_at C f) (determined C s) (determined C f)
      (unary-carries C n (claim g) op s (formed-over catalog f b.also) (formed-over catalog s t.0) t.1)
      (width C p) (equal_at C p) (determined C p) (larger-over p (under g) u.both) (claim s).order (claim p).order (order-below catalog p u.both.typed) u.tells.order in
      let given : List OrderEntry = front_copies (width C f) k (equal_at C s) (short (determined C s) (claim s).order) in
      subst (λ (w : ℕ). follows_at C f given (front_copies w k (equal_at C p) (short (determined C p) (claim p).order)) ≡ true) (width-same C e g)
      (subst (λ (x : Equality). follows_at C f given (front_copies (width C f) k x (short (determined C p) (claim p).order)) ≡ true) (equal-same C p (under g)) told_so)

  unary-up : (n : ℕ) (c : Claim) (op : Unary) (p g : Plan) → Both catalog (unary n c op p) g → Under catalog p (under g)
      → follows_at C (with_claims (unary n c op p) g)
      (unary_order (width C (with_claims (unary n c op p) g)) op (equal_at C (with_claims p (under g))) (determined C (with_claims p (under g))) (claim (with_claims p (under g))).order)
      (unary_order (width C (unary n c op p)) op (equal_at C p) (determined C p) (claim p).order) ≡ true
  unary-up n c (select fs) p g b u =
      let f : Plan = with_claims (unary n c (select fs) p) g in
      let s : Plan = with_claims p (under g) in
      let t = typed-unary catalog f n (claim g) (select fs) s refl b.also in
      follows-more (width C s) (width C f) (equal_at C s) (equal_at C f) (determined C s) (determined C f)
      (stays-larger (width C f) (width C s) whole_rows (equal_at C s) (equal_at C f) (determined C s) (determined C f)
      (unary-carries C n (claim g) (select fs) s (formed-over catalog f b.also) (formed-over catalog s t.0) t.1) (omega arith) (λ x l. refl))
      (claim s).order (claim p).order (order-below catalog s t.0) (below-over p (under g) (order_columns (claim p).order) (order-below catalog p u.both.typed)) u.tells.order
  unary-up n c (limit m) p g b u =
      let f : Plan = with_claims (unary n c (limit m) p) g in
      let s : Plan = with_claims p (under g) in
      let t = typed-unary catalog f n (claim g) (limit m) s refl b.also in
      follows-more (width C s) (width C f) (equal_at C s) (equal_at C f) (determined C s) (determined C f)
      (stays-larger (width C f) (width C s) whole_rows (equal_at C s) (equal_at C f) (determined C s) (determined C f)
      (unary-carries C n (claim g) (limit m) s (formed-over catalog f b.also) (formed-over catalog s t.0) t.1) (omega arith) (λ x l. refl))
      (claim s).order (claim p).order (order-below catalog s t.0) (below-over p (under g) (order_columns (claim p).order) (order-below catalog p u.both.typed)) u.tells.order
  unary-up n c (project es) p g b u = copied-up n c (project es) p g b u
  unary-up n c (distinct cols) p g b u = copied-up n c (distinct cols) p g b u
  unary-up n c (sort of_parts order) p g b u =
      let f : Plan = with_claims (unary n c (sort of_parts order) p) g in
      follows-self (equal_at C f) (determined C f) (equal-is C f) order
  unary-up n c (group phase by aggregates) p g b u = copied-up n c (group phase by aggregates) p g b u

  given-below : (n : ℕ) (c : Claim) (op : Unary) (p : Plan) → IsTypedOver catalog (unary n c op p)
      → all_below (width C (unary n c op p)) (order_columns (unary_order (width C (unary n c op p)) op (equal_at C p) (determined C p) (claim p).order)) ≡ true
  given-below n c (select fs) p h = order-below catalog p (typed-unary catalog (unary n c (select fs) p) n c (select fs) p refl h).0
  given-below n c (project es) p h = copies-below (length es) (described (project es)).copying (equal_at C p) (short (determined C p) (claim p).order)
  given-below n c (distinct cols) p h = copies-below (length cols) (described (distinct cols)).copying (equal_at C p) (short (determined C p) (claim p).order)
  given-below n c (sort of_parts order) p h = sorted-below catalog n c of_parts order p h
  given-below n c (limit m) p h = order-below catalog p (typed-unary catalog (unary n c (limit m) p) n c (limit m) p refl h).0
  given-below n c (group phase by aggregates) p h =
      copies-below (length by + length aggregates) (described (group phase by aggregates)).copying (equal_at C p) (short (determined C p) (claim p).order)

  -- rows that rise from worker to worker
  rises-told : (p g : Plan) → Under catalog p g → (x y : Part) → all_below (width C p) (part_columns x) ≡ true → all_below (width C (with_claims p g)) (part_columns y) ≡ true
      → told (equal_at C (with_claims p g)) y x ≡ true → rises_equally (equal_at C p) (determined C p) x (claim p).order ≡ true
      → rises_equally (equal_at C (with_claims p g)) (determined C (with_claims p g)) y (claim (with_claims p g)).order ≡ true
  rises-told p g u one y l m t k = absurd (true≢false (sym k))
  rises-told p g u any y l m t k = absurd (true≢false (sym k))
  rises-told p g u all y l m t k = absurd (true≢false (sym k))
  rises-told p g u (routed (by_hash name) cols) y l m t k = absurd (true≢false (sym k))
  rises-told p g u (routed (by_range j) []) y l m t k = absurd (true≢false (sym k))
  rises-told p g u (routed (by_range j) (c ∷ d ∷ cols)) y l m t k = absurd (true≢false (sym k))
  rises-told p g u (routed (by_range j) (c ∷ [])) y l m t k =
      go y m (told-routed (equal_at C s) (equal-is C s) y (by_range j) (c ∷ []) t) (need-over p g u (rise c ∷ []) l k) (below-over p g (c ∷ []) l)
    where
      s : Plan
      s = with_claims p g

      go : (y : Part) → all_below (width C (with_claims p g)) (part_columns y) ≡ true → part_matches (equal_at C (with_claims p g)) y (routed (by_range j) (c ∷ [])) ≡ true
          → follows_at C (with_claims p g) (claim (with_claims p g)).order (rise c ∷ []) ≡ true → all_below (width C (with_claims p g)) (c ∷ []) ≡ true
          → rises_equally (equal_at C (with_claims p g)) (determined C (with_claims p g)) y (claim (with_claims p g)).order ≡ true
      go one m i f l = i
      go any m i f l = i
      go all m i f l = i
      go (routed (by_hash name) cs) m i f l = absurd (true≢false (sym i))
      go (routed (by_range a) []) m i f l = absurd (true≢false (sym (and-right (route_eq (by_range a) (by_range j)) false i)))
      go (routed (by_range a) (d ∷ x ∷ cs)) m i f l =
          let e : Equality = equal_at C (with_claims p g) in
          absurd (true≢false (sym (and-right (e d c) false (and-right (route_eq (by_range a) (by_range j)) (e d c && false) i))))
      go (routed (by_range a) (d ∷ [])) m i f l =
          let e : Equality = equal_at C (with_claims p g) in
          let lists : (e d c && true) ≡ true = and-right (route_eq (by_range a) (by_range j)) (equal_lists e (d ∷ []) (c ∷ [])) i in
          let alike : equal_entries e (rise d) (rise c) ≡ true = and-both (e d c) true (and-left (e d c) true lists) refl in
          joins-at (with_claims p g) (claim (with_claims p g)).order (rise c ∷ []) (rise d ∷ []) f
          (begins-follows (width C (with_claims p g)) e (determined C (with_claims p g)) (closes-at C (with_claims p g) (formed-over catalog (with_claims p g) u.both.also))
          (rise c ∷ []) (rise d ∷ []) l m (and-both (equal_entries e (rise d) (rise c)) true alike refl))

  goes-up : (k : ExchangeKind) (p g : Plan) → Under catalog p g → is_one (size p) ≡ false → goes_on_derived C k p ≡ true → goes_on_derived C k (with_claims p g) ≡ true
  goes-up concat p g u several k =
      rises-told p g u (claim p).part (claim (with_claims p g)).part (part-below catalog p u.both.typed) (part-below catalog (with_claims p g) u.both.also)
      (u.tells.part (ap is_one (size-same p g) ∙ several)) k
  goes-up gather p g u several k = absurd (true≢false (sym k))
  goes-up (broadcast z) p g u several k = absurd (true≢false (sym k))
  goes-up (round z) p g u several k = absurd (true≢false (sym k))
  goes-up (route_to z r cols) p g u several k = absurd (true≢false (sym k))

  sent-up : (k : ExchangeKind) (p g : Plan) → Under catalog p g → (is_one (size p) || goes_on_derived C k p) ≡ true
      → (is_one (size (with_claims p g)) || goes_on_derived C k (with_claims p g)) ≡ true
  sent-up k p g u h = by (is_one (size p)) refl
    where
      by : (b : Bool) → is_one (size p) ≡ b → (is_one (size (with_claims p g)) || goes_on_derived C k (with_claims p g)) ≡ true
      by true i = or-left (is_one (size (with_claims p g))) (goes_on_derived C k (with_claims p g)) (ap is_one (size-same p g) ∙ i)
      by false i =
          or-right (is_one (size (with_claims p g))) (goes_on_derived C k (with_claims p g))
          (goes-up k p g u i (⊎_elim (λ j. absurd (true≢false (sym j ∙ i))) (λ j. j) (or-cases (is_one (size p)) (goes_on_derived C k p) h)))

  pub scanned-up : IsCatalog catalog → (n : ℕ) (c : Claim) (r : ℕ) (m : Bool) (z : Size) (g : Plan) → Both catalog (scan n c r m z) g → (order : List OrderEntry)
      → all_below (width C (scan n c r m z)) (order_columns order) ≡ true → order_derived C (scan n c r m z) order ≡ true → order_derived C (with_claims (scan n c r m z) g) order ≡ true
  scanned-up fine n c r m z g b order l h = follows-over (scan n c r m z) g b (C r).order order (scanned-below catalog fine n c r m z b.typed) l h

  pub one-up : (n : ℕ) (c : Claim) (op : Unary) (p g : Plan) → Both catalog (unary n c op p) g → Under catalog p (under g) → (order : List OrderEntry)
      → all_below (width C (unary n c op p)) (order_columns order) ≡ true → order_derived C (unary n c op p) order ≡ true → order_derived C (with_claims (unary n c op p) g) order ≡ true
  one-up n c op p g b u order l h =
      let e : Plan = unary n c op p in
      let f : Plan = with_claims e g in
      let s : Plan = with_claims p (under g) in
      joins-at f (unary_order (width C f) op (equal_at C s) (determined C s) (claim s).order) (unary_order (width C e) op (equal_at C p) (determined C p) (claim p).order) order
      (unary-up n c op p g b u)
      (follows-over e g b (unary_order (width C e) op (equal_at C p) (determined C p) (claim p).order) order (given-below n c op p b.typed) l h)

  pub two-up : (n : ℕ) (c : Claim) (op : Binary) (p q g : Plan) → Both catalog (binary n c op p q) g → Under catalog p (under g) → (order : List OrderEntry)
      → all_below (width C (binary n c op p q)) (order_columns order) ≡ true → order_derived C (binary n c op p q) order ≡ true → order_derived C (with_claims (binary n c op p q) g) order ≡ true
  two-up n c union p q g b u order l h = follows-over (binary n c union p q) g b [] order refl l h
  two-up n c (join m on) p q g b u order l h =
      let e : Plan = binary n c (join m on) p q in
      let f : Plan = with_claims e g in
      let s : Plan = with_claims p (under g) in
      let t : Plan = with_claims q (beside g) in
      let over_f : follows_at C f (claim p).order order ≡ true =
      follows-over e g b (claim p).order order (longer-below (width C p) (width C p + width C q) (order_columns (claim p).order) (omega arith) (order-below catalog p u.both.typed)) l h in
      joins-at f (claim s).order (claim p).order order
      (follows-more (width C s) (width C f) (equal_at C s) (equal_at C f) (determined C s) (determined C f)
      (stays-larger (width C f) (width C s) (left_of (width C s)) (equal_at C s) (equal_at C f) (determined C s) (determined C f)
      (left-carries C n (claim g) m on s t (formed-over catalog f b.also) (formed-over catalog s u.both.also)) (omega arith)
      (λ x i. ap (λ a. cond a (Some x) None) (is-below x (width C s) i)))
      (claim s).order (claim p).order (order-below catalog s u.both.also) (below-over p (under g) (order_columns (claim p).order) (order-below catalog p u.both.typed)) u.tells.order) over_f
  two-up n c (semi_join matched on conditions) p q g b u order l h =
      let e : Plan = binary n c (semi_join matched on conditions) p q in
      let f : Plan = with_claims e g in
      let s : Plan = with_claims p (under g) in
      let t : Plan = with_claims q (beside g) in
      joins-at f (claim s).order (claim p).order order
      (follows-more (width C s) (width C f) (equal_at C s) (equal_at C f) (determined C s) (determined C f)
      (stays-larger (width C f) (width C s) whole_rows (equal_at C s) (equal_at C f) (determined C s) (determined C f)
      (kept-carries C n (claim g) matched on conditions s t (formed-over catalog f b.also) (formed-over catalog s u.both.also)) (omega arith) (λ x i. refl))
      (claim s).order (claim p).order (order-below catalog s u.both.also) (below-over p (under g) (order_columns (claim p).order) (order-below catalog p u.both.typed)) u.tells.order)
      (follows-over e g b (claim p).order order (order-below catalog p u.both.typed) l h)

  pub sent-order-up : (n : ℕ) (c : Claim) (k : ExchangeKind) (m : List OrderEntry) (p g : Plan) → Both catalog (exchange n c k m p) g → Under catalog p (under g) → (order : List OrderEntry)
      → all_below (width C (exchange n c k m p)) (order_columns order) ≡ true → order_derived C (exchange n c k m p) order ≡ true → order_derived C (with_claims (exchange n c k m p) g) order ≡ true
  sent-order-up n c k m p g b u order l h =
      let e : Plan = exchange n c k m p in
      let f : Plan = with_claims e g in
      let s : Plan = with_claims p (under g) in
      let before : Bool = is_one (size p) || goes_on_derived C k p in
      let after : Bool = is_one (size s) || goes_on_derived C k s in
      or-more (follows_at C e m order) (before && follows_at C e (claim p).order order) (follows_at C f m order) (after && follows_at C f (claim s).order order)
      (λ i. follows-over e g b m order (merge-below catalog n c k m p b.typed) l i)
      (λ i. and-both after (follows_at C f (claim s).order order) (sent-up k p (under g) u (and-left before (follows_at C e (claim p).order order) i))
      (joins-at f (claim s).order (claim p).order order
      (follows-more (width C s) (width C f) (equal_at C s) (equal_at C f) (determined C s) (determined C f)
      (stays-larger (width C f) (width C s) whole_rows (equal_at C s) (equal_at C f) (determined C s) (determined C f)
      (passed-carries C n (claim g) k m s (formed-over catalog f b.also) (formed-over catalog s u.both.also)) (omega arith) (λ x j. refl))
      (claim s).order (claim p).order (order-below catalog s u.both.also) (below-over p (under g) (order_columns (claim p).order) (order-below catalog p u.both.typed)) u.tells.order)
      (follows-over e g b (claim p).order order (order-below catalog p u.both.typed) l (and-right before (follows_at C e (claim p).order order) i)))) h
