-- Operators that name columns of their inputs, and copies of these.
use Rattle.std.proofs.Common.{◌≡◌, ◌∙◌, ℕ, zero, suc, ◌+◌, ◌<◌, ◌==◌, ◌||◌, length-append, arith, Bool, true, nat_lt, List, [], ◌∷◌, ◌++◌, map, length, ap, refl, ◌&&◌, slice_get}
use Rattle.std.specs.List.{list_all}
use Rattle.std.proofs.lemmas.Bool.{and_parts, and_from, eq-eqb}
use Rattle.std.proofs.lemmas.List.{length-map}
use Rattle.std.proofs.lemmas.Bool.Decides.{nat_tests}
use Rattle.vx_rows_values.specs.declared.order.OrderEntry.{OrderEntry}
use Rattle.vx_rows_values.specs.declared.value.ColType.{ColType}
use Rattle.vx_rows_values.specs.Types.{type_at}
use Rattle.vx_rows_values.specs.Lists.{is_some_list}
use Rattle.vx_catalog_relations.specs.Relation.{Relation}
use Rattle.vx_catalog_relations.specs.Catalog.{all_below, are_distinct, relation_at}
use Rattle.vx_plan_nodes.specs.Plan.{Side, column, constant, Condition, Filter, comparing, computing, Entry, copy_of, made_by, Unary, select, project, distinct, sort, group, limit, Phase, plain, partial, final, Aggregate, Binary, union, join, semi_join, Claim, Size, ExchangeKind, Plan, scan, unary, binary, exchange}
use Rattle.vx_plan_nodes.specs.Phases.{phase_fits, both_closed}
use Rattle.vx_plan_nodes.specs.Types.{types_of, entry_type, unary_types, binary_types, aggregate_type, width, unary_width, binary_width}
use Rattle.vx_plan_nodes.specs.Typed.{type_eq, types_eq, are_columns, is_side, is_condition, is_filter, is_entry, is_aggregate, is_unary, is_pair, are_distinct_pairs, has_directions, is_binary, typed}
use Rattle.vx_plan_nodes.specs.Describe.{entries_kept, kept_column, source, described}
use Rattle.vx_plan_facts.specs.Equal.{comparisons}
use Rattle.vx_plan_facts.specs.Facts.{Facts, AreCarried, AreAfter}
use Rattle.vx_plan_facts.specs.Labels.{source_within}
use Rattle.vx_plan_facts.specs.Naming.{names_within, side_within, condition_within, filter_within, entry_within, pair_within, both_within, IsTypedOver}

kept-within : (w : ℕ) (cols : List ℕ) (c : ℕ) → all_below w cols ≡ true → source_within w (slice_get cols c) ≡ true
kept-within w [] c h = refl
kept-within w (x ∷ cols) zero h = (and_parts (nat_lt x w) (all_below w cols) h).0
kept-within w (x ∷ cols) (suc c) h = kept-within w cols c (and_parts (nat_lt x w) (all_below w cols) h).1

pub entries-within : (w : ℕ) (es : List Entry) (c : ℕ) → list_all (entry_within w) es ≡ true → source_within w (source (entries_kept (map kept_column es)) c) ≡ true
entries-within w [] c h = refl
entries-within w (copy_of x ∷ es) zero h = (and_parts (nat_lt x w) (list_all (entry_within w) es) h).0
entries-within w (made_by x ∷ es) zero h = refl
entries-within w (x ∷ es) (suc c) h = entries-within w es c (and_parts (entry_within w x) (list_all (entry_within w) es) h).1

pub project-within : (w : ℕ) (op : Unary) (es : List Entry) → op ≡ project es → names_within w op ≡ true → (c : ℕ) → source_within w (source (described op).copying c) ≡ true
project-within w op es is h c = rw is (entries-within w es c (rw is at h))

pub distinct-within : (w : ℕ) (op : Unary) (cols : List ℕ) → op ≡ distinct cols → names_within w op ≡ true → (c : ℕ) → source_within w (source (described op).copying c) ≡ true
distinct-within w op cols is h c = rw is (kept-within w cols c (rw is at h))

by-within : (w : ℕ) (phase : Phase) (by : List ℕ) (aggregates : List Aggregate) (c : ℕ) → all_below w by ≡ true → source_within w (source (described (group phase by aggregates)).copying c) ≡ true
by-within w plain by aggregates c h = kept-within w by c h
by-within w partial by aggregates c h = kept-within w by c h
by-within w final by aggregates c h = kept-within w by c h

pub group-within : (w : ℕ) (op : Unary) (phase : Phase) (by : List ℕ) (aggregates : List Aggregate) → op ≡ group phase by aggregates → names_within w op ≡ true
    → (c : ℕ) → source_within w (source (described op).copying c) ≡ true
group-within w op phase by aggregates is h c = rw is (by-within w phase by aggregates c (rw is at h))

-- ---- typed plans

unary_types-width : (op : Unary) (types : List ColType) → length (unary_types op types) ≡ unary_width op (length types)
unary_types-width (select cs) types = refl
unary_types-width (project es) types = length-map es (entry_type types)
unary_types-width (distinct cols) types = length-map cols (type_at types)
unary_types-width (sort of_parts cols) types = refl
unary_types-width (group phase by aggregates) types =
    length-append (map (type_at types) by) (map (aggregate_type types) aggregates)
    ∙ ap (λ k. k + length (map (aggregate_type types) aggregates)) (length-map by (type_at types))
    ∙ ap (λ k. length by + k) (length-map aggregates (aggregate_type types))
unary_types-width (limit m) types = refl

binary_types-width : (op : Binary) (ts us : List ColType) → length (binary_types op ts us) ≡ binary_width op (length ts) (length us)
binary_types-width union ts us = refl
binary_types-width (join m on) ts us = length-append ts us
binary_types-width (semi_join matched on conditions) ts us = refl

pub types-width : (catalog : ℕ → Relation) (p : Plan) → length (types_of catalog p) ≡ width catalog p
types-width catalog (scan n c r m z) = refl
types-width catalog (unary n c op p) = unary_types-width op (types_of catalog p) ∙ ap (unary_width op) (types-width catalog p)
types-width catalog (binary n c op p q) =
    binary_types-width op (types_of catalog p) (types_of catalog q)
    ∙ ap (λ k. binary_width op k (length (types_of catalog q))) (types-width catalog p)
    ∙ ap (binary_width op (width catalog p)) (types-width catalog q)
types-width catalog (exchange n c k m p) = types-width catalog p

condition-names : (types : List ColType) (x : Condition) → is_condition types x ≡ true → condition_within (length types) x ≡ true
condition-names types x h =
    let p = and_parts (nat_lt x.left (length types)) (is_side types (type_at types x.left) x.right) h in
    and_from (nat_lt x.left (length types)) (side_within (length types) x.right) p.0 (side-names (type_at types x.left) x.right p.1)
  where
    side-names : (t : ColType) (s : Side) → is_side types t s ≡ true → side_within (length types) s ≡ true
    side-names t (column c) k = (and_parts (nat_lt c (length types)) (type_eq t (type_at types c)) k).0
    side-names t (constant v) k = refl

filter-names : (types : List ColType) (x : Filter) → is_filter types x ≡ true → filter_within (length types) x ≡ true
filter-names types (comparing x) h = condition-names types x h
filter-names types (computing e) h = refl

filters-name : (types : List ColType) (fs : List Filter) → list_all (is_filter types) fs ≡ true → list_all (filter_within (length types)) fs ≡ true
filters-name types [] h = refl
filters-name types (x ∷ fs) h =
    let p = and_parts (is_filter types x) (list_all (is_filter types) fs) h in
    and_from (filter_within (length types) x) (list_all (filter_within (length types)) fs) (filter-names types x p.0) (filters-name types fs p.1)

-- the comparisons among conditions are typed as these are
pub comparisons-typed : (ts : List ColType) (fs : List Filter) → list_all (is_filter ts) fs ≡ true → list_all (is_condition ts) (comparisons fs) ≡ true
comparisons-typed ts [] h = refl
comparisons-typed ts (comparing c ∷ fs) h =
    let p = and_parts (is_condition ts c) (list_all (is_filter ts) fs) h in
    and_from (is_condition ts c) (list_all (is_condition ts) (comparisons fs)) p.0 (comparisons-typed ts fs p.1)
comparisons-typed ts (computing e ∷ fs) h = comparisons-typed ts fs (and_parts (is_filter ts (computing e)) (list_all (is_filter ts) fs) h).1

entry-names : (types : List ColType) (x : Entry) → is_entry types x ≡ true → entry_within (length types) x ≡ true
entry-names types (copy_of c) h = h
entry-names types (made_by e) h = refl

entries-name : (types : List ColType) (es : List Entry) → list_all (is_entry types) es ≡ true → list_all (entry_within (length types)) es ≡ true
entries-name types [] h = refl
entries-name types (x ∷ es) h =
    let p = and_parts (is_entry types x) (list_all (is_entry types) es) h in
    and_from (entry_within (length types) x) (list_all (entry_within (length types)) es) (entry-names types x p.0) (entries-name types es p.1)

pub unary-names : (types : List ColType) (op : Unary) → is_unary types op ≡ true → names_within (length types) op ≡ true
unary-names types (select fs) h = filters-name types fs (and_parts (is_some_list fs) (list_all (is_filter types) fs) h).1
unary-names types (project es) h = entries-name types es (and_parts (is_some_list es) (list_all (is_entry types) es) h).1
unary-names types (distinct cols) h = (and_parts (is_some_list cols) (all_below (length types) cols) h).1
unary-names types (sort of_parts cols) h = refl
unary-names types (group phase by aggregates) h =
    let p = and_parts (is_some_list by || is_some_list aggregates) (are_columns (length types) by && list_all (is_aggregate types) aggregates) h in
    let q = and_parts (are_columns (length types) by) (list_all (is_aggregate types) aggregates) p.1 in
    (and_parts (all_below (length types) by) (are_distinct by) q.0).0
unary-names types (limit m) h = refl

same-types : (ts us : List ColType) → types_eq ts us ≡ true → (length us == length ts) ≡ true
same-types ts us h = eq-eqb (length us) (length ts) (go ts us h)
  where
    go : (ts us : List ColType) → types_eq ts us ≡ true → length us ≡ length ts
    go [] [] h = refl
    go [] (u ∷ us) h = absurd cc
    go (t ∷ ts) [] h = absurd cc
    go (t ∷ ts) (u ∷ us) h = ap suc (go ts us (and_parts (type_eq t u) (types_eq ts us) h).1)

pairs-name : (ts us : List ColType) (on : List (ℕ × ℕ)) → list_all (is_pair ts us) on ≡ true → list_all (pair_within (length ts) (length us)) on ≡ true
pairs-name ts us [] h = refl
pairs-name ts us (p ∷ on) h =
    let q = and_parts (is_pair ts us p) (list_all (is_pair ts us) on) h in
    let r = and_parts (nat_lt p.0 (length ts)) (nat_lt p.1 (length us) && type_eq (type_at ts p.0) (type_at us p.1)) q.0 in
    let s = and_parts (nat_lt p.1 (length us)) (type_eq (type_at ts p.0) (type_at us p.1)) r.1 in
    and_from (pair_within (length ts) (length us) p) (list_all (pair_within (length ts) (length us)) on) (and_from (nat_lt p.0 (length ts)) (nat_lt p.1 (length us)) r.0 s.0) (pairs-name ts us on q.1)

both-name : (ts us : List ColType) (op : Binary) → is_binary ts us op ≡ true → both_within (length ts) (length us) op ≡ true
both-name ts us union h = same-types ts us h
both-name ts us (join m on) h =
    let p = and_parts (is_some_list on) (list_all (is_pair ts us) on && (are_distinct_pairs on && has_directions m on)) h in
    pairs-name ts us on (and_parts (list_all (is_pair ts us) on) (are_distinct_pairs on && has_directions m on) p.1).0
both-name ts us (semi_join matched on conditions) h =
    let p = and_parts (is_some_list on) (list_all (is_pair ts us) on && (are_distinct_pairs on && list_all (is_condition (ts ++ us)) conditions)) h in
    pairs-name ts us on (and_parts (list_all (is_pair ts us) on) (are_distinct_pairs on && list_all (is_condition (ts ++ us)) conditions) p.1).0

-- the relation of a typed scan is there
pub typed-scan : (catalog : List Relation) (x : Plan) (n : ℕ) (c : Claim) (r : ℕ) (m : Bool) (z : Size) → x ≡ scan n c r m z → IsTypedOver catalog x → r < length catalog
typed-scan catalog x n c r m z is (s, same, typed) =
    let t = rw is at typed in
    let p = and_parts (nat_lt r (length s.catalog)) _ t in
    let e : length s.catalog ≡ length catalog = ap length same in
    let h : nat_lt r (length s.catalog) ≡ true = p.0 in
    grind (arith, nat_tests)

pub typed-unary : (catalog : List Relation) (x : Plan) (n : ℕ) (c : Claim) (op : Unary) (p : Plan) → x ≡ unary n c op p → IsTypedOver catalog x
    → IsTypedOver catalog p × (names_within (width (relation_at catalog) p) op ≡ true)
typed-unary catalog x n c op p is (s, same, typed_x) =
    let t = rw is at typed_x in
    let u = and_parts (typed s p) _ t in
    let v = and_parts (phase_fits op p) _ u.1 in
    let w = and_parts (is_unary (types_of (relation_at s.catalog) p) op) _ v.1 in
    let names = unary-names (types_of (relation_at s.catalog) p) op w.0 in
    let wide : length (types_of (relation_at s.catalog) p) ≡ width (relation_at catalog) p = types-width (relation_at s.catalog) p ∙ ap (λ l. width (relation_at l) p) same in
    ((s, same, u.0), rw wide at names)

pub typed-both : (catalog : List Relation) (x : Plan) (n : ℕ) (c : Claim) (op : Binary) (p q : Plan) → x ≡ binary n c op p q → IsTypedOver catalog x
    → IsTypedOver catalog p × IsTypedOver catalog q × (both_within (width (relation_at catalog) p) (width (relation_at catalog) q) op ≡ true)
typed-both catalog x n c op p q is (s, same, typed_x) =
    let t = rw is at typed_x in
    let u = and_parts (typed s p) _ t in
    let v = and_parts (typed s q) _ u.1 in
    let w = and_parts (both_closed p q) _ v.1 in
    let y = and_parts (is_binary (types_of (relation_at s.catalog) p) (types_of (relation_at s.catalog) q) op) _ w.1 in
    let names = both-name (types_of (relation_at s.catalog) p) (types_of (relation_at s.catalog) q) op y.0 in
    let left : length (types_of (relation_at s.catalog) p) ≡ width (relation_at catalog) p = types-width (relation_at s.catalog) p ∙ ap (λ l. width (relation_at l) p) same in
    let right : length (types_of (relation_at s.catalog) q) ≡ width (relation_at catalog) q = types-width (relation_at s.catalog) q ∙ ap (λ l. width (relation_at l) q) same in
    ((s, same, u.0), (s, same, v.0), rw (left, right) at names)

pub typed-sent : (catalog : List Relation) (x : Plan) (n : ℕ) (c : Claim) (k : ExchangeKind) (m : List OrderEntry) (p : Plan) → x ≡ exchange n c k m p → IsTypedOver catalog x → IsTypedOver catalog p
typed-sent catalog x n c k m p is (s, same, typed_x) = let t = rw is at typed_x in (s, same, (and_parts (typed s p) _ t).0)

-- ---- operators that copy columns

pub distinct-after : (op : Unary) (cols : List ℕ) (w : ℕ) (under own : Facts) → op ≡ distinct cols → w ≡ length cols → AreCarried (described op).copying w under own → AreAfter op under own
distinct-after op cols w under own is wide h = rw is (rw wide at (rw is at h))

pub group-after : (op : Unary) (phase : Phase) (by : List ℕ) (aggregates : List Aggregate) (w : ℕ) (under own : Facts) → op ≡ group phase by aggregates → w ≡ length by + length aggregates
    → AreCarried (described op).copying w under own → AreAfter op under own
group-after op phase by aggregates w under own is wide h = rw is (rw wide at (rw is at h))
