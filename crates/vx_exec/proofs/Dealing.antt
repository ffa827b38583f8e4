-- How rows are dealt at an exchange of a typed plan.
use Rattle.std.proofs.Common.{◌≡◌, ◌<◌, ◌≤◌, ℕ, ◌&&◌, nat_lt, nat_le, Bool, true, List, [], ◌∷◌, length, map, get_or, subst, refl, sym, ap, ◌∙◌, eq-eqb, string_bytes}
use Rattle.std.proofs.lemmas.Bool.{lt-ltb}
use Rattle.std.proofs.lemmas.Bool.Decides.{Decides-ltb}
use Rattle.std.proofs.lemmas.List.{get_or-map, length-map}
use Rattle.std.proofs.lemmas.List.Sums.{AllPass-from_list_all}
use Rattle.std.specs.List.{list_all}
use Rattle.vx_rows_values.specs.Values.{Row, Val}
use Rattle.vx_rows_values.specs.Ranges.{RangeForm, range_form}
use Rattle.vx_rows_values.specs.ValueView.{val_of}
use Rattle.vx_rows_values.specs.declared.range.NamedRange.{NamedRange}
use Rattle.vx_rows_values.specs.declared.value.ColType.{ColType}
use Rattle.vx_rows_values.specs.Types.{type_of, type_at, is_held}
use Rattle.vx_rows.specs.View.{AreColumns}
use Rattle.vx_catalog_relations.specs.Catalog.{all_below, are_distinct}
use Rattle.vx_plan_nodes.specs.Outline.{size_of}
use Rattle.vx_plan_nodes.specs.Plan.{ExchangeKind, route_to, round, broadcast, gather, concat, by_hash, by_range, target}
use Rattle.vx_plan_nodes.specs.Streams.{workers}
use Rattle.vx_plan_nodes.specs.Typed.{Scope, is_kind, is_routed, is_size, are_columns, type_eq, range_type, bounds_at, is_range, rises}
use Rattle.vx_plan_nodes.specs.TypedView.{scope}
use Rattle.vx_rows_values.specs.Lists.{is_some_list}
use Rattle.vx_ops_kernels.proofs.ColumnFacts.{columns-below}
use Rattle.vx_exec_laws.proofs.Bags.{and-left, and-right}
use Rattle.vx_exchange_ends.specs.Sending.{KindRoutesAs}
use Rattle.vx_exchange.specs.Lanes.{kind_of, serves, columns_of}
use Rattle.vx_exchange.specs.Routed.{key_route, key_columns}
use Rattle.vx_exchange.specs.declared.deal.Deal.{Deal}
use Rattle.vx_exchange.specs.declared.deal.Deal.TheVariants.{Route, Round, Broadcast, Gather, Concat}
use Rattle.vx_exchange.specs.declared.routes.KeyRoute.{KeyRoute}
use Rattle.vx_exchange.specs.declared.routes.KeyRoute.TheVariants.{Hash, Range}
use Rattle.vx_worker.specs.Fragment.{goes}
use Rattle.vx_exec.specs.Bounds.{kind_bounds}
use Rattle.vx_exec.specs.Job.{model_of}
use Rattle.vx_exec.specs.declared.job.Job.{Job}

-- as many consumers as the exchange has are served
pub deal-serves : (worker_groups : ℕ → ℕ) (d : Deal) (k : ExchangeKind) (n : ℕ) → kind_of d ≡ k → 1 ≤ n → n ≡ workers worker_groups (target k) → serves d n ≡ true
deal-serves worker_groups (Route z r) k n e some many = lt-ltb 0 n some
deal-serves worker_groups (Round z) k n e some many = lt-ltb 0 n some
deal-serves worker_groups (Broadcast z) k n e some many = lt-ltb 0 n some
deal-serves worker_groups Gather k n e some many = eq-eqb n 1 (many ∙ ap (λ x. workers worker_groups (target x)) (sym e))
deal-serves worker_groups Concat k n e some many = eq-eqb n 1 (many ∙ ap (λ x. workers worker_groups (target x)) (sym e))

-- the columns by which rows are dealt are there
routed-columns : (s : Scope) (types : List ColType) (r : KeyRoute) → is_routed s types (key_route r) (key_columns r) ≡ true → AreColumns (length types) (key_columns r)
routed-columns s types (Hash name cols) h =
    columns-below (length types) cols.items
    (and-left (all_below (length types) cols.items) (are_distinct cols.items)
    (and-right (is_some_list cols.items) (are_columns (length types) cols.items)
    (and-right (is_some_list (string_bytes name)) (is_some_list cols.items && are_columns (length types) cols.items) h)))
routed-columns s types (Range k bounds c) h =
    let there : nat_lt c (length types) ≡ true =
    and-left (nat_lt c (length types)) (type_eq (type_at types c) (range_type (bounds_at s.ranges k)))
    (and-right (nat_lt k (length s.ranges)) (nat_lt c (length types) && type_eq (type_at types c) (range_type (bounds_at s.ranges k))) h)
    in
    columns-below (length types) (c ∷ []) (rw there refl)

pub deal-columns : (s : Scope) (types : List ColType) (d : Deal) → is_kind s types (kind_of d) ≡ true → AreColumns (length types) (columns_of d)
deal-columns s types (Route z r) h = routed-columns s types r (and-right (is_size s.sizes (size_of z)) (is_routed s types (key_route r) (key_columns r)) h)
deal-columns s types (Round z) h = columns-below (length types) [] refl
deal-columns s types (Broadcast z) h = columns-below (length types) [] refl
deal-columns s types Gather h = columns-below (length types) [] refl
deal-columns s types Concat h = columns-below (length types) [] refl

-- rows go as the run has them go
pub deal-routes : {F : Type 0} (j : Job F) (hash : List ℕ → Row → ℕ → ℕ) (k : ExchangeKind) → KindRoutesAs k (kind_bounds (scope j.plan.now).ranges k) hash (goes (model_of hash j))
deal-routes j hash (route_to z (by_hash name) cols) = λ key n lt. refl
deal-routes j hash (route_to z (by_range r) cols) = λ key n lt. refl
deal-routes j hash (round z) = tt
deal-routes j hash (broadcast z) = tt
deal-routes j hash gather = tt
deal-routes j hash concat = tt

-- ---- a declared range

pub range-there : (s : Scope) (types : List ColType) (k : ℕ) (cols : List ℕ) → is_routed s types (by_range k) cols ≡ true → k < length s.ranges
range-there s types k [] h = cc
range-there s types k (c ∷ []) h =
    (Decides-ltb k (length s.ranges)).0 (and-left (nat_lt k (length s.ranges)) (nat_lt c (length types) && type_eq (type_at types c) (range_type (bounds_at s.ranges k))) h)
range-there s types k (c ∷ d ∷ cols) h = cc

-- its bounds, found by its number
pub declared-bounds : (names : List RangeForm) (rs : List NamedRange) (k : ℕ) (r : NamedRange) → map range_form rs ≡ names → k < length (map (λ (x : RangeForm). x.bounds) names) → r ≡ get_or rs k r
    → map val_of r.bounds.items ≡ bounds_at (map (λ (x : RangeForm). x.bounds) names) k
declared-bounds names rs k r are there e =
    let f : RangeForm → List Val = λ x. x.bounds in
    let some : k < length names = subst (λ n. k < n) (length-map names f) there in
    let few : k < length rs = subst (λ n. k < n) (ap (λ (l : List RangeForm). length l) (sym are) ∙ length-map rs range_form) some in
    ap (λ (x : NamedRange). map val_of x.bounds.items) e ∙ sym (ap f (get_or-map range_form rs k r (range_form r) few))
    ∙ ap (λ l. f (get_or l k (range_form r))) are ∙ sym (get_or-map f names k (range_form r) [] some)

-- they rise
pub declared-rise : (ranges : List (List Val)) (k : ℕ) → list_all is_range ranges ≡ true → k < length ranges → rises (bounds_at ranges k) ≡ true
declared-rise ranges k h there =
    let b : List Val = bounds_at ranges k in
    let held : Bool = list_all (λ v. is_held v && type_eq (type_of v) (range_type b)) b in
    and-right held (rises b)
    (and-right (nat_le (length b) 63) (held && rises b)
    (and-right (is_some_list b) (nat_le (length b) 63 && (held && rises b)) (AllPass-from_list_all is_range ranges h k [] there)))
