-- What the operators over one input do to rows: one record of facts for each operator.
use Rattle.std.proofs.Common.{◌≡◌, ◌==◌, ◌+◌, ℕ, ◌<◌, Bool, true, false, cond, not, ◌||◌, List, map, filter, length, refl, sym, ap, ◌∙◌, subst, arith, true≢false, Option, Some, None, IsSome, take}
use Rattle.std.specs.List.{list_all}
use Rattle.vx_rows_values.specs.declared.order.OrderEntry.{OrderEntry}
use Rattle.vx_rows_values.specs.Values.{Row, pick}
use Rattle.vx_rows_values.specs.Order.{agree, sorted, sort_on}
use Rattle.vx_rows_values.specs.Bags.{SameRows}
use Rattle.vx_rows_values.specs.Keys.{HasKey}
use Rattle.vx_catalog_relations.specs.Relation.{Relation, KeysHold}
use Rattle.vx_plan_nodes.specs.Plan.{Route, Claim, Plan, unary, claim, Unary, select, project, distinct, sort, group, limit, plain, partial, final, Aggregate, Entry}
use Rattle.vx_plan_nodes.specs.Types.{unary_width}
use Rattle.vx_plan_nodes.specs.Describe.{Copying, whole_rows, columns_kept, OrderAfter, order_kept, sorted_on, described}
use Rattle.vx_plan_nodes.specs.Phases.{is_partial, is_final}
use Rattle.vx_plan_nodes.specs.Serial.{filters_hold, filters_fit, entries_row, entries_fit, where_fit, firsts, group_keys, group_row, group_fits, group_rows, unary_rows, aggregate_of, of_key}
use Rattle.vx_plan_nodes.specs.Streams.{Streams, joined}
use Rattle.vx_plan_nodes.specs.Routes.{Routing}
use Rattle.vx_plan_facts.proofs.Columns.{entry-copies}
use Rattle.vx_check_rules.specs.Rules.{copied, copied_order, covers, is_front, within, numbers_below, orders, unary_keys}
use Rattle.vx_check_rules.specs.Behaviour.{sources, order_sources, Sorted, sorted_by, sorts, order_after}
use Rattle.vx_check_rules.specs.Claims.{InItsStream}
use Rattle.vx_check_rules.proofs.Exact.{sources-whole, sources-kept, order-whole_rows, order-copied, orders-exactly}
use Rattle.vx_check_rules.proofs.Bools.{or-false}
use Rattle.vx_exec_laws.proofs.Bags.{and-left, and-right, SameRows-trans, SameRows-all, stream-all}
use Rattle.vx_exec_laws.proofs.Parts.{list_all-weaken}
use Rattle.vx_exec_laws.proofs.Orders.{sorted-front, sorted-filter, sorted-take, list_all-filter, list_all-take}
use Rattle.vx_exec_laws.proofs.Keys.{count-filter, covers-key}
use Rattle.vx_exec_laws.proofs.Linear.{Linear, Linear-filter, Linear-map, Linear-sort, sort-total, linear-same, linear-joined}
use Rattle.vx_exec_laws.proofs.Copies.{copied-alone, copied-pick}
use Rattle.vx_exec_laws.proofs.Entries.{kept_of, copies-pick, entries-sorted, entries-wide, entries-key}
use Rattle.vx_exec_laws.proofs.OrderFacts.{if_order-is}
use Rattle.vx_exec_laws.proofs.Unary.{some-is, sort-all, sort-sorted, map-all, project-sorted}
use Rattle.vx_exec_laws.proofs.Widths.{firsts-all, picks-wide, some-of, groups-wide}
use Rattle.vx_exec_laws.proofs.JoinOrder.{wide}
use Rattle.vx_exec_laws.proofs.Apart.{firsts-same, picks-same, firsts-joined, firsts-sorted, distinct-key}
use Rattle.vx_exec_laws.proofs.Groups.{groups, groups-same, groups-joined, joined-all, fits-joined, fits-same-rows, fits-split, groups-sorted, groups-key, keys-all}

-- ---- one list

-- a row of the output has the values of an input's row in the columns that are copied, the rows are in order on them, and each has as many values as there are columns
pub record Keeps (k : Copying) (after : OrderAfter) (width : ℕ → ℕ) (op : List Row → Option (List Row)) : Type 0 where
  pub stems : (cs ds : List ℕ) → sources k cs ≡ Some ds → (test : Row → Bool) (xs ys : List Row) → op xs ≡ Some ys
      → list_all (λ row. test (pick ds row)) xs ≡ true → list_all (λ row. test (pick cs row)) ys ≡ true
  pub ordered : (order ds below : List OrderEntry) → order_sources k order ≡ Some ds → is_front ds (order_after after below) ≡ true → (xs ys : List Row) → op xs ≡ Some ys
      → sorted below xs ≡ true → sorted order ys ≡ true
  pub wide_as : (w : ℕ) (xs ys : List Row) → op xs ≡ Some ys → wide w xs ≡ true → wide (width w) ys ≡ true

-- whole rows have all columns where they were
pub same-columns : (cs ds : List ℕ) → sources whole_rows cs ≡ Some ds → cs ≡ ds
same-columns cs ds e = some-is cs ds (sym (sources-whole cs) ∙ e)

same-order : (order ds : List OrderEntry) → order_sources whole_rows order ≡ Some ds → order ≡ ds
same-order order ds e = some-is order ds (sym (order-whole_rows order) ∙ e)

-- by a function that gives the operator's list of whole rows: what holds of each row of its input holds of each of these
keeps-whole : (after : OrderAfter) (op : List Row → Option (List Row)) (f : List Row → List Row) → ((xs ys : List Row) → op xs ≡ Some ys → f xs ≡ ys)
    → ((q : Row → Bool) (xs : List Row) → list_all q xs ≡ true → list_all q (f xs) ≡ true)
    → ((order below : List OrderEntry) → is_front order (order_after after below) ≡ true → (xs : List Row) → sorted below xs ≡ true → sorted order (f xs) ≡ true)
    → Keeps whole_rows after (λ w. w) op
keeps-whole after op f is each ordered =
    let all : (q : Row → Bool) (xs ys : List Row) → op xs ≡ Some ys → list_all q xs ≡ true → list_all q ys ≡ true
    = λ q xs ys e h. let P : List Row → Type 0 = λ l. list_all q l ≡ true in subst P (is xs ys e) (each q xs h) in
    record {
      stems = λ cs ds c test xs ys e h.
          let P : List ℕ → Type 0 = λ v. list_all (λ row. test (pick v row)) ys ≡ true in subst P (sym (same-columns cs ds c)) (all (λ row. test (pick ds row)) xs ys e h);
      ordered = λ order ds below c front xs ys e h.
          let P : List Row → Type 0 = λ l. sorted order l ≡ true in
          let Q : List OrderEntry → Type 0 = λ v. is_front v (order_after after below) ≡ true in
          subst P (is xs ys e) (ordered order below (subst Q (sym (same-order order ds c)) front) xs h);
      wide_as = λ w xs ys e h. all (λ row. length row == w) xs ys e h;
    }

-- by one that gives rows with copies
keeps-columns : (kept : List ℕ) (width : ℕ) (op : List Row → Option (List Row)) (f : List Row → List Row) → ((xs ys : List Row) → op xs ≡ Some ys → f xs ≡ ys)
    → ((cs ds : List ℕ) → copied kept cs ≡ Some ds → (test : Row → Bool) (xs : List Row) → list_all (λ row. test (pick ds row)) xs ≡ true → list_all (λ row. test (pick cs row)) (f xs) ≡ true)
    → ((order ds : List OrderEntry) → copied_order kept order ≡ Some ds → (xs : List Row) → sorted ds xs ≡ true → sorted order (f xs) ≡ true)
    → ((xs : List Row) → wide width (f xs) ≡ true)
    → Keeps (columns_kept kept) order_kept (λ w. width) op
keeps-columns kept width op f is stems ordered wide_as = record {
  stems = λ cs ds c test xs ys e h. let P : List Row → Type 0 = λ l. list_all (λ row. test (pick cs row)) l ≡ true in subst P (is xs ys e) (stems cs ds (sym (sources-kept kept cs) ∙ c) test xs h);
  ordered = λ order ds below c front xs ys e h.
      let P : List Row → Type 0 = λ l. sorted order l ≡ true in subst P (is xs ys e) (ordered order ds (sym (order-copied kept order) ∙ c) xs (sorted-front ds below front xs h));
  wide_as = λ w xs ys e h. let P : List Row → Type 0 = λ l. wide width l ≡ true in subst P (is xs ys e) (wide_as xs);
}

copied-stems : (cs ds : List ℕ) (g : Row → Row) → ((row : Row) → pick cs (g row) ≡ pick ds row) → (test : Row → Bool) (xs : List Row)
    → list_all (λ row. test (pick ds row)) xs ≡ true → list_all (λ row. test (pick cs (g row))) xs ≡ true
copied-stems cs ds g same test xs h = list_all-weaken (λ row. test (pick ds row)) (λ row. test (pick cs (g row))) (λ row t. ap test (same row) ∙ t) xs h

group-keeps : (by : List ℕ) (aggregates : List Aggregate) → Keeps (columns_kept by) order_kept (λ w. length by + length aggregates) (group_rows by aggregates)
group-keeps by aggregates = keeps-columns by (length by + length aggregates) (group_rows by aggregates) (groups by aggregates)
    (λ xs ys e. (some-of (list_all (group_fits by aggregates xs) (group_keys by xs)) (groups by aggregates xs) ys e).1)
    (λ cs ds c test xs h. map-all (λ row. test (pick cs row)) (group_row by aggregates xs) (group_keys by xs)
    (keys-all by (λ key. test (pick cs (group_row by aggregates xs key))) xs
    (copied-stems cs ds (λ row. group_row by aggregates xs (pick by row)) (λ row. copied-pick by cs ds row (map (λ a. aggregate_of a (of_key by (pick by row) xs)) aggregates) c) test xs h)))
    (λ order ds c xs h. groups-sorted by order ds aggregates c xs h)
    (λ xs. groups-wide by aggregates xs)

-- by one that keeps some columns and computes others
entries-keep : (es : List Entry) → Keeps (kept_of es) order_kept (λ w. length es) (unary_rows (project es))
entries-keep es =
    let is : (xs ys : List Row) → unary_rows (project es) xs ≡ Some ys → map (entries_row es) xs ≡ ys = λ xs ys e. (some-of (list_all (entries_fit es) xs) (map (entries_row es) xs) ys e).1 in
    record {
      stems = λ cs ds c test xs ys e h.
          let P : List Row → Type 0 = λ l. list_all (λ row. test (pick cs row)) l ≡ true in
          subst P (is xs ys e)
          (map-all (λ row. test (pick cs row)) (entries_row es) xs
          (copied-stems cs ds (entries_row es) (λ row. copies-pick (kept_of es) row (entries_row es row) (entry-copies es row) cs ds c) test xs h));
      ordered = λ order ds below c front xs ys e h.
          let P : List Row → Type 0 = λ l. sorted order l ≡ true in subst P (is xs ys e) (entries-sorted es order ds c xs (sorted-front ds below front xs h));
      wide_as = λ w xs ys e h. let P : List Row → Type 0 = λ l. wide (length es) l ≡ true in subst P (is xs ys e) (entries-wide es xs);
    }

pub keeps : (op : Unary) → Keeps (described op).copying (described op).order (λ w. unary_width op w) (unary_rows op)
keeps (select fs) = keeps-whole order_kept (unary_rows (select fs)) (filter (filters_hold fs)) (λ xs ys e. (some-of (list_all (filters_fit fs) xs) (filter (filters_hold fs) xs) ys e).1)
    (λ q xs. list_all-filter q (filters_hold fs) xs) (λ order below front xs h. sorted-filter order (filters_hold fs) xs (sorted-front order below front xs h))
keeps (project es) = entries-keep es
keeps (distinct cols) = keeps-columns cols (length cols) (unary_rows (distinct cols)) (λ xs. firsts (map (pick cols) xs)) (λ xs ys e. some-is _ _ e)
    (λ cs ds c test xs h. keys-all cols (λ row. test (pick cs row)) xs (copied-stems cs ds (pick cols) (λ row. copied-alone cols cs ds row c) test xs h))
    (λ order ds c xs h. firsts-sorted order (map (pick cols) xs) (project-sorted cols order ds c xs h)) (λ xs. firsts-all (λ row. length row == length cols) (map (pick cols) xs) (picks-wide cols xs))
keeps (sort of_parts given) = keeps-whole (sorted_on given) (unary_rows (sort of_parts given)) (sort_on given) (λ xs ys e. some-is _ _ e)
    (λ q xs. sort-all q given xs) (λ order below front xs h. sorted-front order given front (sort_on given xs) (sort-sorted given xs))
keeps (group plain by aggregates) = group-keeps by aggregates
keeps (group partial by aggregates) = group-keeps by aggregates
keeps (group final by aggregates) = group-keeps by aggregates
keeps (limit n) = keeps-whole order_kept (unary_rows (limit n)) (take n) (λ xs ys e. some-is _ _ e)
    (λ q xs. list_all-take q n xs) (λ order below front xs h. sorted-take order n xs (sorted-front order below front xs h))

-- the order of which one that is shown is a copy begins the order that the input has, or the one that the operator makes
pub unary-order : (catalog : ℕ → Relation) (k : ℕ) (c : Claim) (op : Unary) (p : Plan) (order : List OrderEntry) → orders catalog (unary k c op p) order ≡ true
    → (ds : List OrderEntry) × (order_sources (described op).copying order ≡ Some ds) × (is_front ds (order_after (described op).order (claim p).order) ≡ true)
unary-order catalog k c op p order h =
    let s : Sorted = sorted_by (described op).copying (order_after (described op).order (claim p).order) in
    if_order-is (order_sources s.copying order) (λ o. is_front o s.order) (sym (or-false (sorts s order)) ∙ (sym (orders-exactly catalog (unary k c op p) order) ∙ h))

-- what an operator gives of rows in order is in the order that is shown
pub unary-ordered : (catalog : ℕ → Relation) (k : ℕ) (c : Claim) (op : Unary) (p : Plan) → orders catalog (unary k c op p) c.order ≡ true
    → (xs ys : List Row) → unary_rows op xs ≡ Some ys → sorted (claim p).order xs ≡ true → sorted c.order ys ≡ true
unary-ordered catalog k c op p h xs ys e up =
    let o = unary-order catalog k c op p c.order h in (keeps op).ordered c.order o.0 (claim p).order o.1 o.2 xs ys e up

-- ---- lists of the same rows, and streams

-- the operator gives a list of these rows
pub record Made (op : List Row → Option (List Row)) (xs like : List Row) : Type 0 where
  pub out : List Row
  pub is : op xs ≡ Some out
  pub same : SameRows like out

-- rows that agree in these columns stand in one stream
abbrev pub Meets : Routing → Option (List ℕ) → ℕ → Streams → Type 0
Meets goes None n s = Unit {0}
Meets goes (Some cols) n s = (r : Route) × (cs : List ℕ) × (within cs cols ≡ true) × InItsStream goes r cs n s

-- a limit, which depends on the list and not on its rows alone
abbrev pub is_limit : Unary → Bool
is_limit (select fs) = false
is_limit (project es) = false
is_limit (distinct cols) = false
is_limit (sort of_parts order) = false
is_limit (group phase by aggregates) = false
is_limit (limit n) = true

-- what holds of limits and of all others holds of each operator
pub by-limit : (P : Unary → Type 0) → ((n : ℕ) → P (limit n)) → ((op : Unary) → is_limit op ≡ false → P op) → (op : Unary) → P op
by-limit P limits others (select fs) = others (select fs) refl
by-limit P limits others (project es) = others (project es) refl
by-limit P limits others (distinct cols) = others (distinct cols) refl
by-limit P limits others (sort of_parts order) = others (sort of_parts order) refl
by-limit P limits others (group phase by aggregates) = others (group phase by aggregates) refl
by-limit P limits others (limit n) = limits n

-- an operator that gives the same rows of the same rows, stream by stream too where those that have to meet do; and keys of its output
pub record Whole (goes : Routing) (op : Unary) : Type 0 where
  pub of_bags : (xs ys zs : List Row) → SameRows xs ys → unary_rows op xs ≡ Some zs → Made (unary_rows op) ys zs
  pub joins : (n : ℕ) (s s' : Streams) (base : List Row) → Meets goes (described op).meets n s → SameRows (joined n s) base
      → ((w : ℕ) → w < n → unary_rows op (s w) ≡ Some (s' w)) → Made (unary_rows op) base (joined n s')
  pub splits : (n : ℕ) (s : Streams) (base out : List Row) → Meets goes (described op).meets n s → SameRows (joined n s) base → unary_rows op base ≡ Some out
      → (w : ℕ) → w < n → IsSome (unary_rows op (s w))
  pub keyed : (keys : List (List ℕ)) (x : List ℕ) → unary_keys op keys x ≡ true → (xs ys : List Row) → unary_rows op xs ≡ Some ys → KeysHold keys xs → HasKey x ys

-- by a function that gives the operator's list, which there always is
whole-by : (goes : Routing) (op : Unary) (f : List Row → List Row) → ((xs : List Row) → unary_rows op xs ≡ Some (f xs))
    → ((xs ys : List Row) → SameRows xs ys → SameRows (f xs) (f ys))
    → ((n : ℕ) (s s' : Streams) (base : List Row) → Meets goes (described op).meets n s → SameRows (joined n s) base → ((w : ℕ) → w < n → f (s w) ≡ s' w) → SameRows (joined n s') (f base))
    → ((keys : List (List ℕ)) (x : List ℕ) → unary_keys op keys x ≡ true → (xs : List Row) → KeysHold keys xs → HasKey x (f xs))
    → Whole goes op
whole-by goes op f is same joins keyed = record {
  of_bags = λ xs ys zs s e.
      let P : List Row → Type 0 = λ l. SameRows l (f ys) in record { out = f ys; is = is ys; same = subst P (some-is (f xs) zs (sym (is xs) ∙ e)) (same xs ys s) };
  joins = λ n s s' base m h run. record { out = f base; is = is base; same = joins n s s' base m h (λ w l. some-is (f (s w)) (s' w) (sym (is (s w)) ∙ run w l)) };
  splits = λ n s base out m h e w l. let P : Option (List Row) → Type 0 = λ o. IsSome o in subst P (sym (is (s w))) refl;
  keyed = λ keys x e xs ys g h. let P : List Row → Type 0 = λ l. HasKey x l in subst P (some-is (f xs) ys (sym (is xs) ∙ g)) (keyed keys x e xs h);
}

-- by a function that takes the rows one by one, where they all fit
by-fitting-row : (goes : Routing) (op : Unary) (fits : Row → Bool) (f : List Row → List Row) → ((xs : List Row) → unary_rows op xs ≡ where_fit fits xs (f xs)) → Linear f
    → ((keys : List (List ℕ)) (x : List ℕ) → unary_keys op keys x ≡ true → (xs : List Row) → KeysHold keys xs → HasKey x (f xs))
    → Whole goes op
by-fitting-row goes op fits f is lin keyed =
    let there : (xs : List Row) → list_all fits xs ≡ true → unary_rows op xs ≡ Some (f xs) = λ xs t. is xs ∙ ap (λ b. cond b (Some (f xs)) None) t in
    let both : (xs ys : List Row) → unary_rows op xs ≡ Some ys → (list_all fits xs ≡ true) × (f xs ≡ ys) = λ xs ys g. some-of (list_all fits xs) (f xs) ys (sym (is xs) ∙ g) in
    record {
      of_bags = λ xs ys zs s g.
          let P : List Row → Type 0 = λ l. SameRows l (f ys) in
          record { out = f ys; is = there ys (SameRows-all s fits (both xs zs g).0); same = subst P (both xs zs g).1 (linear-same lin s) };
      joins = λ n s s' base m h run. record {
        out = f base;
        is = there base (SameRows-all h fits (joined-all fits n s (λ w l. (both (s w) (s' w) (run w l)).0)));
        same = SameRows-trans (linear-joined lin n s s' (λ w l. (both (s w) (s' w) (run w l)).1)) (linear-same lin h);
      };
      splits = λ n s base out m h g w l.
          let P : Option (List Row) → Type 0 = λ o. IsSome o in subst P (sym (there (s w) (stream-all n s base h fits (both base out g).0 w l))) refl;
      keyed = λ keys x h xs ys g ks. let P : List Row → Type 0 = λ l. HasKey x l in subst P (both xs ys g).1 (keyed keys x h xs ks);
    }

-- where there is always one
by-row : (goes : Routing) (op : Unary) (f : List Row → List Row) → ((xs : List Row) → unary_rows op xs ≡ Some (f xs)) → Linear f
    → ((keys : List (List ℕ)) (x : List ℕ) → unary_keys op keys x ≡ true → (xs : List Row) → KeysHold keys xs → HasKey x (f xs))
    → Whole goes op
by-row goes op f is lin keyed =
    whole-by goes op f is (λ xs ys s. linear-same lin s) (λ n s s' base m h run. SameRows-trans (linear-joined lin n s s' run) (linear-same lin h)) keyed

pub whole : (goes : Routing) (op : Unary) → (is_partial op || is_final op) ≡ false → is_limit op ≡ false → Whole goes op
whole goes (select fs) e f = by-fitting-row goes (select fs) (filters_fit fs) (filter (filters_hold fs)) (λ xs. refl) (Linear-filter (filters_hold fs))
    (λ keys x h xs ks row. let a = count-filter (agree x row) (filters_hold fs) xs in let b = covers-key keys x h xs ks row in omega (arith, a, b))
whole goes (project es) e f = by-fitting-row goes (project es) (entries_fit es) (map (entries_row es)) (λ xs. refl) (Linear-map (entries_row es))
    (λ keys x h xs ks. entries-key es keys x h xs ks)
whole goes (distinct cols) e f = whole-by goes (distinct cols) (λ xs. firsts (map (pick cols) xs)) (λ xs. refl)
    (λ xs ys s. firsts-same (picks-same cols s)) (λ n s s' base m h run. firsts-joined goes m.0 m.1 cols n s s' base m.2 run h m.3)
    (λ keys x h xs ks. distinct-key cols x xs (and-left (within (numbers_below (length cols)) x) (within x (numbers_below (length cols))) h))
whole goes (sort of_parts order) e f = by-row goes (sort of_parts order) (sort_on order) (λ xs. refl) (Linear-sort order)
    (λ keys x h xs ks row.
    let a = sort-total (λ r. cond (agree x row r) 1 0) order xs in
    let b = covers-key keys x (and-right (not of_parts) (covers keys x) h) xs ks row in
    omega (arith, a, b))
whole goes (group partial by aggregates) e f = absurd (true≢false e)
whole goes (group final by aggregates) e f = absurd (true≢false e)
whole goes (limit n) e f = absurd (true≢false f)
whole goes (group plain by aggregates) e f =
    let fit : List Row → Bool = λ xs. list_all (group_fits by aggregates xs) (group_keys by xs) in
    let there : (xs : List Row) → fit xs ≡ true → group_rows by aggregates xs ≡ Some (groups by aggregates xs) = λ xs t. ap (λ b. cond b (Some (groups by aggregates xs)) None) t in
    let both : (xs ys : List Row) → group_rows by aggregates xs ≡ Some ys → (fit xs ≡ true) × (groups by aggregates xs ≡ ys) = λ xs ys g. some-of (fit xs) (groups by aggregates xs) ys g in
    record {
      of_bags = λ xs ys zs s g.
          let P : List Row → Type 0 = λ l. SameRows l (groups by aggregates ys) in
          record { out = groups by aggregates ys; is = there ys (fits-same-rows by aggregates xs ys s (both xs zs g).0); same = subst P (both xs zs g).1 (groups-same by aggregates xs ys s) };
      joins = λ n s s' base m h run. record {
        out = groups by aggregates base;
        is = there base (fits-joined goes m.0 m.1 by aggregates n s base m.2 h m.3 (λ w l. (both (s w) (s' w) (run w l)).0));
        same = groups-joined goes m.0 m.1 by aggregates n s base m.2 h m.3 s' (λ w l. (both (s w) (s' w) (run w l)).1);
      };
      splits = λ n s base out m h g w l.
          let P : Option (List Row) → Type 0 = λ o. IsSome o in
          subst P (sym (there (s w) (fits-split goes m.0 m.1 by aggregates n s base m.2 h m.3 (both base out g).0 w l))) refl;
      keyed = λ keys x h xs ys g ks. let P : List Row → Type 0 = λ l. HasKey x l in subst P (both xs ys g).1 (groups-key by x aggregates xs h);
    }
