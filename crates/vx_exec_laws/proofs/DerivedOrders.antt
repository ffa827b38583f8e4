-- Orders that follow from those that the table shows: by copies of equal columns, and of lists one behind the other.
use Rattle.std.proofs.Common.{◌≡◌, ℕ, zero, suc, ◌<◌, ◌==◌, Bool, true, false, cond, not, ◌&&◌, List, [], ◌∷◌, filter, refl, sym, ap, ap₂, subst, arith, true≢false, eqb-true, is_le, Ordering, Less, Equal, Greater, Option, Some, None}
use Rattle.std.specs.List.{list_all, AllByRecursion}
use Rattle.std.specs.Ordering.{ordering_then, ordering_reverse}
use Rattle.vx_rows_values.specs.declared.order.OrderEntry.{OrderEntry}
use Rattle.vx_rows_values.specs.Values.{Row, val_cmp, value_at, pick}
use Rattle.vx_rows_values.specs.Order.{compare_on, sorted}
use Rattle.vx_rows_values.proofs.Compare.{compare_on_total}
use Rattle.vx_plan_nodes.specs.Plan.{by_hash, by_range, Part, one, any, all, routed, Unary, select, project, distinct, sort, group, plain, partial, final, limit}
use Rattle.vx_plan_nodes.specs.Phases.{first_columns}
use Rattle.vx_plan_nodes.specs.Describe.{Copying, columns_kept, source, described}
use Rattle.vx_plan_nodes.specs.Streams.{Streams, joined}
use Rattle.vx_plan_nodes.specs.Routes.{Routing}
use Rattle.vx_plan_facts.specs.Equal.{Equality}
use Rattle.vx_plan_facts.specs.Fixed.{Values}
use Rattle.vx_plan_facts.specs.Determined.{Columns, column_in}
use Rattle.vx_plan_facts.specs.Following.{equal_entries, begins_equally, short}
use Rattle.vx_plan_facts.specs.FollowLaws.{Occurs}
use Rattle.vx_plan_facts.proofs.EachRow.{each-weaken, each-has, each-joined}
use Rattle.vx_check_rules.specs.Rules.{is_front, entry_at, entry_both}
use Rattle.vx_check_rules.specs.Behaviour.{order_sources, order_after}
use Rattle.vx_check_rules.specs.Derived.{first_of, copy_of, copies_then, front_copies, rises_equally, unary_order}
use Rattle.vx_check_rules.proofs.Exact.{order-whole_rows}
use Rattle.vx_exec_laws.proofs.Bags.{and-left, and-right, and-both}
use Rattle.vx_exec_laws.proofs.Entries.{kept_of}
use Rattle.vx_exec_laws.proofs.OrderFacts.{rise, way-self, front-self}
use Rattle.vx_exec_laws.proofs.Concat.{sorted-two, Rising}
use Rattle.vx_exec_laws.proofs.Places.{Placed}
use Rattle.vx_exec_laws.proofs.DerivedPairs.{Pairs, pairs-among, order-from, begins-from}
use Rattle.vx_exec_laws.proofs.DerivedParts.{column-is}

-- ---- copies of equal columns

first-is : (p : ℕ → Bool) (xs : List ℕ) (c : ℕ) → first_of (filter p xs) ≡ Some c → p c ≡ true
first-is p [] c e = cc
first-is p (x ∷ xs) c e = go (p x) refl e (first-is p xs c)
  where
    go : (b : Bool) → p x ≡ b → first_of (cond b (x ∷ filter p xs) (filter p xs)) ≡ Some c → (first_of (filter p xs) ≡ Some c → p c ≡ true) → p c ≡ true
    go true t e more = let s : x ≡ c = cc in let P : ℕ → Type 0 = λ v. p v ≡ true in subst P s t
    go false t e more = more e

-- the copies in front are of columns that begin the order, up to equal ones
front-stand : (w : ℕ) (k : Copying) (e : Equality) (xs : List OrderEntry) → (ys : List OrderEntry) × (order_sources k (front_copies w k e xs) ≡ Some ys) × (begins_equally e ys xs ≡ true)
front-stand w k e [] = ([], refl, refl)
front-stand w k e (x ∷ xs) = go (copy_of w k e x.column) refl (front-stand w k e xs)
  where
    go : (o : Option ℕ) → copy_of w k e x.column ≡ o → (ys : List OrderEntry) × (order_sources k (front_copies w k e xs) ≡ Some ys) × (begins_equally e ys xs ≡ true)
        → (ys : List OrderEntry) × (order_sources k (copies_then o x.falling (front_copies w k e xs)) ≡ Some ys) × (begins_equally e ys (x ∷ xs) ≡ true)
    go None h r = ([], refl, refl)
    go (Some c) h r =
        let y = column-is e x.column (source k c) (first-is (λ d. column_in (λ y. e y x.column) (source k d)) (first_columns w) c h) in (
          entry_at y.0 x ∷ r.0,
          ap₂ (λ o more. entry_both o (entry_at c x) more) y.1 r.1,
          and-both (equal_entries e (entry_at y.0 x) x) (begins_equally e r.0 xs) (and-both (e y.0 x.column) (cond x.falling x.falling (not x.falling)) y.2 (way-self x.falling)) r.2,
        )

-- an order of the input in which rows are that are in order there, and the order that the operator gives of it
pub record GivenBy (op : Unary) (e : Equality) (f : Values) (det : Columns → Columns) (below order : List OrderEntry) : Type 0 where
  pub sources_are : List OrderEntry
  pub under : List OrderEntry
  pub are_sources : order_sources (described op).copying order ≡ Some sources_are
  pub in_front : is_front sources_are (order_after (described op).order under) ≡ true
  pub in_order : (v : ℕ) (xs : List Row) → Pairs v e f det xs → sorted below xs ≡ true → sorted under xs ≡ true

copies-given : (op : Unary) (w : ℕ) (k : Copying) (e : Equality) (f : Values) (det : Columns → Columns) (below : List OrderEntry)
    → ((ys : List OrderEntry) → order_sources k (front_copies w k e (short det below)) ≡ Some ys → begins_equally e ys (short det below) ≡ true
    → GivenBy op e f det below (front_copies w k e (short det below))) → GivenBy op e f det below (front_copies w k e (short det below))
copies-given op w k e f det below by = let r = front-stand w k e (short det below) in by r.0 r.1 r.2

pub unary-given : (w : ℕ) (op : Unary) (e : Equality) (f : Values) (det : Columns → Columns) (below : List OrderEntry) → GivenBy op e f det below (unary_order w op e det below)
unary-given w (select fs) e f det below =
    record { sources_are = below; under = below; are_sources = order-whole_rows below; in_front = front-self below; in_order = λ v xs h u. u }
unary-given w (sort of_parts order) e f det below =
    record { sources_are = order; under = below; are_sources = order-whole_rows order; in_front = front-self order; in_order = λ v xs h u. u }
unary-given w (limit m) e f det below =
    record { sources_are = below; under = below; are_sources = order-whole_rows below; in_front = front-self below; in_order = λ v xs h u. u }
unary-given w (project es) e f det below = copies-given (project es) w (kept_of es) e f det below
    (λ ys s b. record { sources_are = ys; under = ys; are_sources = s; in_front = front-self ys; in_order = λ v xs h u. begins-from v e f det xs h below ys b u })
unary-given w (distinct cols) e f det below = copies-given (distinct cols) w (columns_kept cols) e f det below
    (λ ys s b. record { sources_are = ys; under = ys; are_sources = s; in_front = front-self ys; in_order = λ v xs h u. begins-from v e f det xs h below ys b u })
unary-given w (group plain by aggregates) e f det below = copies-given (group plain by aggregates) w (columns_kept by) e f det below
    (λ ys s b. record { sources_are = ys; under = ys; are_sources = s; in_front = front-self ys; in_order = λ v xs h u. begins-from v e f det xs h below ys b u })
unary-given w (group partial by aggregates) e f det below = copies-given (group partial by aggregates) w (columns_kept by) e f det below
    (λ ys s b. record { sources_are = ys; under = ys; are_sources = s; in_front = front-self ys; in_order = λ v xs h u. begins-from v e f det xs h below ys b u })
unary-given w (group final by aggregates) e f det below = copies-given (group final by aggregates) w (columns_kept by) e f det below
    (λ ys s b. record { sources_are = ys; under = ys; are_sources = s; in_front = front-self ys; in_order = λ v xs h u. begins-from v e f det xs h below ys b u })

-- ---- lists one behind the other

pub each-all : (P : Row → Type 0) (q : Row → Bool) → ((row : Row) → P row → q row ≡ true) → (xs : List Row) → AllByRecursion P xs → list_all q xs ≡ true
each-all P q f [] h = refl
each-all P q f (x ∷ xs) h = and-both (q x) (list_all q xs) (f x h.0) (each-all P q f xs h.1)

-- each row stands in the list of its place, and one with a smaller place is smaller
joined-order : (order : List OrderEntry) (place : Row → ℕ) (whole : List Row)
    → ((x y : Row) → Occurs x whole → Occurs y whole → place x < place y → is_le (compare_on order x y) ≡ true)
    → (m : ℕ) (s : Streams) → ((i : ℕ) → i < m → AllByRecursion (λ row. Occurs row whole × (place row ≡ i)) (s i)) → ((i : ℕ) → i < m → sorted order (s i) ≡ true)
    → sorted order (joined m s) ≡ true
joined-order order place whole below zero s at up = refl
joined-order order place whole below (suc m) s at up =
    let At : ℕ → Row → Type 0 = λ i row. Occurs row whole × (place row ≡ i) in
    let Before : Row → Type 0 = λ row. Occurs row whole × (place row < m) in
    let before : AllByRecursion Before (joined m s)
    = each-joined Before m s (λ i l. each-weaken (At i) Before (λ row h. let e = h.1 in (h.0, omega (arith, e, l))) (s i) (at i (omega arith))) in
    sorted-two order (joined m s) (s m) (joined-order order place whole below m s (λ i l. at i (omega arith)) (λ i l. up i (omega arith))) (up m (omega arith))
    (each-all Before (λ x. list_all (λ y. is_le (compare_on order x y)) (s m))
    (λ x hx. each-all (At m) (λ y. is_le (compare_on order x y)) (λ y hy. let a = hx.1 in let b = hy.1 in below x y hx.0 hy.0 (omega (arith, a, b))) (s m) (at m (omega arith)))
    (joined m s) before)

then-equal : (o : Ordering) → is_le (ordering_then o Equal) ≡ true → is_le o ≡ true
then-equal Less h = refl
then-equal Equal h = refl
then-equal Greater h = h

other-way : (o p : Ordering) → p ≡ ordering_reverse o → is_le o ≡ false → is_le p ≡ true
other-way Less p e h = absurd (true≢false h)
other-way Equal p e h = absurd (true≢false h)
other-way Greater p e h = ap is_le e

pub ranged-equally : (goes : Routing) → Rising goes → (v : ℕ) (e : Equality) (f : Values) (det : Columns → Columns) (q : Part) (order : List OrderEntry) (m : ℕ) (s : Streams) → rises_equally e det q order ≡ true
    → Pairs v e f det (joined m s) → ((i : ℕ) → i < m → sorted order (s i) ≡ true) → ((i : ℕ) → i < m → AllByRecursion (λ row. Occurs row (joined m s)) (s i))
    → ((i : ℕ) → i < m → Placed goes q m i (s i)) → sorted order (joined m s) ≡ true
ranged-equally goes rising v e f det one order m s t h up among at = absurd (true≢false (sym t))
ranged-equally goes rising v e f det any order m s t h up among at = absurd (true≢false (sym t))
ranged-equally goes rising v e f det all order m s t h up among at = absurd (true≢false (sym t))
ranged-equally goes rising v e f det (routed (by_hash name) cols) order m s t h up among at = absurd (true≢false (sym t))
ranged-equally goes rising v e f det (routed (by_range k) []) order m s t h up among at = absurd (true≢false (sym t))
ranged-equally goes rising v e f det (routed (by_range k) (a ∷ b ∷ cols)) order m s t h up among at = absurd (true≢false (sym t))
ranged-equally goes rising v e f det (routed (by_range k) (c ∷ [])) order m s t h up among at =
    joined-order order place whole smaller m s (λ i l. with-place i (s i) (among i l) (at i l)) up
  where
    whole : List Row
    whole = joined m s

    place : Row → ℕ
    place row = goes (by_range k) (pick (c ∷ []) row) m

    with-place : (i : ℕ) (xs : List Row) → AllByRecursion (λ row. Occurs row (joined m s)) xs → list_all (λ row. place row == i) xs ≡ true
        → AllByRecursion (λ row. Occurs row (joined m s) × (place row ≡ i)) xs
    with-place i [] o p = tt
    with-place i (x ∷ xs) o p =
        ((o.0, eqb-true (place x) i (and-left (place x == i) (list_all (λ row. place row == i) xs) p)), with-place i xs o.1 (and-right (place x == i) (list_all (λ row. place row == i) xs) p))

    smaller : (x y : Row) → Occurs x (joined m s) → Occurs y (joined m s) → place x < place y → is_le (compare_on order x y) ≡ true
    smaller x y ox oy l = go (is_le (compare_on order x y)) refl
      where
        go : (b : Bool) → is_le (compare_on order x y) ≡ b → b ≡ true
        go true g = refl
        go false g =
            let back : is_le (compare_on order y x) ≡ true = other-way (compare_on order x y) (compare_on order y x) ((compare_on_total order).antisymm y x) g in
            let two : sorted order (y ∷ x ∷ []) ≡ true = and-both (is_le (compare_on order y x) && true) true (and-both (is_le (compare_on order y x)) true back refl) refl in
            let pairs : Pairs v e f det (y ∷ x ∷ []) = pairs-among v e f det (y ∷ x ∷ []) (joined m s)
            (λ row o. each-has (λ r. Occurs r (joined m s)) row (y ∷ x ∷ []) (oy, (ox, tt)) o) h in
            let on_c : sorted (rise c ∷ []) (y ∷ x ∷ []) ≡ true = order-from v e f det (y ∷ x ∷ []) pairs order (rise c ∷ []) t two in
            let le : is_le (compare_on (rise c ∷ []) y x) ≡ true = and-left (is_le (compare_on (rise c ∷ []) y x)) true (and-left (is_le (compare_on (rise c ∷ []) y x) && true) true on_c) in
            let r = rising k (pick (c ∷ []) y) (pick (c ∷ []) x) m (then-equal (val_cmp (value_at y c) (value_at x c)) le) in
            absurd (omega (arith, l, r))
