-- Equal and fixed columns hold of each row that an operator makes, and so of each serial row.
use Rattle.std.proofs.Common.{ℕ, suc, ◌≡◌, ◌+◌, nat_lt, Bool, true, false, not, cond, ◌&&◌, ◌||◌, List, [], ◌∷◌, ◌++◌, map, filter, take, length, refl, sym, ap, ◌∙◌, subst, arith, true≢false, eqb-true, eq-eqb, Option, Some, None, length-append}
use Rattle.std.proofs.lemmas.List.{length-map}
use Rattle.std.specs.List.{list_all, AllByRecursion}
use Rattle.vx_rows_values.specs.Order.{order_columns}
use Rattle.vx_rows_values.specs.declared.value.ColType.{ColType}
use Rattle.vx_rows_values.specs.Lists.{is_some_list}
use Rattle.vx_rows_values.specs.Types.{Fits, type_of, type_at}
use Rattle.vx_rows_values.specs.Values.{Row, value_at, pick}
use Rattle.vx_rows_values.proofs.Booleans.{and-left, and-right, and-both}
use Rattle.vx_rows_values.proofs.Compare.{row_eq-same}
use Rattle.vx_catalog_relations.specs.Relation.{Relation}
use Rattle.vx_catalog_relations.specs.Catalog.{relation_at}
use Rattle.vx_plan_nodes.specs.Plan.{Condition, Entry, Aggregate, plain, partial, final, Unary, select, project, distinct, sort, group, limit, Binary, union, join, semi_join, Plan, scan, unary, binary, exchange}
use Rattle.vx_plan_nodes.specs.Types.{aggregate_type, entry_type, unary_types, binary_types, types_of, unary_width, binary_width, width}
use Rattle.vx_plan_nodes.specs.Typed.{type_eq, types_eq, is_pair, are_distinct_pairs, has_directions, is_unary, is_binary, is_kind, is_output, are_columns, may_merge, typed}
use Rattle.vx_plan_nodes.specs.Phases.{phase_fits, both_closed}
use Rattle.vx_plan_nodes.specs.Describe.{Copying, whole_rows, columns_kept, entries_kept, kept_column, left_of, right_of}
use Rattle.vx_plan_nodes.specs.Serial.{passes, filters_hold, filters_fit, entry_value, entries_row, entries_fit, firsts, matches, joined_with, is_matched, aggregate_of, of_key, group_keys, group_row, group_fits, group_rows, unary_rows, binary_rows, SerialResult, rows, overflow, or_overflow, after, serial}
use Rattle.vx_plan_facts.specs.Equal.{Equality, lifted, with_conditions, with_pairs, comparisons, equal_at}
use Rattle.vx_plan_facts.specs.Fixed.{Values, carried_values, tested_values, constants, shared_values, has_value, fixed_at}
use Rattle.vx_plan_facts.specs.RowFacts.{HasEqual, HasFixed, MeetsFacts, MeetsAt, EachMeets, EachWide, inputs_fit, all_inputs_fit, TypedInputsFit, ScanMeets, UnaryMeets, BinaryMeets, ExchangeMeets, SerialMeets}
use Rattle.vx_plan_facts.proofs.EachRow.{each-weaken, each-map, each-filter, each-append, each-flat, each-firsts, each-sort, each-take}
use Rattle.vx_plan_facts.proofs.Fitting.{where-fit-is, comparisons-hold}
use Rattle.vx_plan_facts.proofs.Columns.{HasCopies, whole-copies, kept-copies, kept-alone, entry-copies, left-copies, right-copies, equal-lifted, equal-either, equal-conditions, equal-pairs, has-filter, fixed-carried, fixed-shared, fixed-both, fixed-conditions, fixed-constants}

-- ---- rows read by scans

-- rows that fit types have a value for each
pub fits-wide : (types : List ColType) (xs : List Row) → AllByRecursion (Fits types) xs → EachWide (length types) xs
fits-wide types xs h = each-weaken (Fits types) (λ row. length row ≡ length types) (λ row f. sym (length-map row type_of) ∙ ap length f.types_are) xs h

pub scan-meets : ScanMeets
scan-meets catalog n c r m z xs h =
    each-weaken (λ row. length row ≡ length (catalog r).types) (MeetsAt catalog (scan n c r m z))
    (λ row e. record { wide = e; alike = λ a b t. ap (λ x. value_at row x) (eqb-true a b t); fixed = λ a v t. absurd (true≢false (sym t)) }) xs h

pub exchange-meets : ExchangeMeets
exchange-meets catalog n c k m p xs h = h

-- ---- operators over one input

-- a row of copies
copied-meets : (k : Copying) (v w : ℕ) (e : Equality) (f : Values) (row out : Row) → HasCopies k row out → length out ≡ w → MeetsFacts v e f row
    → MeetsFacts w (lifted k e) (carried_values k f) out
copied-meets k v w e f row out has wide t =
    record { wide = wide; alike = equal-lifted k e row out has t.alike; fixed = fixed-carried k f row out has t.fixed }

selected-meets : (cs : List Condition) (w : ℕ) (e : Equality) (f : Values) (row : Row) → passes cs row ≡ true → MeetsFacts w e f row
    → MeetsFacts w (with_conditions cs e) (shared_values w (with_conditions cs e) (λ c. tested_values cs c ++ f c)) row
selected-meets cs w e f row p t =
    let a : HasEqual (with_conditions cs e) row = equal-conditions cs e row p t.alike in
    record {
      wide = t.wide;
      alike = a;
      fixed = fixed-shared w (with_conditions cs e) (λ c. tested_values cs c ++ f c) row a (λ c. fixed-both (tested_values cs) f row (fixed-conditions cs row p) t.fixed c);
    }

picked-meet : (cols : List ℕ) (w : ℕ) (e : Equality) (f : Values) (xs : List Row) → AllByRecursion (MeetsFacts w e f) xs
    → AllByRecursion (MeetsFacts (length cols) (lifted (columns_kept cols) e) (carried_values (columns_kept cols) f)) (map (pick cols) xs)
picked-meet cols w e f xs h =
    each-map (MeetsFacts w e f) (MeetsFacts (length cols) (lifted (columns_kept cols) e) (carried_values (columns_kept cols) f)) (pick cols)
    (λ row t. copied-meets (columns_kept cols) w (length cols) e f row (pick cols row) (kept-alone cols row) (length-map cols (value_at row)) t) xs h

-- copies and constants
projected-meet : (es : List Entry) (w : ℕ) (e : Equality) (f : Values) (xs : List Row) → AllByRecursion (MeetsFacts w e f) xs
    → AllByRecursion (MeetsFacts (length es) (lifted (entries_kept (map kept_column es)) e) (λ c. carried_values (entries_kept (map kept_column es)) f c ++ constants es c)) (map (entries_row es) xs)
projected-meet es w e f xs h =
    let k : Copying = entries_kept (map kept_column es) in
    each-map (MeetsFacts w e f) (MeetsFacts (length es) (lifted k e) (λ c. carried_values k f c ++ constants es c)) (entries_row es)
    (λ row t.
    let out : Row = entries_row es row in
    let copies : HasCopies k row out = entry-copies es row in
    record {
      wide = length-map es (λ x. entry_value x row);
      alike = equal-lifted k e row out copies t.alike;
      fixed = fixed-both (carried_values k f) (constants es) out (fixed-carried k f row out copies t.fixed) (fixed-constants es row);
    }) xs h

-- the row of a group begins with the key of an input row
grouped-meet : (by : List ℕ) (aggregates : List Aggregate) (w : ℕ) (e : Equality) (f : Values) (xs : List Row) → AllByRecursion (MeetsFacts w e f) xs
    → AllByRecursion (MeetsFacts (length by + length aggregates) (lifted (columns_kept by) e) (carried_values (columns_kept by) f))
    (map (group_row by aggregates xs) (group_keys by xs))
grouped-meet by aggregates w e f xs h =
    let Key : Row → Type 0 = λ key. (row : Row) × MeetsFacts w e f row × (pick by row ≡ key) in
    let Out : Row → Type 0 = MeetsFacts (length by + length aggregates) (lifted (columns_kept by) e) (carried_values (columns_kept by) f) in
    each-map Key Out (group_row by aggregates xs)
    (λ key k.
    let tail : Row = map (λ a. aggregate_of a (of_key by key xs)) aggregates in
    let a : length (pick by k.0 ++ tail) ≡ length (pick by k.0) + length tail = length-append (pick by k.0) tail in
    let b : length (pick by k.0) ≡ length by = length-map by (value_at k.0) in
    let d : length tail ≡ length aggregates = length-map aggregates (λ a. aggregate_of a (of_key by key xs)) in
    let good : Out (pick by k.0 ++ tail)
    = copied-meets (columns_kept by) w (length by + length aggregates) e f k.0 (pick by k.0 ++ tail) (kept-copies by k.0 tail) (omega arith) k.1 in
    subst (λ x. Out (x ++ tail)) k.2 good)
    (group_keys by xs)
    (each-firsts Key (map (pick by) xs) (each-map (MeetsFacts w e f) Key (pick by) (λ row t. (row, t, refl)) xs h))

-- a row of the input as it is
whole-meets : (catalog : ℕ → Relation) (p : Plan) (row : Row) → MeetsAt catalog p row
    → MeetsFacts (width catalog p) (lifted whole_rows (equal_at catalog p)) (carried_values whole_rows (fixed_at catalog p)) row
whole-meets catalog p row t =
    copied-meets whole_rows (width catalog p) (width catalog p) (equal_at catalog p) (fixed_at catalog p) row row (whole-copies row) t.wide t

some-is : (xs ys : List Row) → Some xs ≡ Some ys → xs ≡ ys
some-is xs ys e = cc

some-where : (b : Bool) (xs ys : List Row) → cond b (Some xs) None ≡ Some ys → xs ≡ ys
some-where true xs ys e = some-is xs ys e
some-where false xs ys e = cc

group-meets : (catalog : ℕ → Relation) (p : Plan) (by : List ℕ) (aggregates : List Aggregate) (xs ys : List Row) → group_rows by aggregates xs ≡ Some ys
    → EachMeets catalog p xs
    → AllByRecursion (MeetsFacts (length by + length aggregates) (lifted (columns_kept by) (equal_at catalog p)) (carried_values (columns_kept by) (fixed_at catalog p))) ys
group-meets catalog p by aggregates xs ys e h =
    let Out : Row → Type 0 = MeetsFacts (length by + length aggregates) (lifted (columns_kept by) (equal_at catalog p)) (carried_values (columns_kept by) (fixed_at catalog p)) in
    subst (AllByRecursion Out)
    (some-where (list_all (group_fits by aggregates xs) (group_keys by xs)) (map (group_row by aggregates xs) (group_keys by xs)) ys e)
    (grouped-meet by aggregates (width catalog p) (equal_at catalog p) (fixed_at catalog p) xs h)

pub unary-meets : UnaryMeets
unary-meets catalog n c (select fs) p xs ys e h =
    let N : Plan = unary n c (select fs) p in
    subst (EachMeets catalog N) (where-fit-is (filters_fit fs) xs (filter (filters_hold fs) xs) ys e)
    (each-filter (MeetsAt catalog p) (MeetsAt catalog N) (filters_hold fs)
    (λ row t k. selected-meets (comparisons fs) (width catalog p) (equal_at catalog p) (fixed_at catalog p) row (comparisons-hold fs row t) k) xs h)
unary-meets catalog n c (project es) p xs ys e h =
    subst (EachMeets catalog (unary n c (project es) p)) (where-fit-is (entries_fit es) xs (map (entries_row es) xs) ys e)
    (projected-meet es (width catalog p) (equal_at catalog p) (fixed_at catalog p) xs h)
unary-meets catalog n c (distinct cols) p xs ys e h =
    let N : Plan = unary n c (distinct cols) p in
    subst (EachMeets catalog N) (some-is (firsts (map (pick cols) xs)) ys e)
    (each-firsts (MeetsAt catalog N) (map (pick cols) xs) (picked-meet cols (width catalog p) (equal_at catalog p) (fixed_at catalog p) xs h))
unary-meets catalog n c (sort of_parts cols) p xs ys e h =
    let N : Plan = unary n c (sort of_parts cols) p in
    subst (EachMeets catalog N) (some-is _ ys e)
    (each-sort (MeetsAt catalog N) cols xs (each-weaken (MeetsAt catalog p) (MeetsAt catalog N) (whole-meets catalog p) xs h))
unary-meets catalog n c (group plain by aggregates) p xs ys e h = group-meets catalog p by aggregates xs ys e h
unary-meets catalog n c (group partial by aggregates) p xs ys e h = group-meets catalog p by aggregates xs ys e h
unary-meets catalog n c (group final by aggregates) p xs ys e h = group-meets catalog p by aggregates xs ys e h
unary-meets catalog n c (limit m) p xs ys e h =
    let N : Plan = unary n c (limit m) p in
    subst (EachMeets catalog N) (some-is (take m xs) ys e)
    (each-take (MeetsAt catalog N) m xs (each-weaken (MeetsAt catalog p) (MeetsAt catalog N) (whole-meets catalog p) xs h))

-- ---- operators over two inputs

pub binary-meets : BinaryMeets
binary-meets catalog n c union p q fit xs ys h k =
    let N : Plan = binary n c union p q in
    let same : width catalog p ≡ width catalog q = eqb-true (width catalog p) (width catalog q) fit in
    each-append (MeetsAt catalog N) xs ys
    (each-weaken (MeetsAt catalog p) (MeetsAt catalog N)
    (λ row t. record {
      wide = t.wide;
      alike = λ a b e. t.alike a b (and-left (equal_at catalog p a b) (equal_at catalog q a b) e);
      fixed = λ d v e. t.fixed d v (has-filter (has_value (fixed_at catalog q d)) (fixed_at catalog p d) v e).0;
    }) xs h)
    (each-weaken (MeetsAt catalog q) (MeetsAt catalog N)
    (λ row t. record {
      wide = t.wide ∙ sym same;
      alike = λ a b e. t.alike a b (and-right (equal_at catalog p a b) (equal_at catalog q a b) e);
      fixed = λ d v e. t.fixed d v (has-filter (has_value (fixed_at catalog q d)) (fixed_at catalog p d) v e).1;
    }) ys k)
binary-meets catalog n c (join m on) p q fit xs ys h k =
    let N : Plan = binary n c (join m on) p q in
    each-flat (MeetsAt catalog p) (MeetsAt catalog N) (joined_with on ys)
    (λ l lk.
    let Right : Row → Type 0 = λ r. MeetsAt catalog q r × (matches on l r ≡ true) in
    each-map Right (MeetsAt catalog N) (λ r. l ++ r) (λ r rk. together l r lk rk.0 rk.1)
    (filter (matches on l) ys) (each-filter (MeetsAt catalog q) Right (matches on l) (λ r e t. (t, e)) ys k))
    xs h
  where
    together : (l r : Row) → MeetsAt catalog p l → MeetsAt catalog q r → matches on l r ≡ true → MeetsAt catalog (binary n c (join m on) p q) (l ++ r)
    together l r lk rk e =
        let v : ℕ = width catalog p in
        let w : ℕ = width catalog q in
        let le : Equality = lifted (left_of v) (equal_at catalog p) in
        let re : Equality = lifted (right_of v) (equal_at catalog q) in
        let lf : Values = carried_values (left_of v) (fixed_at catalog p) in
        let rf : Values = carried_values (right_of v) (fixed_at catalog q) in
        let lc : HasCopies (left_of v) l (l ++ r) = left-copies v l r lk.wide in
        let rc : HasCopies (right_of v) r (l ++ r) = right-copies v l r lk.wide in
        let lh : HasEqual le (l ++ r) = equal-lifted (left_of v) (equal_at catalog p) l (l ++ r) lc lk.alike in
        let rh : HasEqual re (l ++ r) = equal-lifted (right_of v) (equal_at catalog q) r (l ++ r) rc rk.alike in
        let a : HasEqual (with_pairs v on (λ a b. le a b || re a b)) (l ++ r)
        = equal-pairs v on (λ a b. le a b || re a b) l r lk.wide fit (row_eq-same (pick (map (λ p. p.0) on) l) (pick (map (λ p. p.1) on) r) e)
        (equal-either le re (l ++ r) lh rh) in
        let lv : HasFixed lf (l ++ r) = fixed-carried (left_of v) (fixed_at catalog p) l (l ++ r) lc lk.fixed in
        let rv : HasFixed rf (l ++ r) = fixed-carried (right_of v) (fixed_at catalog q) r (l ++ r) rc rk.fixed in
        let long : length (l ++ r) ≡ length l + length r = length-append l r in
        let lwide : length l ≡ v = lk.wide in
        let rwide : length r ≡ w = rk.wide in
        record {
          wide = omega arith;
          alike = a;
          fixed = fixed-shared (v + w) (with_pairs v on (λ a b. le a b || re a b)) (λ d. lf d ++ rf d) (l ++ r) a (λ d. fixed-both lf rf (l ++ r) lv rv d);
        }
binary-meets catalog n c (semi_join true on conditions) p q fit xs ys h k =
    each-filter (MeetsAt catalog p) (MeetsAt catalog p) (is_matched on conditions ys) (λ row e t. t) xs h
binary-meets catalog n c (semi_join false on conditions) p q fit xs ys h k =
    each-filter (MeetsAt catalog p) (MeetsAt catalog p) (λ l. not (is_matched on conditions ys l)) (λ row e t. t) xs h

-- ---- serial rows

pub serial-meets : SerialMeets
serial-meets catalog db wide (scan n c r m z) xs fit e =
    let k : db r ≡ xs = cc in
    subst (EachMeets catalog (scan n c r m z)) k (scan-meets catalog n c r m z (db r) (wide r))
serial-meets catalog db wide (unary n c op p) xs fit e =
    go (serial db p) (λ ys t. serial-meets catalog db wide p ys fit t) e
  where
    done : (o : Option (List Row)) (ys : List Row) → EachMeets catalog p ys → unary_rows op ys ≡ o → or_overflow n o ≡ rows xs → EachMeets catalog (unary n c op p) xs
    done (Some zs) ys h k e =
        let a : zs ≡ xs = cc in
        subst (EachMeets catalog (unary n c op p)) a (unary-meets catalog n c op p ys zs k h)
    done None ys h k e = cc

    go : (o : SerialResult) → ((ys : List Row) → o ≡ rows ys → EachMeets catalog p ys) → after o (λ ys. or_overflow n (unary_rows op ys)) ≡ rows xs
        → EachMeets catalog (unary n c op p) xs
    go (rows ys) ih e = done (unary_rows op ys) ys (ih ys refl) refl e
    go (overflow m) ih e = cc
serial-meets catalog db wide (binary n c op p q) xs fit e =
    let fp : Bool = all_inputs_fit catalog p in
    let fq : Bool = all_inputs_fit catalog q in
    let here : Bool = inputs_fit (width catalog p) (width catalog q) op in
    let later = and-right fp (fq && here) fit in
    go (serial db p) (serial db q) (and-right fq here later)
    (λ ys t. serial-meets catalog db wide p ys (and-left fp (fq && here) fit) t) (λ ys t. serial-meets catalog db wide q ys (and-left fq here later) t) e
  where
    go : (o u : SerialResult) → inputs_fit (width catalog p) (width catalog q) op ≡ true
        → ((ys : List Row) → o ≡ rows ys → EachMeets catalog p ys) → ((ys : List Row) → u ≡ rows ys → EachMeets catalog q ys)
        → after o (λ ys. after u (λ zs. rows (binary_rows op ys zs))) ≡ rows xs → EachMeets catalog (binary n c op p q) xs
    go (rows ys) (rows zs) f ih jh e =
        let a : binary_rows op ys zs ≡ xs = cc in
        subst (EachMeets catalog (binary n c op p q)) a (binary-meets catalog n c op p q f ys zs (ih ys refl) (jh zs refl))
    go (rows ys) (overflow m) f ih jh e = cc
    go (overflow m) u f ih jh e = cc
serial-meets catalog db wide (exchange n c k m p) xs fit e = exchange-meets catalog n c k m p xs (serial-meets catalog db wide p xs fit e)

-- ---- typed plans

unary_types-width : (op : Unary) (types : List ColType) → length (unary_types op types) ≡ unary_width op (length types)
unary_types-width (select cs) types = refl
unary_types-width (project es) types = length-map es (entry_type types)
unary_types-width (distinct cols) types = length-map cols (type_at types)
unary_types-width (sort of_parts cols) types = refl
unary_types-width (group phase by aggregates) types =
    length-append (map (type_at types) by) (map (aggregate_type types) aggregates)
    ∙ ap (λ k. k + length (map (aggregate_type types) aggregates)) (length-map by (type_at types))
    ∙ ap (λ k. length by + k) (length-map aggregates (aggregate_type types))
unary_types-width (limit m) types = refl

binary_types-width : (op : Binary) (ts us : List ColType) → length (binary_types op ts us) ≡ binary_width op (length ts) (length us)
binary_types-width union ts us = refl
binary_types-width (join m on) ts us = length-append ts us
binary_types-width (semi_join matched on conditions) ts us = refl

-- as many types as columns
types-width : (catalog : ℕ → Relation) (p : Plan) → length (types_of catalog p) ≡ width catalog p
types-width catalog (scan n c r m z) = refl
types-width catalog (unary n c op p) = unary_types-width op (types_of catalog p) ∙ ap (unary_width op) (types-width catalog p)
types-width catalog (binary n c op p q) =
    binary_types-width op (types_of catalog p) (types_of catalog q)
    ∙ ap (λ k. binary_width op k (length (types_of catalog q))) (types-width catalog p)
    ∙ ap (binary_width op (width catalog p)) (types-width catalog q)
types-width catalog (exchange n c k m p) = types-width catalog p

same-types : (ts us : List ColType) → types_eq ts us ≡ true → length ts ≡ length us
same-types [] [] h = refl
same-types [] (u ∷ us) h = absurd (true≢false (sym h))
same-types (t ∷ ts) [] h = absurd (true≢false (sym h))
same-types (t ∷ ts) (u ∷ us) h = ap suc (same-types ts us (and-right (type_eq t u) (types_eq ts us) h))

pairs-below : (ts us : List ColType) (on : List (ℕ × ℕ)) → list_all (is_pair ts us) on ≡ true → list_all (λ p. nat_lt p.0 (length ts)) on ≡ true
pairs-below ts us [] h = refl
pairs-below ts us (x ∷ on) h =
    let here = and-left (is_pair ts us x) (list_all (is_pair ts us) on) h in
    and-both (nat_lt x.0 (length ts)) (list_all (λ p. nat_lt p.0 (length ts)) on)
    (and-left (nat_lt x.0 (length ts)) (nat_lt x.1 (length us) && type_eq (type_at ts x.0) (type_at us x.1)) here)
    (pairs-below ts us on (and-right (is_pair ts us x) (list_all (is_pair ts us) on) h))

typed-fits : (ts us : List ColType) (op : Binary) → is_binary ts us op ≡ true → inputs_fit (length ts) (length us) op ≡ true
typed-fits ts us union h = eq-eqb (length ts) (length us) (same-types ts us h)
typed-fits ts us (join m on) h =
    let pairs : Bool = list_all (is_pair ts us) on in
    let rest : Bool = are_distinct_pairs on && has_directions m on in
    pairs-below ts us on (and-left pairs rest (and-right (is_some_list on) (pairs && rest) h))
typed-fits ts us (semi_join matched on conditions) h = refl

pub typed-inputs-fit : TypedInputsFit
typed-inputs-fit s (scan n c r m z) h = refl
typed-inputs-fit s (unary n c op p) h =
    let rest : Bool = phase_fits op p && (is_unary (types_of (relation_at s.catalog) p) op && is_output s (types_of (relation_at s.catalog) (unary n c op p)) c) in
    typed-inputs-fit s p (and-left (typed s p) rest h)
typed-inputs-fit s (binary n c op p q) h =
    let cat : ℕ → Relation = relation_at s.catalog in
    let here : Bool = is_binary (types_of cat p) (types_of cat q) op in
    let out : Bool = is_output s (types_of cat (binary n c op p q)) c in
    let after_p = and-right (typed s p) (typed s q && (both_closed p q && (here && out))) h in
    let after_q = and-right (typed s q) (both_closed p q && (here && out)) after_p in
    let is : here ≡ true = and-left here out (and-right (both_closed p q) (here && out) after_q) in
    let fits : inputs_fit (length (types_of cat p)) (length (types_of cat q)) op ≡ true = typed-fits (types_of cat p) (types_of cat q) op is in
    let at_p : inputs_fit (width cat p) (length (types_of cat q)) op ≡ true = subst (λ v. inputs_fit v (length (types_of cat q)) op ≡ true) (types-width cat p) fits in
    let at_q : inputs_fit (width cat p) (width cat q) op ≡ true = subst (λ w. inputs_fit (width cat p) w op ≡ true) (types-width cat q) at_p in
    and-both (all_inputs_fit cat p) (all_inputs_fit cat q && inputs_fit (width cat p) (width cat q) op)
    (typed-inputs-fit s p (and-left (typed s p) (typed s q && (both_closed p q && (here && out))) h))
    (and-both (all_inputs_fit cat q) (inputs_fit (width cat p) (width cat q) op) (typed-inputs-fit s q (and-left (typed s q) (both_closed p q && (here && out)) after_p)) at_q)
typed-inputs-fit s (exchange n c k m p) h =
    let ts : List ColType = types_of (relation_at s.catalog) p in
    let rest : Bool = is_kind s ts k && (are_columns (length ts) (order_columns m) && (may_merge k m && is_output s ts c)) in
    typed-inputs-fit s p (and-left (typed s p) rest h)
