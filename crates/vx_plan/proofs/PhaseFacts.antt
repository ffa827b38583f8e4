-- Grouping in two phases: a final group that was found over its partial one is typed.
use Rattle.std.proofs.Common.{◌≡◌, ℕ, zero, suc, ◌+◌, ◌<◌, ◌≤◌, ◌==◌, nat_lt, true, false, not, ◌&&◌, ◌||◌, List, [], ◌∷◌, ◌++◌, map, length, Some, is_some, refl, sym, ap, ◌∙◌, subst, arith, eq-eqb, lt-ltb, append_assoc, length-append, take, get_or}
use Rattle.std.specs.List.{list_all, list_any}
use Rattle.std.proofs.lemmas.List.{length-map, length-take-le, map_push}
use Rattle.vx_rows_values.specs.declared.value.ColType.{ColType}
use Rattle.vx_rows_values.specs.declared.value.ColType.TheVariants.{Int}
use Rattle.vx_rows_values.specs.Types.{type_at}
use Rattle.vx_rows_values.specs.Lists.{is_some_list}
use Rattle.vx_catalog_relations.specs.Catalog.{relation_at, all_below, are_distinct}
use Rattle.vx_rows_values.specs.Order.{order_columns}
use Rattle.vx_plan_nodes.specs.Plan.{Aggregate, least, greatest, sum, count_rows, select, project, distinct, sort, group, limit, plain, partial, final}
use Rattle.vx_plan_nodes.specs.Types.{types_of, aggregate_type}
use Rattle.vx_plan_nodes.specs.Typed.{type_eq, are_columns, is_aggregate, is_unary, is_output, is_kind, may_merge, typed}
use Rattle.vx_plan_nodes.specs.Phases.{columns_from, first_columns, merging, merged, aggregate_eq, aggregates_eq, columns_eq, is_open, opens, phase_fits}
use Rattle.vx_plan_nodes.specs.declared.typed.Aggregate as rust
use Rattle.vx_plan_nodes.specs.Outline.{Outline, aggregate_of, scan, unary, binary, exchange, plan_in}
use Rattle.vx_plan_nodes.specs.Names.{Names, scope_of}
use Rattle.vx_plan_nodes.proofs.ErasedFacts.{type-right}
use Rattle.vx_plan.specs.Resolve.{parts_of, sorts_before}
use Rattle.vx_plan.proofs.TestFacts.{taken_more}
use Rattle.vx_rows_values.proofs.Booleans.{and-left, and-right, and-both}

pub some-alike : {A B : Type 0} (xs : List A) (ys : List B) → length xs ≡ length ys → is_some_list xs ≡ is_some_list ys
some-alike [] [] e = refl
some-alike [] (y ∷ ys) e = cc
some-alike (x ∷ xs) [] e = cc
some-alike (x ∷ xs) (y ∷ ys) e = refl

-- ---- columns and aggregates, one after the other

columns-push : (i n : ℕ) → columns_from i (suc n) ≡ columns_from i n ++ (i + n) ∷ []
columns-push i zero = let e : i + 0 ≡ i = omega arith in ap (λ k. k ∷ []) (sym e)
columns-push i (suc n) =
    let e : suc i + n ≡ i + suc n = omega arith in
    ap (λ ks. i ∷ ks) (columns-push (suc i) n ∙ ap (λ k. columns_from (suc i) n ++ k ∷ []) e)

pub merged-push : (i : ℕ) (aggregates : List Aggregate) (a : Aggregate) → merged i (aggregates ++ a ∷ []) ≡ merged i aggregates ++ merging (i + length aggregates) a ∷ []
merged-push i [] a = let e : i + 0 ≡ i = omega arith in ap (λ k. merging k a ∷ []) (sym e)
merged-push i (b ∷ aggregates) a =
    let e : suc i + length aggregates ≡ i + suc (length aggregates) = omega arith in
    ap (λ ks. merging i b ∷ ks) (merged-push (suc i) aggregates a ∙ ap (λ k. merged (suc i) aggregates ++ merging k a ∷ []) e)

pub first_push : (n : ℕ) → first_columns (n + 1) ≡ first_columns n ++ n ∷ []
first_push n =
    let e : n + 1 ≡ suc n = omega arith in
    let z : 0 + n ≡ n = omega arith in
    ap first_columns e ∙ (columns-push 0 n ∙ ap (λ k. columns_from 0 n ++ k ∷ []) z)

-- the next aggregate of a loop that puts them together
pub merged_next : (before : List rust.Aggregate) (y : rust.Aggregate) (i k : ℕ) (xs : List rust.Aggregate) (x : rust.Aggregate) → k < length xs → x ≡ get_or xs k x → map aggregate_of before ≡ merged i (map aggregate_of (take k xs))
    → aggregate_of y ≡ merging (i + k) (aggregate_of x) → map aggregate_of (before ++ y ∷ []) ≡ merged i (map aggregate_of (take (k + 1) xs))
merged_next before y i k xs x h e so_far put =
    let n : length (map aggregate_of (take k xs)) ≡ k = length-map (take k xs) aggregate_of ∙ length-take-le k xs (omega (arith, h)) in
    let at : merging (i + length (map aggregate_of (take k xs))) (aggregate_of x) ≡ merging (i + k) (aggregate_of x) = ap (λ m. merging (i + m) (aggregate_of x)) n in
    map_push aggregate_of before y ∙ ap (λ zs. zs ++ aggregate_of y ∷ []) so_far ∙ ap (λ z. merged i (map aggregate_of (take k xs)) ++ z ∷ []) (put ∙ sym at)
    ∙ sym (ap (merged i) (taken_more aggregate_of xs k x h e) ∙ merged-push i (map aggregate_of (take k xs)) (aggregate_of x))

pub columns-length : (i n : ℕ) → length (columns_from i n) ≡ n
columns-length i zero = refl
columns-length i (suc n) = ap suc (columns-length (suc i) n)

merged-length : (i : ℕ) (aggregates : List Aggregate) → length (merged i aggregates) ≡ length aggregates
merged-length i [] = refl
merged-length i (a ∷ aggregates) = ap suc (merged-length (suc i) aggregates)

columns-below : (i n w : ℕ) → i + n ≤ w → all_below w (columns_from i n) ≡ true
columns-below i zero w h = refl
columns-below i (suc n) w h = and-both (nat_lt i w) (all_below w (columns_from (suc i) n)) (lt-ltb i w (omega (arith, h))) (columns-below (suc i) n w (omega (arith, h)))

-- a column before them is none of them
column-apart : (c i n : ℕ) → c < i → list_any (λ d. c == d) (columns_from i n) ≡ false
column-apart c i zero h = refl
column-apart c i (suc n) h = rw (unequal c i h) (column-apart c (suc i) n (omega (arith, h)))
  where
    unequal : (c i : ℕ) → c < i → (c == i) ≡ false
    unequal c i h = search arith

columns-distinct : (i n : ℕ) → are_distinct (columns_from i n) ≡ true
columns-distinct i zero = refl
columns-distinct i (suc n) = and-both (not (list_any (λ d. i == d) (columns_from (suc i) n))) (are_distinct (columns_from (suc i) n)) (ap not (column-apart i (suc i) n (omega arith))) (columns-distinct (suc i) n)

-- ---- a final group over its partial one

columns_eq-refl : (cols : List ℕ) → columns_eq cols cols ≡ true
columns_eq-refl [] = refl
columns_eq-refl (c ∷ cols) = and-both (c == c) (columns_eq cols cols) (eq-eqb c c refl) (columns_eq-refl cols)

aggregate_eq-refl : (a : Aggregate) → aggregate_eq a a ≡ true
aggregate_eq-refl (least c) = eq-eqb c c refl
aggregate_eq-refl (greatest c) = eq-eqb c c refl
aggregate_eq-refl (sum c) = eq-eqb c c refl
aggregate_eq-refl count_rows = refl

aggregates_eq-refl : (aggregates : List Aggregate) → aggregates_eq aggregates aggregates ≡ true
aggregates_eq-refl [] = refl
aggregates_eq-refl (a ∷ aggregates) = and-both (aggregate_eq a a) (aggregates_eq aggregates aggregates) (aggregate_eq-refl a) (aggregates_eq-refl aggregates)

-- a plan is open where a partial group is found
pub parts-found : (t : Outline) → is_some (parts_of t) ≡ is_open (plan_in t)
parts-found (scan h r m z p) = refl
parts-found (unary h (select cs) flags t) = refl
parts-found (unary h (project cols) flags t) = refl
parts-found (unary h (distinct cols) flags t) = refl
parts-found (unary h (sort false order) flags t) = refl
parts-found (unary h (sort true order) flags t) = parts-found t
parts-found (unary h (group plain bs ks) flags t) = refl
parts-found (unary h (group partial bs ks) flags t) = refl
parts-found (unary h (group final bs ks) flags t) = refl
parts-found (unary h (limit rows) flags t) = refl
parts-found (binary h op t u) = refl
parts-found (exchange h k m t) = parts-found t

-- the partial group that was found is that of the final one
pub parts-open : (t : Outline) (g : List ℕ × List Aggregate) → parts_of t ≡ Some g → sorts_before (length g.0) t ≡ true → opens (first_columns (length g.0)) (merged (length g.0) g.1) (plan_in t) ≡ true
parts-open (scan h r m z p) g e b = cc
parts-open (unary h (select cs) flags t) g e b = cc
parts-open (unary h (project cols) flags t) g e b = cc
parts-open (unary h (distinct cols) flags t) g e b = cc
parts-open (unary h (sort false order) flags t) g e b = cc
parts-open (unary h (sort true order) flags t) g e b =
    let keys : List ℕ = first_columns (length g.0) in
    let P : ℕ → Type 0 = λ n. all_below n (order_columns order) ≡ true in
    and-both (all_below (length keys) (order_columns order)) (opens keys (merged (length g.0) g.1) (plan_in t))
    (subst P (sym (columns-length 0 (length g.0))) (and-left (all_below (length g.0) (order_columns order)) (sorts_before (length g.0) t) b))
    (parts-open t g e (and-right (all_below (length g.0) (order_columns order)) (sorts_before (length g.0) t) b))
parts-open (unary h (group plain bs ks) flags t) g e b = cc
parts-open (unary h (group partial bs ks) flags t) g e b =
    let same : (bs, ks) ≡ g = cc in
    let P : List ℕ × List Aggregate → Type 0 = λ g. (columns_eq (first_columns (length g.0)) (first_columns (length bs)) && aggregates_eq (merged (length g.0) g.1) (merged (length bs) ks)) ≡ true in
    subst P same (and-both (columns_eq (first_columns (length bs)) (first_columns (length bs))) (aggregates_eq (merged (length bs) ks) (merged (length bs) ks)) (columns_eq-refl (first_columns (length bs))) (aggregates_eq-refl (merged (length bs) ks)))
parts-open (unary h (group final bs ks) flags t) g e b = cc
parts-open (unary h (limit rows) flags t) g e b = cc
parts-open (binary h op t u) g e b = cc
parts-open (exchange h k m t) g e b = parts-open t g e b

-- the aggregates of the final group name columns of the partial one, and sum numbers alone
merged-typed : (ts before : List ColType) (i : ℕ) (aggregates : List Aggregate) → length before ≡ i → list_all (is_aggregate (before ++ map (aggregate_type ts) aggregates)) (merged i aggregates) ≡ true
merged-typed ts before i [] e = refl
merged-typed ts before i (a ∷ aggregates) e =
    let v : ColType = aggregate_type ts a in
    let vs : List ColType = map (aggregate_type ts) aggregates in
    let us : List ColType = before ++ v ∷ vs in
    let wide : i < length us = (let k = length-append before (v ∷ vs) in omega (arith, k, e)) in
    let at : type_at us i ≡ v = type-right before (v ∷ vs) i 0 (omega (arith, e)) in
    let more : length (before ++ v ∷ []) ≡ suc i = (let k = length-append before (v ∷ []) in omega (arith, k, e)) in
    let P : List ColType → Type 0 = λ us. list_all (is_aggregate us) (merged (suc i) aggregates) ≡ true in
    and-both (is_aggregate us (merging i a)) (list_all (is_aggregate us) (merged (suc i) aggregates)) (here a us (lt-ltb i (length us) wide) at) (subst P (append_assoc before (v ∷ []) vs) (merged-typed ts (before ++ v ∷ []) (suc i) aggregates more))
  where
    here : (a : Aggregate) (us : List ColType) → nat_lt i (length us) ≡ true → type_at us i ≡ aggregate_type ts a → is_aggregate us (merging i a) ≡ true
    here (least c) us l h = l
    here (greatest c) us l h = l
    here (sum c) us l h = and-both (nat_lt i (length us)) (type_eq (type_at us i) Int) l (ap (λ t. type_eq t Int) h)
    here count_rows us l h = and-both (nat_lt i (length us)) (type_eq (type_at us i) Int) l (ap (λ t. type_eq t Int) h)

final-is : (ts : List ColType) (by : List ℕ) (aggregates : List Aggregate) → is_unary ts (group partial by aggregates) ≡ true
    → is_unary (map (type_at ts) by ++ map (aggregate_type ts) aggregates) (group final (first_columns (length by)) (merged (length by) aggregates)) ≡ true
final-is ts by aggregates h =
    let us : List ColType = map (type_at ts) by ++ map (aggregate_type ts) aggregates in
    let keys : List ℕ = first_columns (length by) in
    let puts : List Aggregate = merged (length by) aggregates in
    let n : length (map (type_at ts) by) ≡ length by = length-map by (type_at ts) in
    let wide : 0 + length by ≤ length us = (let k = length-append (map (type_at ts) by) (map (aggregate_type ts) aggregates) in omega (arith, k, n)) in
    and-both (is_some_list keys || is_some_list puts) (are_columns (length us) keys && list_all (is_aggregate us) puts)
    (ap (λ b. b || is_some_list puts) (some-alike keys by (columns-length 0 (length by))) ∙ ap (λ b. is_some_list by || b) (some-alike puts aggregates (merged-length (length by) aggregates))
    ∙ and-left (is_some_list by || is_some_list aggregates) (are_columns (length ts) by && list_all (is_aggregate ts) aggregates) h)
    (and-both (are_columns (length us) keys) (list_all (is_aggregate us) puts)
    (and-both (all_below (length us) keys) (are_distinct keys) (columns-below 0 (length by) (length us) wide) (columns-distinct 0 (length by))) (merged-typed ts (map (type_at ts) by) (length by) aggregates n))

-- over a typed plan the final group of the partial one that was found is typed
pub final-unary : (s : Names) (t : Outline) (g : List ℕ × List Aggregate) → parts_of t ≡ Some g → typed (scope_of s) (plan_in t) ≡ true
    → is_unary (types_of (relation_at s.catalog) (plan_in t)) (group final (first_columns (length g.0)) (merged (length g.0) g.1)) ≡ true
final-unary s (scan h r m z p) g e ok = cc
final-unary s (unary h (select cs) flags t) g e ok = cc
final-unary s (unary h (project cols) flags t) g e ok = cc
final-unary s (unary h (distinct cols) flags t) g e ok = cc
final-unary s (unary h (sort false order) flags t) g e ok = cc
final-unary s (unary h (sort true order) flags t) g e ok = final-unary s t g e (and-left (typed (scope_of s) (plan_in t)) _ ok)
final-unary s (unary h (group plain bs ks) flags t) g e ok = cc
final-unary s (unary h (group partial bs ks) flags t) g e ok =
    let same : (bs, ks) ≡ g = cc in
    let ts : List ColType = types_of (relation_at s.catalog) (plan_in t) in
    let P : List ℕ × List Aggregate → Type 0 = λ g. is_unary (map (type_at ts) bs ++ map (aggregate_type ts) ks) (group final (first_columns (length g.0)) (merged (length g.0) g.1)) ≡ true in
    let last = is_output (scope_of s) (types_of (relation_at s.catalog) (plan_in (unary h (group partial bs ks) flags t))) h.claim in
    let rest = and-right (typed (scope_of s) (plan_in t)) (phase_fits (group partial bs ks) (plan_in t) && (is_unary ts (group partial bs ks) && last)) ok in
    let fit = and-right (phase_fits (group partial bs ks) (plan_in t)) (is_unary ts (group partial bs ks) && last) rest in
    subst P same (final-is ts bs ks (and-left (is_unary ts (group partial bs ks)) last fit))
final-unary s (unary h (group final bs ks) flags t) g e ok = cc
final-unary s (unary h (limit rows) flags t) g e ok = cc
final-unary s (binary h op t u) g e ok = cc
final-unary s (exchange h k m t) g e ok =
    let ts : List ColType = types_of (relation_at s.catalog) (plan_in t) in
    final-unary s t g e (and-left (typed (scope_of s) (plan_in t)) (is_kind (scope_of s) ts k && (are_columns (length ts) (order_columns m) && (may_merge k m && is_output (scope_of s) ts h.claim))) ok)
