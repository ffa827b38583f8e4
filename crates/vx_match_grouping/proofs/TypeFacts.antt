-- The types of a group's rows.
use Rattle.std.proofs.Common.{◌≡◌, ℕ, suc, zero, ◌<◌, Bool, true, false, cond, not, List, [], ◌∷◌, ◌++◌, map, filter, length, get_or, refl, sym, ap, ◌∙◌, subst, arith}
use Rattle.std.specs.List.{AllByRecursion, list_any}
use Rattle.std.proofs.lemmas.List.{map-append}
use Rattle.std.proofs.lemmas.List.Folds.{list_any_at}
use Rattle.vx_rows_values.specs.declared.value.ColType.{ColType}
use Rattle.vx_rows_values.specs.Values.{Val, Row, val_cmp, value_at, row_eq, pick}
use Rattle.vx_rows_values.specs.Types.{type_of, type_at, Fits}
use Rattle.vx_plan_nodes.specs.Plan.{Aggregate, least, greatest, sum, count_rows, group, plain}
use Rattle.vx_plan_nodes.specs.Types.{aggregate_type, unary_types}
use Rattle.vx_plan_nodes.specs.Serial.{least_of, greatest_of, aggregate_of, firsts, group_keys, of_key, group_row}
use Rattle.std.specs.Ordering.{is_le}
use Rattle.vx_match_grouping.specs.Groups.{Groups, HasTaken, held_at}
use Rattle.vx_match_keys.proofs.KeyFacts.{row_eq-refl, any-firsts, of_key-some}
use Rattle.vx_match_grouping.proofs.EndFacts.{key_row, row-is, held-is}

value-typed : (row : Row) (c : ℕ) → type_of (value_at row c) ≡ type_at (map type_of row) c
value-typed [] c = refl
value-typed (v ∷ row) zero = refl
value-typed (v ∷ row) (suc c) = value-typed row c

typed-at : (types : List ColType) (row : Row) (c : ℕ) → Fits types row → type_of (value_at row c) ≡ type_at types c
typed-at types row c fit = value-typed row c ∙ ap (λ ts. type_at ts c) fit.types_are

pick-typed : (types : List ColType) (by : List ℕ) (row : Row) → Fits types row → map type_of (pick by row) ≡ map (type_at types) by
pick-typed types [] row fit = refl
pick-typed types (c ∷ by) row fit = λ i. typed-at types row c fit i ∷ pick-typed types by row fit i

-- what holds of all elements holds of those that are kept
all-kept : {X : Type 0} (P : X → Type 0) (p : X → Bool) (xs : List X) → AllByRecursion P xs → AllByRecursion P (filter p xs)
all-kept P p [] all = tt
all-kept P p (x ∷ xs) all = step (p x) (all-kept P p xs all.1)
  where
    step : (b : Bool) → AllByRecursion P (filter p xs) → AllByRecursion P (cond b (x ∷ filter p xs) (filter p xs))
    step true rest = (all.0, rest)
    step false rest = rest

all-firsts : (P : Row → Type 0) (xs : List Row) → AllByRecursion P xs → AllByRecursion P (firsts xs)
all-firsts P [] all = tt
all-firsts P (x ∷ xs) all = (all.0, all-kept P (λ y. not (row_eq x y)) (firsts xs) (all-firsts P xs all.1))

all-picked : (types : List ColType) (by : List ℕ) (xs : List Row) → AllByRecursion (Fits types) xs → AllByRecursion (λ k. map type_of k ≡ map (type_at types) by) (map (pick by) xs)
all-picked types by [] fit = tt
all-picked types by (x ∷ xs) fit = (pick-typed types by x fit.0, all-picked types by xs fit.1)

keys-typed : (types : List ColType) (by : List ℕ) (xs : List Row) → AllByRecursion (Fits types) xs → AllByRecursion (λ k. map type_of k ≡ map (type_at types) by) (group_keys by xs)
keys-typed types by xs fit = all-firsts (λ k. map type_of k ≡ map (type_at types) by) (map (pick by) xs) (all-picked types by xs fit)

-- the smaller and the larger of two values of a type have it
either-typed : (t : ColType) (b : Bool) (u v : Val) → type_of u ≡ t → type_of v ≡ t → type_of (cond b u v) ≡ t
either-typed t true u v h k = h
either-typed t false u v h k = k

least-typed : (types : List ColType) (c : ℕ) (x : Row) (xs : List Row) → Fits types x → AllByRecursion (Fits types) xs → type_of (least_of c x xs) ≡ type_at types c
least-typed types c x [] h fit = typed-at types x c h
least-typed types c x (y ∷ ys) h fit =
    either-typed (type_at types c) (is_le (val_cmp (value_at x c) (least_of c y ys))) (value_at x c) (least_of c y ys) (typed-at types x c h) (least-typed types c y ys fit.0 fit.1)

greatest-typed : (types : List ColType) (c : ℕ) (x : Row) (xs : List Row) → Fits types x → AllByRecursion (Fits types) xs → type_of (greatest_of c x xs) ≡ type_at types c
greatest-typed types c x [] h fit = typed-at types x c h
greatest-typed types c x (y ∷ ys) h fit =
    either-typed (type_at types c) (is_le (val_cmp (value_at x c) (greatest_of c y ys))) (greatest_of c y ys) (value_at x c) (greatest-typed types c y ys fit.0 fit.1) (typed-at types x c h)

aggregate-typed : (types : List ColType) (a : Aggregate) (x : Row) (xs : List Row) → AllByRecursion (Fits types) (x ∷ xs) → type_of (aggregate_of a (x ∷ xs)) ≡ aggregate_type types a
aggregate-typed types (least c) x xs fit = least-typed types c x xs fit.0 fit.1
aggregate-typed types (greatest c) x xs fit = greatest-typed types c x xs fit.0 fit.1
aggregate-typed types (sum c) x xs fit = refl
aggregate-typed types count_rows x xs fit = refl

aggregates-typed : (types : List ColType) (as' : List Aggregate) (x : Row) (xs : List Row) → AllByRecursion (Fits types) (x ∷ xs)
    → map type_of (map (λ a. aggregate_of a (x ∷ xs)) as') ≡ map (aggregate_type types) as'
aggregates-typed types [] x xs fit = refl
aggregates-typed types (a ∷ as') x xs fit = λ i. aggregate-typed types a x xs fit i ∷ aggregates-typed types as' x xs fit i

-- the row of a key that some row has
row-typed : (types : List ColType) (by : List ℕ) (as' : List Aggregate) (xs : List Row) (k : Row) → AllByRecursion (Fits types) xs → map type_of k ≡ map (type_at types) by
    → list_any (row_eq k) (map (pick by) xs) ≡ true → map type_of (group_row by as' xs k) ≡ unary_types (group plain by as') types
row-typed types by as' xs k fit key h =
    let some = of_key-some by k xs h in
    let kept = subst (AllByRecursion (Fits types)) some.1.1 (all-kept (Fits types) (λ r. row_eq k (pick by r)) xs fit) in
    map-append type_of k (map (λ a. aggregate_of a (of_key by k xs)) as')
    ∙ (λ i. key i ++ (ap (λ rows. map type_of (map (λ a. aggregate_of a rows) as')) some.1.1 ∙ aggregates-typed types as' some.0 some.1.0 kept) i)

pub all-at : {X : Type 0} (P : X → Type 0) (xs : List X) (i : ℕ) (d : X) → AllByRecursion P xs → i < length xs → P (get_or xs i d)
all-at P [] i d all l = absurd (omega (arith, l))
all-at P (x ∷ xs) zero d all l = all.0
all-at P (x ∷ xs) (suc i) d all l = all-at P xs i d all.1 (omega (arith, l))

any-at : (ks : List Row) (i : ℕ) → i < length ks → list_any (row_eq (get_or ks i [])) ks ≡ true
any-at ks i l = list_any_at (row_eq (get_or ks i [])) ks i [] l (row_eq-refl (get_or ks i []))

-- the row that a grouping shows at a place
pub shown-typed : (g : Groups) (xs : List Row) (i : ℕ) → HasTaken g xs → i < length g.keys → map type_of (key_row (get_or g.keys i []) (held_at i g.columns)) ≡ unary_types (group plain g.by g.aggregates) g.types
shown-typed g xs i t l =
    let ks = group_keys g.by xs in
    let inside : i < length ks = subst (λ keys. i < length keys) t.keys_are l in
    let k = get_or ks i [] in
    let key-is : get_or g.keys i [] ≡ k = ap (λ keys. get_or keys i []) t.keys_are in
    let any : list_any (row_eq k) (map (pick g.by) xs) ≡ true = sym (any-firsts k (map (pick g.by) xs)) ∙ any-at ks i inside in
    (λ j. map type_of (key_row (key-is j) (held-is g xs i t inside j)))
    ∙ (ap (map type_of) (row-is g.by g.aggregates xs k)
    ∙ row-typed g.types g.by g.aggregates xs k t.fit (all-at (λ z. map type_of z ≡ map (type_at g.types) g.by) ks i [] (keys-typed g.types g.by xs t.fit) inside) any)
