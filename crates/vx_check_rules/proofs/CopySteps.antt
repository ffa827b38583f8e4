-- The copies of the columns of an order, as the program finds them.
use Rattle.std.proofs.Common.{◌≡◌, ℕ, zero, suc, ◌+◌, ◌<◌, ◌≤◌, nat_lt, Bool, true, false, cond, List, [], ◌∷◌, ◌++◌, append_assoc, length, drop, drop-cons, Option, Some, None, slice_get, refl, sym, ap, ◌∙◌, arith}
use Rattle.std.proofs.lemmas.List.{drop_all, append-nil}
use Rattle.std.proofs.lemmas.Bool.Decides.{nat_tests}
use Rattle.std.specs.List.{filter}
use Rattle.vx_rows_values.specs.declared.order.OrderEntry.{OrderEntry}
use Rattle.vx_rows_values.specs.Order.{order_columns}
use Rattle.vx_rows_values.proofs.Booleans.{and-left, and-right, and-both}
use Rattle.vx_catalog_relations.specs.Catalog.{all_below}
use Rattle.vx_plan_nodes.specs.Describe.{Copying, source}
use Rattle.vx_plan_nodes.specs.Phases.{columns_from, first_columns}
use Rattle.vx_plan_facts.specs.Determined.{column_in}
use Rattle.vx_plan_facts.specs.Equal.{Equality}
use Rattle.vx_check_rules.specs.Derived.{first_of, copy_of, copies_then, front_copies}
use Rattle.vx_check_rules.proofs.ColumnFacts.{first_at, first_length}
use Rattle.vx_check_rules.proofs.Shortening.{drop-at}

-- whether an output column is such a copy
abbrev pub copies : Copying → Equality → ℕ → ℕ → Bool
copies k e x c = column_in (λ y. e y x) (source k c)

-- the first such copy from this column on
abbrev pub copy_from : ℕ → ℕ → Copying → Equality → ℕ → Option ℕ
copy_from i w k e x = first_of (filter (copies k e x) (drop i (first_columns w)))

first-cons : (w i : ℕ) → i < w → drop i (first_columns w) ≡ i ∷ drop (i + 1) (first_columns w)
first-cons w i h =
    let wide = first_length w in
    let next : suc i ≡ i + 1 = omega arith in
    drop-cons (first_columns w) i 0 (omega (arith, h, wide)) ∙ ap (λ c. c ∷ drop (suc i) (first_columns w)) (first_at w i h) ∙ ap (λ n. i ∷ drop n (first_columns w)) next

pub copy-here : (i w : ℕ) (k : Copying) (e : Equality) (x : ℕ) → i < w → copies k e x i ≡ true → copy_from i w k e x ≡ Some i
copy-here i w k e x h is =
    let rest : List ℕ = drop (i + 1) (first_columns w) in
    ap (λ cs. first_of (filter (copies k e x) cs)) (first-cons w i h) ∙ ap (λ b. first_of (cond b (i ∷ filter (copies k e x) rest) (filter (copies k e x) rest))) is

pub copy-later : (i w : ℕ) (k : Copying) (e : Equality) (x : ℕ) → i < w → copies k e x i ≡ false → copy_from i w k e x ≡ copy_from (i + 1) w k e x
copy-later i w k e x h is =
    let rest : List ℕ = drop (i + 1) (first_columns w) in
    ap (λ cs. first_of (filter (copies k e x) cs)) (first-cons w i h) ∙ ap (λ b. first_of (cond b (i ∷ filter (copies k e x) rest) (filter (copies k e x) rest))) is

pub copy-none : (i w : ℕ) (k : Copying) (e : Equality) (x : ℕ) → w ≤ i → copy_from i w k e x ≡ None
copy-none i w k e x h =
    let wide = first_length w in
    ap (λ cs. first_of (filter (copies k e x) cs)) (drop_all i (first_columns w) (omega (arith, h, wide)))

-- ---- lists of copies

-- so many entries were passed, and what is left stands behind what was put
pub record Copied (w : ℕ) (k : Copying) (e : Equality) (order put : List OrderEntry) (i : ℕ) : Type 0 where
  pub puts : front_copies w k e order ≡ put ++ front_copies w k e (drop i order)

pub copied-starts : (w : ℕ) (k : Copying) (e : Equality) (order put : List OrderEntry) → put ≡ [] → Copied w k e order put 0
copied-starts w k e order put none = record { puts = ap (λ xs. xs ++ front_copies w k e order) (sym none) }

pub copied-goes : (w : ℕ) (k : Copying) (e : Equality) (order put new : List OrderEntry) (i c : ℕ) → Copied w k e order put i → (x : OrderEntry) → slice_get order i ≡ Some x
    → copy_of w k e x.column ≡ Some c → new ≡ put ++ record { column = c; falling = x.falling } ∷ [] → Copied w k e order new (i + 1)
copied-goes w k e order put new i c at x h is same =
    let rest : List OrderEntry = front_copies w k e (drop (suc i) order) in
    let copy : OrderEntry = record { column = c; falling = x.falling } in
    let next : suc i ≡ i + 1 = omega arith in
    record {
      puts = at.puts ∙ ap (λ xs. put ++ front_copies w k e xs) (drop-at order i x h) ∙ ap (λ o. put ++ copies_then o x.falling rest) is ∙ sym (append_assoc put (copy ∷ []) rest)
          ∙ ap (λ n. (put ++ copy ∷ []) ++ front_copies w k e (drop n order)) next ∙ ap (λ xs. xs ++ front_copies w k e (drop (i + 1) order)) (sym same);
    }

pub copied-stops : (w : ℕ) (k : Copying) (e : Equality) (order put : List OrderEntry) (i : ℕ) → Copied w k e order put i → (x : OrderEntry) → slice_get order i ≡ Some x
    → copy_of w k e x.column ≡ None → put ≡ front_copies w k e order
copied-stops w k e order put i at x h is =
    let rest : List OrderEntry = front_copies w k e (drop (suc i) order) in
    sym (at.puts ∙ ap (λ xs. put ++ front_copies w k e xs) (drop-at order i x h) ∙ ap (λ o. put ++ copies_then o x.falling rest) is ∙ append-nil put)

pub copied-ends : (w : ℕ) (k : Copying) (e : Equality) (order put : List OrderEntry) (i : ℕ) → Copied w k e order put i → length order ≤ i → put ≡ front_copies w k e order
copied-ends w k e order put i at h = sym (at.puts ∙ ap (λ xs. put ++ front_copies w k e xs) (drop_all i order h) ∙ append-nil put)

-- ---- they are columns of the output

first-below : (w i n : ℕ) → i + n ≤ w → all_below w (columns_from i n) ≡ true
first-below w i zero h = refl
first-below w i (suc n) h = and-both (nat_lt i w) (all_below w (columns_from (suc i) n)) (here i w (omega (arith, h))) (first-below w (suc i) n (omega (arith, h)))
  where
    here : (a b : ℕ) → a < b → nat_lt a b ≡ true
    here a b l = grind (arith, nat_tests)

abbrev one-below : ℕ → Option ℕ → Bool
one-below w None = true
one-below w (Some c) = nat_lt c w

first-of-below : (w : ℕ) (test : ℕ → Bool) (xs : List ℕ) → all_below w xs ≡ true → one-below w (first_of (filter test xs)) ≡ true
first-of-below w test [] h = refl
first-of-below w test (x ∷ xs) h = go (test x) (and-left (nat_lt x w) (all_below w xs) h) (first-of-below w test xs (and-right (nat_lt x w) (all_below w xs) h))
  where
    go : (b : Bool) → nat_lt x w ≡ true → one-below w (first_of (filter test xs)) ≡ true → one-below w (first_of (cond b (x ∷ filter test xs) (filter test xs))) ≡ true
    go true l r = l
    go false l r = r

pub copies-below : (w : ℕ) (k : Copying) (e : Equality) (order : List OrderEntry) → all_below w (order_columns (front_copies w k e order)) ≡ true
copies-below w k e [] = refl
copies-below w k e (x ∷ order) =
    go (copy_of w k e x.column) (first-of-below w (copies k e x.column) (first_columns w) (first-below w 0 w (omega arith))) (copies-below w k e order)
  where
    go : (o : Option ℕ) → one-below w o ≡ true → all_below w (order_columns (front_copies w k e order)) ≡ true
        → all_below w (order_columns (copies_then o x.falling (front_copies w k e order))) ≡ true
    go None l r = refl
    go (Some c) l r = and-both (nat_lt c w) (all_below w (order_columns (front_copies w k e order))) l r
