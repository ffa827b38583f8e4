-- Operators whose output's totals are totals of the input: what they do to parts.
use Rattle.std.proofs.Common.{◌≡◌, ℕ, ◌+◌, ◌<◌, Bool, true, false, cond, List, [], ◌∷◌, map, filter, refl, sym, ap, ◌∙◌, arith, is_le}
use Rattle.vx_rows_values.specs.declared.order.OrderEntry.{OrderEntry}
use Rattle.vx_rows_values.specs.Values.{Row}
use Rattle.vx_rows_values.specs.Bags.{total, SameRows}
use Rattle.vx_rows_values.specs.Order.{compare_on, insert_sorted, sort_on}
use Rattle.vx_plan_nodes.specs.Streams.{Streams, joined}
use Rattle.vx_exec_laws.proofs.Bags.{total-map, total-filter, total-joined, across-ext, when}

pub record Linear (op : List Row → List Row) : Type 0 where
  pub pull : (Row → ℕ) → Row → ℕ
  pub totals : (f : Row → ℕ) (xs : List Row) → total f (op xs) ≡ total (pull f) xs

pub Linear-filter : (p : Row → Bool) → Linear (filter p)
Linear-filter p = record { pull = λ f x. when (p x) (f x); totals = λ f xs. total-filter f p xs }

pub Linear-map : (g : Row → Row) → Linear (map g)
Linear-map g = record { pull = λ f x. f (g x); totals = λ f xs. total-map f g xs }

pub insert-total : (f : Row → ℕ) (order : List OrderEntry) (x : Row) (ys : List Row) → total f (insert_sorted order x ys) ≡ f x + total f ys
insert-total f order x [] = refl
insert-total f order x (y ∷ ys) = cases (is_le (compare_on order x y)) (insert-total f order x ys)
  where
    cases : (b : Bool) → total f (insert_sorted order x ys) ≡ f x + total f ys
        → total f (cond b (x ∷ y ∷ ys) (y ∷ insert_sorted order x ys)) ≡ f x + (f y + total f ys)
    cases true e = refl
    cases false e = omega arith

pub sort-total : (f : Row → ℕ) (order : List OrderEntry) (xs : List Row) → total f (sort_on order xs) ≡ total f xs
sort-total f order [] = refl
sort-total f order (x ∷ xs) = insert-total f order x (sort_on order xs) ∙ ap (λ n. f x + n) (sort-total f order xs)

pub Linear-sort : (order : List OrderEntry) → Linear (sort_on order)
Linear-sort order = record { pull = λ f. f; totals = λ f xs. sort-total f order xs }

pub linear-same : {op : List Row → List Row} → Linear op → {xs ys : List Row} → SameRows xs ys → SameRows (op xs) (op ys)
linear-same {op} lin {xs} {ys} s = record { totals = λ f. lin.totals f xs ∙ (s.totals (lin.pull f) ∙ sym (lin.totals f ys)) }

pub linear-joined : {op : List Row → List Row} → Linear op → (n : ℕ) (s s' : Streams) → ((w : ℕ) → w < n → op (s w) ≡ s' w)
    → SameRows (joined n s') (op (joined n s))
linear-joined {op} lin n s s' run = record {
  totals = λ f.
      total-joined f n s'
      ∙ (across-ext n (λ i. total f (s' i)) (λ i. total (lin.pull f) (s i)) (λ i l. ap (total f) (sym (run i l)) ∙ lin.totals f (s i))
      ∙ (sym (total-joined (lin.pull f) n s) ∙ sym (lin.totals f (joined n s))));
}
