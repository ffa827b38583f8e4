-- The order of rows, entry by entry.
use Rattle.std.proofs.Common.{◌≡◌, ℕ, zero, suc, ◌+◌, ◌-◌, ◌<◌, ◌≤◌, List, [], ◌∷◌, ◌++◌, Bool, true, false, Option, Some, None, refl, sym, subst, arith, add-one}
use Rattle.std.proofs.Math.Dec.{eqb}
use Rattle.std.proofs.lemmas.Bool.{eqb-true, eqb-false}
use Rattle.std.specs.List.{All}
use Rattle.std.proofs.lemmas.List.{map_push}
use Rattle.std.proofs.lemmas.List.Elements.{All-append}
use Rattle.vx_rows_values.specs.Values.{Row}
use Rattle.vx_rows_values.specs.declared.order.OrderEntry.{OrderEntry}
use Rattle.vx_rows_values.specs.Order.{order_columns}
use Rattle.vx_rows.specs.View.{AreColumns}
use Rattle.vx_catalog_finding.specs.Found.{entry_of, next_entry, order_onto}

pub one_column : (width c : ℕ) → c < width → AreColumns width (c ∷ [])
one_column width c h zero d k = h
one_column width c h (suc i) d k = absurd (omega arith)

pub columns_longer : (width : ℕ) (order : List OrderEntry) (e : OrderEntry) → AreColumns width (order_columns order) → e.column < width → AreColumns width (order_columns (order ++ e ∷ []))
columns_longer width order e h k =
    subst (AreColumns width) (sym (map_push (λ (e : OrderEntry). e.column) order e)) (All-append (λ c. c < width) (order_columns order) (e.column ∷ []) h (one_column width e.column k))

-- the first entry is that of any more columns
entry_kept : (order : List OrderEntry) (rows : List Row) (n width : ℕ) (e : OrderEntry) → n < width → next_entry order rows (suc n) ≡ Some e → next_entry order rows width ≡ Some e
entry_kept order rows n zero e h found = absurd (omega (arith, h))
entry_kept order rows n (suc m) e h found = by_place (eqb n m) refl (λ below. entry_kept order rows n m e below found)
  where
    by_place : (b : Bool) → eqb n m ≡ b → (n < m → next_entry order rows m ≡ Some e) → next_entry order rows (suc m) ≡ Some e
    by_place true same before = let place : n ≡ m = eqb-true n m same in rw place at found
    by_place false other before = rw (before (omega (arith, h, eqb-false n m other))) refl

pub entry_first : (order : List OrderEntry) (rows : List Row) (n width : ℕ) (e : OrderEntry) → n < width → next_entry order rows n ≡ None → entry_of order rows n ≡ Some e → Some e ≡ next_entry order rows width
entry_first order rows n width e h before here =
    let found : next_entry order rows (suc n) ≡ Some e = rw (before, here) refl in
    sym (entry_kept order rows n width e h found)

pub entry_none : (order : List OrderEntry) (rows : List Row) (n : ℕ) → next_entry order rows n ≡ None → entry_of order rows n ≡ None → next_entry order rows (n + 1) ≡ None
entry_none order rows n before here = rw (add-one, before, here) refl

-- the order gets the next entry
pub order_more : (width used : ℕ) (rows : List Row) (order : List OrderEntry) (e : OrderEntry) → used < width → next_entry order rows width ≡ Some e
    → order_onto width (width - used) rows order ≡ order_onto width (width - (used + 1)) rows (order ++ e ∷ [])
order_more width used rows order e h next =
    let same : width - used ≡ suc (width - (used + 1)) = omega arith in
    rw (same, next) refl

pub order_stops : (width used : ℕ) (rows : List Row) (order : List OrderEntry) → next_entry order rows width ≡ None → order_onto width (width - used) rows order ≡ order
order_stops width used rows order next = by_left (width - used)
  where
    by_left : (n : ℕ) → order_onto width n rows order ≡ order
    by_left zero = refl
    by_left (suc n) = rw next refl

pub order_full : (width used : ℕ) (rows : List Row) (order : List OrderEntry) → width ≤ used → order_onto width (width - used) rows order ≡ order
order_full width used rows order h = let none : width - used ≡ 0 = omega arith in rw none refl

pub ruleset order_steps = (one_column, columns_longer, entry_first, entry_none, order_more, order_stops, order_full)
