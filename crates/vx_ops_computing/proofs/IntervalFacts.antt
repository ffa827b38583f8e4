-- Intervals that meet, and the conditions that make them.
use Rattle.std.proofs.Common.{◌≡◌, ℕ, zero, suc, ℤ, ◌<◌, Bool, true, false, ◌&&◌, refl, sym, ap, ◌∙◌, List, [], ◌∷◌, length, filter, arith}
use Rattle.std.specs.Prelude.{int_le, cond}
use Rattle.std.specs.Int.{int_max, int_min}
use Rattle.std.specs.Bool.{beq}
use Rattle.std.specs.List.{list_all, AllByRecursion}
use Rattle.std.proofs.lemmas.Int.{ints, clamps}
use Rattle.vx_rows_values.proofs.Booleans.{and-left, and-right}
use Rattle.vx_rows_values.specs.declared.value.ColType.{ColType}
use Rattle.vx_rows_values.specs.declared.value.ColType.TheVariants.{Int}
use Rattle.vx_rows_values.specs.Types.{type_at, type_of, fits_64, is_held, Fits}
use Rattle.vx_rows_values.specs.Values.{Row, Val, num, text, val_cmp, value_at}
use Rattle.vx_rows_values.specs.ValueView.{test_of}
use Rattle.vx_plan_nodes.specs.Outline.{side_of}
use Rattle.vx_plan_nodes.specs.Plan.{Side, constant}
use Rattle.vx_plan_nodes.specs.Serial.{side, answers}
use Rattle.vx_plan_nodes.specs.declared.typed.Condition.{Condition}
use Rattle.vx_rows_views.specs.Selected.{of_number}
use Rattle.vx_rows_views.proofs.Fitting.{value-type}
use Rattle.vx_ops_kernels.specs.Holds.{holds_of}
use Rattle.vx_ops_kernels.specs.Interval.{IsInterval}
use Rattle.vx_ops_computing.specs.declared.intervals.Interval.{Interval}
use Rattle.vx_ops_computing.specs.Intervals.{lies_from, lies_in, IsMeet}
use Rattle.vx_ops_computing.proofs.Choosing.{and-mixed}

above-both : (a c z : ℤ) → int_le (int_max a c) z ≡ (int_le a z && int_le c z)
above-both a c z = go (int_le a z) refl (int_le c z) refl
  where
    go : (p : Bool) → int_le a z ≡ p → (q : Bool) → int_le c z ≡ q → int_le (int_max a c) z ≡ (p && q)
    go true e true f = let g : true ≡ int_le (int_max a c) z = omega (arith, ints, clamps) in sym g
    go true e false f = let g : false ≡ int_le (int_max a c) z = omega (arith, ints, clamps) in sym g
    go false e q f = let g : false ≡ int_le (int_max a c) z = omega (arith, ints, clamps) in sym g

below-both : (b d z : ℤ) → int_le z (int_min b d) ≡ (int_le z b && int_le z d)
below-both b d z = go (int_le z b) refl (int_le z d) refl
  where
    go : (p : Bool) → int_le z b ≡ p → (q : Bool) → int_le z d ≡ q → int_le z (int_min b d) ≡ (p && q)
    go true e true f = let g : true ≡ int_le z (int_min b d) = omega (arith, ints, clamps) in sym g
    go true e false f = let g : false ≡ int_le z (int_min b d) = omega (arith, ints, clamps) in sym g
    go false e q f = let g : false ≡ int_le z (int_min b d) = omega (arith, ints, clamps) in sym g

-- what lies in both of two intervals
lies-both : (a b c d z : ℤ) → lies_from (int_max a c) (int_min b d) z ≡ (lies_from a b z && lies_from c d z)
lies-both a b c d z =
    ap (λ p. p && int_le z (int_min b d)) (above-both a c z)
    ∙ (ap (λ p. (int_le a z && int_le c z) && p) (below-both b d z) ∙ and-mixed (int_le a z) (int_le c z) (int_le z b) (int_le z d))

beq-yes : (b : Bool) → beq b true ≡ b
beq-yes true = refl
beq-yes false = refl

-- a condition that compares the column of an interval with a constant, where the numbers that compare so are those from low to high
pub meets : (before : Interval) (c : Condition) (low high k : ℤ) → c.left ≡ before.column → side_of c.right ≡ constant (num k) → IsInterval c.test k low high true
    → IsMeet before c (record { column = before.column; low = int_max before.low low; high = int_min before.high high })
meets before c low high k same right is row z at fits =
    lies-both before.low before.high low high z ∙ ap (λ b. lies_from before.low before.high z && b) (sym holds)
  where
    holds : holds_of c row ≡ lies_from low high z
    holds =
        ap (λ v. answers (test_of c.test) (val_cmp v (side (side_of c.right) row))) (ap (value_at row) same ∙ at)
        ∙ (ap (λ (s : Side). answers (test_of c.test) (val_cmp (num z) (side s row))) right ∙ (is z fits ∙ beq-yes (lies_from low high z)))

-- ---- rows

value-held : (row : Row) (c : ℕ) → list_all is_held row ≡ true → is_held (value_at row c) ≡ true
value-held [] c h = refl
value-held (v ∷ vs) zero h = and-left (is_held v) (list_all is_held vs) h
value-held (v ∷ vs) (suc c) h = value-held vs c (and-right (is_held v) (list_all is_held vs) h)

-- a test that says of rows that fit what an interval says of their numbers
pub interval-rows : (i : Interval) (p : Row → Bool) (types : List ColType) (rows : List Row) → i.column < length types → type_at types i.column ≡ Int → AllByRecursion (Fits types) rows
    → ((row : Row) (z : ℤ) → value_at row i.column ≡ num z → fits_64 z ≡ true → p row ≡ lies_from i.low i.high z) → filter (lies_in i) rows ≡ filter p rows
interval-rows i p types [] near kind fit same = refl
interval-rows i p types (r ∷ rs) near kind fit same =
    ap (λ b. cond b (r ∷ filter (lies_in i) rs) (filter (lies_in i) rs))
    (go (value_at r i.column) refl (value-type types r i.column fit.0 near ∙ kind) (value-held r i.column fit.0.values_are))
    ∙ ap (λ ys. cond (p r) (r ∷ ys) ys) (interval-rows i p types rs near kind fit.1 same)
  where
    go : (v : Val) → value_at r i.column ≡ v → type_of v ≡ Int → is_held v ≡ true → of_number (lies_from i.low i.high) v ≡ p r
    go (num z) at t h = sym (same r z at h)
    go (text s) at t h = cc
