use Rattle.std.proofs.Common.{◌≡◌, ℕ, ℤ, ◌+◌, ◌<◌, List, [], length, get_or, pos, ap, ◌∙◌, arith}
use Rattle.vx_rows_values.specs.Values.{Val, Row, num, value_at}
use Rattle.vx_rows.specs.View.{row}
use Rattle.vx_rows_views.specs.declared.positions.PositionsRef.{PositionsRef}
use Rattle.vx_rows_views.specs.declared.positions.PositionsRef.TheVariants.{Range}
use Rattle.vx_rows_views.specs.Seen.{seen_positions}
use Rattle.vx_rows_views.specs.Selected.{AreNumbers}
use Rattle.vx_match_keys.proofs.ColumnFacts.{range-at}
use Rattle.vx_ops_computing.specs.declared.numbers.Gathered.{Gathered}
use Rattle.vx_ops_computing.specs.Numbers.{IsGathered}
use Rattle.vx_ops_computing.proofs.numbers.column_numbers.Goals as goal

gathered-as : (n : ℕ) (values also : ℕ → Val) (g : Gathered) → ((k : ℕ) → k < n → values k ≡ also k) → IsGathered n also g → IsGathered n values g
gathered-as n values also g same h = record { there = h.there; same = λ k l. same k l ∙ h.same k l }

module _ (numbers : List ℤ) (at : PositionsRef) (first count column n : ℕ) (rows : List Row) (is : at ≡ Range first count) (many : length rows ≡ n) (are : AreNumbers numbers (seen_positions at) column rows) where
  place : (k : ℕ) → k < n → get_or (seen_positions at) k 0 ≡ first + k
  place k l = let long = are.long in range-at at first count k is (omega (arith, l, many, long))

  ranged-near : (k : ℕ) → k < n → first + k < length numbers
  ranged-near k l =
      let near : get_or (seen_positions at) k 0 < length numbers = are.near k (omega (arith, l, many)) in
      omega (arith, place k l, near)

  ranged-value : (k : ℕ) → k < n → value_at (get_or rows k []) column ≡ num (get_or numbers (first + k) (pos 0))
  ranged-value k l = are.values k (omega (arith, l, many)) ∙ ap (λ (p : ℕ). num (get_or numbers p (pos 0))) (place k l)

pub lying-requires : goal.lying-requires
lying-requires c =
    let r = c.in-Some-default-Range in
    ranged-near r.numbers.now r.field-0-1 r.first r.field-0-1-1 c.args.column c.args.count c.args.chunk.now.rows r.field-0-1-is c.requires.long r.ensures.values

pub returns-in-Some-default-Range : goal.returns-in-Some-default-Range
returns-in-Some-default-Range c =
    let r = c.in-Some-default-Range in
    let rows = c.args.chunk.now.rows in
    gathered-as c.args.count (λ k. value_at (row c.args.chunk.now k) c.args.column) (λ k. num (get_or r.numbers.now (r.first + k) (pos 0))) c.lying.result
    (ranged-value r.numbers.now r.field-0-1 r.first r.field-0-1-1 c.args.column c.args.count rows r.field-0-1-is c.requires.long r.ensures.values)
    c.lying.ensures
