-- The parts of computed columns and of conditions that are computed.
use Rattle.std.specs.Prelude.{◌≡◌, ℕ, ◌<◌, Bool, true, false, ◌&&◌, List, map, length, slice_index_or}
use Rattle.std.specs.List.{list_all}
use Rattle.vx_rows_values.specs.Values.{Row}
use Rattle.vx_plan_nodes.specs.Expressions.{answer, says_yes}
use Rattle.vx_plan_nodes.specs.Plan.{Filter, comparing, computing}
use Rattle.vx_plan_nodes.specs.Serial.{compares}

-- a condition holds of the row, or is no comparison
abbrev pub comparison_holds : Filter → Row → Bool
comparison_holds (comparing c) row = compares c row
comparison_holds (computing e) row = true

-- a condition holds of the row, or is not computed
abbrev pub computed_holds : Filter → Row → Bool
computed_holds (comparing c) row = true
computed_holds (computing e) row = says_yes (answer e row)

abbrev pub comparisons_hold : List Filter → Row → Bool
comparisons_hold fs row = list_all (λ f. comparison_holds f row) fs

abbrev pub computed_hold : List Filter → Row → Bool
computed_hold fs row = list_all (λ f. computed_holds f row) fs

-- for each row whether it passes
abbrev pub IsMask : (Row → Bool) → List Row → List Bool → Type 0
IsMask passes rows mask = mask ≡ map passes rows

-- what held before and passes now
pub record IsNarrowed (before : List Bool) (passes : ℕ → Bool) (after : List Bool) : Type 0 where
  pub long : length after ≡ length before
  pub each : (k : ℕ) → k < length before → slice_index_or after k false ≡ (slice_index_or before k false && passes k)
