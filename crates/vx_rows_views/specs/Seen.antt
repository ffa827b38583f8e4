-- Positions that are kept in 32 bits or in 64, and those that a loop goes over.
use Rattle.std.specs.Prelude.{ℕ, ◌+◌, List}
use Rattle.vx_rows.specs.Lists.{each_below}
use Rattle.vx_rows_views.specs.declared.positions.PositionWidth.{PositionWidth}
use Rattle.vx_rows_views.specs.declared.positions.PositionWidth.TheVariants as position_width
use Rattle.vx_rows_views.specs.declared.positions.PositionsRef.{PositionsRef}
use Rattle.vx_rows_views.specs.declared.positions.PositionsRef.TheVariants as seen

-- the positions of a list, in order
abbrev pub kept_positions : PositionWidth → List ℕ
kept_positions (position_width.Narrow v) = v.items
kept_positions (position_width.Wide v) = v.items

-- the positions that a loop goes over
abbrev pub seen_positions : PositionsRef → List ℕ
seen_positions (seen.Range from count) = each_below count (λ k. from + k)
seen_positions (seen.Narrow list) = list.now
seen_positions (seen.Wide list) = list.now
