use Rattle.std.proofs.Common.{◌-◌, length, drop}
use Rattle.vx_functions.specs.Like.{is_end, matches}
use Rattle.vx_functions.specs.Rows.{IsRow}
use Rattle.vx_functions.proofs.patterns.does_match.Given as goal

abbrev pub invariant-loop-back : goal.invariant-loop-back
invariant-loop-back l = IsRow is_end l.text l.fn.row → IsRow (matches (drop (length l.parts - l.back) l.parts)) l.text l.row
