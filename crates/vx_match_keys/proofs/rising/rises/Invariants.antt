use Rattle.std.proofs.Common.{◌≡◌, length, take}
use Rattle.vx_rows_values.proofs.SortedFacts.{NoFall}
use Rattle.vx_rows_views.specs.Chunks.{all_rows}
use Rattle.vx_match_keys.proofs.rising.rises.Given as goal

abbrev pub invariant-loop-i : goal.invariant-loop-i
invariant-loop-i l = record { place : l.at ≡ length (all_rows (take l.i l.chunks)); rises : NoFall l.order l.rows.rows l.at }
