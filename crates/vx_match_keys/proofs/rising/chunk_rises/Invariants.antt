use Rattle.vx_rows_values.proofs.SortedFacts.{NoFall}
use Rattle.vx_match_keys.proofs.rising.chunk_rises.Given as goal

abbrev pub invariant-loop-i : goal.invariant-loop-i
invariant-loop-i l = NoFall l.order l.chunk.rows l.i
