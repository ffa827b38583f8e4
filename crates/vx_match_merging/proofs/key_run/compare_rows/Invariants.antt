use Rattle.std.proofs.Common.{◌≡◌, drop}
use Rattle.vx_rows.specs.View.{row}
use Rattle.vx_match_merging.specs.Keys.{directions, key_of, key_cmp}
use Rattle.vx_match_merging.proofs.key_run.compare_rows.Given as goal

-- what is left decides
abbrev pub invariant-loop-place : goal.invariant-loop-place
invariant-loop-place l =
    key_cmp (directions l.a_order) (key_of l.a_order (row l.a l.i)) (key_of l.b_order (row l.b l.j))
    ≡ key_cmp (directions (drop l.place l.a_order)) (key_of (drop l.place l.a_order) (row l.a l.i)) (key_of (drop l.place l.b_order) (row l.b l.j))
