use Rattle.std.proofs.Common.{◌≡◌, ◌++◌, map, string_bytes, codes, false, drop, nat_lt}
use Rattle.vx_check.specs.Explain.{separated}
use Rattle.vx_check_sql.specs.Blocks.{entry_sql}
use Rattle.vx_check_sql.proofs.blocks.push_entries.Given as goal

abbrev pub invariant-loop-i : goal.invariant-loop-i
invariant-loop-i l =
    string_bytes l.text ++ separated (codes ", ") (nat_lt 0 l.i) (map (entry_sql (map string_bytes l.columns)) (drop l.i l.order))
    ≡ string_bytes l.initial.text ++ separated (codes ", ") false (map (entry_sql (map string_bytes l.columns)) l.order)
