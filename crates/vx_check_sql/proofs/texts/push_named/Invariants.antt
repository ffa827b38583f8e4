use Rattle.std.proofs.Common.{◌≡◌, ◌++◌, map, string_bytes, codes, false, drop, nat_lt}
use Rattle.vx_check.specs.Explain.{separated}
use Rattle.vx_check_sql.specs.Blocks.{named}
use Rattle.vx_check_sql.proofs.texts.push_named.Given as goal

abbrev pub invariant-loop-i : goal.invariant-loop-i
invariant-loop-i l =
    string_bytes l.text ++ separated (codes ", ") (nat_lt 0 l.i) (named (map string_bytes l.names) l.i (map string_bytes (drop l.i l.columns)))
    ≡ string_bytes l.initial.text ++ separated (codes ", ") false (named (map string_bytes l.names) 0 (map string_bytes l.columns))
