use Rattle.std.proofs.Common.{◌≡◌, ◌++◌, map, string_bytes, false, drop, nat_lt}
use Rattle.vx_check.specs.Explain.{separated}
use Rattle.vx_check_sql.proofs.texts.push_separated.Given as goal

abbrev pub invariant-loop-i : goal.invariant-loop-i
invariant-loop-i l =
    string_bytes l.text ++ separated l.between (nat_lt 0 l.i) (map string_bytes (drop l.i l.texts))
    ≡ string_bytes l.initial.text ++ separated l.between false (map string_bytes l.texts)
