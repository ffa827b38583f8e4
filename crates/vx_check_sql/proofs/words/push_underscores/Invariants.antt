use Rattle.std.proofs.Common.{◌≡◌, ◌++◌, replicate, string_bytes}
use Rattle.vx_check_sql.proofs.words.push_underscores.Given as goal

abbrev pub invariant-loop : goal.invariant-loop
invariant-loop l =
    string_bytes l.text ≡ string_bytes l.initial.text ++ replicate l.counter 95
