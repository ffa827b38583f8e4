use Rattle.std.proofs.Common.{◌≡◌, ◌++◌, drop, string_bytes}
use Rattle.volcano_stats.specs.Table.{time_rows}
use Rattle.volcano_stats.proofs.table.push_time_rows.Given as goal

abbrev pub invariant-loop-time : goal.invariant-loop-time
invariant-loop-time l =
    string_bytes l.text ++ time_rows l.catalog l.loads (drop l.time-index l.times) ≡ string_bytes l.initial.text ++ time_rows l.catalog l.loads l.times
