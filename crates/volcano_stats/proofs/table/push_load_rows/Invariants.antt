use Rattle.std.proofs.Common.{◌≡◌, ◌++◌, drop, string_bytes}
use Rattle.volcano_stats.specs.Table.{load_rows}
use Rattle.volcano_stats.proofs.table.push_load_rows.Given as goal

abbrev pub invariant-loop-load : goal.invariant-loop-load
invariant-loop-load l = string_bytes l.text ++ load_rows l.catalog (drop l.load-index l.loads) ≡ string_bytes l.initial.text ++ load_rows l.catalog l.loads
