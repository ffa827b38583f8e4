use Rattle.std.proofs.Common.{◌≡◌, ◌++◌, map, drop, string_bytes}
use Rattle.volcano_stats.specs.Table.{count_rows}
use Rattle.volcano_stats.proofs.table.push_count_rows.Given as goal

abbrev pub invariant-loop-line : goal.invariant-loop-line
invariant-loop-line l =
    let words = map (λ w. w.now) l.words in
    string_bytes l.text ++ count_rows words (drop l.line-index l.lines) ≡ string_bytes l.initial.text ++ count_rows words l.lines
