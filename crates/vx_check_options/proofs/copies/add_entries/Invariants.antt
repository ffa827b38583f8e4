use Rattle.std.proofs.Common.{◌≡◌, ◌++◌, map, drop}
use Rattle.vx_plan_nodes.specs.Describe.{kept_column}
use Rattle.vx_plan_nodes.specs.Outline.{entry_of}
use Rattle.vx_check_options.specs.Options.{entries_from}
use Rattle.vx_check_options.proofs.copies.add_entries.Given as goal

abbrev pub invariant-loop-place : goal.invariant-loop-place
invariant-loop-place l =
    l.fn.found.items ++ entries_from 0 (map (λ e. kept_column (entry_of e)) l.entries) l.column
    ≡ l.found.items ++ entries_from l.place (drop l.place (map (λ e. kept_column (entry_of e)) l.entries)) l.column
