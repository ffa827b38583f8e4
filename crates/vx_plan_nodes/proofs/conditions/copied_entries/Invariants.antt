use Rattle.std.proofs.Common.{◌≡◌, map, take}
use Rattle.vx_plan_nodes.specs.Outline.{entry_of, is_renamed}
use Rattle.vx_plan_nodes.proofs.conditions.copied_entries.Given as goal

abbrev pub invariant-loop-entry : goal.invariant-loop-entry
invariant-loop-entry l = record {
  entries : map entry_of l.copies.items ≡ map entry_of (take l.entry-index l.entries);
  renamed : map is_renamed l.copies.items ≡ map is_renamed (take l.entry-index l.entries);
}
