use Rattle.std.proofs.Common.{◌≡◌, map, take, string_bytes}
use Rattle.vx_plan_json.specs.Document.{entry_form}
use Rattle.vx_plan.specs.Resolve.{entry_name}
use Rattle.vx_plan.proofs.columns.entry_names.Given as goal

abbrev pub invariant-loop-entry : goal.invariant-loop-entry
invariant-loop-entry l = map string_bytes l.names.items ≡ map entry_name (map entry_form (take l.entry-index l.entries))
