use Rattle.std.proofs.Common.{◌≡◌, map, take, string_bytes}
use Rattle.vx_plan_json.specs.Document.{output_form}
use Rattle.vx_plan.specs.Resolve.{output_name}
use Rattle.vx_plan.proofs.columns.output_names.Given as goal

abbrev pub invariant-loop-output : goal.invariant-loop-output
invariant-loop-output l = map string_bytes l.names.items ≡ map output_name (map output_form (take l.output-index l.outputs))
