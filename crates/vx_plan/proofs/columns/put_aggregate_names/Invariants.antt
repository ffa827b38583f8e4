use Rattle.std.proofs.Common.{◌≡◌, ◌++◌, map, take, string_bytes}
use Rattle.vx_plan_json.specs.Document.{aggregate_form}
use Rattle.vx_plan.proofs.columns.put_aggregate_names.Given as goal

abbrev pub invariant-loop-aggregate : goal.invariant-loop-aggregate
invariant-loop-aggregate l = map string_bytes l.list.items ≡ map string_bytes l.initial.list.items ++ map (λ a. a.name) (map aggregate_form (take l.aggregate-index l.aggregates))
