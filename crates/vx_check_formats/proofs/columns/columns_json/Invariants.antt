use Rattle.std.proofs.Common.{◌≡◌, map, take}
use Rattle.serde_json.specs.Data.{string}
use Rattle.serde_json.specs.View.{view}
use Rattle.vx_check.specs.Explain.{name_at}
use Rattle.vx_check_formats.proofs.columns.columns_json.Given as goal

abbrev pub invariant-loop-column : goal.invariant-loop-column
invariant-loop-column l = map view l.list.items ≡ map (λ c. string (name_at l.names c)) (take l.column-index l.columns)
