use Rattle.std.proofs.Common.{◌≡◌, ◌++◌, map, take}
use Rattle.serde_json.specs.View.{view}
use Rattle.vx_rows_values.specs.ValueView.{val_of}
use Rattle.vx_check_formats.specs.Json.{fixed_json}
use Rattle.vx_check_formats.proofs.facts.push_fixed.Given as goal

abbrev pub invariant-loop-value : goal.invariant-loop-value
invariant-loop-value l = map view l.list.items ≡ map view l.fn.list.items ++ map (fixed_json l.names l.column) (map (λ u. val_of u.now) (take l.value-index l.values))
