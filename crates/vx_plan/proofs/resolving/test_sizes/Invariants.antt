use Rattle.std.proofs.Common.{◌≡◌, [], map, drop, take, string_bytes}
use Rattle.vx_plan_json.specs.Fault.{bad_size}
use Rattle.vx_plan.specs.Lookup.{tested_onto}
use Rattle.vx_plan.specs.Resolve.{is_bad_size}
use Rattle.vx_plan.proofs.resolving.test_sizes.Given as goal

abbrev pub invariant-loop-i : goal.invariant-loop-i
invariant-loop-i l = tested_onto is_bad_size bad_size (map string_bytes (take l.i l.sizes)) (map string_bytes (drop l.i l.sizes)) ≡ tested_onto is_bad_size bad_size [] (map string_bytes l.sizes)
