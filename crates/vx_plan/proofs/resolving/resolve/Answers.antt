use Rattle.std.proofs.Common.{map, string_bytes, arith}
use Rattle.vx_rows_values.specs.Ranges.{range_form}
use Rattle.vx_plan.proofs.PlanFacts.{resolved-typed}
use Rattle.vx_plan.proofs.resolving.resolve.Goals as goal

pub new-requires-clause-typed : goal.new-requires-clause-typed
new-requires-clause-typed c =
    let typed = resolved-typed (record { catalog = c.args.catalog.now; ranges = map range_form c.ranges-2.result.now; sizes = map string_bytes c.sizes.result.now }) _ _ _ c.len-relations.ensures.fine c.root.ensures.formed c.in_ok-test_sizes.ensures c.in_ok-test_ranges.ensures c.in_ok-root.ensures.value in
    rw (c.in_ok-own.ensures, c.in_ok-sizes.ensures, c.in_ok-ranges.ensures) typed.0

pub new-requires-clause-few : goal.new-requires-clause-few
new-requires-clause-few c =
    let typed = resolved-typed (record { catalog = c.args.catalog.now; ranges = map range_form c.ranges-2.result.now; sizes = map string_bytes c.sizes.result.now }) _ _ _ c.len-relations.ensures.fine c.root.ensures.formed c.in_ok-test_sizes.ensures c.in_ok-test_ranges.ensures c.in_ok-root.ensures.value in
    omega (arith, typed.1, c.in_ok-root.ensures.count, c.root.ensures.few)

pub new-requires-clause-outputs : goal.new-requires-clause-outputs
new-requires-clause-outputs c =
    let typed = resolved-typed (record { catalog = c.args.catalog.now; ranges = map range_form c.ranges-2.result.now; sizes = map string_bytes c.sizes.result.now }) _ _ _ c.len-relations.ensures.fine c.root.ensures.formed c.in_ok-test_sizes.ensures c.in_ok-test_ranges.ensures c.in_ok-root.ensures.value in
    rw c.in_ok-own.ensures typed.2
