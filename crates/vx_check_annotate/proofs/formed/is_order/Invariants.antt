use Rattle.std.proofs.Common.{◌≡◌, drop}
use Rattle.vx_plan_json.specs.Formed.{is_order}
use Rattle.vx_check_annotate.proofs.formed.is_order.Given as goal

abbrev pub invariant-loop-entry : goal.invariant-loop-entry
invariant-loop-entry l = is_order l.order ≡ is_order (drop l.entry-index l.order)
