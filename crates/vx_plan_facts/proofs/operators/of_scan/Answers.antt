use Rattle.std.proofs.Common.{ap, map}
use Rattle.vx_plan_facts.specs.FactsView.{fixed_of}
use Rattle.vx_plan_facts.proofs.Kept.{scan-named, scan-keeps}
use Rattle.vx_plan_facts.proofs.operators.of_scan.Goals as goal

pub invariant_of-result : goal.invariant_of-result
invariant_of-result c = record { named = rw c.in_ok-each_itself.ensures (scan-named c.args.width) }

pub returns : goal.returns
returns c = scan-keeps c.args.width c.in_ok-each_itself.field-0.items (map fixed_of c.new.result.items) c.in_ok-each_itself.ensures (ap (map fixed_of) c.new.ensures.items)
