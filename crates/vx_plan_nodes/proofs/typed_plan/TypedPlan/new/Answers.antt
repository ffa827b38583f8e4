use Rattle.vx_plan_nodes.proofs.typed_plan.TypedPlan.new.Goals as goal

pub invariant_of-result : goal.invariant_of-result
invariant_of-result c = record { ranges_are = c.requires.typed.ranges; few_sizes = c.requires.typed.sizes; typed_nodes = c.requires.typed.nodes; outputs = c.requires.outputs; numbered = c.requires.typed.numbered; closed = c.requires.typed.closed; few_nodes = c.requires.few }
