use Rattle.vx_plan_nodes.proofs.typed_plan.TypedPlan.into_parts.Goals as goal

pub returns-clause-typed : goal.returns-clause-typed
returns-clause-typed c =
    let p = c.args.self in
    record { ranges = p.ranges_are; sizes = p.few_sizes; nodes = p.typed_nodes; numbered = p.numbered; closed = p.closed }
