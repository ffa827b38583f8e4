use Rattle.std.proofs.Common.{subst, sym}
use Rattle.vx_exec_threads.specs.Joined.{FlowsThrough}
use Rattle.vx_exec_layout.specs.declared.span.NodeSpan.{NodeSpan}
use Rattle.vx_exec_assembly.specs.Spans.{IsSpanned}
use Rattle.vx_exec_assembly.proofs.Walking.{reunited-self}
use Rattle.vx_exec_assembly.proofs.plans.reunite_span.Goals as goal

pub returns-in-Inner : goal.returns-in-Inner
returns-in-Inner c =
    let os = c.args.outs.now.items in
    let is = c.args.ins.now.items in
    record { reunited = reunited-self os is; flows = subst (λ (z : NodeSpan). IsSpanned FlowsThrough os is z) (sym c.in-Inner.is) tt }

pub returns-in-Scan : goal.returns-in-Scan
returns-in-Scan c =
    let os = c.args.outs.now.items in
    let is = c.args.ins.now.items in
    record { reunited = reunited-self os is; flows = subst (λ (z : NodeSpan). IsSpanned FlowsThrough os is z) (sym c.in-Scan.is) tt }
