use Rattle.std.proofs.Common.{arith, inl, inr, subst, sym}
use Rattle.std.specs.List.{slice_index_or}
use Rattle.std.proofs.lemmas.Bool.{cases_eq}
use Rattle.vx_exec_layout.specs.declared.span.NodeSpan.{NodeSpan}
use Rattle.vx_exec_layout.specs.declared.span.NodeSpan.TheVariants.{Inner}
use Rattle.vx_exec_threads.specs.Joined.{FlowsThrough}
use Rattle.vx_exec_assembly.specs.Spans.{IsSpanned}
use Rattle.vx_exec_assembly.proofs.Walking.{reunited-self, reunited-then, apart-on}
use Rattle.vx_exec_assembly.proofs.Spanning.{spanned-on, spanned-back}
use Rattle.vx_exec_assembly.proofs.Finding.{same-or}
use Rattle.vx_exec_assembly.proofs.plans.reunite_spans.Goals as goal

pub loop-k-init : goal.loop-k-init
loop-k-init c = (reunited-self c.args.outs.now.items c.args.ins.now.items, λ m d l. absurd (omega (arith, l)))

pub reunite_span-requires-clause-small : goal.reunite_span-requires-clause-small
reunite_span-requires-clause-small c = c.requires.small c.loop-k.k Inner c.loop-k-test.true

pub reunite_span-requires-clause-rings : goal.reunite_span-requires-clause-rings
reunite_span-requires-clause-rings c =
    spanned-on c.args.outs.now.items c.loop-k.outs.items c.args.ins.now.items c.loop-k.ins.items c.loop-k.invariant.0 (slice_index_or c.args.spans.now c.loop-k.k Inner)
    (c.requires.rings c.loop-k.k Inner c.loop-k-test.true)

pub reunite_span-requires-clause-apart : goal.reunite_span-requires-clause-apart
reunite_span-requires-clause-apart c =
    apart-on c.args.outs.now.items c.loop-k.outs.items c.args.ins.now.items c.loop-k.ins.items c.loop-k.invariant.0 c.requires.apart

pub loop-k-preserved : goal.loop-k-preserved
loop-k-preserved c =
    let os = c.args.outs.now.items in
    let is = c.args.ins.now.items in
    let k = c.loop-k.k in
    let s : NodeSpan = slice_index_or c.args.spans.now k Inner in
    let was = c.loop-k.invariant in
    let back : IsSpanned FlowsThrough os is s = spanned-back os c.loop-k.outs.items is c.loop-k.ins.items was.0 s c.reunite_span.ensures.flows in (
      reunited-then os c.loop-k.outs.items c.reunite_span.new.outs.items is c.loop-k.ins.items c.reunite_span.new.ins.items was.0 c.reunite_span.ensures.reunited,
      λ m d l. elim (cases_eq m k) [
        | inl e ↦ subst (λ n. IsSpanned FlowsThrough os is (slice_index_or c.args.spans.now n d)) (sym e)
            (subst (λ (z : NodeSpan). IsSpanned FlowsThrough os is z) (same-or c.args.spans.now k Inner d c.loop-k-test.true) back)
        | inr e ↦ was.1 m d (omega (arith, l, e))
      ],
    )
