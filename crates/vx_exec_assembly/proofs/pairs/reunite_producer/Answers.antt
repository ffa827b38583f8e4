use Rattle.std.proofs.Common.{arith, inl, inr, subst, sym, ◌+◌}
use Rattle.std.proofs.lemmas.Bool.{cases_eq}
use Rattle.vx_exec_threads.specs.Joined.{FlowsThrough}
use Rattle.vx_exec_assembly.specs.Plans.{PairIn}
use Rattle.vx_exec_assembly.proofs.Walking.{reunited-self, reunited-then, pair-on, pair-back, apart-on}
use Rattle.vx_exec_assembly.proofs.pairs.reunite_producer.Goals as goal

pub loop-place-init : goal.loop-place-init
loop-place-init c = (reunited-self c.args.outs.now.items c.args.ins.now.items, λ i l. absurd (omega (arith, l)))

pub reunite_pair-requires : goal.reunite_pair-requires
reunite_pair-requires c =
    let os = c.args.outs.now.items in
    let is = c.args.ins.now.items in
    let was = c.loop-place.invariant.0 in
    record {
      ring = pair-on os c.loop-place.outs.items is c.loop-place.ins.items was c.args.putter c.loop-place.place (c.args.above + c.loop-place.place) c.args.exchange
          c.args.from (c.requires.rings c.loop-place.place c.loop-place-test.true);
      apart = apart-on os c.loop-place.outs.items is c.loop-place.ins.items was c.requires.apart;
    }

pub loop-place-preserved : goal.loop-place-preserved
loop-place-preserved c =
    let os = c.args.outs.now.items in
    let is = c.args.ins.now.items in
    let was = c.loop-place.invariant in (
      reunited-then os c.loop-place.outs.items c.reunite_pair.new.outs.items is c.loop-place.ins.items c.reunite_pair.new.ins.items was.0
          c.reunite_pair.ensures.reunited,
      λ i l. elim (cases_eq i c.loop-place.place) [
        | inl e ↦ subst (λ n. PairIn FlowsThrough os is c.args.putter n (c.args.above + n) c.args.exchange c.args.from) (sym e)
            (pair-back os c.loop-place.outs.items is c.loop-place.ins.items was.0 c.args.putter c.loop-place.place
            (c.args.above + c.loop-place.place) c.args.exchange c.args.from c.reunite_pair.ensures.flows)
        | inr e ↦ was.1 i (omega (arith, l, e))
      ],
    )
