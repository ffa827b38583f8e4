use Rattle.std.proofs.Common.{arith, inl, inr, subst, sym, ◌+◌}
use Rattle.std.proofs.lemmas.Bool.{cases_eq}
use Rattle.vx_exec_threads.specs.Joined.{FlowsThrough}
use Rattle.vx_exec_assembly.specs.Plans.{PairIn}
use Rattle.vx_exec_assembly.proofs.Walking.{reunited-self, reunited-then, pair-on, pair-back, apart-on}
use Rattle.vx_exec_assembly.proofs.pairs.reunite_exchange.Goals as goal

pub loop-place-init : goal.loop-place-init
loop-place-init c = (reunited-self c.args.outs.now.items c.args.ins.now.items, λ i j l m. absurd (omega (arith, l)))

pub reunite_producer-requires-clause-rings : goal.reunite_producer-requires-clause-rings
reunite_producer-requires-clause-rings c = λ j l.
    pair-on c.args.outs.now.items c.loop-place.outs.items c.args.ins.now.items c.loop-place.ins.items c.loop-place.invariant.0 (c.args.below + c.loop-place.place) j
    (c.args.above + j) c.args.exchange c.loop-place.place (c.requires.rings c.loop-place.place j c.loop-place-test.true l)

pub reunite_producer-requires-clause-apart : goal.reunite_producer-requires-clause-apart
reunite_producer-requires-clause-apart c =
    apart-on c.args.outs.now.items c.loop-place.outs.items c.args.ins.now.items c.loop-place.ins.items c.loop-place.invariant.0 c.requires.apart

pub loop-place-preserved : goal.loop-place-preserved
loop-place-preserved c =
    let os = c.args.outs.now.items in
    let is = c.args.ins.now.items in
    let was = c.loop-place.invariant in (
      reunited-then os c.loop-place.outs.items c.reunite_producer.new.outs.items is c.loop-place.ins.items c.reunite_producer.new.ins.items was.0
          c.reunite_producer.ensures.reunited,
      λ i j l m. elim (cases_eq i c.loop-place.place) [
        | inl e ↦ subst (λ n. PairIn FlowsThrough os is (c.args.below + n) j (c.args.above + j) c.args.exchange n) (sym e)
            (pair-back os c.loop-place.outs.items is c.loop-place.ins.items was.0 (c.args.below + c.loop-place.place) j (c.args.above + j)
            c.args.exchange c.loop-place.place (c.reunite_producer.ensures.flows j m))
        | inr e ↦ was.1 i j (omega (arith, l, e)) m
      ],
    )
