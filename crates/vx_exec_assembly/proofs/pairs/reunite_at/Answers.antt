use Rattle.std.proofs.Common.{◌≡◌, Some, slice_get, refl, sym, ap, ◌∙◌, subst, Vec, Global}
use Rattle.std.proofs.lemmas.Option.{get_or_from_slice_get}
use Rattle.std.specs.Vec.{with_item}
use Rattle.vx_ports.specs.Packets.{Flows}
use Rattle.vx_ports_rings.specs.Ends.{put_to, taken_from}
use Rattle.vx_ports_rings.specs.declared.ring.RingOut.{RingOut}
use Rattle.vx_exec_threads.specs.declared.inlet.Inlet.{Inlet}
use Rattle.vx_exec_assembly.specs.Pairs.{StillOut, StillIn}
use Rattle.vx_exec_assembly.proofs.Walking.{still-set, out-self, in-self}
use Rattle.vx_exec_assembly.proofs.pairs.reunite_at.Goals as goal

pub returns-clause-reunited : goal.returns-clause-reunited
returns-clause-reunited c =
    let os = c.args.outs.now.items in
    let is = c.args.ins.now.items in
    let l = c.index_mut.result.now in
    let o = c.index_mut-out.result.now in
    let m = c.index_mut-2.result.now in
    let e = c.index_mut-3.result.now in
    let x = c.requires.at_out in
    let y = c.requires.at_in in
    let lz : l ≡ x.list = c.index_mut.ensures.value ∙ get_or_from_slice_get os c.args.putter x.list l x.outer in
    let at : slice_get os c.args.putter ≡ Some l = x.outer ∙ ap Some (sym lz) in
    let inn : slice_get l.items c.args.to ≡ Some c.requires.out =
    subst (λ (v : Vec RingOut Global). slice_get v.items c.args.to ≡ Some c.requires.out) (sym lz) x.inner in
    let here : slice_get l.items c.args.to ≡ Some o =
    inn ∙ ap Some (sym (c.index_mut-out.ensures.value ∙ get_or_from_slice_get l.items c.args.to c.requires.out o inn)) in
    let mz : m ≡ y.list = c.index_mut-2.ensures.value ∙ get_or_from_slice_get is c.args.taker y.list m y.outer in
    let at' : slice_get is c.args.taker ≡ Some m = y.outer ∙ ap Some (sym mz) in
    let inn' : slice_get m.items c.args.place ≡ Some c.requires.inlet =
    subst (λ (v : Vec Inlet Global). slice_get v.items c.args.place ≡ Some c.requires.inlet) (sym mz) y.inner in
    let here' : slice_get m.items c.args.place ≡ Some e =
    inn' ∙ ap Some (sym (c.index_mut-3.ensures.value ∙ get_or_from_slice_get m.items c.args.place c.requires.inlet e inn')) in
    record {
      outs = still-set StillOut out-self os c.args.putter c.args.to l (with_item l c.args.to c.reunite_with.new.out) o c.reunite_with.new.out
          at here refl c.reunite_with.ensures.out;
      ins = still-set StillIn in-self is c.args.taker c.args.place m (with_item m c.args.place c.reunite_with.new.self) e c.reunite_with.new.self
          at' here' refl (c.reunite_with.ensures.taken, c.reunite_with.ensures.same);
    }

pub returns-clause-flows : goal.returns-clause-flows
returns-clause-flows c =
    let os = c.args.outs.now.items in
    let is = c.args.ins.now.items in
    let l = c.index_mut.result.now in
    let o = c.index_mut-out.result.now in
    let m = c.index_mut-2.result.now in
    let e = c.index_mut-3.result.now in
    let x = c.requires.at_out in
    let y = c.requires.at_in in
    let lz : l ≡ x.list = c.index_mut.ensures.value ∙ get_or_from_slice_get os c.args.putter x.list l x.outer in
    let inn : slice_get l.items c.args.to ≡ Some c.requires.out =
    subst (λ (v : Vec RingOut Global). slice_get v.items c.args.to ≡ Some c.requires.out) (sym lz) x.inner in
    let oz : o ≡ c.requires.out = c.index_mut-out.ensures.value ∙ get_or_from_slice_get l.items c.args.to c.requires.out o inn in
    let mz : m ≡ y.list = c.index_mut-2.ensures.value ∙ get_or_from_slice_get is c.args.taker y.list m y.outer in
    let inn' : slice_get m.items c.args.place ≡ Some c.requires.inlet =
    subst (λ (v : Vec Inlet Global). slice_get v.items c.args.place ≡ Some c.requires.inlet) (sym mz) y.inner in
    let ez : e ≡ c.requires.inlet = c.index_mut-3.ensures.value ∙ get_or_from_slice_get m.items c.args.place c.requires.inlet e inn' in
    let f : Flows (put_to o) (taken_from e.ring) =
    subst (λ z. Flows z (taken_from e.ring)) c.reunite_with.ensures.out.0
    (subst (λ z. Flows (put_to c.reunite_with.new.out) z) c.reunite_with.ensures.taken c.reunite_with.ensures.flows) in
    record {
      out = c.requires.out;
      inlet = c.requires.inlet;
      at_out = x;
      at_in = y;
      fact = subst (λ (z : RingOut). Flows (put_to z) (taken_from c.requires.inlet.ring)) oz (subst (λ (z : Inlet). Flows (put_to o) (taken_from z.ring)) ez f);
    }
