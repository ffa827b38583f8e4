use Rattle.std.proofs.Common.{◌+◌, sym, ap, ◌∙◌, subst}
use Rattle.vx_ports_rings.specs.Ends.{IsRing, taken_from}
use Rattle.vx_exec_wiring.specs.Giving.{GainsInlet, IsNewRing, MakesRings, holds_of}
use Rattle.vx_exec_wiring.proofs.Each.{rings-more}
use Rattle.vx_exec_wiring.proofs.Shares.{as-many}
use Rattle.vx_exec_wiring.proofs.rings.rings_of.Goals as goal

pub loop-place-preserved : goal.loop-place-preserved
loop-place-preserved c =
    let x = c.args.exchange in
    let o = c.in_ok-pair.pair.0 in
    let i = c.in_ok-pair.pair.1 in
    let e = c.new-inlet.result in
    let old = holds_of c.args.shares.now.items in
    let mid = c.loop-place.shares.items in
    let new = c.give_inlet.new.shares.items in
    let ring : IsNewRing x.number c.args.from o e = record {
      ring = subst (λ v. IsRing o v) (sym c.new-inlet.ensures.ring) c.in_ok-pair.ensures.ring;
      put = c.in_ok-pair.ensures.fresh.0;
      exchange = c.new-inlet.ensures.way.0;
      from = c.new-inlet.ensures.way.1;
      taken = ap taken_from c.new-inlet.ensures.ring ∙ c.in_ok-pair.ensures.fresh.1;
      queue = c.new-inlet.ensures.empty;
    }
    in
    record {
      same = as-many (GainsInlet e) mid new _ c.in_ok-give_inlet.ensures ∙ c.loop-place.invariant.same;
      makes = subst (λ v. MakesRings x c.args.from old (c.loop-place.place + 1) v (holds_of new)) (sym c.in_ok-push.ensures.items)
          (rings-more x c.args.from old c.loop-place.place c.loop-place.outs.items (holds_of mid) (holds_of new) o e c.loop-place.invariant.makes ring c.in_ok-give_inlet.ensures);
    }
