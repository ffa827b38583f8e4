use Rattle.std.proofs.Common.{arith, length, refl}
use Rattle.vx_catalog_loading.proofs.CutsFacts.{more_cuts, end_cut}
use Rattle.vx_catalog_loading.proofs.cuts.cuts_of.Goals as goal

pub loop-preserved : goal.loop-preserved
loop-preserved c =
    let text = c.args.text.now in
    let next = c.next_cut-next in
    record {
      near = next.ensures.within;
      cuts = rw c.in_ok-push-2.ensures.items
          (more_cuts text c.loop.cuts.items c.loop.last next.result c.loop.invariant.cuts (omega arith) next.ensures.within next.ensures.cut);
    }

pub returns : goal.returns
returns c =
    let text = c.args.text.now in
    rw c.in_ok-push-3.ensures.items
    (more_cuts text c.loop.cuts.items c.loop.last (length text) c.loop.invariant.cuts c.loop.invariant.near (omega arith) (end_cut text (length text) refl))
