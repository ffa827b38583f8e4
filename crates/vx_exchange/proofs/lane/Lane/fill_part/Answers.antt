use Rattle.std.proofs.Common.{arith, ◌∙◌, refl}
use Rattle.std.specs.Prelude.{slice_range}
use Rattle.vx_exchange.proofs.Cuts.{cuts-both, cuts-nothing, range-next, range-none}
use Rattle.vx_exchange.proofs.lane.Lane.fill_part.Goals as goal

pub loop-from-init : goal.loop-from-init
loop-from-init c =
    let s = c.args.self.now in
    record {
      low = omega arith;
      high = c.requires.order;
      way = refl;
      closed = refl;
      cuts = rw (range-none c.args.start c.args.chunk.now.rows) (cuts-nothing s.way s.current s.ready);
    }

pub loop-from-preserved : goal.loop-from-preserved
loop-from-preserved c =
    let i = c.loop-from.invariant in
    let e = c.in_ok-from.ensures in
    let s = c.args.self.now in
    let rows = c.args.chunk.now.rows in
    let next = e.next in
    let low = i.low in
    let step = cuts-both s.way s.current s.ready (slice_range rows c.args.start c.loop-from.from) c.loop-from.self.current c.loop-from.self.ready (slice_range rows c.loop-from.from c.in_ok-from.from)
    c.fill.new.self.current c.fill.new.self.ready i.cuts (rw i.way at e.ok) in
    record {
      low = omega (arith, next, low);
      high = e.within;
      way = e.way ∙ i.way;
      closed = e.closed ∙ i.closed;
      cuts = rw (← (range-next c.args.start c.loop-from.from c.in_ok-from.from rows low (omega (arith, next)))) step;
    }
