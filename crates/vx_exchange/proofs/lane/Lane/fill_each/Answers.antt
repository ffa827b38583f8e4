use Rattle.std.proofs.Common.{◌∙◌, List, refl, subst, take}
use Rattle.vx_rows_values.specs.Values.{Row}
use Rattle.vx_exchange.specs.LaneView.{Cuts}
use Rattle.vx_rows_views.specs.Chunks.{all_rows}
use Rattle.vx_rows_views.proofs.Whole.{next-rows}
use Rattle.vx_exchange.proofs.Cuts.{cuts-both, cuts-nothing, range-all}
use Rattle.vx_exchange.proofs.lane.Lane.fill_each.Goals as goal

pub loop-i-init : goal.loop-i-init
loop-i-init c = (refl, refl, cuts-nothing c.args.self.now.way c.args.self.now.current c.args.self.now.ready)

pub loop-i-preserved : goal.loop-i-preserved
loop-i-preserved c =
    let i = c.loop-i.invariant in
    let e = c.in_ok-fill_part.ensures in
    let ts = c.args.chunks.now in
    let t = c.index-chunks-i.result in
    let way = c.args.self.now.way in
    let current = c.args.self.now.current in
    let ready = c.args.self.now.ready in
    let P : List Row → Type 0 = λ xs. Cuts c.loop-i.self.way c.loop-i.self.current c.loop-i.self.ready xs c.fill_part.new.self.current c.fill_part.new.self.ready in
    let more = subst P (range-all c.len.result t.rows c.len.ensures) e.ok in
    let step = cuts-both way current ready (all_rows (take c.loop-i.i ts)) c.loop-i.self.current c.loop-i.self.ready t.rows
    c.fill_part.new.self.current c.fill_part.new.self.ready i.2 (rw i.0 at more) in
    (e.way ∙ i.0, e.closed ∙ i.1, rw (next-rows ts c.loop-i.i t c.loop-i-test.true c.index-chunks-i.is) step)
