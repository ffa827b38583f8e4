use Rattle.std.proofs.Common.{◌+◌, ℕ, List, subst, sym}
use Rattle.vx_exchange.specs.LaneView.{Way, LaneView}
use Rattle.vx_exchange.specs.Lanes.{AreFresh}
use Rattle.vx_exchange.proofs.LaneLists.{fresh-none, fresh-push}
use Rattle.vx_exchange.proofs.lanes.make_lanes.Goals as goal

pub loop-consumer-init : goal.loop-consumer-init
loop-consumer-init c =
    let way : ℕ → Way = λ j. record { exchange = c.args.exchange; place = c.args.place; consumer = j; types = c.args.types.now; size = c.args.size } in
    let P : List LaneView → Type 0 = λ z. AreFresh 0 way z in
    subst P (sym c.new-lanes.ensures.items) (fresh-none way)

pub loop-consumer-preserved : goal.loop-consumer-preserved
loop-consumer-preserved c =
    let way : ℕ → Way = λ j. record { exchange = c.args.exchange; place = c.args.place; consumer = j; types = c.args.types.now; size = c.args.size } in
    let n = c.loop-consumer.consumer in
    let P : List LaneView → Type 0 = λ z. AreFresh (n + 1) way z in
    subst P (sym c.in_ok-push.ensures.items) (fresh-push n way c.loop-consumer.lanes.items c.in_ok-lane.lane c.loop-consumer.invariant c.in_ok-lane.ensures)
