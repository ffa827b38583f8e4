use Rattle.std.proofs.Common.{◌∙◌}
use Rattle.vx_exchange.specs.Lanes.{any_closed}
use Rattle.vx_exchange.specs.Sender.{sender_ship}
use Rattle.vx_exchange.proofs.LaneLists.{same-ship, same-along}
use Rattle.vx_exchange.proofs.Senders.{opened, in-ship, sender-fails}
use Rattle.vx_exchange.proofs.sender.SenderSends.accept.Goals as goal

pub returns-in-Err-clause-err : goal.returns-in-Err-clause-err
returns-in-Err-clause-err g c =
    let s = c.args.self.now in
    let t = c.fail.new.self in
    let is_open = opened s.stage (any_closed s.lanes.items) c.requires.open in
    let e = c.fail.ensures in
    let same = same-along s.lanes.items c.take.new.self.lanes.items t.lanes.items c.take.ensures.same e.same in
    rw (is_open.0, e.stage) (λ goes a put h f.
    in-ship goes (sender_ship s) _ _ t.next t.lanes.items _ put (same-ship s.deal t.deal s.lanes.items t.lanes.items (e.deal ∙ c.take.ensures.deal) same)
    (sender-fails goes (sender_ship s) s.next t.next s.lanes.items t.lanes.items a put f is_open.1 same h))
