use Rattle.std.proofs.Common.{refl}
use Rattle.vx_exchange.proofs.LaneLists.{same-count, numbered-same, served-same, few-same, turn-same, columns-same, idle-from_all, idle-before, closed-same}
use Rattle.vx_exchange.proofs.sender.Sender.fail.Goals as goal

pub invariant_of-self : goal.invariant_of-self
invariant_of-self c =
    let s = c.args.self.now in
    let old = s.lanes.items in
    let new = c.clear_lanes.new.lanes.items in
    let same = c.clear_lanes.ensures.same in
    let count = same-count old new same in
    record {
      numbered = numbered-same s.deal s.deal old new refl same s.numbered;
      served = served-same s.deal old new count s.served;
      few = few-same old new 4294967296 count s.few;
      turns = turn-same s.next old new count s.turns;
      columns = columns-same s.deal s.deal old new refl same.ways s.columns;
      idle = λ _. idle-from_all new c.clear_lanes.ensures.idle;
      idle_before = idle-before s.first_waiting new (idle-from_all new c.clear_lanes.ensures.idle);
      closed_before = closed-same s.first_open old new same s.closed_before;
    }
