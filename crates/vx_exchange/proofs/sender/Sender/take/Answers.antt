use Rattle.std.proofs.Common.{◌≡◌, ◌∙◌, ◌+◌, ◌%◌, refl, sym, ap, subst, length, arith}
use Rattle.std.proofs.lemmas.Nat.{mod_below}
use Rattle.std.proofs.lemmas.List.{length-map}
use Rattle.vx_ops.specs.Turn.{GivesRows}
use Rattle.vx_ops.specs.declared.turn.Polled.{Polled}
use Rattle.vx_exchange.specs.LaneView.{Way, LaneView}
use Rattle.vx_plan_nodes.specs.Routes.{sends_by}
use Rattle.vx_exchange.specs.Lanes.{any_closed, kind_of, bounds_of}
use Rattle.vx_exchange.specs.declared.sender.SenderState.TheVariants.{Open}
use Rattle.vx_exchange.proofs.Held.{routes-so, deals-held, finishes-held}
use Rattle.vx_exchange.specs.Sender.{sender_ship}
use Rattle.vx_exchange.proofs.LaneLists.{same-ship, same-count, numbered-way, numbered-same, served-same, few-same, turn-same, columns-same, all-open, all-from_lanes, open-idle, idle-first, closed-same}
use Rattle.vx_exchange.proofs.Senders.{opened, in-ship, sender-takes, sender-ends, sender-fails}
use Rattle.vx_exchange.proofs.sender.Sender.take.Goals as goal

pub returns-in-Gave-clause-ok : goal.returns-in-Gave-clause-ok
returns-in-Gave-clause-ok g c =
    let s = c.args.self.now in
    let old = s.lanes.items in
    let new = c.deal_rows.new.lanes.items in
    let is_open = opened s.stage (any_closed old) c.requires.open in
    let same = c.deal_rows.ensures.same in
    let end = c.len.ensures in
    let room = c.deal_rows.new.lanes.ok.0 in
    let alike = same-count old new same in
    let many : c.len.result ≡ length old = omega (arith, end, room, alike) in
    let next : (s.next + c.len-count.result) % c.len.result ≡ (s.next + length c.in-Gave.rows.rows) % length old =
    ap (λ z. (s.next + z) % c.len.result) c.len-count.ensures ∙ ap (λ m. (s.next + length c.in-Gave.rows.rows) % m) many in
    rw (c.in-Gave.is, is_open.0) (λ goes routes a put h.
    in-ship goes (sender_ship s) _ _ c.turn-self.result new _ put (same-ship s.deal s.deal old new refl same)
    (sender-takes goes (sender_ship s) s.next c.turn-self.result old new a put c.in-Gave.rows.rows (length-map old (λ (z : LaneView). z.way)) (c.turn-self.ensures ∙ next) (numbered-way s.deal old s.numbered) same (c.in_ok-deal_rows-in-Gave.ensures.ok goes routes) h))

pub returns-in-End-clause-ok : goal.returns-in-End-clause-ok
returns-in-End-clause-ok g c =
    let s = c.args.self.now in
    let old = s.lanes.items in
    let new = c.finish_lanes.new.lanes.items in
    let is_open = opened s.stage (any_closed old) c.requires.open in
    let same = c.finish_lanes.ensures.same in
    rw (c.in-End.is, is_open.0) (λ goes routes a put h.
    in-ship goes (sender_ship s) _ _ s.next new _ put (same-ship s.deal s.deal old new refl same)
    (sender-ends goes (sender_ship s) s.next old new a put is_open.1 (numbered-way s.deal old s.numbered) same c.in_ok-finish_lanes-in-End.ensures.ok h))

pub returns-in-Fault-clause-ok : goal.returns-in-Fault-clause-ok
returns-in-Fault-clause-ok g c =
    let s = c.args.self.now in
    let t = c.fail.new.self in
    let is_open = opened s.stage (any_closed s.lanes.items) c.requires.open in
    let e = c.fail.ensures in
    rw (c.in-Fault.is, is_open.0, e.stage) (λ goes routes a put h.
    in-ship goes (sender_ship s) _ _ t.next t.lanes.items _ put (same-ship s.deal t.deal s.lanes.items t.lanes.items e.deal e.same)
    (sender-fails goes (sender_ship s) s.next t.next s.lanes.items t.lanes.items a put c.in-Fault.field-0 is_open.1 e.same h))

pub deal_rows-requires-clause-open : goal.deal_rows-requires-clause-open
deal_rows-requires-clause-open g c = let s = c.args.self.now in all-open s.lanes.items (opened s.stage (any_closed s.lanes.items) c.requires.open).1

pub deal_rows-requires-clause-types : goal.deal_rows-requires-clause-types
deal_rows-requires-clause-types g c =
    let s = c.args.self.now in
    let old = s.lanes.items in
    let P : Polled → Type 0 = λ z. GivesRows (sender_ship s).types z in
    let typed : c.in-Gave.rows.types ≡ (sender_ship s).types = (subst P c.in-Gave.is c.requires.typed).0 in
    all-from_lanes (λ o. c.in-Gave.rows.types ≡ o.way.types) old (λ j o e. typed ∙ sym (ap (λ (w : Way). w.types) (numbered-way s.deal old s.numbered j o e)))

pub finish_lanes-requires : goal.finish_lanes-requires
finish_lanes-requires g c = let s = c.args.self.now in all-open s.lanes.items (opened s.stage (any_closed s.lanes.items) c.requires.open).1

pub invariant_of-self : goal.invariant_of-self
invariant_of-self g c =
    let s = c.args.self.now in
    let old = s.lanes.items in
    let new = c.deal_rows.new.lanes.items in
    let same = c.deal_rows.ensures.same in
    let count = same-count old new same in
    let is_open = opened s.stage (any_closed old) c.requires.open in
    record {
      numbered = numbered-same s.deal s.deal old new refl same s.numbered;
      served = served-same s.deal old new count s.served;
      few = few-same old new 4294967296 count s.few;
      turns = turn-same s.next old new count s.turns;
      columns = columns-same s.deal s.deal old new refl same.ways s.columns;
      idle = open-idle s.stage old new is_open.0 is_open.1 same;
      idle_before = idle-first new;
      closed_before = closed-same s.first_open old new same s.closed_before;
    }

pub invariant_of-self-in-Gave : goal.invariant_of-self-in-Gave
invariant_of-self-in-Gave g c =
    let s = c.args.self.now in
    let old = s.lanes.items in
    let new = c.deal_rows.new.lanes.items in
    let same = c.deal_rows.ensures.same in
    let count = same-count old new same in
    let is_open = opened s.stage (any_closed old) c.requires.open in
    let turn = c.turn-self.ensures in
    let end = c.len.ensures in
    let room = c.deal_rows.new.lanes.ok.0 in
    let many : c.len.result ≡ length new = omega (arith, end, room) in
    let before = s.turns in
    let below = mod_below (s.next + c.len-count.result) c.len.result (omega (arith, before, count, many)) in
    record {
      numbered = numbered-same s.deal s.deal old new refl same s.numbered;
      served = served-same s.deal old new count s.served;
      few = few-same old new 4294967296 count s.few;
      turns = omega (arith, below, turn, many);
      columns = columns-same s.deal s.deal old new refl same.ways s.columns;
      idle = open-idle s.stage old new is_open.0 is_open.1 same;
      idle_before = idle-first new;
      closed_before = closed-same s.first_open old new same s.closed_before;
    }

pub invariant_of-self-in-Break-branch-2 : goal.invariant_of-self-in-Break-branch-2
invariant_of-self-in-Break-branch-2 g c =
    let s = c.args.self.now in
    let old = s.lanes.items in
    let new = c.finish_lanes.new.lanes.items in
    let same = c.finish_lanes.ensures.same in
    let count = same-count old new same in
    let is_open = opened s.stage (any_closed old) c.requires.open in
    record {
      numbered = numbered-same s.deal s.deal old new refl same s.numbered;
      served = served-same s.deal old new count s.served;
      few = few-same old new 4294967296 count s.few;
      turns = turn-same s.next old new count s.turns;
      columns = columns-same s.deal s.deal old new refl same.ways s.columns;
      idle = open-idle s.stage old new is_open.0 is_open.1 same;
      idle_before = idle-first new;
      closed_before = closed-same s.first_open old new same s.closed_before;
    }

pub invariant_of-self-in-End : goal.invariant_of-self-in-End
invariant_of-self-in-End g c =
    let s = c.args.self.now in
    let old = s.lanes.items in
    let new = c.finish_lanes.new.lanes.items in
    let same = c.finish_lanes.ensures.same in
    let count = same-count old new same in
    let is_open = opened s.stage (any_closed old) c.requires.open in
    record {
      numbered = numbered-same s.deal s.deal old new refl same s.numbered;
      served = served-same s.deal old new count s.served;
      few = few-same old new 4294967296 count s.few;
      turns = turn-same s.next old new count s.turns;
      columns = columns-same s.deal s.deal old new refl same.ways s.columns;
      idle = open-idle Open old new refl is_open.1 same;
      idle_before = idle-first new;
      closed_before = closed-same s.first_open old new same s.closed_before;
    }

pub returns-in-Gave-clause-held : goal.returns-in-Gave-clause-held
returns-in-Gave-clause-held g c =
    let s = c.args.self.now in
    let hash = g.R.Router.route_of c.args.router.now in
    let goes = sends_by hash (λ _. bounds_of s.deal) in
    rw c.in-Gave.is
    (deals-held goes (kind_of s.deal) s.next c.in-Gave.rows.rows s.lanes.items c.deal_rows.new.lanes.items c.deal_rows.ensures.same (c.in_ok-deal_rows-in-Gave.ensures.ok goes (routes-so hash s.deal)))

pub returns-in-End-clause-held : goal.returns-in-End-clause-held
returns-in-End-clause-held g c =
    let e = c.in_ok-finish_lanes-in-End.ensures in
    rw c.in-End.is (finishes-held c.args.self.now.lanes.items c.finish_lanes.new.lanes.items e.same e.ok e.none)
