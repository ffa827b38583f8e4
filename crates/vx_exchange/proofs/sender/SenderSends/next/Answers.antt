use Rattle.std.proofs.Common.{◌≡◌, ◌∙◌, ◌&&◌, not, List, true, Option, Some, None, refl, sym, ap, subst, length, All, []}
use Rattle.std.specs.Prelude.{IfNone}
use Rattle.std.proofs.lemmas.List.{length-map}
use Rattle.std.proofs.lemmas.Option.{IfSome_then}
use Rattle.vx_ports.specs.Packets.{PacketView, closes, last, fault}
use Rattle.vx_exchange.specs.LaneView.{Way, LaneView}
use Rattle.vx_exchange.specs.Lanes.{ways_of, ship_of, may_close, AreNumbered, ClosedBefore}
use Rattle.vx_exchange_ends.specs.Ship.{IsShipped, IsCutShort}
use Rattle.vx_exchange.specs.Sender.{takes_more, SenderAt}
use Rattle.vx_exchange_ends.specs.Tasks.{sends_by_ship}
use Rattle.vx_exchange.specs.declared.sender.SenderState.{SenderState}
use Rattle.vx_exchange.proofs.LaneLists.{ways-count, same-count, same-any, same-ship, numbered-same, served-same, few-same, turn-same, columns-same, all-idle, given-same, given-idle, gives-same, gives-idle, gives-unclosed, closed-ways, closed-idle, closes-somewhere, idle-before, closed-same}
use Rattle.vx_exchange_ends.specs.Queued.{IsTakenOut}
use Rattle.vx_exchange.specs.Queued.{lanes_held, lanes_unclosed}
use Rattle.vx_exchange.proofs.Held.{gives-taken, closes-taken}
use Rattle.vx_exchange.proofs.Senders.{closes-with, open-not_failing, ending-not_failing, gives-now, closes-now, sender-shipped, sender-cut}
use Rattle.vx_exchange.proofs.sender.SenderSends.next.Goals as goal

both-none : {X : Type 0} (r : Option X) {P Q R : Type 0} → IfNone r P → IfNone r Q → (P → Q → R) → IfNone r R
both-none None h k f = f h k
both-none (Some x) h k f = tt

pub invariant_of-self : goal.invariant_of-self
invariant_of-self c =
    let s = c.args.self.now in
    let old = s.lanes.items in
    let new = c.next_packet.new.lanes.items in
    let e = c.next_packet.ensures in
    let same = given-same old new c.next_packet.result e.some e.same in
    let count = same-count old new same in
    record {
      numbered = numbered-same s.deal s.deal old new refl same s.numbered;
      served = served-same s.deal old new count s.served;
      few = few-same old new 4294967296 count s.few;
      turns = turn-same s.next old new count s.turns;
      columns = columns-same s.deal s.deal old new refl same.ways s.columns;
      idle = given-idle s.stage old new c.next_packet.result (open-not_failing s.stage c.in-Open.is) s.idle e.some e.same;
      idle_before = e.before;
      closed_before = closed-same s.first_open old new same s.closed_before;
    }

pub returns-in-Open-clause-some : goal.returns-in-Open-clause-some
returns-in-Open-clause-some c =
    let s = c.args.self.now in
    IfSome_then c.next_packet.result c.next_packet.ensures.some (λ x p. λ goes a g h.
    gives-now goes s.deal s.stage s.next s.lanes.items c.next_packet.new.lanes.items a g x.0 x.1 (open-not_failing s.stage c.in-Open.is) p h)

pub returns-in-Open-clause-open : goal.returns-in-Open-clause-open
returns-in-Open-clause-open c =
    let s = c.args.self.now in
    let old = s.lanes.items in
    let new = c.next_packet.new.lanes.items in
    let e = c.next_packet.ensures in
    ap (λ b. takes_more s.stage && not b) (same-any old new (given-same old new c.next_packet.result e.some e.same))

pub returns-in-Open-clause-closing : goal.returns-in-Open-clause-closing
returns-in-Open-clause-closing c =
    let s = c.args.self.now in
    IfSome_then c.next_packet.result c.next_packet.ensures.some (λ x p.
    gives-unclosed s.stage s.lanes.items c.next_packet.new.lanes.items x.0 x.1 (open-not_failing s.stage c.in-Open.is) s.idle p ∙ sym p.of_rows)

pub returns-in-Open-clause-post : goal.returns-in-Open-clause-post
returns-in-Open-clause-post c =
    let s = c.args.self.now in
    let old = s.lanes.items in
    let new = c.next_packet.new.lanes.items in
    let e = c.next_packet.ensures in
    ap sends_by_ship (same-ship s.deal s.deal old new refl (given-same old new c.next_packet.result e.some e.same))

pub invariant_of-self-in-Some-1 : goal.invariant_of-self-in-Some-1
invariant_of-self-in-Some-1 c =
    let s = c.args.self.now in
    let old = s.lanes.items in
    let new = c.next_packet-in-Ending.new.lanes.items in
    let x = c.in-Some.ensures.some in
    let same = gives-same old new _ _ x in
    let count = same-count old new same in
    record {
      numbered = numbered-same s.deal s.deal old new refl same s.numbered;
      served = served-same s.deal old new count s.served;
      few = few-same old new 4294967296 count s.few;
      turns = turn-same s.next old new count s.turns;
      columns = columns-same s.deal s.deal old new refl same.ways s.columns;
      idle = gives-idle s.stage old new _ _ (ending-not_failing s.stage c.in-Ending.is) s.idle x;
      idle_before = c.next_packet-in-Ending.ensures.before;
      closed_before = closed-same s.first_open old new same s.closed_before;
    }

pub returns-in-Some-clause-some : goal.returns-in-Some-clause-some
returns-in-Some-clause-some c = λ goes a g h.
    let s = c.args.self.now in
    gives-now goes s.deal s.stage s.next s.lanes.items c.next_packet-in-Ending.new.lanes.items a g _ _ (ending-not_failing s.stage c.in-Ending.is) c.in-Some.ensures.some h

pub returns-in-Some-clause-closing : goal.returns-in-Some-clause-closing
returns-in-Some-clause-closing c =
    let s = c.args.self.now in
    let x = c.in-Some.ensures.some in
    gives-unclosed s.stage s.lanes.items c.next_packet-in-Ending.new.lanes.items _ _ (ending-not_failing s.stage c.in-Ending.is) s.idle x ∙ sym x.of_rows

pub returns-in-Some-clause-post : goal.returns-in-Some-clause-post
returns-in-Some-clause-post c =
    let s = c.args.self.now in
    let old = s.lanes.items in
    let new = c.next_packet-in-Ending.new.lanes.items in
    ap sends_by_ship (same-ship s.deal s.deal old new refl (gives-same old new _ _ c.in-Some.ensures.some))

pub invariant_of-self-in-Ending : goal.invariant_of-self-in-Ending
invariant_of-self-in-Ending c =
    let s = c.args.self.now in
    let old = s.lanes.items in
    let mid = c.next_packet-in-Ending.new.lanes.items in
    let new = c.close_next.new.lanes.items in
    let k = c.in_default.ensures.same in
    let e = c.close_next.ensures in
    let w = closed-ways last mid new c.close_next.result e.some e.same in
    let count = ways-count mid new w ∙ ap (λ (zs : List LaneView). length zs) k in
    let N : List Way → Type 0 = λ ws. AreNumbered s.deal ws in
    let I : List LaneView → Type 0 = λ zs. All (λ o. o.ready ≡ []) zs in
    let idle = closed-idle last mid new c.close_next.result (subst I (sym k) c.in_default.ensures.none) e.some e.same in
    record {
      numbered = subst N (sym (w ∙ ap ways_of k)) s.numbered;
      served = served-same s.deal old new count s.served;
      few = few-same old new 4294967296 count s.few;
      turns = turn-same s.next old new count s.turns;
      columns = columns-same s.deal s.deal old new refl (w ∙ ap ways_of k) s.columns;
      idle = λ _. idle;
      idle_before = idle-before _ new idle;
      closed_before = e.before;
    }

pub returns-in-Ending-clause-some : goal.returns-in-Ending-clause-some
returns-in-Ending-clause-some c =
    let s = c.args.self.now in
    let mid = c.next_packet-in-Ending.new.lanes.items in
    let k = c.in_default.ensures.same in
    let N : List LaneView → Type 0 = λ zs. AreNumbered s.deal (ways_of zs) in
    let I : List LaneView → Type 0 = λ zs. All (λ o. o.ready ≡ []) zs in
    let C : SenderState → Type 0 = λ st. closes-with st last in
    IfSome_then c.close_next.result c.close_next.ensures.some (λ x p. λ goes a g h.
    let H : List LaneView → Type 0 = λ zs. SenderAt goes (ship_of s.deal (ways_of zs)) s.stage s.next zs a g in
    closes-now goes s.deal s.stage s.next last mid c.close_next.new.lanes.items a g x.0 x.1 (subst N (sym k) s.numbered) (subst I (sym k) c.in_default.ensures.none) (subst C (sym c.in-Ending.is) refl) p
    (subst H (sym k) h))

pub returns-in-Ending-clause-drained : goal.returns-in-Ending-clause-drained
returns-in-Ending-clause-drained c =
    let s = c.args.self.now in
    let old = s.lanes.items in
    let k = c.in_default.ensures.same in
    let e = c.close_next.ensures in
    let I : List LaneView → Type 0 = λ zs. All (λ o. o.closed ≡ true) zs in
    both-none c.close_next.result e.none e.same (λ closed same. λ goes a g h _.
    let D : List LaneView → Type 0 = λ zs. IsShipped goes (ship_of s.deal (ways_of zs)) a.rows g in
    let H : SenderState → Type 0 = λ st. SenderAt goes (ship_of s.deal (ways_of old)) st s.next old a g in
    subst D (sym (same ∙ k)) (sender-shipped goes (ship_of s.deal (ways_of old)) s.next old a g (length-map old (λ (z : LaneView). z.way)) (subst I k closed) c.in_default.ensures.none (subst H c.in-Ending.is h)))

pub invariant_of-self-in-Failing : goal.invariant_of-self-in-Failing
invariant_of-self-in-Failing c =
    let s = c.args.self.now in
    let old = s.lanes.items in
    let new = c.close_next-in-Failing.new.lanes.items in
    let e = c.close_next-in-Failing.ensures in
    let w = closed-ways fault old new c.close_next-in-Failing.result e.some e.same in
    let count = ways-count old new w in
    let N : List Way → Type 0 = λ ws. AreNumbered s.deal ws in
    let M : SenderState → Type 0 = λ st. may_close st old ≡ true in
    let idle = closed-idle fault old new c.close_next-in-Failing.result (all-idle old (s.idle (subst M (sym c.in-Failing.is) refl))) e.some e.same in
    record {
      numbered = subst N (sym w) s.numbered;
      served = served-same s.deal old new count s.served;
      few = few-same old new 4294967296 count s.few;
      turns = turn-same s.next old new count s.turns;
      columns = columns-same s.deal s.deal old new refl w s.columns;
      idle = λ _. idle;
      idle_before = idle-before s.first_waiting new idle;
      closed_before = e.before;
    }

pub returns-in-Failing-clause-some : goal.returns-in-Failing-clause-some
returns-in-Failing-clause-some c =
    let s = c.args.self.now in
    let old = s.lanes.items in
    let M : SenderState → Type 0 = λ st. may_close st old ≡ true in
    let C : SenderState → Type 0 = λ st. closes-with st fault in
    IfSome_then c.close_next-in-Failing.result c.close_next-in-Failing.ensures.some (λ x p. λ goes a g h.
    closes-now goes s.deal s.stage s.next fault old c.close_next-in-Failing.new.lanes.items a g x.0 x.1 s.numbered (all-idle old (s.idle (subst M (sym c.in-Failing.is) refl))) (subst C (sym c.in-Failing.is) refl) p h)

pub returns-in-Failing-clause-cut : goal.returns-in-Failing-clause-cut
returns-in-Failing-clause-cut c =
    let s = c.args.self.now in
    let old = s.lanes.items in
    let e = c.close_next-in-Failing.ensures in
    both-none c.close_next-in-Failing.result e.none e.same (λ closed same. λ goes a g h f _.
    let D : List LaneView → Type 0 = λ zs. IsCutShort goes (ship_of s.deal (ways_of zs)) a.rows g in
    let H : SenderState → Type 0 = λ st. SenderAt goes (ship_of s.deal (ways_of old)) st s.next old a g in
    subst D (sym same) (sender-cut goes (ship_of s.deal (ways_of old)) s.next old a g (length-map old (λ (z : LaneView). z.way)) closed (subst H c.in-Failing.is h)))

pub returns-in-Failing-clause-closing : goal.returns-in-Failing-clause-closing
returns-in-Failing-clause-closing c =
    let s = c.args.self.now in
    IfSome_then c.close_next-in-Failing.result c.close_next-in-Failing.ensures.some (λ x p.
    closes-somewhere fault s.lanes.items c.close_next-in-Failing.new.lanes.items x.0 x.1 p ∙ sym (ap (λ (z : PacketView). closes z.content) p.packet))

pub returns-in-Failing-clause-post : goal.returns-in-Failing-clause-post
returns-in-Failing-clause-post c =
    let s = c.args.self.now in
    let e = c.close_next-in-Failing.ensures in
    ap sends_by_ship (ap (ship_of s.deal) (closed-ways fault s.lanes.items c.close_next-in-Failing.new.lanes.items c.close_next-in-Failing.result e.some e.same))

pub returns-in-Ending-clause-closing : goal.returns-in-Ending-clause-closing
returns-in-Ending-clause-closing c =
    let mid = c.next_packet-in-Ending.new.lanes.items in
    IfSome_then c.close_next.result c.close_next.ensures.some (λ x p. closes-somewhere last mid c.close_next.new.lanes.items x.0 x.1 p ∙ sym (ap (λ (z : PacketView). closes z.content) p.packet))

pub returns-in-Ending-clause-post : goal.returns-in-Ending-clause-post
returns-in-Ending-clause-post c =
    let s = c.args.self.now in
    let mid = c.next_packet-in-Ending.new.lanes.items in
    let e = c.close_next.ensures in
    ap sends_by_ship (ap (ship_of s.deal) (closed-ways last mid c.close_next.new.lanes.items c.close_next.result e.some e.same ∙ ap ways_of c.in_default.ensures.same))

pub returns-in-Open-clause-takes : goal.returns-in-Open-clause-takes
returns-in-Open-clause-takes c =
    let s = c.args.self.now in
    IfSome_then c.next_packet.result c.next_packet.ensures.some (λ x p. gives-taken s.lanes.items c.next_packet.new.lanes.items x.0 x.1 p)

pub returns-in-Some-clause-takes : goal.returns-in-Some-clause-takes
returns-in-Some-clause-takes c =
    let s = c.args.self.now in
    gives-taken s.lanes.items c.next_packet-in-Ending.new.lanes.items c.in-Some.to c.in-Some.packet c.in-Some.ensures.some

pub returns-in-Ending-clause-takes : goal.returns-in-Ending-clause-takes
returns-in-Ending-clause-takes c =
    let mid = c.next_packet-in-Ending.new.lanes.items in
    let new = c.close_next.new.lanes.items in
    IfSome_then c.close_next.result c.close_next.ensures.some (λ x p.
    let T : List LaneView → Type 0 = λ zs. IsTakenOut x.0 x.1 (lanes_held zs) (lanes_held new) (lanes_unclosed zs) (lanes_unclosed new) in
    subst T c.in_default.ensures.same (closes-taken last mid new x.0 x.1 refl refl p))

pub returns-in-Failing-clause-takes : goal.returns-in-Failing-clause-takes
returns-in-Failing-clause-takes c =
    let s = c.args.self.now in
    IfSome_then c.close_next-in-Failing.result c.close_next-in-Failing.ensures.some (λ x p. closes-taken fault s.lanes.items c.close_next-in-Failing.new.lanes.items x.0 x.1 refl refl p)

pub close_next-requires-clause-before : goal.close_next-requires-clause-before
close_next-requires-clause-before c =
    let s = c.args.self.now in
    let P : List LaneView → Type 0 = λ zs. ClosedBefore s.first_open zs in
    subst P (sym c.in_default.ensures.same) s.closed_before
