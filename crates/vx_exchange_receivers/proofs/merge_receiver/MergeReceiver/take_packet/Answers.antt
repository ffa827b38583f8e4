use Rattle.std.proofs.Common.{rules, refl, sym, ◌∙◌, Some, false, length}
use Rattle.vx_ports.specs.Packets.{has_last}
use Rattle.vx_ops.specs.Ledger.{IsFor}
use Rattle.vx_ops.specs.Turn.{with_packet}
use Rattle.vx_exchange_receivers.specs.MergeReceiver.{merge_end}
use Rattle.vx_exchange_receivers.proofs.Ends.{abides-stranger, abides-broken, still-last, last-came}
use Rattle.vx_exchange_receivers.proofs.MergeEnds.{came_rows, has_closed, merging-last, merging-fails}
use Rattle.vx_exchange_receivers.proofs.merge_receiver.MergeReceiver.take_packet.Goals as goal

pub returns-then-not-expects-clause-stands : goal.returns-then-not-expects-clause-stands
returns-then-not-expects-clause-stands c =
    let s = c.args.self.now in
    let ours = c.expects.ensures.ours (length s.kernel.heads) s.kernel.merge false in
    let no : IsFor (merge_end s) c.args.from c.args.packet → ⊥ = λ f. let t = ours.1 f in search rules in
    let e = c.fail_by.ensures in
    rw (e.over, e.result, e.port, e.kernel)
    (λ l h. merging-fails _ _ _ _ refl (abides-stranger (merge_end s) c.args.from c.args.packet l c.requires.few no h.abides.before))

pub returns-in-Rows-clause-stands : goal.returns-in-Rows-clause-stands
returns-in-Rows-clause-stands c =
    let s = c.args.self.now in
    let f : IsFor (merge_end s) c.args.from c.args.packet = (c.expects.ensures.ours (length s.kernel.heads) s.kernel.merge false).0 (search rules) in
    λ l h. c.take_rows.ensures.stands l c.args.packet f c.in-Rows.ensures.1 h

pub returns-in-End-Last-clause-stands : goal.returns-in-End-Last-clause-stands
returns-in-End-Last-clause-stands c =
    let s = c.args.self.now in
    let f : IsFor (merge_end s) c.args.from c.args.packet = (c.expects.ensures.ours (length s.kernel.heads) s.kernel.merge false).0 (search rules) in
    let e = c.end.ensures in
    let b = rw c.in-End-Last.field-0-is at c.in-End-Last.ensures in
    rw c.requires.running (λ l h.
    merging-last s.port s.kernel l c.args.from c.args.packet f (h.runs refl).ours (h.runs refl).are_open h.same _ e.shape.many e.shape.merge e.ended b
    (e.merged (has_closed l) (λ p. has_last (with_packet l.came c.args.from (Some c.args.packet) p)) (came_rows l) l.gave.rows (λ p t. still-last p c.args.from l.came c.args.packet t) (last-came (merge_end s) c.args.from c.args.packet l b) (h.runs refl).merged))

pub returns-in-End-Fault-clause-stands : goal.returns-in-End-Fault-clause-stands
returns-in-End-Fault-clause-stands c =
    let s = c.args.self.now in
    let f : IsFor (merge_end s) c.args.from c.args.packet = (c.expects.ensures.ours (length s.kernel.heads) s.kernel.merge false).0 (search rules) in
    rw c.requires.running (λ l h.
    merging-fails _ _ _ _ refl (abides-broken (merge_end s) c.args.from c.args.packet l c.requires.few f (rw c.in-End-Fault.field-0-is at c.in-End-Fault.ensures) (h.runs refl).ours h.abides.before))

pub take_rows-requires-clause-types : goal.take_rows-requires-clause-types
take_rows-requires-clause-types c =
    let s = c.args.self.now in
    let f : IsFor (merge_end s) c.args.from c.args.packet = (c.expects.ensures.ours (length s.kernel.heads) s.kernel.merge false).0 (search rules) in
    sym c.in-Rows.ensures.0 ∙ f.types
