use Rattle.std.proofs.Common.{ℕ, subst, arith}
use Rattle.vx_exec_wiring.specs.Giving.{GainsHand, GivesEach, holds_of}
use Rattle.vx_exec_wiring.specs.Making.{AddsDeck, counts_in, made_of}
use Rattle.vx_exec_wiring.proofs.Shares.{held-length}
use Rattle.vx_exec_wiring.proofs.Growing.{adds-deck, adds-hands}
use Rattle.vx_exec_wiring.proofs.making.Making.add_scan.Goals as goal

pub returns-then-scan : goal.returns-then-scan
returns-then-scan c =
    let s = c.args.scan in
    let old = made_of c.args.self.now in
    let new = made_of c.add_deck.new.self in
    let held = held-length c.args.self.now.shares.items in
    let there = c.requires.follows.0 in
    adds-deck (counts_in c.args.morsels.now) s old new c.if-scan.true (omega (arith, held, there))
    (subst (λ (v : ℕ). AddsDeck s v old new) c.morsels_of-morsels.ensures.count c.in_ok-add_deck.ensures)

pub returns : goal.returns
returns c =
    let s = c.args.scan in
    let old = made_of c.args.self.now in
    let hs = holds_of c.deal_hands.new.shares.items in
    let held = held-length c.args.self.now.shares.items in
    let there = c.requires.follows.0 in
    adds-hands (counts_in c.args.morsels.now) s old hs c.if-scan.false (omega (arith, held, there))
    (subst (λ (v : ℕ). GivesEach (GainsHand s.number v) old.holds s.first s.workers hs) c.morsels_of-morsels.ensures.count c.in_ok-deal_hands.ensures)
