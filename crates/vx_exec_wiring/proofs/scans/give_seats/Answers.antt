use Rattle.std.proofs.Common.{rules, ◌≡◌, ◌+◌, ◌∷◌, ℕ, List, length, ap, ◌∙◌, subst, arith}
use Rattle.std.specs.List.{All}
use Rattle.std.specs.Vec.Iter.{into_iter_items}
use Rattle.vx_exec_threads.specs.declared.drawer.Dealer.TheVariants as dealer
use Rattle.vx_morsel_decks.specs.Seats.{SeatView, IsNewSeat}
use Rattle.vx_exec_wiring.specs.Giving.{GainsDrawer, GainsSeat, holds_of}
use Rattle.vx_exec_wiring.proofs.Each.{each-more}
use Rattle.vx_exec_wiring.proofs.Shares.{as-many, drawer-is}
use Rattle.vx_exec_wiring.proofs.scans.give_seats.Goals as goal

shorter : (all rest : List SeatView) (s : SeatView) (place total : ℕ) → all ≡ s ∷ rest → place + length all ≡ total → place + 1 + length rest ≡ total
shorter all rest s place total e h =
    let l : length all ≡ length rest + 1 = ap length e ∙ omega arith in
    omega (arith, l, h)

first-of : (P : SeatView → Type 0) (all rest : List SeatView) (s : SeatView) → all ≡ s ∷ rest → All P all → P s × All P rest
first-of P all rest s e h =
    let g : All P (s ∷ rest) = subst (λ v. All P v) e h in
    (g 0 s (omega arith), λ k d l. g (Rattle.std.proofs.Common.suc k) d (omega (arith, l)))

pub loop-seat-preserved : goal.loop-seat-preserved
loop-seat-preserved c =
    let x = c.new-drawer.result in
    let seat = c.in-Some.seat in
    let all = into_iter_items c.loop-seat.seat-iterator in
    let rest = into_iter_items c.next.new.self in
    let next : all ≡ seat ∷ rest = search rules in
    let old = holds_of c.args.shares.now.items in
    let mid = c.loop-seat.shares.items in
    let new = c.give_drawer.new.shares.items in
    let inv = c.loop-seat.invariant in
    let is = drawer-is x c.args.scan.number (dealer.Seat c.args.deck seat) c.new-drawer.ensures.scan c.new-drawer.ensures.dealer in
    record {
      next = tt;
      finite = tt;
      same = as-many (GainsDrawer x) mid new _ c.in_ok-give_drawer.ensures ∙ inv.same;
      rest = shorter all rest seat c.loop-seat.place (length c.args.seats.items) next inv.rest;
      fresh = λ d h. (first-of (IsNewSeat d) all rest seat next (inv.fresh d h)).1;
      given = λ d h.
          let P = GainsSeat c.args.scan.number c.args.deck d in
          each-more P P (GainsDrawer x) old c.args.scan.first c.loop-seat.place (holds_of mid) (holds_of new) (λ w h g l p. p)
          (λ h0 g p. (seat, (first-of (IsNewSeat d) all rest seat next (inv.fresh d h)).0, subst (λ v. GainsDrawer v h0 g) is p))
          (inv.given d h) c.in_ok-give_drawer.ensures;
    }
