use Rattle.std.proofs.Common.{ap, ◌∙◌, subst}
use Rattle.vx_exec_steps.specs.Scans.{full_hand}
use Rattle.vx_exec_threads.specs.declared.drawer.Dealer.TheVariants as dealer
use Rattle.vx_exec_wiring.specs.Giving.{GainsDrawer, GainsHand, holds_of}
use Rattle.vx_exec_wiring.proofs.Each.{each-more}
use Rattle.vx_exec_wiring.proofs.Shares.{as-many, drawer-is}
use Rattle.vx_exec_wiring.proofs.scans.deal_hands.Goals as goal

pub loop-place-preserved : goal.loop-place-preserved
loop-place-preserved c =
    let x = c.new-drawer.result in
    let P = GainsHand c.args.scan.number c.args.morsels in
    let old = holds_of c.args.shares.now.items in
    let mid = c.loop-place.shares.items in
    let new = c.give_drawer.new.shares.items in
    let is = drawer-is x c.args.scan.number (dealer.Hand (full_hand c.args.morsels)) c.new-drawer.ensures.scan (c.new-drawer.ensures.dealer ∙ ap dealer.Hand c.new-hand.ensures) in
    record {
      same = as-many (GainsDrawer x) mid new _ c.in_ok-give_drawer.ensures ∙ c.loop-place.invariant.same;
      given = each-more P P (GainsDrawer x) old c.args.scan.first c.loop-place.place (holds_of mid) (holds_of new) (λ w h g l p. p)
          (λ h g p. subst (λ v. GainsDrawer v h g) is p) c.loop-place.invariant.given c.in_ok-give_drawer.ensures;
    }
