-- A thread that does nothing keeps what it holds (our own): for the trait that asks for it.
use Rattle.std.specs.Prelude.{refl}
use Rattle.vx_worker.specs.Trace.{idle}
use Rattle.vx_ports_rings.specs.Ends.{SameOut}
use Rattle.vx_ports_rings.specs.declared.ring.RingOut.{RingOut}
use Rattle.vx_exec_threads.specs.declared.inlet.Inlet.{Inlet}
use Rattle.vx_exec_threads.specs.declared.drawer.Drawer.{Drawer}
use Rattle.vx_exec_threads.specs.declared.drawer.Dealer.{Dealer}
use Rattle.vx_exec_threads.specs.declared.drawer.Dealer.TheVariants as dealer
use Rattle.vx_exec_threads.specs.declared.wires.ThreadWires.{ThreadWires}
use Rattle.vx_exec_threads.specs.Inlets.{SameInlet}
use Rattle.vx_exec_threads.specs.Drawers.{SameDealer, SameDrawer}
use Rattle.vx_exec_threads.specs.Holds.{Hold, SameEnds}
use Rattle.vx_exec_threads.specs.Carrying.{Does, hold_of}

pub same_out_self : (o : RingOut) → SameOut o o
same_out_self o = ((refl, refl, refl, refl), refl)

pub same_inlet_self : (e : Inlet) → SameInlet e e
same_inlet_self e = record { exchange = refl; from = refl; ring = ((refl, refl, refl, refl), refl) }

pub same_dealer_self : (d : Dealer) → SameDealer d d
same_dealer_self (dealer.Seat k s) = (refl, refl, refl)
same_dealer_self (dealer.Hand h) = refl

pub same_drawer_self : (x : Drawer) → SameDrawer x x
same_drawer_self x = record { scan = refl; dealer = same_dealer_self x.dealer }

pub same_ends_self : (a : Hold) → SameEnds a a
same_ends_self a = record {
  outs = λ j o e. (o, e, same_out_self o);
  ins = λ j o e. (o, e, same_inlet_self o);
  draws = λ j o e. (o, e, same_drawer_self o);
}

pub stays : (w : ThreadWires) → Does w.ends idle w.ends
stays w = record { same = same_ends_self (hold_of w.ends); bears = λ t h. h; finds = tt }
