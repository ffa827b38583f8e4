-- Inlets from which no step took anything.
use Rattle.std.proofs.Common.{refl, ◌∙◌}
use Rattle.vx_ports_rings.specs.Ends.{SameIn}
use Rattle.vx_ports_rings.specs.declared.ring.RingIn.{RingIn}
use Rattle.vx_exec_threads.specs.declared.inlet.Inlet.{Inlet}
use Rattle.vx_exec_threads.specs.Inlets.{SameInlet}

pub same-in-then : (a b c : RingIn) → SameIn a b → SameIn b c → SameIn a c
same-in-then a b c x y = ((y.0.0 ∙ x.0.0, y.0.1 ∙ x.0.1, y.0.2 ∙ x.0.2, y.0.3 ∙ x.0.3), y.1 ∙ x.1)

pub same-in-self : (a : RingIn) → SameIn a a
same-in-self a = ((refl, refl, refl, refl), refl)

pub same-self : (a : Inlet) → SameInlet a a
same-self a = record { exchange = refl; from = refl; ring = same-in-self a.ring }

pub same-then : (a b c : Inlet) → SameInlet a b → SameInlet b c → SameInlet a c
same-then a b c x y = record { exchange = y.exchange ∙ x.exchange; from = y.from ∙ x.from; ring = same-in-then a.ring b.ring c.ring x.ring y.ring }
