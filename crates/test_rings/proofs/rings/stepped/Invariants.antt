use Rattle.vx_ports_rings.specs.Ends.{IsRing}
use Rattle.test_rings.proofs.rings.stepped.Given as goal

abbrev pub invariant-loop-word : goal.invariant-loop-word
invariant-loop-word l = IsRing l.out l.input
