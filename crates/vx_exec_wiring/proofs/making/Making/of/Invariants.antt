use Rattle.vx_exec_wiring.specs.Making.{AreMade, counts_in, made_of}
use Rattle.vx_exec_wiring.proofs.making.Making.of.Given as goal

abbrev pub invariant-loop-node : goal.invariant-loop-node
invariant-loop-node l = AreMade (counts_in l.morsels) l.spans l.node (made_of l.making)
