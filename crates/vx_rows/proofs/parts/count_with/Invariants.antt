use Rattle.vx_rows.proofs.PartFacts.{CountsFirst}
use Rattle.vx_rows.proofs.parts.count_with.Given as goal

abbrev pub invariant-loop-part : goal.invariant-loop-part
invariant-loop-part l = CountsFirst l.at l.part-index l.count l.parts
