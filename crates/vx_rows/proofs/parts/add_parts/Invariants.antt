use Rattle.vx_rows.specs.Columns.{KeepsFront}
use Rattle.vx_rows.proofs.PartFacts.{HasFirst}
use Rattle.vx_rows.proofs.parts.add_parts.Given as goal

abbrev pub invariant-loop-i : goal.invariant-loop-i
invariant-loop-i l = record {
  front : KeepsFront l.at l.initial.column l.column;
  has : HasFirst l.at l.j l.i l.end l.parts l.column;
}
