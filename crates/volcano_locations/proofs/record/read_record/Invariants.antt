use Rattle.std.proofs.Common.{◌≡◌, []}
use Rattle.csv.specs.Records.{fields_of, partial_of}
use Rattle.volcano_locations.specs.Lines.{left_in}
use Rattle.volcano_locations.specs.Stages.{state_of}
use Rattle.volcano_locations.proofs.WalkFacts.{IfBoth, Walked}
use Rattle.volcano_locations.proofs.record.read_record.Given as goal

abbrev pub invariant-loop : goal.invariant-loop
invariant-loop g l = record {
  walked : IfBoth (left_in g.R.ByteIn.remaining l.fn.source) (left_in g.R.ByteIn.remaining l.source) (Walked (state_of l.fn.stage) (state_of l.stage) (fields_of l.current.fields) l.current.field.items l.fn.source.line l.source.line l.current.line);
  whole : partial_of l.current.fields ≡ [];
}
