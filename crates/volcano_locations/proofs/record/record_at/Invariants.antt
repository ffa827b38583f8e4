use Rattle.std.proofs.Common.{◌≡◌, [], true, option_map}
use Rattle.csv.specs.Reading.{strip_bom}
use Rattle.csv.specs.Records.{partial_of}
use Rattle.volcano_locations.specs.Lines.{left_in}
use Rattle.volcano_locations.specs.Stages.{state_of, is_between}
use Rattle.volcano_locations.proofs.StandFacts.{StandsAt}
use Rattle.volcano_locations.proofs.WalkFacts.{IfBoth}
use Rattle.volcano_locations.proofs.record.record_at.Given as goal

abbrev pub invariant-loop : goal.invariant-loop
invariant-loop g l = record {
  stands : IfBoth (option_map strip_bom (g.R.ByteIn.remaining l.fn.port)) (left_in g.R.ByteIn.remaining l.source) (StandsAt l.counter (state_of l.stage) l.source.line);
  between : is_between (state_of l.stage) ≡ true;
  whole : partial_of l.current.fields ≡ [];
}
