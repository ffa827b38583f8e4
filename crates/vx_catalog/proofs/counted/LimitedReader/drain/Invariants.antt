use Rattle.vx_catalog.specs.Counting.{left_of, StaysKnown}
use Rattle.vx_catalog.proofs.counted.LimitedReader.drain.Given as goal

abbrev pub invariant-loop : goal.invariant-loop
invariant-loop g l =
    StaysKnown (left_of g.T.Origin.text (g.R.ByteIn.remaining l.initial.self.port.now) l.initial.self.taken l.initial.self.is_at_end) (left_of g.T.Origin.text (g.R.ByteIn.remaining l.self.port.now) l.self.taken l.self.is_at_end)
