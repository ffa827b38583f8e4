use Rattle.std.specs.Io.KnownBytes.{Keeps}
use Rattle.volcano.proofs.output.write_retrying.Given as goal

-- the calls that were interrupted took nothing
abbrev pub invariant-loop : goal.invariant-loop
invariant-loop g l = Keeps (g.W.Write.contents l.initial.inner) (g.W.Write.contents l.inner)
