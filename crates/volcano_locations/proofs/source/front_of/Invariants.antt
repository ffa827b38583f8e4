use Rattle.std.proofs.Common.{◌-◌, length}
use Rattle.std.specs.Io.KnownBytes.{Keeps, prepend_known}
use Rattle.volcano_locations.proofs.source.front_of.Given as goal

-- the chunk came from the front
abbrev pub invariant-loop-port : goal.invariant-loop-port
invariant-loop-port g l = Keeps (g.R.ByteIn.remaining l.initial.port) (prepend_known l.chunk.items (g.R.ByteIn.remaining l.port))

abbrev pub decreases-loop-port : goal.decreases-loop-port
decreases-loop-port g l = 3 - length l.chunk.items
