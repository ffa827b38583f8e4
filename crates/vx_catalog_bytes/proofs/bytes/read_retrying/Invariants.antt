use Rattle.std.specs.Io.KnownBytes.{Keeps}
use Rattle.vx_catalog_bytes.proofs.bytes.read_retrying.Given as goal

-- the calls that were interrupted took nothing
abbrev pub invariant-loop : goal.invariant-loop
invariant-loop g l = Keeps (g.R.Read.remaining l.initial.inner) (g.R.Read.remaining l.inner)
