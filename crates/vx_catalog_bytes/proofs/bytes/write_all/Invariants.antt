use Rattle.std.proofs.Common.{◌≡◌, ℕ, List, ◌++◌, length}
use Rattle.std.specs.Io.KnownBytes.{Appends}
use Rattle.vx_catalog_bytes.proofs.bytes.write_all.Given as goal

-- the writer has the front, and the rest is to come
abbrev pub invariant-loop-rest : goal.invariant-loop-rest
invariant-loop-rest g l =
    (front : List ℕ) × (l.bytes ≡ front ++ l.rest) × Appends (g.W.ByteOut.contents l.initial.out) (g.W.ByteOut.contents l.out) front
    × (g.W.ByteOut.has_failed l.out ≡ g.W.ByteOut.has_failed l.initial.out)

abbrev pub decreases-loop-rest : goal.decreases-loop-rest
decreases-loop-rest g l = length l.rest
