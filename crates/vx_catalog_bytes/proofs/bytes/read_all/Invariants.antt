use Rattle.std.proofs.Common.{◌≡◌, ◌≤◌, ◌<◌, length, true, false}
use Rattle.std.specs.Io.KnownBytes.{Consumes}
use Rattle.vx_catalog_bytes.proofs.bytes.read_all.Given as goal

-- the bytes so far came from the front, each turn brought one, no turn failed, and a reliable reader stays so
abbrev pub invariant-loop : goal.invariant-loop
invariant-loop g l =
    Consumes (g.R.ByteIn.remaining l.initial.reader) (g.R.ByteIn.remaining l.reader) l.bytes.items × (l.counter ≤ length l.bytes.items)
    × (length l.bytes.items ≤ l.limit) × (0 < l.counter → g.R.ByteIn.has_failed l.reader ≡ false)
    × (g.R.ByteIn.is_reliable l.initial.reader ≡ true → g.R.ByteIn.is_reliable l.reader ≡ true)
