use Rattle.std.proofs.Common.{◌≡◌, ◌++◌, map, drop, string_bytes}
use Rattle.csv.specs.Records.{fields_of}
use Rattle.vx_catalog.proofs.writing.header_of.Given as goal

abbrev pub invariant-loop-name : goal.invariant-loop-name
invariant-loop-name l = fields_of l.line ++ map string_bytes (drop l.name-index l.names) ≡ map string_bytes l.names
