use Rattle.std.proofs.Common.{◌≡◌, map, drop, string_bytes}
use Rattle.csv.specs.Records.{fields_of}
use Rattle.vx_catalog.specs.Loading.{names_from}
use Rattle.vx_catalog.proofs.record.has_names.Given as goal

abbrev pub invariant-loop-i : goal.invariant-loop-i
invariant-loop-i l = names_from l.i (fields_of l.line) (map string_bytes (drop l.i l.names)) ≡ names_from 0 (fields_of l.line) (map string_bytes l.names)
