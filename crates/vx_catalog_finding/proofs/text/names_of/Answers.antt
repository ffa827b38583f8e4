use Rattle.std.proofs.Common.{map, string_bytes, arith}
use Rattle.csv.specs.Records.{fields_of}
use Rattle.vx_catalog_finding.proofs.TextFacts.{names_done}
use Rattle.vx_catalog_finding.proofs.text.names_of.Goals as goal

pub returns : goal.returns
returns c =
    names_done (fields_of c.args.header.now) c.loop-column.column (map string_bytes c.loop-column.names.items) (omega (arith, c.loop-column-test.false, c.len-column-end.ensures))
    c.loop-column.invariant.names c.loop-column.invariant.utf8
