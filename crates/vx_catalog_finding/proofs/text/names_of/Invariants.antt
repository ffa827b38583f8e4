use Rattle.std.proofs.Common.{◌≡◌, true, map, take, string_bytes}
use Rattle.std.specs.List.{list_all}
use Rattle.std.specs.Str.{is_utf8}
use Rattle.csv.specs.Records.{fields_of}
use Rattle.vx_catalog_finding.proofs.text.names_of.Given as goal

abbrev pub invariant-loop-column : goal.invariant-loop-column
invariant-loop-column l = record {
  names : map string_bytes l.names.items ≡ take l.column (fields_of l.header);
  utf8 : list_all is_utf8 (take l.column (fields_of l.header)) ≡ true;
}
