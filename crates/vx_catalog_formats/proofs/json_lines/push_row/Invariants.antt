use Rattle.std.proofs.Common.{◌≡◌, ◌∷◌, ◌++◌, [], map, string_bytes}
use Rattle.std.specs.List.{zip}
use Rattle.json.specs.Token.{begin_object}
use Rattle.vx_rows.specs.View.{row}
use Rattle.vx_catalog_formats.proofs.RowFacts.{tokens_from}
use Rattle.vx_catalog_formats.proofs.json_lines.push_row.Given as goal

abbrev pub invariant-loop-column : goal.invariant-loop-column
invariant-loop-column l = record {
  tokens : l.object.tokens ++ tokens_from (zip (map string_bytes l.names) (row l.chunk l.i)) l.column
      ≡ (l.fn.object.tokens ++ begin_object ∷ []) ++ tokens_from (zip (map string_bytes l.names) (row l.chunk l.i)) 0;
  before : l.object.before ≡ l.fn.object.before;
}
