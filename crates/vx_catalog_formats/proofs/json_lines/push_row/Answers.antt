use Rattle.std.proofs.Common.{◌≡◌, ℕ, ◌+◌, ◌<◌, ◌≤◌, List, [], ◌∷◌, ◌++◌, OnOk, min, map, length, string_bytes, sym, ap, subst, ◌∙◌, arith, append_assoc}
use Rattle.std.proofs.lemmas.List.{length-map}
use Rattle.std.specs.List.{zip}
use Rattle.json.specs.Token.{Token, begin_object}
use Rattle.json.specs.Tree.{json_tokens}
use Rattle.vx_rows_values.specs.ValueView.{cell_val}
use Rattle.vx_rows.specs.View.{row}
use Rattle.vx_catalog_formats.specs.JsonLines.{value_json}
use Rattle.vx_catalog_formats.proofs.RowFacts.{row_length, name_at, tokens_from, tokens_more, tokens_all}
use Rattle.vx_catalog_formats.proofs.json_lines.push_row.Goals as goal

pub loop-column-preserved : goal.loop-column-preserved
loop-column-preserved c =
    let names : List (List ℕ) = map string_bytes c.args.names.now in
    let chunk = c.args.chunk.now in
    let r = row chunk c.args.i in
    let column = c.loop-column.column in
    let value = cell_val c.cell.result in
    let many : length names ≡ length c.args.names.now = length-map c.args.names.now string_bytes in
    let long : length r ≡ length chunk.types = row_length chunk.types chunk.rows c.args.i c.types.ensures.fit c.requires in
    let types : length c.types.result.now ≡ length chunk.types = ap length c.types.ensures.types in
    let named : column < length c.args.names.now = omega (arith, c.min-column-end.ensures, c.loop-column-test.true) in
    let near : column < length names = omega (arith, named, many) in
    let there : column < length r = omega (arith, c.min-column-end.ensures, c.loop-column-test.true, long, types) in
    let name_is = c.as_str.ensures.value ∙ name_at c.args.names.now column c.index-names-column.result named c.index-names-column.is in
    let more = tokens_more names r column c.as_str.result.now value c.loop-column.object.tokens near there name_is c.cell.ensures in
    let added = c.in_ok-push_value.ensures.value ∙ ap (λ (ts : List Token). ts ++ json_tokens (value_json value)) c.in_ok-key.ensures.ok in
    record {
      tokens = ap (λ (ts : List Token). ts ++ tokens_from (zip names r) (column + 1)) added ∙ (more ∙ c.loop-column.invariant.tokens);
      before = c.in_ok-push_value.ensures.before ∙ (c.in_ok-key.ensures.room.0 ∙ c.loop-column.invariant.before);
    }

pub returns-clause-row : goal.returns-clause-row
returns-clause-row c =
    let names : List (List ℕ) = map string_bytes c.args.names.now in
    let chunk = c.args.chunk.now in
    let r = row chunk c.args.i in
    let object = c.loop-column.object in
    let many : length names ≡ length c.args.names.now = length-map c.args.names.now string_bytes in
    let long : length r ≡ length chunk.types = row_length chunk.types chunk.rows c.args.i c.types.ensures.fit c.requires in
    let types : length c.types.result.now ≡ length chunk.types = ap length c.types.ensures.types in
    let past : min (length names) (length r) ≤ c.loop-column.column = omega (arith, c.min-column-end.ensures, c.loop-column-test.false, many, long, types) in
    let all = tokens_all names r c.loop-column.column past in
    let whole = ap (λ (ts : List Token). object.tokens ++ ts) (sym all) ∙ (c.loop-column.invariant.tokens ∙ append_assoc c.args.object.now.tokens (begin_object ∷ []) (tokens_from (zip names r) 0)) in
    let Tokens : List Token → Type 0 = λ ts. OnOk c.end_object.result (c.end_object.new.self.tokens ≡ ts) in
    subst Tokens whole c.end_object.ensures.ok
