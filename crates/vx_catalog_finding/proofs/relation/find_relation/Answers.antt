use Rattle.std.proofs.Common.{◌≡◌, ℕ, List, length, ap, ◌∙◌, refl, map, string_bytes}
use Rattle.std.proofs.lemmas.List.{length-map}
use Rattle.std.proofs.lemmas.List.FromFn.{length-map-range_with_len}
use Rattle.std.proofs.lemmas.Result.{err_from_is_err_and}
use Rattle.vx_rows_values.specs.declared.value.ColType.TheVariants as kind
use Rattle.vx_catalog_finding.specs.Found.{all_texts, type_in, types_in, keys_in, order_in}
use Rattle.vx_catalog_finding.proofs.TypeFacts.{texts_named}
use Rattle.vx_catalog_finding.proofs.RelationFacts.{texts_refused, rows_refused, found_is}
use Rattle.vx_catalog_finding.proofs.relation.find_relation.Goals as goal

pub returns-in_err-texts : goal.returns-in_err-texts
returns-in_err-texts c =
    let names = map string_bytes c.in_ok-names.names.items in
    let texts : c.as_slice-2.result.now ≡ all_texts names =
    c.as_slice-2.ensures.value ∙ (c.in_ok-all_texts.ensures ∙ (ap (λ l. map (λ _. kind.Text) l) c.as_slice.ensures.value ∙ texts_named c.in_ok-names.names.items)) in
    let bad = rw texts at c.in_err-texts.ensures.rows in
    let p = err_from_is_err_and c.from_residual-in_err-texts.result c.from_residual-in_err-texts.ensures.1 in
    rw (p.1, p.2) (texts_refused c.args.name.now c.args.text.now names c.in_err-texts.field-0.0 c.in_ok-names.ensures bad)

pub returns-in_err-rows : goal.returns-in_err-rows
returns-in_err-rows c =
    let names = map string_bytes c.in_ok-names.names.items in
    let rows = c.in_ok-texts.texts.rows in
    let texts : c.as_slice-2.result.now ≡ all_texts names =
    c.as_slice-2.ensures.value ∙ (c.in_ok-all_texts.ensures ∙ (ap (λ l. map (λ _. kind.Text) l) c.as_slice.ensures.value ∙ texts_named c.in_ok-names.names.items)) in
    let width : length c.in_ok-texts.texts.types ≡ length names = ap (λ l. length l) (c.in_ok-texts.ensures.types ∙ texts) ∙ length-map names (λ _. kind.Text) in
    let kinds : c.as_slice-3.result.now ≡ types_in (length names) rows = c.as_slice-3.ensures.value ∙ (c.in_ok-types.ensures ∙ ap (λ n. types_in n rows) width) in
    let read = rw texts at c.in_ok-texts.ensures.rows in
    let bad = rw kinds at c.in_err-rows.ensures.rows in
    let p = err_from_is_err_and c.from_residual-in_err-rows.result c.from_residual-in_err-rows.ensures.1 in
    rw (p.1, p.2) (rows_refused c.args.name.now c.args.text.now names rows c.in_err-rows.field-0.0 c.in_ok-names.ensures read bad)

pub returns : goal.returns
returns c =
    let names = map string_bytes c.in_ok-names.names.items in
    let read_rows = c.in_ok-texts.texts.rows in
    let rows = c.in_ok-rows.rows.rows in
    let texts : c.as_slice-2.result.now ≡ all_texts names =
    c.as_slice-2.ensures.value ∙ (c.in_ok-all_texts.ensures ∙ (ap (λ l. map (λ _. kind.Text) l) c.as_slice.ensures.value ∙ texts_named c.in_ok-names.names.items)) in
    let width : length c.in_ok-texts.texts.types ≡ length names = ap (λ l. length l) (c.in_ok-texts.ensures.types ∙ texts) ∙ length-map names (λ _. kind.Text) in
    let types : c.in_ok-types.types.items ≡ types_in (length names) read_rows = c.in_ok-types.ensures ∙ ap (λ n. types_in n read_rows) width in
    let kinds : c.as_slice-3.result.now ≡ types_in (length names) read_rows = c.as_slice-3.ensures.value ∙ types in
    let across : length c.in_ok-rows.rows.types ≡ length names =
    ap (λ l. length l) (c.in_ok-rows.ensures.types ∙ kinds) ∙ length-map-range_with_len (λ column. type_in column read_rows) 0 (length names) in
    let read = rw texts at c.in_ok-texts.ensures.rows in
    let loaded = rw kinds at c.in_ok-rows.ensures.rows in
    found_is c.args.name.now c.args.text.now names read_rows rows _ c.in_ok-names.ensures read loaded c.in_ok-from_str.ensures.ok refl types
    (c.in_ok-keys_of.ensures ∙ ap (λ n. keys_in n rows) across) (c.in_ok-order_of.ensures ∙ ap (λ n. order_in n rows) across)
