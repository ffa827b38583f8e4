use Rattle.std.proofs.Common.{rules, ◌≡◌, refl, map}
use Rattle.std.proofs.lemmas.Result.{err_from_is_err_and}
use Rattle.vx_catalog_relations.specs.Catalog.{relation_at}
use Rattle.volcano_tables.specs.Texts.{for_no_text, for_bad_text}
use Rattle.volcano_tables.proofs.MissingFacts.{no_text_found, bad_text_found}
use Rattle.volcano_embedding.specs.Texts.{table_form}
use Rattle.volcano_embedding.proofs.tables.TextTablesTables.load.Goals as goal

pub returns-in_default-clause-refused : goal.returns-in_default-clause-refused
returns-in_default-clause-refused c =
    let relation = relation_at c.args.catalog.now c.args.relation in
    let tables = map table_form c.args.self.now.texts.now in
    let same : c.name-name.result.now ≡ relation.name = search rules in
    let none = rw c.in_default.is at c.table.ensures in
    for_no_text c.in_ok-name.name refl (no_text_found relation tables c.name-name.result.now c.in_ok-name.name same c.in_ok-name.ensures.ok none)

pub returns-in_err-load_text-clause-refused : goal.returns-in_err-load_text-clause-refused
returns-in_err-load_text-clause-refused c =
    let relation = relation_at c.args.catalog.now c.args.relation in
    let tables = map table_form c.args.self.now.texts.now in
    let same : c.name-name.result.now ≡ relation.name = search rules in
    let found = rw c.in-Some.is at c.table.ensures in
    let p = err_from_is_err_and c.from_residual-in_err-load_text.result c.from_residual-in_err-load_text.ensures.1 in
    let fault = c.in_err-load_text.field-0.0 in
    rw (p.1, p.2) (for_bad_text fault refl (bad_text_found relation tables c.name-name.result.now c.in-Some.text.now fault same found c.in_err-load_text.ensures.rows))
