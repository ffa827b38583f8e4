use Rattle.std.proofs.Common.{rules, ◌≡◌, true, Some}
use Rattle.serde_json.specs.View.{view}
use Rattle.vx_catalog_relations.specs.Form.{catalog_in}
use Rattle.vx_catalog_relations.specs.Naming.{is_within_limits}
use Rattle.vx_catalog_relations.proofs.Accepted.{relations_are}
use Rattle.vx_catalog_relations.proofs.Stated.{catalog_stated}
use Rattle.vx_catalog_relations.proofs.catalog.Catalog.of_value.Goals as goal

pub of_list-requires : goal.of_list-requires
of_list-requires c =
    let texts : catalog_in (view c.args.value.now) ≡ Some c.in_ok-texts.texts.items = search rules in
    let limits : is_within_limits c.in_ok-texts.texts.items ≡ true = search rules in
    (relations_are c.in_ok-texts.texts.items c.in_ok-relations.relations.items (catalog_stated (view c.args.value.now) c.in_ok-texts.texts.items texts) limits (rw c.as_slice-2.ensures.value at c.in_ok-relations.ensures)).0
