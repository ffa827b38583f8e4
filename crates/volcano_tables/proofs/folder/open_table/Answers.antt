use Rattle.std.proofs.Common.{rules, ◌≡◌, ◌∙◌, ℕ, List, refl, subst, string_bytes}
use Rattle.vx_catalog_relations.specs.Catalog.{relation_at}
use Rattle.vx_catalog_bytes.specs.Stored.{MayBeAbsent}
use Rattle.vx_catalog.specs.Folder.{path_in}
use Rattle.volcano_tables.specs.Folder.{for_outside, for_path}
use Rattle.volcano_tables.proofs.folder.open_table.Goals as goal

pub returns-in-None-clause-refused : goal.returns-in-None-clause-refused
returns-in-None-clause-refused g c =
    let relation = relation_at c.args.catalog.now c.args.relation in
    let folder = c.args.folder.now.path.now in
    let files = g.F.Store.holds c.args.folder.now.files.now in
    let at : string_bytes c.in_ok-path.path ≡ path_in folder relation.name = search rules in
    let P : List ℕ → Type 0 = λ path. MayBeAbsent (files path) in
    for_path c.in_ok-path.path refl at (search rules) (subst P (c.as_str.ensures.value ∙ at) (c.open.ensures.lacking c.in-None.is))

pub returns-then-leads_out-clause-refused : goal.returns-then-leads_out-clause-refused
returns-then-leads_out-clause-refused g c = for_outside c.in_ok-path.path refl (search rules) (search rules)
