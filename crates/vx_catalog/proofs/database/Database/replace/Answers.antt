use Rattle.std.proofs.Common.{refl}
use Rattle.std.proofs.lemmas.List.{map-set}
use Rattle.vx_rows.specs.View.{RowsView}
use Rattle.vx_catalog.proofs.database.Database.replace.Goals as goal

pub returns : goal.returns
returns c =
    rw (map-set (λ (t : RowsView). t.rows) c.self.inside.tables.items c.relation-relation.result c.into_rows.result, c.into_rows.ensures.rows, c.relation-relation.ensures.number, ← c.self.view_is) refl
