use Rattle.std.proofs.Common.{◌∙◌}
use Rattle.std.proofs.lemmas.List.{length-map}
use Rattle.vx_rows.specs.View.{RowsView}
use Rattle.vx_catalog.proofs.DatabaseFacts.{all_meet}
use Rattle.vx_catalog.proofs.database.Database.catalog.Goals as goal

pub returns-clause-meets : goal.returns-clause-meets
returns-clause-meets c = rw (← c.self.view_is) (all_meet c.self.inside.catalog c.self.inside.tables.items c.self.invariant)

pub returns-clause-many : goal.returns-clause-many
returns-clause-many c = rw (← c.self.view_is) (length-map c.self.inside.tables.items (λ (t : RowsView). t.rows) ∙ c.self.invariant.many)
