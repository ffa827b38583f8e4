use Rattle.std.proofs.Common.{sym, ◌∙◌}
use Rattle.vx_catalog_relations.proofs.NameFacts.{position-map}
use Rattle.vx_plan_nodes.specs.declared.typed.Entry.{Entry}
use Rattle.vx_plan_nodes.specs.Describe.{is_column, kept_column}
use Rattle.vx_plan_nodes.specs.Outline.{entry_of}
use Rattle.vx_plan_nodes.proofs.describe.Copying.place.Goals as goal

pub returns-in-Entries : goal.returns-in-Entries
returns-in-Entries c =
    rw c.in-Entries.is (c.place_of_entry.ensures ∙ sym (position-map (is_column c.args.column) (λ (e : Entry). kept_column (entry_of e)) c.in-Entries.entries.now))
