use Rattle.std.proofs.Common.{◌≡◌, [], map}
use Rattle.serde_json.specs.Find.{as_str}
use Rattle.serde_json.specs.View.{members_view}
use Rattle.volcano_bundle.specs.Bundle.{each_member}
use Rattle.volcano_bundle.specs.BundleView.{table_form}
use Rattle.volcano_bundle.proofs.bundle.read_each_table.Given as goal

abbrev pub invariant-loop-name : goal.invariant-loop-name
invariant-loop-name l = each_member as_str (map table_form l.tables.items) (members_view l.name-iterator) ≡ each_member as_str [] (members_view l.members.entries)
