use Rattle.std.proofs.Common.{◌≡◌, [], map}
use Rattle.serde_json.specs.View.{members_view}
use Rattle.vx_exec_setup.specs.Setup.{entry_of}
use Rattle.volcano_bundle.specs.Bundle.{each_member, number_in}
use Rattle.volcano_bundle.proofs.bundle.read_each_size.Given as goal

abbrev pub invariant-loop-name : goal.invariant-loop-name
invariant-loop-name l = each_member number_in (map entry_of l.sizes.items) (members_view l.name-iterator) ≡ each_member number_in [] (members_view l.members.entries)
