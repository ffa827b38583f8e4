-- When a group may have received and returned what a ledger says.
use Rattle.vx_ops.specs.Ledger.{Ledger, Op}
use Rattle.vx_ops.specs.Turn.{Shape}
use Rattle.vx_ops.specs.Meaning.{Meaning}
use Rattle.vx_ops.specs.Collecting.{collecting_op, collecting_types, CollectingStands, collecting_meaning}
use Rattle.vx_ops.specs.declared.collecting.Collecting.{Collecting}
use Rattle.vx_match.specs.KeyedGroups.{KeyedGroupsView, keyed_group, keyed_types, KeyedHasRead, keyed_held}

abbrev pub Group : Type 0
Group = Collecting KeyedGroupsView

abbrev pub group_op : Group → Op
group_op s = collecting_op keyed_group s

abbrev pub group_types : Group → Shape
group_types s = collecting_types keyed_types s

abbrev pub GroupStands : Group → Ledger → Type 0
GroupStands s l = CollectingStands keyed_group KeyedHasRead s l

abbrev pub group_meaning : Group → Meaning
group_meaning s = collecting_meaning keyed_group keyed_types KeyedHasRead keyed_held s
