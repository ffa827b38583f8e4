-- When a sort may have received and returned what a ledger says.
use Rattle.vx_ops.specs.Ledger.{Ledger, Op}
use Rattle.vx_ops.specs.Turn.{Shape}
use Rattle.vx_ops.specs.Meaning.{Meaning}
use Rattle.vx_ops.specs.Collecting.{collecting_op, collecting_types, CollectingStands, collecting_meaning}
use Rattle.vx_ops.specs.Sorting.{SortingView, sorting, sorting_types, SortingHasRead, sorting_held}
use Rattle.vx_ops.specs.declared.collecting.Collecting.{Collecting}

abbrev pub Sort : Type 0
Sort = Collecting SortingView

abbrev pub sort_op : Sort → Op
sort_op s = collecting_op sorting s

abbrev pub sort_types : Sort → Shape
sort_types s = collecting_types sorting_types s

abbrev pub SortStands : Sort → Ledger → Type 0
SortStands s l = CollectingStands sorting SortingHasRead s l

abbrev pub sort_meaning : Sort → Meaning
sort_meaning s = collecting_meaning sorting sorting_types SortingHasRead sorting_held s
