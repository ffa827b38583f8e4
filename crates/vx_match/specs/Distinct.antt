-- When a distinct may have received and returned what a ledger says.
use Rattle.vx_ops.specs.Ledger.{Ledger, Op}
use Rattle.vx_ops.specs.Turn.{Shape}
use Rattle.vx_ops.specs.Meaning.{Meaning}
use Rattle.vx_ops.specs.Stepping.{stepping_op, stepping_types, SteppingStands, stepping_meaning}
use Rattle.vx_match.specs.FirstRows.{FirstRowsView, first_rows, first_rows_types, HasReturned}
use Rattle.vx_ops.specs.declared.stepping.Stepping.{Stepping}

abbrev pub Distinct : Type 0
Distinct = Stepping FirstRowsView

abbrev pub distinct_op : Distinct → Op
distinct_op s = stepping_op first_rows s

abbrev pub distinct_types : Distinct → Shape
distinct_types s = stepping_types first_rows_types s

abbrev pub DistinctStands : Distinct → Ledger → Type 0
DistinctStands s l = SteppingStands first_rows HasReturned s l

abbrev pub distinct_meaning : Distinct → Meaning
distinct_meaning s = stepping_meaning first_rows first_rows_types HasReturned s
