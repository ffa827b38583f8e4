-- What a node asks its inputs, as the program holds it.
use Rattle.std.specs.Prelude.{Option, option_map}
use Rattle.vx_plan_nodes.specs.Describe.{Copying, left_of, right_of}
use Rattle.vx_plan_nodes.specs.DescribeView.{copying_of}
use Rattle.vx_plan_nodes.specs.Outline.{plan_of}
use Rattle.vx_plan_facts.specs.declared.copies.Copies as rust_copies
use Rattle.vx_plan_facts.specs.declared.copies.Copies.TheVariants as copies
use Rattle.vx_plan_facts.specs.declared.copies.Input as rust_input
use Rattle.vx_plan_facts.specs.declared.column_set.ColumnSet as rust_set
use Rattle.vx_plan_facts.specs.Determined.{Columns}
use Rattle.vx_plan_facts.specs.ColumnSetView.{set_of_columns}
use Rattle.vx_plan_facts.specs.Asking.{Input}

abbrev pub copies_of : rust_copies.Copies → Copying
copies_of (copies.Of k) = copying_of k
copies_of (copies.Left w) = left_of w
copies_of (copies.Right w) = right_of w

abbrev pub input_of : rust_input.Input → Input
input_of i = (copies_of i.copies, plan_of i.node.now)

abbrev pub answer_of : Option rust_set.ColumnSet → Option Columns
answer_of o = option_map set_of_columns o
