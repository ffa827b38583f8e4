-- What the values and the tests of the program stand for.
use Rattle.std.specs.Prelude.{string_bytes}
use Rattle.vx_rows_values.specs.declared.value.Value.{Value}
use Rattle.vx_rows_values.specs.declared.value.Value.TheVariants as value
use Rattle.vx_rows_values.specs.declared.value.Cell.{Cell}
use Rattle.vx_rows_values.specs.declared.value.Cell.TheVariants as cell
use Rattle.vx_rows_values.specs.declared.test.Test.{Test}
use Rattle.vx_rows_values.specs.declared.test.Test.TheVariants as test
use Rattle.vx_rows_values.specs.Values.{Val, num, text}
use Rattle.vx_rows_values.specs.Test as comparison

-- the value that an owned one stands for
abbrev pub val_of : Value → Val
val_of (value.Int z) = num z
val_of (value.Text s) = text (string_bytes s)

-- the value that a borrowed one stands for
abbrev pub cell_val : Cell → Val
cell_val (cell.Int z) = num z
cell_val (cell.Text s) = text s.now

-- the comparison that a test stands for
abbrev pub test_of : Test → comparison.Test
test_of test.Equal = comparison.equal
test_of test.Unequal = comparison.unequal
test_of test.Below = comparison.below
test_of test.AtMost = comparison.at_most
test_of test.Above = comparison.above
test_of test.AtLeast = comparison.at_least
