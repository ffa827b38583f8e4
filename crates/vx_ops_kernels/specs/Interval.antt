-- Comparisons with a constant, as intervals.
use Rattle.std.specs.Prelude.{◌≡◌, ℤ, int_le, Bool, true, ◌&&◌}
use Rattle.std.specs.Bool.{beq}
use Rattle.vx_rows_values.specs.declared.test.Test.{Test}
use Rattle.vx_rows_values.specs.Types.{fits_64}
use Rattle.vx_rows_values.specs.Values.{num, val_cmp}
use Rattle.vx_rows_values.specs.ValueView.{test_of}
use Rattle.vx_plan_nodes.specs.Serial.{answers}

-- what the comparison of a number with a constant says
abbrev pub says : Test → (constant : ℤ) → ℤ → Bool
says test constant z = answers (test_of test) (val_cmp (num z) (num constant))

-- a number of 64 bits compares so with the constant where it lies from low to high, or, at false, where it does not
abbrev pub IsInterval : Test → ℤ → ℤ → ℤ → Bool → Type 0
IsInterval test constant low high inside = (z : ℤ) → fits_64 z ≡ true → says test constant z ≡ beq (int_le low z && int_le z high) inside
