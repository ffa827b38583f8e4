-- Functions of numbers: whole numbers without limit, and then the test of 64 bits. Where that fails, or a divisor is 0, they overflow.
use Rattle.std.specs.Prelude.{ℤ, pos, neg_ℤ, ◌+ℤ◌, ◌-ℤ◌, ◌*ℤ◌, Bool, cond, not, Option, Some, None}
use Rattle.std.specs.Prelude.{int_div, int_rem}
use Rattle.std.specs.Ordering.{int_cmp, is_eq}
use Rattle.vx_rows_values.specs.Types.{fits_64}

-- the number, if it has 64 bits; none is an overflow
abbrev pub held : ℤ → Option ℤ
held z = cond (fits_64 z) (Some z) None

-- the numbers are the same
abbrev pub same_number : ℤ → ℤ → Bool
same_number x y = is_eq (int_cmp x y)

abbrev pub add : ℤ → ℤ → Option ℤ
add x y = held (x +ℤ y)

abbrev pub sub : ℤ → ℤ → Option ℤ
sub x y = held (x -ℤ y)

abbrev pub mul : ℤ → ℤ → Option ℤ
mul x y = held (x *ℤ y)

abbrev pub neg : ℤ → Option ℤ
neg x = held (neg_ℤ x)

-- toward zero
abbrev pub div : ℤ → ℤ → Option ℤ
div x y = cond (same_number y (pos 0)) None (held (int_div x y))

abbrev pub rest : ℤ → ℤ → Option ℤ
rest x y = cond (same_number y (pos 0)) None (held (int_rem x y))

-- 1 for what holds, 0 for what does not
abbrev pub truth : Bool → ℤ
truth b = cond b (pos 1) (pos 0)

-- a number that is not 0 holds
abbrev pub holds : ℤ → Bool
holds x = not (same_number x (pos 0))
