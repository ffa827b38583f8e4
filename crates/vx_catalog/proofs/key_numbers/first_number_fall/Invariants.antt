use Rattle.std.proofs.Common.{◌≡◌, ◌-◌, [], drop, get_or}
use Rattle.vx_catalog.specs.Loading.{fall_from, first_fall}
use Rattle.vx_catalog.specs.KeyNumbers.{number_rows, number_order}
use Rattle.vx_catalog.proofs.key_numbers.first_number_fall.Given as goal

abbrev pub invariant-loop-i : goal.invariant-loop-i
invariant-loop-i l = fall_from (number_order l.falling) l.i (get_or (number_rows l.numbers) (l.i - 1) []) (drop l.i (number_rows l.numbers)) ≡ first_fall (number_order l.falling) (number_rows l.numbers)
