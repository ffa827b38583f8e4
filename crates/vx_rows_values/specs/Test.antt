-- How a condition compares its sides, and the text that says it.
use Rattle.std.specs.Prelude.{ℕ, List, codes}

pub data Test : Type 0 where
  equal : Test
  unequal : Test
  below : Test
  at_most : Test
  above : Test
  at_least : Test

abbrev pub test_text : Test → List ℕ
test_text equal = codes "="
test_text unequal = codes "<>"
test_text below = codes "<"
test_text at_most = codes "<="
test_text above = codes ">"
test_text at_least = codes ">="
