-- What callers may count on of every function.
use Rattle.std.specs.Prelude.{◌≡◌, List, map, Some}
use Rattle.vx_rows_values.specs.declared.value.ColType.{ColType}
use Rattle.vx_rows_values.specs.Values.{Val}
use Rattle.vx_rows_values.specs.Types.{type_of}
use Rattle.vx_functions.specs.declared.standard.StandardFunction.{StandardFunction}
use Rattle.vx_functions.specs.Standard.{signature, meaning}

-- a function that takes values of some types answers a value of the type that it says
abbrev pub AnswersHaveTheirType : Type 0
AnswersHaveTheirType = (function : StandardFunction) (values : List Val) (answer : Val) (type : ColType) →
    signature function (map type_of values) ≡ Some type → meaning function values ≡ Some answer → type_of answer ≡ type
