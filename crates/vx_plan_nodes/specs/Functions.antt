-- The functions that plans name: any that depend on the name and the values alone.
use Rattle.std.specs.Prelude.{◌≡◌, List, map, Some}
use Rattle.vx_rows_values.specs.declared.value.ColType.{ColType}
use Rattle.vx_rows_values.specs.Types.{type_of}
use Rattle.vx_rows_values.specs.Values.{Val, Name}
use Rattle.vx_plan_nodes.specs.Plan.{Function}

-- functions, each given for a name
abbrev pub Functions : Type 0
Functions = Name → Function

-- the function that is given for a name, under that name
abbrev pub given_for : Functions → Name → Function
given_for given name = record { name = name; signature = (given name).signature; answer = (given name).answer }

-- an answer has the type that the signature has for the types of the values
abbrev pub AnswersAreTyped : Functions → Type 0
AnswersAreTyped given = (name : Name) (values : List Val) (answer : Val) (type : ColType)
    → (given name).signature (map type_of values) ≡ Some type → (given name).answer values ≡ Some answer → type_of answer ≡ type
