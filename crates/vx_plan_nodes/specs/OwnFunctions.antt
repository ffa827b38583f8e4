-- The program's functions answer what their signatures say.
use Rattle.std.proofs.Common.{◌≡◌, List, map, Option, Some, None, option_and_then}
use Rattle.vx_rows_values.specs.declared.value.ColType.{ColType}
use Rattle.vx_rows_values.specs.Types.{type_of}
use Rattle.vx_rows_values.specs.Values.{Val, Name}
use Rattle.vx_functions.specs.Standard.{named, signature, meaning}
use Rattle.vx_functions.specs.declared.standard.StandardFunction.{StandardFunction}
use Rattle.vx_functions.proofs.AnswerTypes.{answers-have-their-type}
use Rattle.vx_plan_nodes.specs.Outline.{function_of}
use Rattle.vx_plan_nodes.specs.Functions.{AnswersAreTyped}

pub own-typed : AnswersAreTyped function_of
own-typed name values answer type = go (named name)
  where
    go : (o : Option StandardFunction) → option_and_then (λ f. signature f (map type_of values)) o ≡ Some type → option_and_then (λ f. meaning f values) o ≡ Some answer → type_of answer ≡ type
    go (Some f) h k = answers-have-their-type f values answer type h k
    go None h k = cc
