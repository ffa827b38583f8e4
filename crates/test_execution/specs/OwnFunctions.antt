-- Functions of a test's own: twice a number, and the program's `add`.
use Rattle.std.proofs.Common.{◌≡◌, ℤ, pos, Bool, true, false, cond, List, [], ◌∷◌, map, Option, Some, None, option_map, bytes_eq, codes, sym, ap, ◌∙◌}
use Rattle.std.proofs.lemmas.Option.{none-some, same_Some}
use Rattle.vx_rows_values.specs.declared.value.ColType.{ColType}
use Rattle.vx_rows_values.specs.declared.value.ColType.TheVariants.{Int}
use Rattle.vx_rows_values.specs.Types.{type_of}
use Rattle.vx_rows_values.specs.Values.{Name, Val, num, text}
use Rattle.vx_functions.specs.Numbers.{mul}
use Rattle.vx_functions.specs.Standard.{takes}
use Rattle.vx_plan_nodes.specs.Functions.{Functions, AnswersAreTyped}
use Rattle.vx_plan_nodes.specs.Outline.{function_of}
use Rattle.vx_plan_nodes.specs.OwnFunctions.{own-typed as standard-typed}
use Rattle.vx_plan_nodes.specs.Plan.{Function}

-- twice a number; none is an overflow
abbrev pub twice_of : List Val → Option Val
twice_of (num x ∷ []) = option_map num (mul x (pos 2))
twice_of values = None

abbrev pub twice : Name → Function
twice name = record { name = name; signature = takes (Int ∷ []) Int; answer = twice_of }

-- one that takes no values
abbrev pub no_function : Name → Function
no_function name = record { name = name; signature = λ types. None; answer = λ values. None }

-- where the name is `twice`, or is `add`, or is another one
abbrev pub one_of : (is_twice is_add : Bool) → Name → Function
one_of true is_add name = twice name
one_of false true name = function_of name
one_of false false name = no_function name

abbrev pub own_functions : Functions
own_functions name = one_of (bytes_eq name (codes "twice")) (bytes_eq name (codes "add")) name

-- what is twice a number is a number
is-number : (o : Option ℤ) (answer : Val) (type : ColType) → Some Int ≡ Some type → option_map num o ≡ Some answer → type_of answer ≡ type
is-number None answer type s m = absurd (none-some answer m)
is-number (Some z) answer type s m = sym (ap type_of (same_Some (num z) answer m)) ∙ same_Some Int type s

twice-typed : (values : List Val) (answer : Val) (type : ColType) → takes (Int ∷ []) Int (map type_of values) ≡ Some type → twice_of values ≡ Some answer → type_of answer ≡ type
twice-typed [] answer type s m = absurd (none-some answer m)
twice-typed (num x ∷ []) answer type s m = is-number (mul x (pos 2)) answer type s m
twice-typed (num x ∷ y ∷ values) answer type s m = absurd (none-some answer m)
twice-typed (text x ∷ values) answer type s m = absurd (none-some answer m)

one-typed : (is_twice is_add : Bool) (name : Name) (values : List Val) (answer : Val) (type : ColType) → (one_of is_twice is_add name).signature (map type_of values) ≡ Some type
    → (one_of is_twice is_add name).answer values ≡ Some answer → type_of answer ≡ type
one-typed true is_add name values answer type s m = twice-typed values answer type s m
one-typed false true name values answer type s m = standard-typed name values answer type s m
one-typed false false name values answer type s m = absurd (none-some answer m)

pub own-typed : AnswersAreTyped own_functions
own-typed name values answer type s m = one-typed (bytes_eq name (codes "twice")) (bytes_eq name (codes "add")) name values answer type s m
