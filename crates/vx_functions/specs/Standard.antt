-- The program's functions: their names, the types that they take, and what they answer.
use Rattle.std.specs.Prelude.{ℕ, ℤ, Bool, true, false, cond, not, ◌&&◌, ◌||◌, List, [], ◌∷◌, ◌++◌, Option, Some, None, option_map, bytes_eq, codes}
use Rattle.std.specs.declared.cmp.Ordering.{Ordering}
use Rattle.std.specs.Ordering.{int_cmp, nat_cmp, is_eq, is_ne, is_lt, is_le, is_gt, is_ge}
use Rattle.std.specs.Cmp.Lexicographic.{slice_cmp}
use Rattle.vx_rows_values.specs.declared.value.ColType.{ColType}
use Rattle.vx_rows_values.specs.declared.value.ColType.TheVariants.{Int, Text}
use Rattle.vx_rows_values.specs.Values.{Val, num, text}
use Rattle.vx_functions.specs.declared.standard.StandardFunction.{StandardFunction}
use Rattle.vx_functions.specs.declared.standard.StandardFunction.TheVariants as f
use Rattle.vx_functions.specs.Numbers.{add, sub, mul, neg, div, rest, truth, holds}
use Rattle.vx_functions.specs.Texts.{characters, lower, upper, begins, stands_in, substring}
use Rattle.vx_functions.specs.Like.{like}

-- ---- names

-- the function, if this is its name, or else the other answer
abbrev pub if_named : List ℕ → List ℕ → StandardFunction → Option StandardFunction → Option StandardFunction
if_named name own function other = cond (bytes_eq name own) (Some function) other

abbrev pub named : List ℕ → Option StandardFunction
named name =
    if_named name (codes "add") f.Add (if_named name (codes "sub") f.Sub (if_named name (codes "mul") f.Mul (if_named name (codes "neg") f.Neg
    (if_named name (codes "div") f.Div (if_named name (codes "mod") f.Mod (if_named name (codes "eq") f.Eq (if_named name (codes "ne") f.Ne
    (if_named name (codes "lt") f.Lt (if_named name (codes "le") f.Le (if_named name (codes "gt") f.Gt (if_named name (codes "ge") f.Ge
    (if_named name (codes "and") f.And (if_named name (codes "or") f.Or (if_named name (codes "not") f.Not (if_named name (codes "length") f.Length
    (if_named name (codes "lower") f.Lower (if_named name (codes "upper") f.Upper (if_named name (codes "concat") f.Concat (if_named name (codes "starts_with") f.StartsWith
    (if_named name (codes "contains") f.Contains (if_named name (codes "like") f.Like (if_named name (codes "substring") f.Substring (if_named name (codes "if") f.If None)))))))))))))))))))))))

-- ---- types

abbrev pub same_type : ColType → ColType → Bool
same_type Int Int = true
same_type Text Text = true
same_type _ _ = false

abbrev pub same_types : List ColType → List ColType → Bool
same_types [] [] = true
same_types (t ∷ ts) (u ∷ us) = same_type t u && same_types ts us
same_types _ _ = false

-- values of these types alone, and an answer of that one
abbrev pub takes : (wanted : List ColType) → (answer : ColType) → List ColType → Option ColType
takes wanted answer types = cond (same_types wanted types) (Some answer) None

-- two values of one type, and a number
abbrev pub takes_alike : List ColType → Option ColType
takes_alike (t ∷ u ∷ []) = cond (same_type t u) (Some Int) None
takes_alike _ = None

-- a number and two values of one type, and an answer of that type
abbrev pub takes_choice : List ColType → Option ColType
takes_choice (Int ∷ t ∷ u ∷ []) = cond (same_type t u) (Some t) None
takes_choice _ = None

abbrev pub signature : StandardFunction → List ColType → Option ColType
signature f.Neg types = takes (Int ∷ []) Int types
signature f.Not types = takes (Int ∷ []) Int types
signature f.Eq types = takes_alike types
signature f.Ne types = takes_alike types
signature f.Lt types = takes_alike types
signature f.Le types = takes_alike types
signature f.Gt types = takes_alike types
signature f.Ge types = takes_alike types
signature f.Length types = takes (Text ∷ []) Int types
signature f.Lower types = takes (Text ∷ []) Text types
signature f.Upper types = takes (Text ∷ []) Text types
signature f.Concat types = takes (Text ∷ Text ∷ []) Text types
signature f.StartsWith types = takes (Text ∷ Text ∷ []) Int types
signature f.Contains types = takes (Text ∷ Text ∷ []) Int types
signature f.Like types = takes (Text ∷ Text ∷ []) Int types
signature f.Substring types = takes (Text ∷ Int ∷ Int ∷ []) Text types
signature f.If types = takes_choice types
signature _ types = takes (Int ∷ Int ∷ []) Int types

-- ---- answers

-- what a comparison says of two values that compare so
abbrev pub compared : StandardFunction → Ordering → Option ℤ
compared f.Eq o = Some (truth (is_eq o))
compared f.Ne o = Some (truth (is_ne o))
compared f.Lt o = Some (truth (is_lt o))
compared f.Le o = Some (truth (is_le o))
compared f.Gt o = Some (truth (is_gt o))
compared f.Ge o = Some (truth (is_ge o))
compared _ o = None

abbrev pub of_number : StandardFunction → ℤ → Option ℤ
of_number f.Neg x = neg x
of_number f.Not x = Some (truth (not (holds x)))
of_number _ x = None

abbrev pub of_numbers : StandardFunction → ℤ → ℤ → Option ℤ
of_numbers f.Add x y = add x y
of_numbers f.Sub x y = sub x y
of_numbers f.Mul x y = mul x y
of_numbers f.Div x y = div x y
of_numbers f.Mod x y = rest x y
of_numbers f.And x y = Some (truth (holds x && holds y))
of_numbers f.Or x y = Some (truth (holds x || holds y))
of_numbers function x y = compared function (int_cmp x y)

abbrev pub of_text : StandardFunction → List ℕ → Option Val
of_text f.Length s = Some (num (characters s))
of_text f.Lower s = Some (text (lower s))
of_text f.Upper s = Some (text (upper s))
of_text _ s = None

abbrev pub of_texts : StandardFunction → List ℕ → List ℕ → Option Val
of_texts f.Concat s t = Some (text (s ++ t))
of_texts f.StartsWith s t = Some (num (truth (begins t s)))
of_texts f.Contains s t = Some (num (truth (stands_in t s)))
of_texts f.Like s t = Some (num (truth (like t s)))
of_texts function s t = option_map num (compared function (slice_cmp nat_cmp s t))

abbrev pub of_span : StandardFunction → List ℕ → ℤ → ℤ → Option Val
of_span f.Substring s from count = Some (text (substring from count s))
of_span _ s from count = None

-- the first value where the number holds, else the second
abbrev pub chosen : StandardFunction → ℤ → Val → Val → Option Val
chosen f.If c a b = Some (cond (holds c) a b)
chosen _ c a b = None

-- of one, of two and of three values; none of values that it does not take
abbrev pub of_one : StandardFunction → Val → Option Val
of_one function (num x) = option_map num (of_number function x)
of_one function (text s) = of_text function s

abbrev pub of_two : StandardFunction → Val → Val → Option Val
of_two function (num x) (num y) = option_map num (of_numbers function x y)
of_two function (text s) (text t) = of_texts function s t
of_two function (num x) (text t) = None
of_two function (text s) (num y) = None

abbrev pub of_three : StandardFunction → Val → Val → Val → Option Val
of_three function (num c) a b = chosen function c a b
of_three function (text s) (num from) (num count) = of_span function s from count
of_three function (text s) (num x) (text t) = None
of_three function (text s) (text t) a = None

-- what it answers: a value, or none where it overflows; and none of values that it does not take
abbrev pub meaning : StandardFunction → List Val → Option Val
meaning function [] = None
meaning function (a ∷ []) = of_one function a
meaning function (a ∷ b ∷ []) = of_two function a b
meaning function (a ∷ b ∷ c ∷ []) = of_three function a b c
meaning function (a ∷ b ∷ c ∷ d ∷ values) = None
