-- Answers are of the type that the signature has.
use Rattle.std.proofs.Common.{◌≡◌, ℕ, ℤ, Bool, true, false, cond, not, List, [], ◌∷◌, ◌++◌, map, Option, Some, None, option_map, sym, ap, ◌∙◌}
use Rattle.std.specs.Ordering.{nat_cmp}
use Rattle.std.specs.Cmp.Lexicographic.{slice_cmp}
use Rattle.std.proofs.lemmas.Option.{none-some, same_Some}
use Rattle.vx_rows_values.specs.declared.value.ColType.{ColType}
use Rattle.vx_rows_values.specs.declared.value.ColType.TheVariants.{Int}
use Rattle.vx_rows_values.specs.Values.{Val, num, text}
use Rattle.vx_rows_values.specs.Types.{type_of}
use Rattle.vx_functions.specs.declared.standard.StandardFunction.{StandardFunction}
use Rattle.vx_functions.specs.declared.standard.StandardFunction.TheVariants as f
use Rattle.vx_functions.specs.Numbers.{neg, truth, holds}
use Rattle.vx_functions.specs.Texts.{characters, lower, upper, begins, stands_in, substring}
use Rattle.vx_functions.specs.Like.{like}
use Rattle.vx_functions.specs.Standard.{same_type, signature, meaning, compared, of_numbers}
use Rattle.vx_functions.specs.Laws.{AnswersHaveTheirType}

-- where there is an answer, its type is the one of the signature
abbrev Typed : StandardFunction → List Val → Type 0
Typed g values = (answer : Val) (t : ColType) → signature g (map type_of values) ≡ Some t → meaning g values ≡ Some answer → type_of answer ≡ t

-- answers that are numbers
is-number : (o : Option ℤ) (v : Val) (t : ColType) → Some Int ≡ Some t → option_map num o ≡ Some v → type_of v ≡ t
is-number None v t s m = absurd (none-some v m)
is-number (Some z) v t s m = sym (ap type_of (same_Some (num z) v m)) ∙ same_Some Int t s

-- of a value that is there
is-it : (a v : Val) (t : ColType) → Some (type_of a) ≡ Some t → Some a ≡ Some v → type_of v ≡ t
is-it a v t s m = sym (ap type_of (same_Some a v m)) ∙ same_Some (type_of a) t s

of-number : (g : StandardFunction) (x : ℤ) → Typed g (num x ∷ [])
of-number f.Neg x v t s m = is-number (neg x) v t s m
of-number f.Not x v t s m = is-it (num (truth (not (holds x)))) v t s m
of-number _ x v t s m = absurd (none-some v m)

of-text : (g : StandardFunction) (a : List ℕ) → Typed g (text a ∷ [])
of-text f.Length a v t s m = is-it (num (characters a)) v t s m
of-text f.Lower a v t s m = is-it (text (lower a)) v t s m
of-text f.Upper a v t s m = is-it (text (upper a)) v t s m
of-text _ a v t s m = absurd (none-some v m)

of-numbers : (g : StandardFunction) (x y : ℤ) → Typed g (num x ∷ num y ∷ [])
of-numbers f.If x y v t s m = absurd (none-some t s)
of-numbers f.Neg x y v t s m = absurd (none-some t s)
of-numbers f.Not x y v t s m = absurd (none-some t s)
of-numbers f.Length x y v t s m = absurd (none-some t s)
of-numbers f.Lower x y v t s m = absurd (none-some t s)
of-numbers f.Upper x y v t s m = absurd (none-some t s)
of-numbers f.Concat x y v t s m = absurd (none-some t s)
of-numbers f.StartsWith x y v t s m = absurd (none-some t s)
of-numbers f.Contains x y v t s m = absurd (none-some t s)
of-numbers f.Like x y v t s m = absurd (none-some t s)
of-numbers f.Substring x y v t s m = absurd (none-some t s)
of-numbers f.Add x y v t s m = is-number (of_numbers f.Add x y) v t s m
of-numbers f.Sub x y v t s m = is-number (of_numbers f.Sub x y) v t s m
of-numbers f.Mul x y v t s m = is-number (of_numbers f.Mul x y) v t s m
of-numbers f.Div x y v t s m = is-number (of_numbers f.Div x y) v t s m
of-numbers f.Mod x y v t s m = is-number (of_numbers f.Mod x y) v t s m
of-numbers f.And x y v t s m = is-number (of_numbers f.And x y) v t s m
of-numbers f.Or x y v t s m = is-number (of_numbers f.Or x y) v t s m
of-numbers f.Eq x y v t s m = is-number (of_numbers f.Eq x y) v t s m
of-numbers f.Ne x y v t s m = is-number (of_numbers f.Ne x y) v t s m
of-numbers f.Lt x y v t s m = is-number (of_numbers f.Lt x y) v t s m
of-numbers f.Le x y v t s m = is-number (of_numbers f.Le x y) v t s m
of-numbers f.Gt x y v t s m = is-number (of_numbers f.Gt x y) v t s m
of-numbers f.Ge x y v t s m = is-number (of_numbers f.Ge x y) v t s m

of-texts : (g : StandardFunction) (a b : List ℕ) → Typed g (text a ∷ text b ∷ [])
of-texts f.Concat a b v t s m = is-it (text (a ++ b)) v t s m
of-texts f.StartsWith a b v t s m = is-it (num (truth (begins b a))) v t s m
of-texts f.Contains a b v t s m = is-it (num (truth (stands_in b a))) v t s m
of-texts f.Like a b v t s m = is-it (num (truth (like b a))) v t s m
of-texts f.Eq a b v t s m = is-number (compared f.Eq (slice_cmp nat_cmp a b)) v t s m
of-texts f.Ne a b v t s m = is-number (compared f.Ne (slice_cmp nat_cmp a b)) v t s m
of-texts f.Lt a b v t s m = is-number (compared f.Lt (slice_cmp nat_cmp a b)) v t s m
of-texts f.Le a b v t s m = is-number (compared f.Le (slice_cmp nat_cmp a b)) v t s m
of-texts f.Gt a b v t s m = is-number (compared f.Gt (slice_cmp nat_cmp a b)) v t s m
of-texts f.Ge a b v t s m = is-number (compared f.Ge (slice_cmp nat_cmp a b)) v t s m
of-texts _ a b v t s m = absurd (none-some v m)

one-of : (c : Bool) (a b v : Val) (t : ColType) → cond (same_type (type_of a) (type_of b)) (Some (type_of a)) None ≡ Some t → Some (cond c a b) ≡ Some v → type_of v ≡ t
one-of true (num x) (num y) v t s m = is-it (num x) v t s m
one-of false (num x) (num y) v t s m = is-it (num y) v t s m
one-of true (text x) (text y) v t s m = is-it (text x) v t s m
one-of false (text x) (text y) v t s m = is-it (text y) v t s m
one-of c (num x) (text y) v t s m = absurd (none-some t s)
one-of c (text x) (num y) v t s m = absurd (none-some t s)

of-choice : (g : StandardFunction) (c : ℤ) (a b : Val) → Typed g (num c ∷ a ∷ b ∷ [])
of-choice f.If c a b v t s m = one-of (holds c) a b v t s m
of-choice _ c a b v t s m = absurd (none-some v m)

of-span : (g : StandardFunction) (a : List ℕ) (x y : ℤ) → Typed g (text a ∷ num x ∷ num y ∷ [])
of-span f.Substring a x y v t s m = is-it (text (substring x y a)) v t s m
of-span _ a x y v t s m = absurd (none-some v m)

pub answers-have-their-type : AnswersHaveTheirType
answers-have-their-type g [] v t s m = absurd (none-some v m)
answers-have-their-type g (num x ∷ []) v t s m = of-number g x v t s m
answers-have-their-type g (text a ∷ []) v t s m = of-text g a v t s m
answers-have-their-type g (num x ∷ num y ∷ []) v t s m = of-numbers g x y v t s m
answers-have-their-type g (num x ∷ text b ∷ []) v t s m = absurd (none-some v m)
answers-have-their-type g (text a ∷ num y ∷ []) v t s m = absurd (none-some v m)
answers-have-their-type g (text a ∷ text b ∷ []) v t s m = of-texts g a b v t s m
answers-have-their-type g (num c ∷ a ∷ b ∷ []) v t s m = of-choice g c a b v t s m
answers-have-their-type g (text a ∷ num x ∷ num y ∷ []) v t s m = of-span g a x y v t s m
answers-have-their-type g (text a ∷ num x ∷ text b ∷ []) v t s m = absurd (none-some v m)
answers-have-their-type g (text a ∷ text b ∷ c ∷ []) v t s m = absurd (none-some v m)
answers-have-their-type g (a ∷ b ∷ c ∷ d ∷ values) v t s m = absurd (none-some v m)
