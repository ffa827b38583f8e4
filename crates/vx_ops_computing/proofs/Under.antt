-- Conditions and entries under functions, over those of the program.
use Rattle.std.proofs.Common.{◌≡◌, List, [], ◌∷◌, map, refl, sym, ap, ◌∙◌}
use Rattle.vx_rows_values.specs.declared.value.ColType.{ColType}
use Rattle.vx_plan_nodes.specs.Functions.{Functions}
use Rattle.vx_plan_nodes.specs.Outline.{filter_of, entry_of}
use Rattle.vx_plan_nodes.specs.Plan as plan
use Rattle.vx_plan_nodes.specs.Plan.{copy_of, made_by, select, project}
use Rattle.vx_plan_nodes.specs.Types.{entry_type}
use Rattle.vx_plan_nodes.proofs.UnderFacts.{map-same, expression-type-under}
use Rattle.vx_plan_nodes.specs.Under.{filter_under, entry_under, unary_under}
use Rattle.vx_plan_nodes.specs.declared.typed.Entry.{Entry}
use Rattle.vx_plan_nodes.specs.declared.typed.Filter.{Filter}
use Rattle.vx_ops_computing.specs.Given.{filter_by, entry_by}

twice : {X Y Z : Type 0} (f : X → Y) (g : Y → Z) (xs : List X) → map g (map f xs) ≡ map (λ x. g (f x)) xs
twice f g [] = refl
twice f g (x ∷ xs) = ap (λ ys. g (f x) ∷ ys) (twice f g xs)

pub filters-by : (given : Functions) (fs : List Filter) → unary_under given (select (map filter_of fs)) ≡ select (map (filter_by given) fs)
filters-by given fs = ap select (twice filter_of (filter_under given) fs)

pub entries-by : (given : Functions) (es : List Entry) → unary_under given (project (map entry_of es)) ≡ project (map (entry_by given) es)
entries-by given es = ap project (twice entry_of (entry_under given) es)

entry-type : (given : Functions) (types : List ColType) (e : plan.Entry) → entry_type types (entry_under given e) ≡ entry_type types e
entry-type given types (copy_of c) = refl
entry-type given types (made_by e) = expression-type-under given types e

pub entries-types : (given : Functions) (types : List ColType) (es : List Entry) → map (entry_type types) (map (entry_by given) es) ≡ map (entry_type types) (map entry_of es)
entries-types given types es =
    sym (ap (map (entry_type types)) (twice entry_of (entry_under given) es)) ∙ map-same (entry_type types) (entry_under given) (entry-type given types) (map entry_of es)
