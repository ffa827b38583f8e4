-- What the operands of a call answer, one by one.
use Rattle.std.proofs.Common.{◌≡◌, ℕ, zero, suc, ◌<◌, arith, List, [], ◌∷◌, ◌++◌, length, map, get_or, Option, Some, None, refl, sym, ap, ap₂, ◌∙◌, String, Global, Vec, string_bytes}
use Rattle.std.specs.Prelude.{All, option_and_then}
use Rattle.std.proofs.lemmas.List.{map-append}
use Rattle.std.proofs.lemmas.List.Elements.{All-push}
use Rattle.vx_rows_values.specs.declared.value.ColType.{ColType}
use Rattle.vx_rows_values.specs.Values.{Val, Row}
use Rattle.vx_plan_nodes.specs.declared.typed.Expression.{Expression, Call}
use Rattle.vx_plan_nodes.specs.Expressions.{if_all, answer, answers_all}
use Rattle.vx_plan_nodes.specs.Functions.{Functions, given_for}
use Rattle.vx_plan_nodes.specs.Plan as plan
use Rattle.vx_plan_nodes.specs.Types.{expression_type}
use Rattle.vx_plan_nodes.specs.Under.{expression_under, operands_under}
use Rattle.vx_plan_nodes.proofs.ExpressionFacts.{operands_in, call-is}
use Rattle.vx_ops_computing.specs.declared.operands.Operand.{Operand}
use Rattle.vx_ops_computing.specs.Operands.{operand_at, operand_type, IsFor, values_at}
use Rattle.vx_ops_computing.specs.Answers.{IsAnswered, IsUnanswered}
use Rattle.vx_ops_computing.specs.Called.{IsCalled, CallOverflows}
use Rattle.vx_ops_computing.specs.Given.{expression_by}

-- both are there
split : (a : Option Val) (b : Option (List Val)) (vs : List Val) → if_all a b ≡ Some vs → (w : Val) × (ws : List Val) × (a ≡ Some w) × (b ≡ Some ws) × (vs ≡ w ∷ ws)
split (Some w) (Some ws) vs e = (w, ws, refl, refl, cc)
split (Some w) None vs e = cc
split None b vs e = cc

-- the operands of a list, and a call with them
abbrev pub operands_by : Functions → List Expression → plan.Operands
operands_by given es = operands_under given (operands_in es)

pub call-by : (given : Functions) (name : String Global) (t : ColType) (es : Vec Expression Global) → expression_by given (Call name t es) ≡ plan.call (given_for given (string_bytes name)) t (operands_by given es.items)
call-by given name t es = ap (expression_under given) (call-is name t es)

-- one operand more
answers-push : (given : Functions) (es : List Expression) (e : Expression) (row : Row) (vs : List Val) (v : Val) → answers_all (operands_by given es) row ≡ Some vs → answer (expression_by given e) row ≡ Some v
    → answers_all (operands_by given (es ++ e ∷ [])) row ≡ Some (vs ++ v ∷ [])
answers-push given [] e row vs v h g =
    let none : vs ≡ [] = cc in
    ap (λ a. if_all a (Some [])) g ∙ ap (λ ws. Some (ws ++ v ∷ [])) (sym none)
answers-push given (d ∷ es) e row vs v h g =
    let s = split (answer (expression_by given d) row) (answers_all (operands_by given es) row) vs h in
    let rest = answers-push given es e row s.1 v s.3 g in
    ap₂ (λ a b. if_all a b) s.2 rest ∙ ap (λ ws. Some (ws ++ v ∷ [])) (sym s.4)

no-all : (a : Option Val) → if_all a None ≡ None
no-all (Some v) = refl
no-all None = refl

-- where one answers nothing, so do all
pub none-answered : (given : Functions) (es : List Expression) (k : ℕ) (e : Expression) (row : Row) → k < length es → get_or es k e ≡ e → answer (expression_by given e) row ≡ None → answers_all (operands_by given es) row ≡ None
none-answered given [] k e row l is none = absurd (omega arith)
none-answered given (d ∷ es) zero e row l is none =
    let same : answer (expression_by given d) row ≡ None = ap (λ f. answer (expression_by given f) row) is ∙ none in
    ap (λ a. if_all a (answers_all (operands_by given es) row)) same
none-answered given (d ∷ es) (suc k) e row l is none =
    ap (λ b. if_all (answer (expression_by given d) row) b) (none-answered given es k e row (omega arith) is none) ∙ no-all (answer (expression_by given d) row)

-- operands that have what expressions answer
pub record AreAnswered (given : Functions) (types : List ColType) (es : List Expression) (xs : List Row) (os : List Operand) : Type 0 where
  pub whole : All (IsFor (length xs)) os
  pub kinds : map operand_type os ≡ map (λ e. expression_type types (expression_by given e)) es
  pub values : (k : ℕ) → k < length xs → answers_all (operands_by given es) (get_or xs k []) ≡ Some (values_at os k)

pub are-none : (given : Functions) (types : List ColType) (xs : List Row) → AreAnswered given types [] xs []
are-none given types xs = record { whole = λ k d l. absurd (omega arith); kinds = refl; values = λ k l. refl }

pub are-more : (given : Functions) (types : List ColType) (es : List Expression) (e : Expression) (xs : List Row) (os : List Operand) (o : Operand) → AreAnswered given types es xs os → IsAnswered types (expression_by given e) xs o
    → AreAnswered given types (es ++ e ∷ []) xs (os ++ o ∷ [])
are-more given types es e xs os o h g = record {
  whole = All-push (IsFor (length xs)) os o h.whole g.whole;
  kinds = map-append operand_type os (o ∷ []) ∙ (ap₂ (λ (a b : List ColType). a ++ b) h.kinds (ap (λ (t : ColType). t ∷ []) g.kind) ∙ sym (map-append (λ e. expression_type types (expression_by given e)) es (e ∷ [])));
  values = λ k l. answers-push given es e (get_or xs k []) (values_at os k) (operand_at o k) (h.values k l) (g.values k l) ∙ ap Some (sym (map-append (λ o. operand_at o k) os (o ∷ [])));
}

-- a call answers what its function does of what its operands answer
pub call-answered : (given : Functions) (types : List ColType) (name : String Global) (t : ColType) (es : Vec Expression Global) (xs : List Row) (os : List Operand) (o : Operand) → AreAnswered given types es.items xs os
    → IsCalled (given_for given (string_bytes name)).answer os (length xs) t o → IsAnswered types (expression_by given (Call name t es)) xs o
call-answered given types name t es xs os o h g = record {
  whole = g.whole;
  kind = g.kind ∙ sym (ap (expression_type types) (call-by given name t es));
  values = λ k l.
      ap (λ e. answer e (get_or xs k [])) (call-by given name t es)
      ∙ (ap (λ vs. option_and_then (given_for given (string_bytes name)).answer vs) (h.values k l) ∙ g.values k l);
}

pub call-unanswered : (given : Functions) (types : List ColType) (name : String Global) (t : ColType) (es : Vec Expression Global) (xs : List Row) (os : List Operand) → AreAnswered given types es.items xs os
    → CallOverflows (given_for given (string_bytes name)).answer os (length xs) → IsUnanswered (expression_by given (Call name t es)) xs
call-unanswered given types name t es xs os h g = record {
  at = g.at;
  there = g.there;
  none =
      ap (λ e. answer e (get_or xs g.at [])) (call-by given name t es)
      ∙ (ap (λ vs. option_and_then (given_for given (string_bytes name)).answer vs) (h.values g.at g.there) ∙ g.none);
}

-- nor does a call where an operand does not
pub operand-unanswered : (given : Functions) (name : String Global) (t : ColType) (es : Vec Expression Global) (xs : List Row) (k : ℕ) (e : Expression) → k < length es.items → get_or es.items k e ≡ e
    → IsUnanswered (expression_by given e) xs → IsUnanswered (expression_by given (Call name t es)) xs
operand-unanswered given name t es xs k e l is h = record {
  at = h.at;
  there = h.there;
  none =
      ap (λ e. answer e (get_or xs h.at [])) (call-by given name t es)
      ∙ ap (λ vs. option_and_then (given_for given (string_bytes name)).answer vs) (none-answered given es.items k e (get_or xs h.at []) l is h.none);
}
