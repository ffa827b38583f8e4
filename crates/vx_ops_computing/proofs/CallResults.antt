-- What a call asks of its function, and what it answers then.
use Rattle.std.proofs.Common.{◌≡◌, ℕ, ◌+◌, ◌<◌, ◌≤◌, Bool, true, ◌&&◌, List, [], ◌∷◌, ◌++◌, length, map, take, take_all, get_or, subst, Result, Ok, Err, refl, sym, ap, ap₂, ◌∙◌, String, Global, Vec, string_bytes}
use Rattle.std.specs.Prelude.{IfOk, IfErr}
use Rattle.std.specs.List.{list_all}
use Rattle.std.proofs.lemmas.List.{take_more}
use Rattle.std.proofs.lemmas.List.Sums.{AllPass-from_list_all}
use Rattle.vx_rows_values.proofs.Booleans.{and-left, and-right}
use Rattle.vx_rows_values.specs.declared.value.ColType.{ColType}
use Rattle.vx_rows_values.specs.Values.{Name, Row}
use Rattle.vx_plan_nodes.specs.declared.typed.Expression.{Expression, Call}
use Rattle.vx_plan_nodes.specs.Known.{is_type, knows, knows_all, operand_types}
use Rattle.vx_plan_nodes.specs.Functions.{Functions, given_for}
use Rattle.vx_plan_nodes.specs.Types.{expression_type}
use Rattle.vx_ops_computing.specs.declared.fault.ComputeFault.{ComputeFault}
use Rattle.vx_ops_computing.specs.declared.operands.Operand.{Operand}
use Rattle.vx_ops_computing.specs.Answers.{IsAnswered, IsUnanswered}
use Rattle.vx_ops_computing.specs.Called.{IsCalled, CallOverflows}
use Rattle.vx_ops_computing.specs.Fault.{Blames}
use Rattle.vx_ops_computing.specs.Given.{expression_by}
use Rattle.vx_ops_computing.specs.Operands.{operand_type}
use Rattle.vx_ops_computing.proofs.AnswerFacts.{AreAnswered, operands_by, call-by, are-more, call-answered, call-unanswered}
use Rattle.vx_ops_computing.proofs.Blaming.{blames-as}

-- whether the operands of a call are known, and their types
operands-known : (given : Functions) (types : List ColType) (es : List Expression) → knows_all types (operands_by given es) ≡ list_all (λ e. knows types (expression_by given e)) es
operands-known given types [] = refl
operands-known given types (e ∷ es) = ap (λ b. knows types (expression_by given e) && b) (operands-known given types es)

operands-types : (given : Functions) (types : List ColType) (es : List Expression) → operand_types types (operands_by given es) ≡ map (λ e. expression_type types (expression_by given e)) es
operands-types given types [] = refl
operands-types given types (e ∷ es) = ap (λ ts. expression_type types (expression_by given e) ∷ ts) (operands-types given types es)

call-known : (given : Functions) (types : List ColType) (name : String Global) (t : ColType) (es : Vec Expression Global) → knows types (expression_by given (Call name t es))
    ≡ (list_all (λ e. knows types (expression_by given e)) es.items && is_type t ((given_for given (string_bytes name)).signature (map (λ e. expression_type types (expression_by given e)) es.items)))
call-known given types name t es =
    ap (knows types) (call-by given name t es)
    ∙ ap₂ (λ b ts. b && is_type t ((given_for given (string_bytes name)).signature ts)) (operands-known given types es.items) (operands-types given types es.items)

module _ (given : Functions) (types : List ColType) (name : String Global) (t : ColType) (es : Vec Expression Global) where
  -- the operands of a call that is known are
  pub inner-known : knows types (expression_by given (Call name t es)) ≡ true → (i : ℕ) (e : Expression) → i < length es.items → e ≡ get_or es.items i e → knows types (expression_by given e) ≡ true
  inner-known h i e l is =
      let fits : Bool = is_type t ((given_for given (string_bytes name)).signature (map (λ e. expression_type types (expression_by given e)) es.items)) in
      let all = and-left (list_all (λ e. knows types (expression_by given e)) es.items) fits (sym (call-known given types name t es) ∙ h) in
      ap (λ d. knows types (expression_by given d)) is ∙ AllPass-from_list_all (λ e. knows types (expression_by given e)) es.items all i e l

  module _ (xs : List Row) (os : List Operand) (are : AreAnswered given types es.items xs os) where
    -- and so is its function for the types of their answers
    pub function-known : (n : Name) (ps : List Operand) → n ≡ string_bytes name → ps ≡ os → knows types (expression_by given (Call name t es)) ≡ true → is_type t ((given_for given n).signature (map operand_type ps)) ≡ true
    function-known n ps name-is os-is h =
        let fits : List ColType → Bool = λ ts. is_type t ((given_for given (string_bytes name)).signature ts) in
        let known = and-right (list_all (λ e. knows types (expression_by given e)) es.items) (fits (map (λ e. expression_type types (expression_by given e)) es.items)) (sym (call-known given types name t es) ∙ h) in
        rw (name-is, os-is) (ap fits are.kinds ∙ known)

    pub call-result : (r : Result Operand ComputeFault) (n : Name) (ps : List Operand) (m : ℕ) → n ≡ string_bytes name → ps ≡ os → m ≡ length xs → IfOk r (IsCalled (given_for given n).answer ps m t)
        → IfOk r (IsAnswered types (expression_by given (Call name t es)) xs)
    call-result (Ok o) n ps m name-is os-is many h = call-answered given types name t es xs os o are (rw (name-is, os-is, many) at h)
    call-result (Err e) n ps m name-is os-is many h = tt

    pub call-fault : (r : Result Operand ComputeFault) (n : Name) (ps : List Operand) (m : ℕ) → n ≡ string_bytes name → ps ≡ os → m ≡ length xs → IfErr r (Blames (CallOverflows (given_for given n).answer ps m))
        → IfErr r (Blames (IsUnanswered (expression_by given (Call name t es)) xs))
    call-fault (Ok o) n ps m name-is os-is many h = tt
    call-fault (Err e) n ps m name-is os-is many h =
        blames-as (CallOverflows (given_for given (string_bytes name)).answer os (length xs)) (IsUnanswered (expression_by given (Call name t es)) xs) e (call-unanswered given types name t es xs os are) (rw (name-is, os-is, many) at h)

-- one operand more
pub are-next : (given : Functions) (types : List ColType) (items : List Expression) (i : ℕ) (e : Expression) (xs : List Row) (os : List Operand) (o : Operand) (ps : List Operand) → i < length items → e ≡ get_or items i e → ps ≡ os ++ o ∷ []
    → AreAnswered given types (take i items) xs os → IsAnswered types (expression_by given e) xs o → AreAnswered given types (take (i + 1) items) xs ps
are-next given types items i e xs os o ps l is pushed h g =
    let next : take (i + 1) items ≡ take i items ++ e ∷ [] = take_more items i e l ∙ ap (λ d. take i items ++ d ∷ []) (sym is) in
    rw (next, pushed) (are-more given types (take i items) e xs os o h g)

pub are-all : (given : Functions) (types : List ColType) (items : List Expression) (i : ℕ) (xs : List Row) (os : List Operand) → length items ≤ i → AreAnswered given types (take i items) xs os → AreAnswered given types items xs os
are-all given types items i xs os l h = let P : List Expression → Type 0 = λ es. AreAnswered given types es xs os in subst P (take_all i items l) h
