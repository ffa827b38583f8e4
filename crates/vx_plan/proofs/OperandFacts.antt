-- What is computed, found operand by operand.
use Rattle.std.proofs.Common.{◌≡◌, ℕ, List, [], ◌∷◌, ◌++◌, map, Result, Ok, Err, refl, sym, ap, ◌∙◌, inl, inr, ⊎_elim, Vec, Global, String, string_bytes}
use Rattle.vx_rows_values.specs.declared.value.ColType.{ColType}
use Rattle.vx_rows_values.specs.Values.{Name}
use Rattle.vx_plan_nodes.specs.Plan.{Expression, Operands}
use Rattle.vx_plan_nodes.specs.Plan as plan
use Rattle.vx_plan_nodes.specs.declared.typed.Expression as rust
use Rattle.vx_plan_nodes.specs.Outline.{function_of, expression_of}
use Rattle.vx_plan_nodes.proofs.ExpressionFacts.{operands_in, call-is}
use Rattle.vx_plan_json.specs.Document.{OperandForm, operands_from}
use Rattle.vx_plan_json.specs.Document as form
use Rattle.vx_plan_json.specs.declared.fault.PlanFault.{PlanFault}
use Rattle.vx_plan_json.specs.Fault.{Refusal, ◌>>=◌, refusal_of, Fails}
use Rattle.vx_plan.specs.Lookup.{walk_onto}
use Rattle.vx_plan.specs.Resolve.{find_operand, find_operands}

-- the expressions in a list
abbrev expressions_from : List Expression → Operands
expressions_from [] = plan.no_operands
expressions_from (e ∷ es) = plan.operand e (expressions_from es)

-- these, and before them those of a list
abbrev after : List Expression → Operands → Operands
after [] es = es
after (e ∷ before) es = plan.operand e (after before es)

after-push : (before : List Expression) (e : Expression) (es : Operands) → after (before ++ e ∷ []) es ≡ after before (plan.operand e es)
after-push [] e es = refl
after-push (x ∷ before) e es = ap (plan.operand x) (after-push before e es)

after-none : (before : List Expression) → expressions_from before ≡ after before plan.no_operands
after-none [] = refl
after-none (x ∷ before) = ap (plan.operand x) (after-none before)

-- what a list of operands gives after those before it
walk-from : (node : ℕ) (names : List Name) (before : List Expression) (os : List OperandForm)
    → (walk_onto (find_operand node names) before os >>= λ es. Ok (expressions_from es)) ≡ (find_operands node names (operands_from os) >>= λ es. Ok (after before es))
unfolding walk_onto
walk-from node names before [] = ap (λ (es : Operands). Ok es) (after-none before)
walk-from node names before (o ∷ os) = go (find_operand node names o) (λ e. walk-from node names (before ++ e ∷ []) os)
  where
    pushed : (e : Expression) (r : Result Operands Refusal) → (r >>= λ es. Ok (after (before ++ e ∷ []) es)) ≡ ((r >>= λ es. Ok (plan.operand e es)) >>= λ es. Ok (after before es))
    pushed e (Ok es) = ap (λ (es : Operands). Ok es) (after-push before e es)
    pushed e (Err f) = refl

    go : (r : Result Expression Refusal)
        → ((e : Expression) → (walk_onto (find_operand node names) (before ++ e ∷ []) os >>= λ es. Ok (expressions_from es)) ≡ (find_operands node names (operands_from os) >>= λ es. Ok (after (before ++ e ∷ []) es)))
        → ((r >>= λ e. walk_onto (find_operand node names) (before ++ e ∷ []) os) >>= λ es. Ok (expressions_from es))
        ≡ ((r >>= λ e. find_operands node names (operands_from os) >>= λ es. Ok (plan.operand e es)) >>= λ es. Ok (after before es))
    go (Ok e) next = next e ∙ pushed e (find_operands node names (operands_from os))
    go (Err f) next = refl

as-it-is : (r : Result Operands Refusal) → (r >>= λ es. Ok (after [] es)) ≡ r
as-it-is (Ok es) = refl
as-it-is (Err f) = refl

pub found-from : (node : ℕ) (names : List Name) (os : List OperandForm) → find_operands node names (operands_from os) ≡ (walk_onto (find_operand node names) [] os >>= λ es. Ok (expressions_from es))
found-from node names os = sym (walk-from node names [] os ∙ as-it-is (find_operands node names (operands_from os)))

-- the operands of the program, as those of the definitions
list-is : (es : List rust.Expression) → operands_in es ≡ expressions_from (map expression_of es)
list-is [] = refl
list-is (e ∷ es) = ap (plan.operand (expression_of e)) (list-is es)

-- a function of operands that were found
pub call-found : (node : ℕ) (names : List Name) (f name : String Global) (t : ColType) (os : List OperandForm) (es : Vec rust.Expression Global) → string_bytes f ≡ string_bytes name
    → walk_onto (find_operand node names) [] os ≡ Ok (map expression_of es.items)
    → find_operand node names (form.operand_call (string_bytes name) t (operands_from os)) ≡ Ok (expression_of (rust.Call f t es))
call-found node names f name t os es same h =
    ap (λ r. r >>= λ es. Ok (plan.call (function_of (string_bytes name)) t es)) (found-from node names os ∙ ap (λ r. r >>= λ es. Ok (expressions_from es)) h)
    ∙ ap (λ x. Ok x) (ap (λ n. plan.call (function_of n) t (expressions_from (map expression_of es.items))) (sym same) ∙ ap (plan.call (function_of (string_bytes f)) t) (sym (list-is es.items)) ∙ sym (call-is f t es))

-- a function of which an operand is refused
pub call-refused : (node : ℕ) (names : List Name) (f : Name) (t : ColType) (os : List OperandForm) (e : Refusal) → walk_onto (find_operand node names) [] os ≡ Err e → find_operand node names (form.operand_call f t (operands_from os)) ≡ Err e
call-refused node names f t os e h =
    ap (λ r. r >>= λ es. Ok (plan.call (function_of f) t es)) (found-from node names os ∙ ap (λ r. r >>= λ es. Ok (expressions_from es)) h)

-- the same, at a call that fails
pub call-fails : (node : ℕ) (names : List Name) (f : Name) (t : ColType) (os : List OperandForm) (fault : PlanFault) → Fails fault (walk_onto (find_operand node names) [] os) → Fails fault (find_operand node names (form.operand_call f t (operands_from os)))
call-fails node names f t os fault h = ⊎_elim (λ m. inl m) (λ k. inr (call-refused node names f t os (refusal_of fault) k)) h
