-- Plans under other functions without their exchanges, with names, and as the program holds them.
use Rattle.std.proofs.Common.{◌≡◌, ℕ, ◌+◌, Bool, true, false, cond, List, [], ◌∷◌, map, refl, sym, ap, ap₂, ◌∙◌, subst, string_bytes}
use Rattle.std.specs.Arc.{arc_value}
use Rattle.vx_rows_values.specs.declared.value.ColType.{ColType}
use Rattle.vx_catalog_relations.specs.Relation.{Relation}
use Rattle.vx_plan_nodes.specs.Plan.{Expression, input, value, call, Operands, no_operands, operand, Filter, comparing, computing, Entry, copy_of, made_by, Unary, select, project, distinct, sort, group, limit, plain, partial, final, Plan, scan, unary, binary, exchange}
use Rattle.vx_plan_nodes.specs.Types.{types_of}
use Rattle.vx_plan_nodes.specs.Phases.{is_final, unary_spoken, spoken}
use Rattle.vx_plan_nodes.specs.Erase.{no_claim, nodes_left, at_once, erase_from}
use Rattle.vx_plan_nodes.specs.Outline as outline
use Rattle.vx_plan_nodes.specs.Outline.{Columns, Outline, columns, plan_in, top_of, function_of, expression_of, operands_of, filter_of, entry_of, unary_of, renamed_of, binary_of, kind_of, outline_of, plan_of}
use Rattle.vx_plan_nodes.specs.Outputs.{IsOutputOf, IsOutputAt, HasOutputs}
use Rattle.vx_plan_nodes.specs.declared.typed.Expression as rust_expression
use Rattle.vx_plan_nodes.specs.declared.typed.Expression.{Row_of-Expression, end_of-Expression, more_of-Expression}
use Rattle.vx_plan_nodes.specs.declared.typed.Expression.TheVariants as expression
use Rattle.vx_plan_nodes.specs.declared.typed.Filter as rust_filter
use Rattle.vx_plan_nodes.specs.declared.typed.Filter.TheVariants as filter
use Rattle.vx_plan_nodes.specs.declared.typed.Entry as rust_entry
use Rattle.vx_plan_nodes.specs.declared.typed.Entry.TheVariants as entry
use Rattle.vx_plan_nodes.specs.declared.typed.Unary as rust_unary
use Rattle.vx_plan_nodes.specs.declared.typed.Unary.TheVariants as op
use Rattle.vx_plan_nodes.specs.Names.{TypedPlanView}
use Rattle.vx_plan_nodes.specs.TypedView.{names_in, resolved_of}
use Rattle.vx_plan_nodes.specs.declared.typed_plan.TypedPlan.{TypedPlan}
use Rattle.vx_plan_nodes.specs.declared.typed.TypedNode.{TypedNode}
use Rattle.vx_plan_nodes.specs.declared.typed.TypedNode.TheVariants as node
use Rattle.vx_plan_nodes.specs.Under.{Functions, given_for, expression_under, operands_under, filter_under, entry_under, unary_under, under, outline_under, typed_plan_under}
use Rattle.vx_plan_nodes.specs.UnderLaws.{FunctionsGoAlong, LastFunctionsStand}
use Rattle.vx_plan_nodes.proofs.UnderFacts.{map-same, final-under, types-under}

-- ---- without exchanges

left-under : (given : Functions) (p : Plan) → nodes_left (under given p) ≡ nodes_left p
left-under given (scan n c r m z) = refl
left-under given (unary n c op p) = ap₂ (λ b k. cond b k (1 + k)) (final-under given op) (left-under given p)
left-under given (binary n c op p q) = ap₂ (λ a b. 1 + a + b) (left-under given p) (left-under given q)
left-under given (exchange n c k m p) = left-under given p

once-under : (given : Functions) (op : Unary) → at_once (unary_under given op) ≡ unary_under given (at_once op)
once-under given (select fs) = refl
once-under given (project es) = refl
once-under given (distinct cols) = refl
once-under given (sort of_parts order) = refl
once-under given (group phase by aggregates) = refl
once-under given (limit n) = refl

erased-under : (given : Functions) (i : ℕ) (p : Plan) → erase_from i (under given p) ≡ under given (erase_from i p)
erased-under given i (scan n c r m z) = refl
erased-under given i (unary n c op p) =
    ap (λ b. cond b (erase_from i (under given p)) (unary i no_claim (at_once (unary_under given op)) (erase_from (i + 1) (under given p)))) (final-under given op)
    ∙ go (is_final op) (erased-under given i p) (erased-under given (i + 1) p)
  where
    go : (b : Bool) → erase_from i (under given p) ≡ under given (erase_from i p) → erase_from (i + 1) (under given p) ≡ under given (erase_from (i + 1) p)
        → cond b (erase_from i (under given p)) (unary i no_claim (at_once (unary_under given op)) (erase_from (i + 1) (under given p)))
        ≡ under given (cond b (erase_from i p) (unary i no_claim (at_once op) (erase_from (i + 1) p)))
    go true a b = a
    go false a b = ap₂ (unary i no_claim) (once-under given op) b
erased-under given i (binary n c op p q) =
    ap (λ k. binary i no_claim op (erase_from (i + 1) (under given p)) (erase_from (i + 1 + k) (under given q))) (left-under given p)
    ∙ ap₂ (binary i no_claim op) (erased-under given (i + 1) p) (erased-under given (i + 1 + nodes_left p) q)
erased-under given i (exchange n c k m p) = erased-under given i p

-- ---- what a claim speaks of

spoken-over : (given : Functions) (op : Unary) (p below whole : Plan) → unary_spoken (unary_under given op) (under given p) (under given below) (under given whole) ≡ under given (unary_spoken op p below whole)
spoken-over given (select fs) p below whole = refl
spoken-over given (project es) p below whole = refl
spoken-over given (distinct cols) p below whole = refl
spoken-over given (sort true order) p below whole = refl
spoken-over given (sort false order) p below whole = refl
spoken-over given (group plain by aggregates) p below whole = refl
spoken-over given (group partial by aggregates) p below whole = refl
spoken-over given (group final by aggregates) p below whole = refl
spoken-over given (limit n) p below whole = refl

spoken-under : (given : Functions) (p : Plan) → spoken (under given p) ≡ under given (spoken p)
spoken-under given (scan n c r m z) = refl
spoken-under given (unary n c op p) =
    ap (λ below. unary_spoken (unary_under given op) (under given p) below (under given (unary n c op p))) (spoken-under given p)
    ∙ spoken-over given op p (spoken p) (unary n c op p)
spoken-under given (binary n c op p q) = refl
spoken-under given (exchange n c k m p) = spoken-under given p

-- ---- with names

plan-under : (given : Functions) (o : Outline) → plan_in (outline_under given o) ≡ under given (plan_in o)
plan-under given (outline.scan h r m z p) = refl
plan-under given (outline.unary h op flags t) = ap (unary h.number h.claim (unary_under given op)) (plan-under given t)
plan-under given (outline.binary h op t u) = ap₂ (binary h.number h.claim op) (plan-under given t) (plan-under given u)
plan-under given (outline.exchange h k m t) = ap (exchange h.number h.claim k m) (plan-under given t)

output-under : (given : Functions) (catalog : ℕ → Relation) (o : Outline) → columns (outline_under given o) ≡ columns o → IsOutputAt catalog o → IsOutputAt catalog (outline_under given o)
output-under given catalog o same h =
    let types : types_of catalog (plan_in (outline_under given o)) ≡ types_of catalog (plan_in o) = ap (types_of catalog) (plan-under given o) ∙ types-under given catalog (plan_in o) in
    let P : Columns → Type 0 = λ cols. IsOutputOf (types_of catalog (plan_in (outline_under given o))) cols in
    let Q : List ColType → Type 0 = λ ts. IsOutputOf ts (columns o) in
    subst P (sym same) (subst Q (sym types) h)

outputs-under : (given : Functions) (catalog : ℕ → Relation) (o : Outline) → HasOutputs catalog o → HasOutputs catalog (outline_under given o)
outputs-under given catalog (outline.scan h r m z p) t = t
outputs-under given catalog (outline.unary h op flags t) x = (output-under given catalog (outline.unary h op flags t) refl x.0, outputs-under given catalog t x.1)
outputs-under given catalog (outline.binary h op t u) x =
    (output-under given catalog (outline.binary h op t u) refl x.0, outputs-under given catalog t x.1, outputs-under given catalog u x.2)
outputs-under given catalog (outline.exchange h k m t) x = (output-under given catalog (outline.exchange h k m t) refl x.0, outputs-under given catalog t x.1)

pub functions-go-along : FunctionsGoAlong
functions-go-along = record {
  without_exchanges = λ given p. erased-under given 0 p;
  spoken_of = spoken-under;
  with_names = plan-under;
  outputs = outputs-under;
}

-- ---- functions given twice

mutual
  expression-twice : (first given : Functions) (e : Expression) → expression_under given (expression_under first e) ≡ expression_under given e
  expression-twice first given (input c) = refl
  expression-twice first given (value v) = refl
  expression-twice first given (call f t es) = ap (call (given_for given f.name) t) (operands-twice first given es)

  operands-twice : (first given : Functions) (es : Operands) → operands_under given (operands_under first es) ≡ operands_under given es
  operands-twice first given no_operands = refl
  operands-twice first given (operand e es) = ap₂ operand (expression-twice first given e) (operands-twice first given es)

filter-twice : (first given : Functions) (f : Filter) → filter_under given (filter_under first f) ≡ filter_under given f
filter-twice first given (comparing c) = refl
filter-twice first given (computing e) = ap computing (expression-twice first given e)

entry-twice : (first given : Functions) (e : Entry) → entry_under given (entry_under first e) ≡ entry_under given e
entry-twice first given (copy_of c) = refl
entry-twice first given (made_by e) = ap made_by (expression-twice first given e)

unary-twice : (first given : Functions) (op : Unary) → unary_under given (unary_under first op) ≡ unary_under given op
unary-twice first given (select fs) = ap select (map-same (filter_under given) (filter_under first) (filter-twice first given) fs)
unary-twice first given (project es) = ap project (map-same (entry_under given) (entry_under first) (entry-twice first given) es)
unary-twice first given (distinct cols) = refl
unary-twice first given (sort of_parts order) = refl
unary-twice first given (group phase by aggregates) = refl
unary-twice first given (limit n) = refl

twice-under : (first given : Functions) (p : Plan) → under given (under first p) ≡ under given p
twice-under first given (scan n c r m z) = refl
twice-under first given (unary n c op p) = ap₂ (unary n c) (unary-twice first given op) (twice-under first given p)
twice-under first given (binary n c op p q) = ap₂ (binary n c op) (twice-under first given p) (twice-under first given q)
twice-under first given (exchange n c k m p) = ap (exchange n c k m) (twice-under first given p)

-- ---- the program's functions

mutual
  expression-own : (e : rust_expression.Expression) → expression_under function_of (expression_of e) ≡ expression_of e
  expression-own (expression.Input c) = refl
  expression-own (expression.Value v) = refl
  expression-own (expression.Call' name t shape es) = ap (call (function_of (string_bytes name)) t) (operands-own es)

  operands-own : {n : _} (es : Row_of-Expression n) → operands_under function_of (operands_of es) ≡ operands_of es
  operands-own end_of-Expression = refl
  operands-own (more_of-Expression e es) = ap₂ operand (expression-own e) (operands-own es)

filter-own : (f : rust_filter.Filter) → filter_under function_of (filter_of f) ≡ filter_of f
filter-own (filter.Compared c) = refl
filter-own (filter.Computed e) = ap computing (expression-own (arc_value e))

entry-own : (e : rust_entry.Entry) → entry_under function_of (entry_of e) ≡ entry_of e
entry-own (entry.Kept k) = refl
entry-own (entry.Made e) = ap made_by (expression-own (arc_value e))

own-map : {X Y : Type 0} (f : X → Y) (change : Y → Y) → ((x : X) → change (f x) ≡ f x) → (xs : List X) → map change (map f xs) ≡ map f xs
own-map f change same [] = refl
own-map f change same (x ∷ xs) = ap₂ (λ y ys. y ∷ ys) (same x) (own-map f change same xs)

unary-own : (o : rust_unary.Unary) → unary_under function_of (unary_of o) ≡ unary_of o
unary-own (op.Select filters) = ap select (own-map filter_of (filter_under function_of) filter-own filters.items)
unary-own (op.Project entries) = ap project (own-map entry_of (entry_under function_of) entry-own entries.items)
unary-own (op.Distinct kept) = refl
unary-own (op.Sort phase cols) = refl
unary-own (op.Group phase by aggregates) = refl
unary-own (op.Limit n) = refl

outline-own : (t : TypedNode) → outline_under function_of (outline_of t) ≡ outline_of t
outline-own (node.Scan h s) = refl
outline-own (node.Unary' h o p t) = ap₂ (λ u below. outline.unary (top_of h) u (renamed_of o) below) (unary-own o) (outline-own t)
outline-own (node.Binary' h o p t q u) = ap₂ (outline.binary (top_of h) (binary_of o)) (outline-own t) (outline-own u)
outline-own (node.Exchange' h x p t) = ap (outline.exchange (top_of h) (kind_of x.kind) x.merge.items) (outline-own t)

plan-own : (t : TypedNode) → under function_of (plan_of t) ≡ plan_of t
plan-own t = sym (plan-under function_of (outline_of t)) ∙ ap plan_in (outline-own t)

typed-plan-own : (p : TypedPlan) → typed_plan_under function_of (resolved_of p) ≡ resolved_of p
typed-plan-own p =
    let whole : Outline → TypedPlanView = λ o. record { names = names_in p; total = p.total; derives = p.derives; root = o } in
    ap whole (outline-own p.root)

pub last-functions-stand : LastFunctionsStand
last-functions-stand = record { last = twice-under; own = plan-own; own_outline = outline-own; own_plan = typed-plan-own }
