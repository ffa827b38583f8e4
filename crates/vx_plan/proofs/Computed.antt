-- What is computed of rows: found, it says the names that were asked for and is typed; and it is found again by its names.
use Rattle.std.proofs.Common.{◌≡◌, ℕ, suc, nat_lt, List, [], ◌∷◌, Bool, true, false, ◌&&◌, ◌||◌, Option, Some, None, is_some, Result, Ok, Err, map, length, bytes_eq, refl, sym, ap, ◌∙◌, subst}
use Rattle.std.specs.List.{list_all}
use Rattle.vx_rows_values.specs.declared.value.ColType.{ColType}
use Rattle.vx_rows_values.specs.declared.value.ColType.TheVariants.{Int}
use Rattle.vx_rows_values.specs.Types.{is_held}
use Rattle.vx_rows_values.specs.Lists.{is_some_list}
use Rattle.vx_rows_values.specs.Values.{Name}
use Rattle.vx_rows_values.proofs.Booleans.{and-left, and-right, and-both}
use Rattle.vx_catalog_relations.specs.Naming.{name_at}
use Rattle.vx_plan_nodes.specs.Plan.{Condition, Expression, Operands, Filter}
use Rattle.vx_plan_nodes.specs.Plan as plan
use Rattle.vx_plan_nodes.specs.Types.{expression_type}
use Rattle.vx_plan_nodes.specs.Typed.{type_eq, is_expression, are_operands, is_condition, is_filter}
use Rattle.vx_plan_nodes.specs.Outline.{function_of, Columns}
use Rattle.vx_plan_json.specs.Document.{OperandForm, OperandForms, FilterForm}
use Rattle.vx_plan_json.specs.Document as form
use Rattle.vx_plan_json.specs.Fault.{Refusal}
use Rattle.vx_plan_json.specs.Formed.{is_operand_form, are_operand_forms, is_answer, is_filter_form}
use Rattle.vx_plan_json.proofs.Holds.{Holds}
use Rattle.vx_plan.specs.Lookup.{walk_onto, find_column}
use Rattle.vx_plan.specs.Resolve.{find_condition, find_operand, find_operands, find_filter, filter_fits}
use Rattle.vx_plan.specs.ByName.{operand_by_name, operands_by_name, filter_by_name}
use Rattle.vx_plan.specs.Exact.{AreFunctions, AreAllFunctions, FilterFunctions, FiltersFunctions}
use Rattle.vx_plan.proofs.Apart.{apart}
use Rattle.vx_plan.proofs.Each.{ok_then, ok_last, Each, each-walked}
use Rattle.vx_plan.proofs.Looked.{column-said, column-again}

-- ---- of answers

pub holds-from : {A : Type 0} (P : A → Type 0) (r : Result A Refusal) → ((x : A) → r ≡ Ok x → P x) → Holds P r
holds-from P (Ok x) h = h x refl
holds-from P (Err e) h = tt

-- what a walk gives stands beside what was asked for
pub each-holds : {A B : Type 0} (f : A → Result B Refusal) (xs : List A) → Holds (λ ys. Each f xs ys) (walk_onto f [] xs)
each-holds f xs = holds-from (λ ys. Each f xs ys) (walk_onto f [] xs) (λ ys h. each-walked f xs ys h)

pub each-length : {A B : Type 0} (f : A → Result B Refusal) (xs : List A) (ys : List B) → Each f xs ys → length ys ≡ length xs
each-length f [] [] h = refl
each-length f [] (y ∷ ys) h = absurd h
each-length f (x ∷ xs) [] h = absurd h
each-length f (x ∷ xs) (y ∷ ys) h = ap (λ n. suc n) (each-length f xs ys h.1)

-- ---- operands that were found say what was asked for

pub record IsOperandSaid (names : List Name) (o : OperandForm) (e : Expression) : Type 0 where
  pub says : operand_by_name names e ≡ o
  pub own : AreFunctions e

record AreOperandsSaid (names : List Name) (os : OperandForms) (es : Operands) : Type 0 where
  says : operands_by_name names es ≡ os
  own : AreAllFunctions es

mutual
  pub operand-said : (node : ℕ) (names : List Name) (o : OperandForm) (e : Expression) → find_operand node names o ≡ Ok e → IsOperandSaid names o e
  operand-said node names (form.operand_column name) e h =
      let t = ok_last (λ (c : ℕ). plan.input c) (find_column node names name) e h in
      let P : Expression → Type 0 = λ e. IsOperandSaid names (form.operand_column name) e in
      subst P t.2 (record { says = ap (λ n. form.operand_column n) (column-said node names name t.0 t.1).named; own = tt })
  operand-said node names (form.operand_value v) e h =
      let same : plan.value v ≡ e = cc in
      let P : Expression → Type 0 = λ e. IsOperandSaid names (form.operand_value v) e in
      subst P same (record { says = refl; own = tt })
  operand-said node names (form.operand_call f t os) e h =
      let r = ok_last (λ (es : Operands). plan.call (function_of f) t es) (find_operands node names os) e h in
      let below = operands-said node names os r.0 r.1 in
      let P : Expression → Type 0 = λ e. IsOperandSaid names (form.operand_call f t os) e in
      subst P r.2 (record { says = ap (λ l. form.operand_call f t l) below.says; own = (refl, below.own) })

  operands-said : (node : ℕ) (names : List Name) (os : OperandForms) (es : Operands) → find_operands node names os ≡ Ok es → AreOperandsSaid names os es
  operands-said node names form.no_operands es h =
      let same : plan.no_operands ≡ es = cc in
      let P : Operands → Type 0 = λ es. AreOperandsSaid names form.no_operands es in
      subst P same (record { says = refl; own = tt })
  operands-said node names (form.more_operands o os) es h =
      let a = ok_then _ (find_operand node names o) es h in
      let b = ok_last (λ (rest : Operands). plan.operand a.0 rest) (find_operands node names os) es a.2 in
      let one = operand-said node names o a.0 a.1 in
      let rest = operands-said node names os b.0 b.1 in
      let P : Operands → Type 0 = λ es. AreOperandsSaid names (form.more_operands o os) es in
      subst P b.2 (record { says = λ i. form.more_operands (one.says i) (rest.says i); own = (one.own, rest.own) })

-- ---- and are typed

below-types : (cols : Columns) (name : Name) (c : ℕ) → length cols.names ≡ length cols.types → nat_lt c (length cols.names) ≡ true → nat_lt c (length cols.types) ≡ true
below-types cols name c e h = let P : ℕ → Type 0 = λ n. nat_lt c n ≡ true in subst P e h

mutual
  pub operand-typed : (node : ℕ) (cols : Columns) (o : OperandForm) (e : Expression) → length cols.names ≡ length cols.types → is_operand_form o ≡ true → find_operand node cols.names o ≡ Ok e → is_expression cols.types e ≡ true
  operand-typed node cols (form.operand_column name) e wide form h =
      let t = ok_last (λ (c : ℕ). plan.input c) (find_column node cols.names name) e h in
      let P : Expression → Type 0 = λ e. is_expression cols.types e ≡ true in
      subst P t.2 (below-types cols name t.0 wide (column-said node cols.names name t.0 t.1).below)
  operand-typed node cols (form.operand_value v) e wide form h =
      let same : plan.value v ≡ e = cc in
      let P : Expression → Type 0 = λ e. is_expression cols.types e ≡ true in
      subst P same form
  operand-typed node cols (form.operand_call f t os) e wide form h =
      let r = ok_last (λ (es : Operands). plan.call (function_of f) t es) (find_operands node cols.names os) e h in
      let P : Expression → Type 0 = λ e. is_expression cols.types e ≡ true in
      subst P r.2 (operands-typed node cols os r.0 wide (and-right (is_some_list f) (are_operand_forms os) form) r.1)

  operands-typed : (node : ℕ) (cols : Columns) (os : OperandForms) (es : Operands) → length cols.names ≡ length cols.types → are_operand_forms os ≡ true → find_operands node cols.names os ≡ Ok es → are_operands cols.types es ≡ true
  operands-typed node cols form.no_operands es wide form h =
      let same : plan.no_operands ≡ es = cc in
      let P : Operands → Type 0 = λ es. are_operands cols.types es ≡ true in
      subst P same refl
  operands-typed node cols (form.more_operands o os) es wide form h =
      let a = ok_then _ (find_operand node cols.names o) es h in
      let b = ok_last (λ (rest : Operands). plan.operand a.0 rest) (find_operands node cols.names os) es a.2 in
      let P : Operands → Type 0 = λ es. are_operands cols.types es ≡ true in
      subst P b.2 (and-both (is_expression cols.types a.0) (are_operands cols.types b.0) (operand-typed node cols o a.0 wide (and-left (is_operand_form o) (are_operand_forms os) form) a.1)
      (operands-typed node cols os b.0 wide (and-right (is_operand_form o) (are_operand_forms os) form) b.1))

-- ---- and are found again

mutual
  pub operand-again : (node : ℕ) (cols : Columns) (e : Expression) → apart bytes_eq cols.names ≡ true → length cols.names ≡ length cols.types → is_expression cols.types e ≡ true → AreFunctions e
      → find_operand node cols.names (operand_by_name cols.names e) ≡ Ok e
  operand-again node cols (plan.input c) a wide h own = let P : ℕ → Type 0 = λ n. nat_lt c n ≡ true in rw (column-again node cols.names c a (subst P (sym wide) h)) refl
  operand-again node cols (plan.value v) a wide h own = refl
  operand-again node cols (plan.call f t es) a wide h own = rw (operands-again node cols es a wide h own.1) (ap (λ g. Ok (plan.call g t es)) (sym own.0))

  operands-again : (node : ℕ) (cols : Columns) (es : Operands) → apart bytes_eq cols.names ≡ true → length cols.names ≡ length cols.types → are_operands cols.types es ≡ true → AreAllFunctions es
      → find_operands node cols.names (operands_by_name cols.names es) ≡ Ok es
  operands-again node cols plan.no_operands a wide h own = refl
  operands-again node cols (plan.operand e es) a wide h own =
      rw (operand-again node cols e a wide (and-left (is_expression cols.types e) (are_operands cols.types es) h) own.0, operands-again node cols es a wide (and-right (is_expression cols.types e) (are_operands cols.types es) h) own.1) refl

-- ---- conditions of selects

pub filter-typed : (node : ℕ) (cols : Columns) (f : FilterForm) (k : Filter) → length cols.names ≡ length cols.types → is_filter_form f ≡ true → find_filter node cols.names f ≡ Ok k → filter_fits cols.types k ≡ true → is_filter cols.types k ≡ true
unfolding find_filter
filter-typed node cols (form.compared c) k wide form h fits =
    let t = ok_last (λ (x : Condition). plan.comparing x) (find_condition node cols.names c) k h in
    let P : Filter → Type 0 = λ k. filter_fits cols.types k ≡ true → is_filter cols.types k ≡ true in
    let same : P (plan.comparing t.0) = λ g. g in
    (subst P t.2 same) fits
filter-typed node cols (form.computed o) k wide form h fits =
    let t = ok_last (λ (e : Expression). plan.computing e) (find_operand node cols.names o) k h in
    let P : Filter → Type 0 = λ k. filter_fits cols.types k ≡ true → is_filter cols.types k ≡ true in
    let typed = operand-typed node cols o t.0 wide (and-right (is_answer o) (is_operand_form o) form) t.1 in
    let one : P (plan.computing t.0) = λ g. and-both (is_expression cols.types t.0) (type_eq (expression_type cols.types t.0) Int) typed g in
    (subst P t.2 one) fits

pub filters-typed : (node : ℕ) (cols : Columns) (fs : List FilterForm) (ks : List Filter) → length cols.names ≡ length cols.types → list_all is_filter_form fs ≡ true → Each (find_filter node cols.names) fs ks
    → list_all (filter_fits cols.types) ks ≡ true → list_all (is_filter cols.types) ks ≡ true
filters-typed node cols [] [] wide form h fits = refl
filters-typed node cols [] (k ∷ ks) wide form h fits = absurd h
filters-typed node cols (f ∷ fs) [] wide form h fits = absurd h
filters-typed node cols (f ∷ fs) (k ∷ ks) wide form h fits =
    and-both (is_filter cols.types k) (list_all (is_filter cols.types) ks)
    (filter-typed node cols f k wide (and-left (is_filter_form f) (list_all is_filter_form fs) form) h.0 (and-left (filter_fits cols.types k) (list_all (filter_fits cols.types) ks) fits))
    (filters-typed node cols fs ks wide (and-right (is_filter_form f) (list_all is_filter_form fs) form) h.1 (and-right (filter_fits cols.types k) (list_all (filter_fits cols.types) ks) fits))

-- a typed condition fits
filter-fits : (types : List ColType) (k : Filter) → is_filter types k ≡ true → filter_fits types k ≡ true
filter-fits types (plan.comparing c) h = h
filter-fits types (plan.computing e) h = and-right (is_expression types e) (type_eq (expression_type types e) Int) h

pub filters-fit : (types : List ColType) (ks : List Filter) → list_all (is_filter types) ks ≡ true → list_all (filter_fits types) ks ≡ true
filters-fit types [] h = refl
filters-fit types (k ∷ ks) h =
    and-both (filter_fits types k) (list_all (filter_fits types) ks) (filter-fits types k (and-left (is_filter types k) (list_all (is_filter types) ks) h)) (filters-fit types ks (and-right (is_filter types k) (list_all (is_filter types) ks) h))
