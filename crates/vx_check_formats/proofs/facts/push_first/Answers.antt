use Rattle.std.proofs.Common.{◌≡◌, ◌∙◌, ◌++◌, ℕ, ◌==◌, Bool, true, false, cond, List, [], map, OnOk, refl, sym, ap, subst, eq-eqb, eqb-true, append-nil}
use Rattle.serde_json.specs.Data.{Data}
use Rattle.serde_json.specs.View.{view}
use Rattle.vx_rows_values.specs.Values.{Name}
use Rattle.vx_rows_values.specs.ValueView.{val_of}
use Rattle.vx_plan_facts.specs.Equal.{Equality}
use Rattle.vx_plan_facts.specs.Fixed.{Values}
use Rattle.vx_plan_facts.specs.Facts.{each_once}
use Rattle.vx_check_formats.specs.Json.{fixed_json, fixed_if, is_first}
use Rattle.vx_check_formats.proofs.facts.push_first.Goals as goal

-- a column that is not the first of its class adds nothing
adds-nothing : (names : List Name) (e : Equality) (f : Values) (first c : ℕ) → (first == c) ≡ is_first e c → (first ≡ c → ⊥) → fixed_if names e f c ≡ []
adds-nothing names e f first c is ne = go (first == c) refl
  where
    go : (b : Bool) → (first == c) ≡ b → fixed_if names e f c ≡ []
    go true h = absurd (ne (eqb-true first c h))
    go false h = ap (λ x. cond x (map (fixed_json names c) (each_once (f c))) []) (sym is ∙ h)

adds-values : (names : List Name) (e : Equality) (f : Values) (first c : ℕ) → (first == c) ≡ is_first e c → first ≡ c → fixed_if names e f c ≡ map (fixed_json names c) (each_once (f c))
adds-values names e f first c is same = ap (λ x. cond x (map (fixed_json names c) (each_once (f c))) []) (sym is ∙ eq-eqb first c same)

pub returns-then-first_of-column : goal.returns-then-first_of-column
returns-then-first_of-column c w e f keeps =
    let none = adds-nothing c.args.names.now e f c.first_of.result c.args.column (c.first_of.ensures.least w e f keeps) c.if-first_of-column.true in
    sym (ap (λ ds. map view c.args.list.now.items ++ ds) none ∙ append-nil (map view c.args.list.now.items))

pub returns : goal.returns
returns c w e f keeps =
    let P : List Data → Type 0 = λ ds. OnOk c.push_fixed.result (map view c.push_fixed.new.list.items ≡ map view c.args.list.now.items ++ ds) in
    let given : map (fixed_json c.args.names.now c.args.column) (map (λ u. val_of u.now) c.as_slice.result.now) ≡ fixed_if c.args.names.now e f c.args.column
    = ap (map (fixed_json c.args.names.now c.args.column)) (ap (map (λ u. val_of u.now)) c.as_slice.ensures.value ∙ c.in_ok-values.ensures.values w e f keeps)
    ∙ sym (adds-values c.args.names.now e f c.first_of.result c.args.column (c.first_of.ensures.least w e f keeps) c.if-first_of-column.false) in
    subst P given c.push_fixed.ensures
