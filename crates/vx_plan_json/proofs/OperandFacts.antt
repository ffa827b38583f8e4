-- Operands of the program as their lists have them, and how they are read, level by level.
use Rattle.std.proofs.Common.{◌≡◌, ℕ, zero, suc, ◌-◌, ◌<◌, List, [], ◌∷◌, map, Some, None, option_map, refl, sym, ap, ◌∙◌, arith, Vec, Global, String, string_bytes}
use mathlib.Core.Former.{Count}
use Rattle.serde_json.specs.Data.{Data, object, item, Members, no_members}
use Rattle.serde_json.specs.Find.{as_str}
use Rattle.serde_json.specs.View.{view, items_of}
use Rattle.serde_json.specs.declared.value.Value.{Value}
use Rattle.vx_rows_values.specs.declared.value.ColType.{ColType}
use Rattle.vx_catalog_json.specs.Look.{name_in}
use Rattle.vx_catalog_json.proofs.EachFacts.{each_next, each_more, each_none, each_done}
use Rattle.vx_plan_json.specs.Look.{each_in}
use Rattle.vx_plan_json.specs.declared.plan.NamedOperand.{NamedOperand, Call, Call', Row_of-NamedOperand, end_of-NamedOperand, more_of-NamedOperand, items-the_row-NamedOperand, items_hidden-the_row-NamedOperand-0}
use Rattle.vx_plan_json.specs.Document.{OperandForm, operand_column, operand_call, more_operands, operands_from, operand_form, operand_forms}
use Rattle.vx_plan_json.specs.Form.{object_in, operand_in, operands_in}
use Rattle.vx_plan_json.specs.Written.{with_applied, with_typed, operand_json, operand_items, answer_json, with_operand}

row_is : (n : _) (row : Row_of-NamedOperand n) → operand_forms row ≡ operands_from (map operand_form (items-the_row-NamedOperand n row))
row_is n end_of-NamedOperand = refl
row_is n (more_of-NamedOperand o os) = ap (more_operands (operand_form o)) (row_is _ os)

abbrev row_of : NamedOperand → (n : Count) × Row_of-NamedOperand n
row_of (Call' _ _ _ row) = (_, row)
row_of _ = (_, end_of-NamedOperand)

-- a function's operands are those of its list
pub call_is : (name : String Global) (t : ColType) (operands : Vec NamedOperand Global) → operand_form (Call name t operands) ≡ operand_call (string_bytes name) t (operands_from (map operand_form operands.items))
call_is name t operands =
    let row = row_of (Call name t operands) in
    ap (operand_call (string_bytes name) t) (row_is row.0 row.1 ∙ ap (λ os. operands_from (map operand_form os)) (items_hidden-the_row-NamedOperand-0 operands))

-- the JSON of operands is that of each
items_from : (os : List NamedOperand) → operand_items (operands_from (map operand_form os)) ≡ items_of (map (λ o. operand_json (operand_form o)) os)
items_from [] = refl
items_from (o ∷ os) = ap (λ t. item (operand_json (operand_form o)) t) (items_from os)

-- where the JSON of a function's operands is this list, the function is written by the list
module _ (name : String Global) (t : ColType) (operands : Vec NamedOperand Global) (list : List Value) (same : map view list ≡ map (λ o. operand_json (operand_form o)) operands.items) where
  items_are : items_of (map view list) ≡ operand_items (operands_from (map operand_form operands.items))
  items_are = ap items_of same ∙ sym (items_from operands.items)

  pub call_json : object (with_typed (string_bytes name) t (items_of (map view list)) no_members) ≡ operand_json (operand_form (Call name t operands))
  call_json = ap (λ ds. object (with_typed (string_bytes name) t ds no_members)) items_are ∙ ap operand_json (sym (call_is name t operands))

  pub answered_json : object (with_applied (string_bytes name) (items_of (map view list)) no_members) ≡ answer_json (operand_form (Call name t operands))
  answered_json = ap (λ ds. object (with_applied (string_bytes name) ds no_members)) items_are ∙ ap answer_json (sym (call_is name t operands))

  pub call_members : (ms : Members) → with_typed (string_bytes name) t (items_of (map view list)) ms ≡ with_operand (operand_form (Call name t operands)) ms
  call_members ms = ap (λ ds. with_typed (string_bytes name) t ds ms) items_are ∙ ap (λ o. with_operand o ms) (sym (call_is name t operands))

-- ---- reading

pub operand-column : (levels : ℕ) (d : Data) (s : List ℕ) → as_str d ≡ Some s → operand_in levels d ≡ option_map operand_column (name_in d)
unfolding operand_in
operand-column zero d s e = refl
operand-column (suc zero) d s e = rw e refl
operand-column (suc (suc levels)) d s e = rw e refl

pub operand-none : (levels : ℕ) (d : Data) → levels ≡ 0 → as_str d ≡ None → operand_in levels d ≡ None
unfolding operand_in name_in
operand-none zero d z e = rw e refl
operand-none (suc levels) d z e = absurd (omega (arith, z))

pub operand-object : (levels : ℕ) (d : Data) → 0 < levels → as_str d ≡ None → operand_in levels d ≡ object_in (operands_in (levels - 1)) d
unfolding operand_in
operand-object zero d h e = absurd (omega arith)
operand-object (suc zero) d h e = rw e refl
operand-object (suc (suc levels)) d h e = let m : suc (suc levels) - 1 ≡ suc levels = omega arith in rw (m, e) refl

pub operands-none : (levels : ℕ) (d : Data) → levels ≡ 0 → operands_in levels d ≡ None
operands-none zero d z = refl
operands-none (suc levels) d z = absurd (omega (arith, z))

pub operands-each : (levels : ℕ) (d : Data) → 0 < levels → operands_in levels d ≡ each_in (operand_in (levels - 1)) d
operands-each zero d h = absurd (omega arith)
operands-each (suc levels) d h = let m : suc levels - 1 ≡ levels = omega arith in rw m refl

-- the steps of a loop that reads each item of a list
pub ruleset list_steps = (each_next, each_more, each_none, each_done)

pub ruleset operand_steps = (operand-column, operand-none, operand-object)

pub ruleset operands_steps = (operands-none, operands-each, each_next, each_more, each_none, each_done)
