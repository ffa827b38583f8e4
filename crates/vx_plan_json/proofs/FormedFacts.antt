-- What is read has the form.
use Rattle.std.proofs.Common.{◌≡◌, ℕ, zero, suc, ◌≤◌, List, [], ◌∷◌, Bool, true, false, cond, ◌&&◌, Option, Some, None, option_map, option_and_then, codes, bytes_eq, refl, ap, nat_le, arith}
use Rattle.std.proofs.lemmas.Bool.Decides.{nat_tests}
use Rattle.std.proofs.Math.Nat.{max-le}
use Rattle.std.specs.List.{list_all}
use Rattle.serde_json.specs.Data.{Data}
use Rattle.serde_json.specs.Find.{get, as_str, as_number, as_i64}
use Rattle.vx_rows_values.specs.Values.{Val, num, text, Name}
use Rattle.vx_rows_values.specs.Types.{is_held}
use Rattle.vx_catalog_json.specs.Look.{as_list, has_only, some_entry, name_in, each_onto, OrderText, flag_in, directed_in, order_entry_by, order_entry_in}
use Rattle.vx_plan_json.specs.Look.{name_at, text_at, value_or, if_held, value_in, each_in, some_in, or_default}
use Rattle.vx_rows_values.specs.Lists.{is_some_list}
use Rattle.vx_rows_values.specs.declared.value.ColType.TheVariants.{Int}
use Rattle.vx_plan_json.specs.Document.{one, any, all, hash_part, range_part, column, constant, OperandForm, operand_column, operand_value, operand_call, operands_from, computed, compared, kept, made, EntryForm, least, greatest, sum, count_rows}
use Rattle.vx_plan_json.specs.Form.{names_in, some_names_in, order_in, some_order_in, part_named, hash_part_in, range_part_in, part_by, part_in, keys_in, claim_in, claimed, test_named, side_in, condition_in, renamed_in, output_by, output_in, type_named, constant_in, call_in, object_in, operand_by, operand_in, operands_in, answer_in, filter_in, named_entry, projected_in, function_named, function_at, aggregate_in, as_pair, pair_in}
use Rattle.vx_plan_json.specs.Formed.{are_names, are_some_names, is_order_entry, is_order, is_some_order, is_part_form, is_claim_form, is_side_form, is_condition_form, is_output_form, is_operand_form, are_operand_forms, is_made, is_filter_form, is_entry_form, operand_levels, operands_levels, is_filter_low, is_entry_low, is_function_form, is_aggregate_form, is_pair_form}
use Rattle.vx_plan_json.proofs.Holds.{and-left, and-right, and-both, Within, within_then, within_any, within_map, within_weaker, within_both, within_if, within_each, within_some}

entry_some : {X : Type 0} (xs : List X) → Within is_some_list (some_entry xs)
entry_some [] = tt
entry_some (x ∷ xs) = refl

pub name_some : (d : Data) → Within is_some_list (name_in d)
unfolding name_in
name_some d = within_any is_some_list some_entry (as_str d) entry_some

pub name_at-some : (key : List ℕ) (d : Data) → Within is_some_list (name_at key d)
unfolding name_at
name_at-some key d = within_any is_some_list name_in (get key d) name_some

pub default_within : {A : Type 0} (p : A → Bool) (x : A) (f : Data → Option A) → p x ≡ true → ((d : Data) → Within p (f d)) → (o : Option Data) → Within p (or_default x f o)
default_within p x f h k None = h
default_within p x f h k (Some d) = k d

pub each_within : {A : Type 0} (p : A → Bool) (f : Data → Option A) → ((d : Data) → Within p (f d)) → (d : Data) → Within (list_all p) (each_in f d)
each_within p f k d = within_any (list_all p) (each_onto f []) (as_list d) (within_each p f k)

pub some_within : {A : Type 0} (p : A → Bool) (f : Data → Option A) → ((d : Data) → Within p (f d)) → (d : Data) → Within (λ xs. is_some_list xs && list_all p xs) (some_in f d)
some_within p f k d = go (as_list d)
  where
    go : (o : Option (List Data)) → Within (λ xs. is_some_list xs && list_all p xs) (option_and_then (each_onto f []) (option_and_then some_entry o))
    go None = tt
    go (Some ds) = within_some p f k ds

pub names_within : (d : Data) → Within are_names (names_in d)
unfolding names_in
names_within d = each_within is_some_list name_in name_some d

pub some_names_within : (d : Data) → Within are_some_names (some_names_in d)
unfolding some_names_in
some_names_within d = some_within is_some_list name_in name_some d

directed-within : (d : Data) → Within is_order_entry (directed_in d)
unfolding directed_in
directed-within d =
    within_if is_order_entry (has_only (codes "column" ∷ codes "desc" ∷ []) d) _ None
    (within_then is_some_list is_order_entry (λ n. option_map (λ f. record { name = n; falling = f }) (flag_in (codes "desc") d)) (option_and_then name_in (get (codes "column") d))
    (within_any is_some_list name_in (get (codes "column") d) name_some)
    (λ n h. within_map (λ (b : Bool). true) is_order_entry (λ f. record { name = n; falling = f }) (flag_in (codes "desc") d) (any_flag (flag_in (codes "desc") d)) (λ f k. h))) tt
  where
    any_flag : (o : Option Bool) → Within (λ (b : Bool). true) o
    any_flag None = tt
    any_flag (Some b) = refl

entry_by-within : (o : Option (List ℕ)) (d : Data) → Within is_order_entry (order_entry_by o d)
entry_by-within None d = directed-within d
entry_by-within (Some s) d = within_map is_some_list is_order_entry (λ n. record { name = n; falling = false }) (some_entry s) (entry_some s) (λ n h. h)

entry-within : (d : Data) → Within is_order_entry (order_entry_in d)
unfolding order_entry_in
entry-within d = entry_by-within (as_str d) d

pub order_within : (d : Data) → Within is_order (order_in d)
unfolding order_in
order_within d = each_within is_order_entry order_entry_in entry-within d

pub some_order_within : (d : Data) → Within is_some_order (some_order_in d)
unfolding some_order_in
some_order_within d = some_within is_order_entry order_entry_in entry-within d

part_named-within : (s : List ℕ) → Within is_part_form (part_named s)
part_named-within s = within_if is_part_form (bytes_eq s (codes "one")) (Some one) _ refl
    (within_if is_part_form (bytes_eq s (codes "any")) (Some any) _ refl (within_if is_part_form (bytes_eq s (codes "all")) (Some all) None refl tt))

hash_part-within : (d : Data) → Within is_part_form (hash_part_in d)
unfolding hash_part_in
hash_part-within d =
    within_then is_some_list is_part_form (λ route. option_and_then (λ cols. Some (hash_part route cols)) (option_and_then some_names_in (get (codes "columns") d))) (name_at (codes "hash") d) (name_at-some (codes "hash") d)
    (λ route h. within_then are_some_names is_part_form (λ cols. Some (hash_part route cols)) (option_and_then some_names_in (get (codes "columns") d)) (within_any are_some_names some_names_in (get (codes "columns") d) some_names_within)
    (λ cols k. and-both (is_some_list route) (are_some_names cols) h k))

range_part-within : (d : Data) → Within is_part_form (range_part_in d)
unfolding range_part_in
range_part-within d =
    within_then is_some_list is_part_form (λ name. option_and_then (λ col. Some (range_part name col)) (name_at (codes "column") d)) (name_at (codes "range") d) (name_at-some (codes "range") d)
    (λ name h. within_then is_some_list is_part_form (λ col. Some (range_part name col)) (name_at (codes "column") d) (name_at-some (codes "column") d)
    (λ col k. and-both (is_some_list name) (is_some_list col) h k))

part_by-within : (o : Option (List ℕ)) (d : Data) → Within is_part_form (part_by o d)
part_by-within None d =
    within_if is_part_form (has_only (codes "hash" ∷ codes "columns" ∷ []) d) (hash_part_in d) _ (hash_part-within d)
    (within_if is_part_form (has_only (codes "range" ∷ codes "column" ∷ []) d) (range_part_in d) None (range_part-within d) tt)
part_by-within (Some s) d = part_named-within s

part-within : (d : Data) → Within is_part_form (part_in d)
unfolding part_in
part-within d = part_by-within (as_str d) d

keys-within : (d : Data) → Within (list_all are_names) (keys_in d)
unfolding keys_in
keys-within d = each_within are_names names_in names_within d

claim_in-within : (d : Data) → Within is_claim_form (claim_in d)
unfolding claim_in
claim_in-within d =
    within_if is_claim_form (has_only (codes "part" ∷ codes "order" ∷ codes "keys" ∷ []) d) _ None
    (within_then is_part_form is_claim_form
    (λ p. option_and_then (λ o. option_and_then (λ ks. Some (record { part = p; order = o; keys = ks })) (or_default [] keys_in (get (codes "keys") d))) (or_default [] order_in (get (codes "order") d)))
    (or_default any part_in (get (codes "part") d)) (default_within is_part_form any part_in refl part-within (get (codes "part") d))
    (λ p h. within_then is_order is_claim_form
    (λ o. option_and_then (λ ks. Some (record { part = p; order = o; keys = ks })) (or_default [] keys_in (get (codes "keys") d)))
    (or_default [] order_in (get (codes "order") d)) (default_within is_order [] order_in refl order_within (get (codes "order") d))
    (λ o k. within_then (list_all are_names) is_claim_form (λ ks. Some (record { part = p; order = o; keys = ks })) (or_default [] keys_in (get (codes "keys") d))
    (default_within (list_all are_names) [] keys_in refl keys-within (get (codes "keys") d))
    (λ ks m. and-both (is_part_form p) (is_order o && list_all are_names ks) h (and-both (is_order o) (list_all are_names ks) k m))))) tt

pub claimed-within : (d : Data) → Within is_claim_form (claimed d)
unfolding claimed
claimed-within d = default_within is_claim_form (record { part = any; order = []; keys = [] }) claim_in refl claim_in-within (get (codes "claim") d)

if_held-within : (v : Val) → Within is_held (if_held v)
if_held-within v = go (is_held v) refl
  where
    go : (b : Bool) → is_held v ≡ b → Within is_held (cond b (Some v) None)
    go true h = h
    go false h = tt

pub value_held : (d : Data) → Within is_held (value_in d)
unfolding value_in
value_held d = within_any is_held if_held (value_or (option_map num (option_and_then as_i64 (as_number d))) (option_map text (as_str d))) if_held-within

side-within : (d : Data) → Within is_side_form (side_in d)
unfolding side_in
side-within d =
    within_if is_side_form (has_only (codes "column" ∷ codes "op" ∷ codes "value" ∷ []) d) _ _
    (within_map is_held is_side_form constant (option_and_then value_in (get (codes "value") d)) (within_any is_held value_in (get (codes "value") d) value_held) (λ v h. h))
    (within_if is_side_form (has_only (codes "column" ∷ codes "op" ∷ codes "column2" ∷ []) d) _ None
    (within_map is_some_list is_side_form column (name_at (codes "column2") d) (name_at-some (codes "column2") d) (λ n h. h)) tt)

pub condition-within : (d : Data) → Within is_condition_form (condition_in d)
unfolding condition_in
condition-within d =
    within_then is_some_list is_condition_form
    (λ l. option_and_then (λ t. option_and_then (λ r. Some (record { left = l; test = t; right = r })) (side_in d)) (option_and_then test_named (text_at (codes "op") d)))
    (name_at (codes "column") d) (name_at-some (codes "column") d)
    (λ l h. within_any is_condition_form (λ t. option_and_then (λ r. Some (record { left = l; test = t; right = r })) (side_in d)) (option_and_then test_named (text_at (codes "op") d))
    (λ t. within_then is_side_form is_condition_form (λ r. Some (record { left = l; test = t; right = r })) (side_in d) (side-within d)
    (λ r k. and-both (is_some_list l) (is_side_form r) h k)))

renamed-within : (d : Data) → Within is_output_form (renamed_in d)
unfolding renamed_in
renamed-within d =
    within_if is_output_form (has_only (codes "column" ∷ codes "as" ∷ []) d) _ None
    (within_then is_some_list is_output_form (λ c. option_and_then (λ n. Some (record { column = c; renamed = Some n })) (name_at (codes "as") d)) (name_at (codes "column") d) (name_at-some (codes "column") d)
    (λ c h. within_then is_some_list is_output_form (λ n. Some (record { column = c; renamed = Some n })) (name_at (codes "as") d) (name_at-some (codes "as") d)
    (λ n k. and-both (is_some_list c) (is_some_list n) h k))) tt

output_by-within : (o : Option (List ℕ)) (d : Data) → Within is_output_form (output_by o d)
output_by-within None d = renamed-within d
output_by-within (Some s) d =
    within_map is_some_list is_output_form (λ n. record { column = n; renamed = None }) (some_entry s) (entry_some s) (λ n h. and-both (is_some_list n) true h refl)

pub output-within : (d : Data) → Within is_output_form (output_in d)
unfolding output_in
output-within d = output_by-within (as_str d) d

-- ---- functions of columns and values

forms-from : (os : List OperandForm) → list_all is_operand_form os ≡ true → are_operand_forms (operands_from os) ≡ true
forms-from [] h = refl
forms-from (o ∷ os) h =
    and-both (is_operand_form o) (are_operand_forms (operands_from os)) (and-left (is_operand_form o) (list_all is_operand_form os) h) (forms-from os (and-right (is_operand_form o) (list_all is_operand_form os) h))

-- what is computed has the form, and is no column as it is
abbrev is_object : OperandForm → Bool
is_object o = is_made o && is_operand_form o

constant-within : (d : Data) → Within is_object (constant_in d)
unfolding constant_in
constant-within d = within_map is_held is_object operand_value (option_and_then value_in (get (codes "value") d)) (within_any is_held value_in (get (codes "value") d) value_held) (λ v h. h)

call-within : (f : Data → Option (List OperandForm)) → ((e : Data) → Within (list_all is_operand_form) (f e)) → (d : Data) → Within is_object (call_in f d)
unfolding call_in
call-within f k d =
    within_then is_some_list is_object
    (λ n. option_and_then (λ os. option_and_then (λ t. Some (operand_call n t (operands_from os))) (option_and_then type_named (text_at (codes "type") d))) (option_and_then f (get (codes "of") d)))
    (name_at (codes "fn") d) (name_at-some (codes "fn") d)
    (λ n h. within_then (list_all is_operand_form) is_object (λ os. option_and_then (λ t. Some (operand_call n t (operands_from os))) (option_and_then type_named (text_at (codes "type") d))) (option_and_then f (get (codes "of") d))
    (within_any (list_all is_operand_form) f (get (codes "of") d) k)
    (λ os w. within_any is_object (λ t. Some (operand_call n t (operands_from os))) (option_and_then type_named (text_at (codes "type") d))
    (λ t. and-both (is_some_list n) (are_operand_forms (operands_from os)) h (forms-from os w))))

operand_by-within : (f : Data → Option (List OperandForm)) → ((e : Data) → Within (list_all is_operand_form) (f e)) → (o : Option (List ℕ)) (d : Data) → Within is_operand_form (operand_by f o d)
operand_by-within f k None d =
    within_weaker is_object is_operand_form (λ o h. and-right (is_made o) (is_operand_form o) h) (object_in f d)
    (within_if is_object (has_only (codes "value" ∷ []) d) (constant_in d) _ (constant-within d)
    (within_if is_object (has_only (codes "fn" ∷ codes "of" ∷ codes "type" ∷ []) d) (call_in f d) None (call-within f k d) tt))
operand_by-within f k (Some s) d = within_map is_some_list is_operand_form operand_column (name_in d) (name_some d) (λ n h. h)

operand-within : (levels : ℕ) (d : Data) → Within is_operand_form (operand_in levels d)
unfolding operand_in
operand-within zero d = within_map is_some_list is_operand_form operand_column (name_in d) (name_some d) (λ n h. h)
operand-within (suc zero) d = operand_by-within (λ e. None) (λ e. tt) (as_str d) d
operand-within (suc (suc levels)) d = operand_by-within (each_in (operand_in levels)) (each_within is_operand_form (operand_in levels) (operand-within levels)) (as_str d) d

operands-within : (levels : ℕ) (d : Data) → Within (list_all is_operand_form) (operands_in levels d)
operands-within zero d = tt
operands-within (suc levels) d = each_within is_operand_form (operand_in levels) (operand-within levels) d

answer-within : (levels : ℕ) (d : Data) → Within is_filter_form (answer_in levels d)
unfolding answer_in
answer-within levels d =
    within_then is_some_list is_filter_form (λ n. option_and_then (λ os. Some (computed (operand_call n Int (operands_from os)))) (option_and_then (operands_in levels) (get (codes "of") d)))
    (name_at (codes "fn") d) (name_at-some (codes "fn") d)
    (λ n h. within_then (list_all is_operand_form) is_filter_form (λ os. Some (computed (operand_call n Int (operands_from os)))) (option_and_then (operands_in levels) (get (codes "of") d))
    (within_any (list_all is_operand_form) (operands_in levels) (get (codes "of") d) (operands-within levels))
    (λ os w. and-both (is_some_list n) (are_operand_forms (operands_from os)) h (forms-from os w)))

filter-form : (levels : ℕ) (d : Data) → Within is_filter_form (filter_in levels d)
unfolding filter_in
filter-form levels d =
    within_if is_filter_form (has_only (codes "fn" ∷ codes "of" ∷ []) d) (answer_in levels d) _ (answer-within levels d)
    (within_map is_condition_form is_filter_form compared (condition_in d) (condition-within d) (λ c h. h))

named-within : (form : Option OperandForm) (d : Data) → Within is_object form → Within is_entry_form (named_entry form d)
named-within form d w =
    within_then is_object is_entry_form (λ o. option_and_then (λ n. Some (made o n)) (name_at (codes "as") d)) form w
    (λ o h. within_then is_some_list is_entry_form (λ n. Some (made o n)) (name_at (codes "as") d) (name_at-some (codes "as") d)
    (λ n k. and-both (is_made o) (is_operand_form o && is_some_list n) (and-left (is_made o) (is_operand_form o) h) (and-both (is_operand_form o) (is_some_list n) (and-right (is_made o) (is_operand_form o) h) k)))

entry-form : (levels : ℕ) (d : Data) → Within is_entry_form (projected_in levels d)
unfolding projected_in
entry-form levels d =
    within_if is_entry_form (has_only (codes "value" ∷ codes "as" ∷ []) d) (named_entry (constant_in d) d) _ (named-within (constant_in d) d (constant-within d))
    (within_if is_entry_form (has_only (codes "fn" ∷ codes "of" ∷ codes "type" ∷ codes "as" ∷ []) d) (named_entry (call_in (operands_in levels) d) d) _
    (named-within (call_in (operands_in levels) d) d (call-within (operands_in levels) (operands-within levels) d))
    (within_map is_output_form is_entry_form kept (output_in d) (output-within d) (λ o h. h)))

-- ---- levels of JSON

test-le : (m n : ℕ) → nat_le m n ≡ true → m ≤ n
test-le m n h = grind (arith, nat_tests, h)

le-test : (m n : ℕ) → m ≤ n → nat_le m n ≡ true
le-test m n h = grind (arith, nat_tests, h)

abbrev is_low : ℕ → OperandForm → Bool
is_low levels o = nat_le (operand_levels o) levels

-- operands in a list of so many levels
abbrev are_low : ℕ → List OperandForm → Bool
are_low levels os = nat_le (suc (operands_levels (operands_from os))) levels

levels-from : (levels : ℕ) (os : List OperandForm) → list_all (is_low levels) os ≡ true → operands_levels (operands_from os) ≤ levels
levels-from levels [] h = omega arith
levels-from levels (o ∷ os) h = max-le (test-le (operand_levels o) levels (and-left (is_low levels o) (list_all (is_low levels) os) h)) (levels-from levels os (and-right (is_low levels o) (list_all (is_low levels) os) h))

each-low : (levels : ℕ) (os : List OperandForm) → list_all (is_low levels) os ≡ true → are_low (suc levels) os ≡ true
each-low levels os h = let l = levels-from levels os h in le-test (suc (operands_levels (operands_from os))) (suc levels) (omega (arith, l))

constant-low : (levels : ℕ) (d : Data) → Within (is_low (suc levels)) (constant_in d)
unfolding constant_in
constant-low levels d =
    within_map is_held (is_low (suc levels)) operand_value (option_and_then value_in (get (codes "value") d)) (within_any is_held value_in (get (codes "value") d) value_held) (λ v h. le-test 1 (suc levels) (omega arith))

call_levels : (levels : ℕ) (os : List OperandForm) → are_low levels os ≡ true → nat_le (suc (suc (operands_levels (operands_from os)))) (suc levels) ≡ true
call_levels levels os h = let l = test-le (suc (operands_levels (operands_from os))) levels h in le-test (suc (suc (operands_levels (operands_from os)))) (suc levels) (omega (arith, l))

call-low : (levels : ℕ) (f : Data → Option (List OperandForm)) → ((e : Data) → Within (are_low levels) (f e)) → (d : Data) → Within (is_low (suc levels)) (call_in f d)
unfolding call_in
call-low levels f k d =
    within_any (is_low (suc levels))
    (λ n. option_and_then (λ os. option_and_then (λ t. Some (operand_call n t (operands_from os))) (option_and_then type_named (text_at (codes "type") d))) (option_and_then f (get (codes "of") d)))
    (name_at (codes "fn") d)
    (λ n. within_then (are_low levels) (is_low (suc levels)) (λ os. option_and_then (λ t. Some (operand_call n t (operands_from os))) (option_and_then type_named (text_at (codes "type") d))) (option_and_then f (get (codes "of") d))
    (within_any (are_low levels) f (get (codes "of") d) k)
    (λ os w. within_any (is_low (suc levels)) (λ t. Some (operand_call n t (operands_from os))) (option_and_then type_named (text_at (codes "type") d)) (λ t. call_levels levels os w)))

column-low : (levels : ℕ) (d : Data) → Within (is_low levels) (option_map operand_column (name_in d))
column-low levels d = within_map is_some_list (is_low levels) operand_column (name_in d) (name_some d) (λ n h. le-test 0 levels (omega arith))

operand_by-low : (levels : ℕ) (f : Data → Option (List OperandForm)) → ((e : Data) → Within (are_low levels) (f e)) → (o : Option (List ℕ)) (d : Data) → Within (is_low (suc levels)) (operand_by f o d)
operand_by-low levels f k None d =
    within_if (is_low (suc levels)) (has_only (codes "value" ∷ []) d) (constant_in d) _ (constant-low levels d)
    (within_if (is_low (suc levels)) (has_only (codes "fn" ∷ codes "of" ∷ codes "type" ∷ []) d) (call_in f d) None (call-low levels f k d) tt)
operand_by-low levels f k (Some s) d = column-low (suc levels) d

operand-low : (levels : ℕ) (d : Data) → Within (is_low levels) (operand_in levels d)
unfolding operand_in
operand-low zero d = column-low zero d
operand-low (suc zero) d = operand_by-low zero (λ e. None) (λ e. tt) (as_str d) d
operand-low (suc (suc levels)) d =
    operand_by-low (suc levels) (each_in (operand_in levels))
    (λ e. within_weaker (list_all (is_low levels)) (are_low (suc levels)) (each-low levels) (each_in (operand_in levels) e) (each_within (is_low levels) (operand_in levels) (operand-low levels) e)) (as_str d) d

operands-low : (levels : ℕ) (d : Data) → Within (are_low levels) (operands_in levels d)
operands-low zero d = tt
operands-low (suc levels) d = within_weaker (list_all (is_low levels)) (are_low (suc levels)) (each-low levels) (each_in (operand_in levels) d) (each_within (is_low levels) (operand_in levels) (operand-low levels) d)

answer-low : (levels : ℕ) (d : Data) → Within (is_filter_low levels) (answer_in levels d)
unfolding answer_in
answer-low levels d =
    within_any (is_filter_low levels) (λ n. option_and_then (λ os. Some (computed (operand_call n Int (operands_from os)))) (option_and_then (operands_in levels) (get (codes "of") d))) (name_at (codes "fn") d)
    (λ n. within_then (are_low levels) (is_filter_low levels) (λ os. Some (computed (operand_call n Int (operands_from os)))) (option_and_then (operands_in levels) (get (codes "of") d))
    (within_any (are_low levels) (operands_in levels) (get (codes "of") d) (operands-low levels)) (λ os w. call_levels levels os w))

filter-low : (levels : ℕ) (d : Data) → Within (is_filter_low levels) (filter_in levels d)
unfolding filter_in
filter-low levels d =
    within_if (is_filter_low levels) (has_only (codes "fn" ∷ codes "of" ∷ []) d) (answer_in levels d) _ (answer-low levels d)
    (within_map is_condition_form (is_filter_low levels) compared (condition_in d) (condition-within d) (λ c h. refl))

named-low : (levels : ℕ) (form : Option OperandForm) (d : Data) → Within (is_low (suc levels)) form → Within (is_entry_low levels) (named_entry form d)
named-low levels form d w =
    within_then (is_low (suc levels)) (is_entry_low levels) (λ o. option_and_then (λ n. Some (made o n)) (name_at (codes "as") d)) form w
    (λ o h. within_any (is_entry_low levels) (λ n. Some (made o n)) (name_at (codes "as") d) (λ n. h))

entry-low : (levels : ℕ) (d : Data) → Within (is_entry_low levels) (projected_in levels d)
unfolding projected_in
entry-low levels d =
    within_if (is_entry_low levels) (has_only (codes "value" ∷ codes "as" ∷ []) d) (named_entry (constant_in d) d) _ (named-low levels (constant_in d) d (constant-low levels d))
    (within_if (is_entry_low levels) (has_only (codes "fn" ∷ codes "of" ∷ codes "type" ∷ codes "as" ∷ []) d) (named_entry (call_in (operands_in levels) d) d) _
    (named-low levels (call_in (operands_in levels) d) d (call-low levels (operands_in levels) (operands-low levels) d))
    (within_map is_output_form (is_entry_low levels) kept (output_in d) (output-within d) (λ o h. refl)))

-- a condition of a select, and a column of a projection
pub filter-within : (levels : ℕ) (d : Data) → Within (λ f. is_filter_low levels f && is_filter_form f) (filter_in levels d)
filter-within levels d = within_both (is_filter_low levels) is_filter_form (filter_in levels d) (filter-low levels d) (filter-form levels d)

pub projected-within : (levels : ℕ) (d : Data) → Within (λ e. is_entry_low levels e && is_entry_form e) (projected_in levels d)
projected-within levels d = within_both (is_entry_low levels) is_entry_form (projected_in levels d) (entry-low levels d) (entry-form levels d)

-- ---- aggregates and pairs

function_named-within : (s : List ℕ) (c : Name) → is_some_list c ≡ true → Within is_function_form (function_named s c)
function_named-within s c h = within_if is_function_form (bytes_eq s (codes "min")) (Some (least c)) _ h
    (within_if is_function_form (bytes_eq s (codes "max")) (Some (greatest c)) _ h (within_if is_function_form (bytes_eq s (codes "sum")) (Some (sum c)) None h tt))

function-within : (s : List ℕ) (d : Data) → Within is_function_form (function_at s d)
unfolding function_at
function-within s d =
    within_if is_function_form (bytes_eq s (codes "count")) _ _
    (within_if is_function_form (has_only (codes "fn" ∷ codes "as" ∷ []) d) (Some count_rows) None refl tt)
    (within_if is_function_form (has_only (codes "fn" ∷ codes "column" ∷ codes "as" ∷ []) d) _ None
    (within_then is_some_list is_function_form (function_named s) (name_at (codes "column") d) (name_at-some (codes "column") d) (function_named-within s)) tt)

pub aggregate-within : (d : Data) → Within is_aggregate_form (aggregate_in d)
unfolding aggregate_in
aggregate-within d =
    within_any is_aggregate_form (λ s. option_and_then (λ f. option_and_then (λ n. Some (record { function = f; name = n })) (name_at (codes "as") d)) (function_at s d)) (text_at (codes "fn") d)
    (λ s. within_then is_function_form is_aggregate_form (λ f. option_and_then (λ n. Some (record { function = f; name = n })) (name_at (codes "as") d)) (function_at s d) (function-within s d)
    (λ f h. within_then is_some_list is_aggregate_form (λ n. Some (record { function = f; name = n })) (name_at (codes "as") d) (name_at-some (codes "as") d)
    (λ n k. and-both (is_function_form f) (is_some_list n) h k)))

as_pair-within : (ds : List Data) → Within is_pair_form (as_pair ds)
as_pair-within [] = tt
as_pair-within (l ∷ []) = tt
as_pair-within (l ∷ r ∷ []) =
    within_then is_some_list is_pair_form (λ m. option_map (λ n. (m, n)) (name_in r)) (name_in l) (name_some l)
    (λ m h. within_map is_some_list is_pair_form (λ n. (m, n)) (name_in r) (name_some r) (λ n k. and-both (is_some_list m) (is_some_list n) h k))
as_pair-within (l ∷ r ∷ d ∷ ds) = tt

pub pair-within : (d : Data) → Within is_pair_form (pair_in d)
unfolding pair_in
pair-within d = within_any is_pair_form as_pair (as_list d) as_pair-within
