-- The JSON of a plan reads as the plan.
use Rattle.std.proofs.Common.{◌≡◌, ℕ, suc, ◌+◌, ◌-◌, ◌<◌, ◌≤◌, nat_le, option_map, ltb, pos, negsuc, List, [], ◌∷◌, ◌++◌, map, Bool, true, false, ◌&&◌, Option, Some, None, Ok, codes, refl, sym, ap, ◌∙◌, subst, arith}
use Rattle.std.proofs.lemmas.List.{append_assoc, append-nil}
use Rattle.std.proofs.lemmas.Bool.Decides.{nat_tests}
use Rattle.std.proofs.Math.Nat.{le-max_left, le-max_right}
use Rattle.std.specs.List.{list_all}
use Rattle.serde_json.specs.Data.{Data, string, array, object, Items, Members, no_members, member, put}
use Rattle.vx_rows_values.specs.Values.{Val, num, text, Name}
use Rattle.vx_rows_values.specs.Types.{is_held}
use Rattle.vx_rows_values.specs.Test as comparison
use Rattle.vx_rows_values.specs.declared.value.ColType.{ColType}
use Rattle.vx_rows_values.specs.declared.value.ColType.TheVariants.{Int, Text}
use Rattle.vx_catalog_json.specs.Look.{list_of, name_in, each_onto, OrderText, directed_in, order_entry_in}
use Rattle.vx_plan_json.specs.Look.{name_at, text_at, value_in, each_in, some_in}
use Rattle.vx_rows_values.specs.Lists.{is_some_list}
use Rattle.vx_plan_json.specs.Document.{PartForm, one, any, all, hash_part, range_part, ClaimForm, SideForm, column, constant, ConditionForm, OutputForm, OperandForm, operand_column, operand_value, operand_call, OperandForms, no_operands, more_operands, operands_from, FilterForm, compared, computed, EntryForm, kept, made, FunctionForm, least, greatest, sum, count_rows, AggregateForm, ScanForm, UnaryForm, select, project, distinct, sort, partial_sort, group, partial_group, final_group, limit, BinaryForm, union, join, semi_join, KindForm, hash, range, round, broadcast, gather, concat, Tree, scan, unary, binary, exchange, Document, tree_nodes, tree_levels}
use Rattle.vx_rows_values.specs.Ranges.{RangeForm}
use Rattle.vx_plan_json.specs.Form.{names_in, some_names_in, order_in, some_order_in, hash_part_in, range_part_in, part_in, keys_in, claim_in, claimed, test_named, side_in, condition_in, renamed_in, output_in, type_named, constant_in, call_in, operand_in, operands_in, answer_in, filter_in, projected_in, function_at, aggregate_in, pair_in}
use Rattle.vx_plan_json.specs.Formed.{are_names, are_some_names, is_order_entry, is_order, is_some_order, is_range_form, is_head_form, is_part_form, is_claim_form, is_side_form, is_condition_form, is_new_name, is_output_form, is_operand_form, are_operand_forms, is_answer, is_filter_form, is_made, is_entry_form, operand_levels, operands_levels, is_filter_low, is_entry_low, is_unary_low, levels_left, are_operands_low, is_function_form, is_aggregate_form, is_scan_form, is_unary_form, is_pair_form, is_binary_form, is_kind_form, is_merge_form, is_tree_form, has_few_keys, are_keys_few}
use Rattle.vx_plan_json.specs.Operators.{OwnForm, own_scan, own_unary, own_binary, own_exchange, own_in, own_claim, own_under, scan_in, scan_own, select_in, project_in, outputs_in, sort_in, partial_sort_in, sorted_in, lists_in, group_in, partial_in, final_in, phased_in, rows_in, limit_in, unary_in, unary_own, inner_in, matches_in, join_in, union_in, hash_in, range_in, sized_in, gather_in, concat_in, kind_in, merge_in, exchange_own}
use Rattle.vx_plan_json.specs.Reading.{node_in, declared_in, head_of, head_in, document_in}
use Rattle.vx_plan_json.specs.Written.{list_json, names_json, entry_json, order_json, value_json, with_some, with_text, range_json, part_json, with_part, claim_members, with_object, with_claim, with_side, condition_json, output_json, type_text, with_applied, with_typed, with_constant, operand_json, operand_items, filter_json, with_operand, projected_json, with_function, aggregate_json, pair_json, with_scan, with_unary, with_binary, with_kind, scan_json, unary_json, binary_json, exchange_json, node_json, with_flag, document_json}
use Rattle.vx_plan_json.proofs.Holds.{and-left, and-right, and-both}
use Rattle.vx_plan_json.proofs.OperandFacts.{operand-column, operand-object, operands-each}
use Rattle.vx_catalog_json.proofs.LookFacts.{list_of-items_of}
use Rattle.vx_plan_json.proofs.NodeFacts.{node_step}

name-back : (n : Name) → is_some_list n ≡ true → name_in (string n) ≡ Some n
unfolding name_in
name-back [] h = cc
name-back (b ∷ bs) h = refl

each-back : {A : Type 0} (p : A → Bool) (f : Data → Option A) (json : A → Data) → ((x : A) → p x ≡ true → f (json x) ≡ Some x) → (prior xs : List A) → list_all p xs ≡ true
    → each_onto f prior (map json xs) ≡ Some (prior ++ xs)
unfolding each_onto
each-back p f json back prior [] h = ap Some (sym (append-nil prior))
each-back p f json back prior (x ∷ xs) h =
    rw (back x (and-left (p x) (list_all p xs) h)) (each-back p f json back (prior ++ x ∷ []) xs (and-right (p x) (list_all p xs) h) ∙ ap Some (append_assoc prior (x ∷ []) xs))

list-back : {A : Type 0} (p : A → Bool) (f : Data → Option A) (json : A → Data) → ((x : A) → p x ≡ true → f (json x) ≡ Some x) → (xs : List A) → list_all p xs ≡ true
    → each_in f (list_json json xs) ≡ Some xs
list-back p f json back xs h = ap (each_onto f []) (list_of-items_of (map json xs)) ∙ each-back p f json back [] xs h

some-back : {A : Type 0} (p : A → Bool) (f : Data → Option A) (json : A → Data) → ((x : A) → p x ≡ true → f (json x) ≡ Some x) → (xs : List A) → (is_some_list xs && list_all p xs) ≡ true
    → some_in f (list_json json xs) ≡ Some xs
some-back p f json back [] h = cc
some-back p f json back (x ∷ xs) h =
    ap (λ (t : List Data). each_onto f [] (json x ∷ t)) (list_of-items_of (map json xs)) ∙ each-back p f json back [] (x ∷ xs) h

names-back : (ns : List Name) → are_names ns ≡ true → names_in (names_json ns) ≡ Some ns
unfolding names_in
names-back ns h = list-back is_some_list name_in string name-back ns h

some_names-back : (ns : List Name) → are_some_names ns ≡ true → some_names_in (names_json ns) ≡ Some ns
unfolding some_names_in
some_names-back ns h = some-back is_some_list name_in string name-back ns h

entry_at : (n : Name) (falling : Bool) → is_some_list n ≡ true → order_entry_in (entry_json (record { name = n; falling = falling })) ≡ Some (record { name = n; falling = falling })
unfolding order_entry_in directed_in
entry_at n true h = rw (name-back n h) refl
entry_at [] false h = cc
entry_at (b ∷ bs) false h = refl

entry-back : (e : OrderText) → is_order_entry e ≡ true → order_entry_in (entry_json e) ≡ Some e
entry-back e h = entry_at e.name e.falling h

order-back : (es : List OrderText) → is_order es ≡ true → order_in (order_json es) ≡ Some es
unfolding order_in
order-back es h = list-back is_order_entry order_entry_in entry_json entry-back es h

some_order-back : (es : List OrderText) → is_some_order es ≡ true → some_order_in (order_json es) ≡ Some es
unfolding some_order_in
some_order-back es h = some-back is_order_entry order_entry_in entry_json entry-back es h

small : (n : ℕ) → is_held (num (pos n)) ≡ true → ltb n 9223372036854775808 ≡ true
small n h = grind (arith, nat_tests, h)

value-back : (v : Val) → is_held v ≡ true → value_in (value_json v) ≡ Some v
unfolding value_in
value-back (num (pos n)) h = rw (small n h, h) refl
value-back (num (negsuc n)) h = rw h refl
value-back (text s) h = rw h refl

declared-back : (r : RangeForm) → is_range_form r ≡ true → declared_in (range_json r) ≡ Some r
unfolding declared_in name_at
declared-back r h =
    rw (name-back r.name (and-left (is_some_list r.name) (list_all is_held r.bounds) h), list-back is_held value_in value_json value-back r.bounds (and-right (is_some_list r.name) (list_all is_held r.bounds) h)) refl

-- ---- claims

part-back : (p : PartForm) → is_part_form p ≡ true → part_in (part_json p) ≡ Some p
unfolding part_in hash_part_in range_part_in name_at
part-back one h = refl
part-back any h = refl
part-back all h = refl
part-back (hash_part route cols) h =
    rw (name-back route (and-left (is_some_list route) (are_some_names cols) h), some_names-back cols (and-right (is_some_list route) (are_some_names cols) h)) refl
part-back (range_part name col) h =
    rw (name-back name (and-left (is_some_list name) (is_some_list col) h), name-back col (and-right (is_some_list name) (is_some_list col) h)) refl

keys-back : (ks : List (List Name)) → list_all are_names ks ≡ true → keys_in (list_json names_json ks) ≡ Some ks
unfolding keys_in
keys-back ks h = list-back are_names names_in names_json names-back ks h

lists-bare : (o : List OrderText) (ks : List (List Name)) → is_order o ≡ true → list_all are_names ks ≡ true
    → claim_in (object (with_some (codes "keys") names_json ks (with_some (codes "order") entry_json o no_members))) ≡ Some (record { part = any; order = o; keys = ks })
unfolding claim_in
lists-bare [] [] h k = refl
lists-bare (n ∷ ns) [] h k = rw (order-back (n ∷ ns) h) refl
lists-bare [] (x ∷ xs) h k = rw (keys-back (x ∷ xs) k) refl
lists-bare (n ∷ ns) (x ∷ xs) h k = rw (order-back (n ∷ ns) h, keys-back (x ∷ xs) k) refl

lists-parted : (p : PartForm) (d : Data) → part_in d ≡ Some p → (o : List OrderText) (ks : List (List Name)) → is_order o ≡ true → list_all are_names ks ≡ true
    → claim_in (object (with_some (codes "keys") names_json ks (with_some (codes "order") entry_json o (member (codes "part") d no_members)))) ≡ Some (record { part = p; order = o; keys = ks })
unfolding claim_in
lists-parted p d e [] [] h k = rw e refl
lists-parted p d e (n ∷ ns) [] h k = rw (e, order-back (n ∷ ns) h) refl
lists-parted p d e [] (x ∷ xs) h k = rw (e, keys-back (x ∷ xs) k) refl
lists-parted p d e (n ∷ ns) (x ∷ xs) h k = rw (e, order-back (n ∷ ns) h, keys-back (x ∷ xs) k) refl

claim_at : (p : PartForm) (o : List OrderText) (ks : List (List Name)) → is_part_form p ≡ true → is_order o ≡ true → list_all are_names ks ≡ true
    → claim_in (object (with_some (codes "keys") names_json ks (with_some (codes "order") entry_json o (with_part p no_members)))) ≡ Some (record { part = p; order = o; keys = ks })
claim_at one o ks g h k = lists-parted one (part_json one) (part-back one g) o ks h k
claim_at any o ks g h k = lists-bare o ks h k
claim_at all o ks g h k = lists-parted all (part_json all) (part-back all g) o ks h k
claim_at (hash_part route cols) o ks g h k = lists-parted (hash_part route cols) (part_json (hash_part route cols)) (part-back (hash_part route cols) g) o ks h k
claim_at (range_part name col) o ks g h k = lists-parted (range_part name col) (part_json (range_part name col)) (part-back (range_part name col) g) o ks h k

claim-back : (c : ClaimForm) → is_claim_form c ≡ true → claim_in (object (claim_members c)) ≡ Some c
claim-back c h =
    let rest = and-right (is_part_form c.part) (is_order c.order && list_all are_names c.keys) h in
    claim_at c.part c.order c.keys (and-left (is_part_form c.part) (is_order c.order && list_all are_names c.keys) h)
    (and-left (is_order c.order) (list_all are_names c.keys) rest) (and-right (is_order c.order) (list_all are_names c.keys) rest)

-- nothing is claimed
abbrev bare : ClaimForm
bare = record { part = any; order = []; keys = [] }

nothing_claimed : (c : ClaimForm) → claim_in (object no_members) ≡ Some c → bare ≡ c
unfolding claim_in
nothing_claimed c e = cc

-- a claim is left out, or it is a member that reads as the claim
by_claim : (P : Members → ClaimForm → Type 0) → P no_members bare → ((e : Data) (c : ClaimForm) → claim_in e ≡ Some c → P (member (codes "claim") e no_members) c)
    → (c : ClaimForm) → is_claim_form c ≡ true → P (with_claim c no_members) c
by_claim P without with c h = go (claim_members c) (claim-back c h)
  where
    go : (ms : Members) → claim_in (object ms) ≡ Some c → P (with_object (codes "claim") ms no_members) c
    go no_members e = subst (P no_members) (nothing_claimed c e) without
    go (member k d more) e = with (object (member k d more)) c e

-- ---- conditions and kept columns

test-back : (t : comparison.Test) → test_named (comparison.test_text t) ≡ Some t
test-back comparison.equal = refl
test-back comparison.unequal = refl
test-back comparison.below = refl
test-back comparison.at_most = refl
test-back comparison.above = refl
test-back comparison.at_least = refl

condition_at : (l : Name) (t : comparison.Test) (r : SideForm) → is_some_list l ≡ true → is_side_form r ≡ true
    → condition_in (object (with_side r (with_text (codes "op") (comparison.test_text t) (with_text (codes "column") l no_members)))) ≡ Some (record { left = l; test = t; right = r })
unfolding condition_in side_in name_at text_at
condition_at l t (column n) h k = rw (name-back l h, test-back t, name-back n k) refl
condition_at l t (constant v) h k = rw (name-back l h, test-back t, value-back v k) refl

condition-back : (c : ConditionForm) → is_condition_form c ≡ true → condition_in (condition_json c) ≡ Some c
condition-back c h = condition_at c.left c.test c.right (and-left (is_some_list c.left) (is_side_form c.right) h) (and-right (is_some_list c.left) (is_side_form c.right) h)

output_at : (col : Name) (new : Option Name) → is_some_list col ≡ true → is_new_name new ≡ true → output_in (output_json (record { column = col; renamed = new })) ≡ Some (record { column = col; renamed = new })
unfolding output_in renamed_in name_at
output_at [] None h k = cc
output_at (b ∷ bs) None h k = refl
output_at col (Some n) h k = rw (name-back col h, name-back n k) refl

output-back : (o : OutputForm) → is_output_form o ≡ true → output_in (output_json o) ≡ Some o
output-back o h = output_at o.column o.renamed (and-left (is_some_list o.column) (is_new_name o.renamed) h) (and-right (is_some_list o.column) (is_new_name o.renamed) h)

-- ---- functions of columns and values

-- the operands as a list
operand_list : OperandForms → List OperandForm
operand_list no_operands = []
operand_list (more_operands o os) = o ∷ operand_list os

from-list : (os : OperandForms) → operands_from (operand_list os) ≡ os
unfolding operand_list
from-list no_operands = refl
from-list (more_operands o os) = ap (more_operands o) (from-list os)

type-back : (t : ColType) → type_named (type_text t) ≡ Some t
type-back Int = refl
type-back Text = refl

constant-back : (v : Val) → is_held v ≡ true → constant_in (object (with_constant v no_members)) ≡ Some (operand_value v)
unfolding constant_in
constant-back v h = rw (value-back v h) refl

call-back : (g : Data → Option (List OperandForm)) (f : Name) (t : ColType) (os : OperandForms) → is_some_list f ≡ true → g (array (operand_items os)) ≡ Some (operand_list os)
    → call_in g (object (with_typed f t (operand_items os) no_members)) ≡ Some (operand_call f t os)
unfolding call_in name_at text_at
call-back g f t os h e = rw (name-back f h, e, type-back t, from-list os) refl

mutual
  unfolding each_onto operand_list

  operand-back : (levels : ℕ) (o : OperandForm) → is_operand_form o ≡ true → operand_levels o ≤ levels → operand_in levels (operand_json o) ≡ Some o
  operand-back levels (operand_column n) h low = operand-column levels (string n) n refl ∙ ap (option_map operand_column) (name-back n h)
  operand-back levels (operand_value v) h low =
      let some : 0 < levels = omega (arith, low) in
      operand-object levels (object (with_constant v no_members)) some refl ∙ constant-back v h
  operand-back levels (operand_call f t os) h low =
      let some : 0 < levels = omega (arith, low) in
      let more : 0 < levels - 1 = omega (arith, low) in
      let each = operands-back (levels - 1 - 1) [] os (and-right (is_some_list f) (are_operand_forms os) h) (omega (arith, low)) in
      let list : operands_in (levels - 1) (array (operand_items os)) ≡ Some (operand_list os) = operands-each (levels - 1) (array (operand_items os)) more ∙ each in
      operand-object levels (object (with_typed f t (operand_items os) no_members)) some refl ∙ call-back (operands_in (levels - 1)) f t os (and-left (is_some_list f) (are_operand_forms os) h) list

  operands-back : (levels : ℕ) (prior : List OperandForm) (os : OperandForms) → are_operand_forms os ≡ true → operands_levels os ≤ levels
      → each_onto (operand_in levels) prior (list_of (operand_items os)) ≡ Some (prior ++ operand_list os)
  operands-back levels prior no_operands h low = ap Some (sym (append-nil prior))
  operands-back levels prior (more_operands o os) h low =
      let l = le-max_left (operand_levels o) (operands_levels os) in
      let r = le-max_right (operand_levels o) (operands_levels os) in
      rw (operand-back levels o (and-left (is_operand_form o) (are_operand_forms os) h) (omega (arith, low, l)))
      (operands-back levels (prior ++ o ∷ []) os (and-right (is_operand_form o) (are_operand_forms os) h) (omega (arith, low, r)) ∙ ap Some (append_assoc prior (o ∷ []) (operand_list os)))

-- operands in a list of so many levels
list_read : (levels : ℕ) (os : OperandForms) → are_operand_forms os ≡ true → suc (operands_levels os) ≤ levels → operands_in levels (array (operand_items os)) ≡ Some (operand_list os)
list_read levels os h low =
    let some : 0 < levels = omega (arith, low) in
    operands-each levels (array (operand_items os)) some ∙ operands-back (levels - 1) [] os h (omega (arith, low))

test-le : (m n : ℕ) → nat_le m n ≡ true → m ≤ n
test-le m n h = grind (arith, nat_tests, h)

answer-back : (levels : ℕ) (f : Name) (os : OperandForms) → is_some_list f ≡ true → operands_in levels (array (operand_items os)) ≡ Some (operand_list os)
    → filter_in levels (object (with_applied f (operand_items os) no_members)) ≡ Some (computed (operand_call f Int os))
unfolding filter_in answer_in name_at
answer-back levels f os h e = rw (name-back f h, e, from-list os) refl

compared-back : (levels : ℕ) (l : Name) (t : comparison.Test) (r : SideForm) → is_some_list l ≡ true → is_side_form r ≡ true
    → filter_in levels (filter_json (compared (record { left = l; test = t; right = r }))) ≡ Some (compared (record { left = l; test = t; right = r }))
unfolding filter_in
compared-back levels l t (column n) h k = ap (option_map compared) (condition_at l t (column n) h k)
compared-back levels l t (constant v) h k = ap (option_map compared) (condition_at l t (constant v) h k)

filter-back : (levels : ℕ) (f : FilterForm) → (is_filter_low levels f && is_filter_form f) ≡ true → filter_in levels (filter_json f) ≡ Some f
filter-back levels (compared c) h = compared-back levels c.left c.test c.right (and-left (is_some_list c.left) (is_side_form c.right) h) (and-right (is_some_list c.left) (is_side_form c.right) h)
filter-back levels (computed (operand_column n)) h = let k = and-right (is_filter_low levels (computed (operand_column n))) false h in cc
filter-back levels (computed (operand_value v)) h = let k = and-right (is_filter_low levels (computed (operand_value v))) false h in cc
filter-back levels (computed (operand_call f Text os)) h = let k = and-right (is_filter_low levels (computed (operand_call f Text os))) false h in cc
filter-back levels (computed (operand_call f Int os)) h =
    let low = test-le (suc (suc (operands_levels os))) (suc levels) (and-left (is_filter_low levels (computed (operand_call f Int os))) (is_some_list f && are_operand_forms os) h) in
    let form = and-right (is_filter_low levels (computed (operand_call f Int os))) (is_some_list f && are_operand_forms os) h in
    answer-back levels f os (and-left (is_some_list f) (are_operand_forms os) form) (list_read levels os (and-right (is_some_list f) (are_operand_forms os) form) (omega (arith, low)))

kept-back : (levels : ℕ) (col : Name) (new : Option Name) → is_some_list col ≡ true → is_new_name new ≡ true
    → projected_in levels (projected_json (kept (record { column = col; renamed = new }))) ≡ Some (kept (record { column = col; renamed = new }))
unfolding projected_in
kept-back levels col None h k = ap (option_map kept) (output_at col None h k)
kept-back levels col (Some n) h k = ap (option_map kept) (output_at col (Some n) h k)

named_constant : (levels : ℕ) (v : Val) (n : Name) → is_held v ≡ true → is_some_list n ≡ true → projected_in levels (projected_json (made (operand_value v) n)) ≡ Some (made (operand_value v) n)
unfolding projected_in constant_in name_at
named_constant levels v n h k = rw (value-back v h, name-back n k) refl

named_call : (levels : ℕ) (f : Name) (t : ColType) (os : OperandForms) (n : Name) → is_some_list f ≡ true → operands_in levels (array (operand_items os)) ≡ Some (operand_list os) → is_some_list n ≡ true
    → projected_in levels (projected_json (made (operand_call f t os) n)) ≡ Some (made (operand_call f t os) n)
unfolding projected_in call_in name_at text_at
named_call levels f t os n h e k = rw (name-back f h, e, type-back t, from-list os, name-back n k) refl

projected-back : (levels : ℕ) (e : EntryForm) → (is_entry_low levels e && is_entry_form e) ≡ true → projected_in levels (projected_json e) ≡ Some e
projected-back levels (kept o) h = kept-back levels o.column o.renamed (and-left (is_some_list o.column) (is_new_name o.renamed) h) (and-right (is_some_list o.column) (is_new_name o.renamed) h)
projected-back levels (made (operand_column c) n) h = let k = and-right (is_entry_low levels (made (operand_column c) n)) false h in cc
projected-back levels (made (operand_value v) n) h =
    let form = and-right (is_entry_low levels (made (operand_value v) n)) (is_held v && is_some_list n) h in
    named_constant levels v n (and-left (is_held v) (is_some_list n) form) (and-right (is_held v) (is_some_list n) form)
projected-back levels (made (operand_call f t os) n) h =
    let low = test-le (suc (suc (operands_levels os))) (suc levels) (and-left (is_entry_low levels (made (operand_call f t os) n)) ((is_some_list f && are_operand_forms os) && is_some_list n) h) in
    let form = and-right (is_entry_low levels (made (operand_call f t os) n)) ((is_some_list f && are_operand_forms os) && is_some_list n) h in
    let own = and-left (is_some_list f && are_operand_forms os) (is_some_list n) form in
    named_call levels f t os n (and-left (is_some_list f) (are_operand_forms os) own) (list_read levels os (and-right (is_some_list f) (are_operand_forms os) own) (omega (arith, low)))
    (and-right (is_some_list f && are_operand_forms os) (is_some_list n) form)

-- what passes two tests
all_both : {A : Type 0} (p q : A → Bool) (xs : List A) → list_all p xs ≡ true → list_all q xs ≡ true → list_all (λ x. p x && q x) xs ≡ true
all_both p q [] h k = refl
all_both p q (x ∷ xs) h k =
    and-both (p x && q x) (list_all (λ x. p x && q x) xs) (and-both (p x) (q x) (and-left (p x) (list_all p xs) h) (and-left (q x) (list_all q xs) k))
    (all_both p q xs (and-right (p x) (list_all p xs) h) (and-right (q x) (list_all q xs) k))

filters-back : (levels : ℕ) (fs : List FilterForm) → is_unary_low levels (select fs) ≡ true → is_unary_form (select fs) ≡ true → some_in (filter_in levels) (list_json filter_json fs) ≡ Some fs
filters-back levels fs low h =
    some-back (λ f. is_filter_low levels f && is_filter_form f) (filter_in levels) filter_json (filter-back levels) fs
    (and-both (is_some_list fs) (list_all (λ f. is_filter_low levels f && is_filter_form f) fs) (and-left (is_some_list fs) (list_all is_filter_form fs) h)
    (all_both (is_filter_low levels) is_filter_form fs low (and-right (is_some_list fs) (list_all is_filter_form fs) h)))

entries-back : (levels : ℕ) (es : List EntryForm) → is_unary_low levels (project es) ≡ true → is_unary_form (project es) ≡ true → some_in (projected_in levels) (list_json projected_json es) ≡ Some es
entries-back levels es low h =
    some-back (λ e. is_entry_low levels e && is_entry_form e) (projected_in levels) projected_json (projected-back levels) es
    (and-both (is_some_list es) (list_all (λ e. is_entry_low levels e && is_entry_form e) es) (and-left (is_some_list es) (list_all is_entry_form es) h)
    (all_both (is_entry_low levels) is_entry_form es low (and-right (is_some_list es) (list_all is_entry_form es) h)))

-- ---- aggregates and pairs

aggregate_at : (f : FunctionForm) (n : Name) → is_function_form f ≡ true → is_some_list n ≡ true → aggregate_in (object (with_text (codes "as") n (with_function f no_members))) ≡ Some (record { function = f; name = n })
unfolding aggregate_in function_at name_at text_at
aggregate_at (least col) n h k = rw (name-back col h, name-back n k) refl
aggregate_at (greatest col) n h k = rw (name-back col h, name-back n k) refl
aggregate_at (sum col) n h k = rw (name-back col h, name-back n k) refl
aggregate_at count_rows n h k = rw (name-back n k) refl

aggregate-back : (a : AggregateForm) → is_aggregate_form a ≡ true → aggregate_in (aggregate_json a) ≡ Some a
aggregate-back a h = aggregate_at a.function a.name (and-left (is_function_form a.function) (is_some_list a.name) h) (and-right (is_function_form a.function) (is_some_list a.name) h)

pair-back : (p : Name × Name) → is_pair_form p ≡ true → pair_in (pair_json p) ≡ Some p
unfolding pair_in
pair-back p h = rw (name-back p.0 (and-left (is_some_list p.0) (is_some_list p.1) h), name-back p.1 (and-right (is_some_list p.0) (is_some_list p.1) h)) refl

-- ---- nodes

scan_at : (levels : ℕ) (r : Name) (shared : Bool) (z : Name) (p : List ℕ) → is_some_list r ≡ true → is_some_list z ≡ true
    → own_in levels (object (with_scan (record { relation = r; shared = shared; size = z; prefix = p }) no_members)) ≡ Some (own_scan bare (record { relation = r; shared = shared; size = z; prefix = p }))
unfolding own_in text_at name_at scan_own scan_in claimed
scan_at levels r true z [] h k = rw (name-back r h, name-back z k) refl
scan_at levels r true z (x ∷ xs) h k = rw (name-back r h, name-back z k) refl
scan_at levels r false z [] h k = rw (name-back r h, name-back z k) refl
scan_at levels r false z (x ∷ xs) h k = rw (name-back r h, name-back z k) refl

scan_claimed : (levels : ℕ) (e : Data) (c : ClaimForm) → claim_in e ≡ Some c → (r : Name) (shared : Bool) (z : Name) (p : List ℕ) → is_some_list r ≡ true → is_some_list z ≡ true
    → own_in levels (object (with_scan (record { relation = r; shared = shared; size = z; prefix = p }) (member (codes "claim") e no_members))) ≡ Some (own_scan c (record { relation = r; shared = shared; size = z; prefix = p }))
unfolding own_in text_at name_at scan_own scan_in claimed
scan_claimed levels e c g r true z [] h k = rw (g, name-back r h, name-back z k) refl
scan_claimed levels e c g r true z (x ∷ xs) h k = rw (g, name-back r h, name-back z k) refl
scan_claimed levels e c g r false z [] h k = rw (g, name-back r h, name-back z k) refl
scan_claimed levels e c g r false z (x ∷ xs) h k = rw (g, name-back r h, name-back z k) refl

scan-back : (levels : ℕ) (c : ClaimForm) (s : ScanForm) → is_claim_form c ≡ true → is_scan_form s ≡ true → own_in levels (scan_json c s) ≡ Some (own_scan c s)
scan-back levels c s h k =
    let r = and-left (is_some_list s.relation) (is_some_list s.size) k in
    let z = and-right (is_some_list s.relation) (is_some_list s.size) k in
    by_claim (λ ms c. own_in levels (object (with_scan s ms)) ≡ Some (own_scan c s)) (scan_at levels s.relation s.shared s.size s.prefix r z)
    (λ e c g. scan_claimed levels e c g s.relation s.shared s.size s.prefix r z) c h

unary_bare : (levels : ℕ) (op : UnaryForm) (d : Data) → is_unary_low levels op ≡ true → is_unary_form op ≡ true → own_in levels (object (put (codes "input") d (with_unary op no_members))) ≡ Some (own_unary bare op d)
unfolding own_in text_at unary_own unary_in select_in project_in outputs_in sort_in partial_sort_in sorted_in lists_in group_in partial_in final_in phased_in rows_in limit_in claimed
unary_bare levels (select fs) d low h = rw (filters-back levels fs low h) refl
unary_bare levels (project es) d low h = rw (entries-back levels es low h) refl
unary_bare levels (distinct os) d low h = rw (some-back is_output_form output_in output_json output-back os h) refl
unary_bare levels (sort order) d low h = rw (some_order-back order h) refl
unary_bare levels (partial_sort order) d low h = rw (some_order-back order h) refl
unary_bare levels (group [] []) d low h = cc
unary_bare levels (group [] (a ∷ as')) d low h = rw (names-back [] refl, list-back is_aggregate_form aggregate_in aggregate_json aggregate-back (a ∷ as') h) refl
unary_bare levels (group (n ∷ ns) as') d low h = rw (names-back (n ∷ ns) (and-left (are_names (n ∷ ns)) (list_all is_aggregate_form as') h), list-back is_aggregate_form aggregate_in aggregate_json aggregate-back as' (and-right (are_names (n ∷ ns)) (list_all is_aggregate_form as') h)) refl
unary_bare levels (partial_group [] []) d low h = cc
unary_bare levels (partial_group [] (a ∷ as')) d low h = rw (names-back [] refl, list-back is_aggregate_form aggregate_in aggregate_json aggregate-back (a ∷ as') h) refl
unary_bare levels (partial_group (n ∷ ns) as') d low h = rw (names-back (n ∷ ns) (and-left (are_names (n ∷ ns)) (list_all is_aggregate_form as') h), list-back is_aggregate_form aggregate_in aggregate_json aggregate-back as' (and-right (are_names (n ∷ ns)) (list_all is_aggregate_form as') h)) refl
unary_bare levels final_group d low h = refl
unary_bare levels (limit rows) d low h = rw h refl

unary_claimed : (levels : ℕ) (e : Data) (c : ClaimForm) → claim_in e ≡ Some c → (op : UnaryForm) (d : Data) → is_unary_low levels op ≡ true → is_unary_form op ≡ true
    → own_in levels (object (put (codes "input") d (with_unary op (member (codes "claim") e no_members)))) ≡ Some (own_unary c op d)
unfolding own_in text_at unary_own unary_in select_in project_in outputs_in sort_in partial_sort_in sorted_in lists_in group_in partial_in final_in phased_in rows_in limit_in claimed
unary_claimed levels e c g (select fs) d low h = rw (g, filters-back levels fs low h) refl
unary_claimed levels e c g (project es) d low h = rw (g, entries-back levels es low h) refl
unary_claimed levels e c g (distinct os) d low h = rw (g, some-back is_output_form output_in output_json output-back os h) refl
unary_claimed levels e c g (sort order) d low h = rw (g, some_order-back order h) refl
unary_claimed levels e c g (partial_sort order) d low h = rw (g, some_order-back order h) refl
unary_claimed levels e c g (group [] []) d low h = cc
unary_claimed levels e c g (group [] (a ∷ as')) d low h = rw (g, names-back [] refl, list-back is_aggregate_form aggregate_in aggregate_json aggregate-back (a ∷ as') h) refl
unary_claimed levels e c g (group (n ∷ ns) as') d low h = rw (g, names-back (n ∷ ns) (and-left (are_names (n ∷ ns)) (list_all is_aggregate_form as') h), list-back is_aggregate_form aggregate_in aggregate_json aggregate-back as' (and-right (are_names (n ∷ ns)) (list_all is_aggregate_form as') h)) refl
unary_claimed levels e c g (partial_group [] []) d low h = cc
unary_claimed levels e c g (partial_group [] (a ∷ as')) d low h = rw (g, names-back [] refl, list-back is_aggregate_form aggregate_in aggregate_json aggregate-back (a ∷ as') h) refl
unary_claimed levels e c g (partial_group (n ∷ ns) as') d low h = rw (g, names-back (n ∷ ns) (and-left (are_names (n ∷ ns)) (list_all is_aggregate_form as') h), list-back is_aggregate_form aggregate_in aggregate_json aggregate-back as' (and-right (are_names (n ∷ ns)) (list_all is_aggregate_form as') h)) refl
unary_claimed levels e c g final_group d low h = rw g refl
unary_claimed levels e c g (limit rows) d low h = rw (g, h) refl

unary-back : (levels : ℕ) (c : ClaimForm) (op : UnaryForm) (d : Data) → is_claim_form c ≡ true → is_unary_low levels op ≡ true → is_unary_form op ≡ true → own_in levels (unary_json c op d) ≡ Some (own_unary c op d)
unary-back levels c op d h low k =
    by_claim (λ ms c. own_in levels (object (put (codes "input") d (with_unary op ms))) ≡ Some (own_unary c op d)) (unary_bare levels op d low k) (λ e c g. unary_claimed levels e c g op d low k) c h

-- the pairs of a join that looks for matches, and its conditions, if there are any
pairs-back : (on : List (Name × Name)) (conditions : List ConditionForm) → is_binary_form (semi_join true on conditions) ≡ true → some_in pair_in (list_json pair_json on) ≡ Some on
pairs-back on conditions h = some-back is_pair_form pair_in pair_json pair-back on (and-left (is_some_list on && list_all is_pair_form on) (list_all is_condition_form conditions) h)

where-back : (on : List (Name × Name)) (c : ConditionForm) (cs : List ConditionForm) → is_binary_form (semi_join true on (c ∷ cs)) ≡ true → some_in condition_in (list_json condition_json (c ∷ cs)) ≡ Some (c ∷ cs)
where-back on c cs h = some-back is_condition_form condition_in condition_json condition-back (c ∷ cs) (and-right (is_some_list on && list_all is_pair_form on) (list_all is_condition_form (c ∷ cs)) h)

binary_bare : (levels : ℕ) (op : BinaryForm) (d f : Data) → is_binary_form op ≡ true → own_in levels (object (put (codes "right") f (put (codes "left") d (with_binary op no_members)))) ≡ Some (own_binary bare op d f)
unfolding own_in text_at union_in inner_in matches_in join_in claimed
binary_bare levels union d f h = refl
binary_bare levels (join true on) d f h = rw (some-back is_pair_form pair_in pair_json pair-back on h) refl
binary_bare levels (join false on) d f h = rw (some-back is_pair_form pair_in pair_json pair-back on h) refl
binary_bare levels (semi_join true on []) d f h = rw (pairs-back on [] h) refl
binary_bare levels (semi_join true on (c ∷ cs)) d f h = rw (pairs-back on (c ∷ cs) h, where-back on c cs h) refl
binary_bare levels (semi_join false on []) d f h = rw (pairs-back on [] h) refl
binary_bare levels (semi_join false on (c ∷ cs)) d f h = rw (pairs-back on (c ∷ cs) h, where-back on c cs h) refl

binary_claimed : (levels : ℕ) (e : Data) (c : ClaimForm) → claim_in e ≡ Some c → (op : BinaryForm) (d f : Data) → is_binary_form op ≡ true
    → own_in levels (object (put (codes "right") f (put (codes "left") d (with_binary op (member (codes "claim") e no_members))))) ≡ Some (own_binary c op d f)
unfolding own_in text_at union_in inner_in matches_in join_in claimed
binary_claimed levels e c g union d f h = rw g refl
binary_claimed levels e c g (join true on) d f h = rw (g, some-back is_pair_form pair_in pair_json pair-back on h) refl
binary_claimed levels e c g (join false on) d f h = rw (g, some-back is_pair_form pair_in pair_json pair-back on h) refl
binary_claimed levels e c g (semi_join true on []) d f h = rw (g, pairs-back on [] h) refl
binary_claimed levels e c g (semi_join true on (x ∷ xs)) d f h = rw (g, pairs-back on (x ∷ xs) h, where-back on x xs h) refl
binary_claimed levels e c g (semi_join false on []) d f h = rw (g, pairs-back on [] h) refl
binary_claimed levels e c g (semi_join false on (x ∷ xs)) d f h = rw (g, pairs-back on (x ∷ xs) h, where-back on x xs h) refl

binary-back : (levels : ℕ) (c : ClaimForm) (op : BinaryForm) (d f : Data) → is_claim_form c ≡ true → is_binary_form op ≡ true → own_in levels (binary_json c op d f) ≡ Some (own_binary c op d f)
binary-back levels c op d f h k =
    by_claim (λ ms c. own_in levels (object (put (codes "right") f (put (codes "left") d (with_binary op ms)))) ≡ Some (own_binary c op d f)) (binary_bare levels op d f k) (λ e c g. binary_claimed levels e c g op d f k) c h

exchange_bare : (levels : ℕ) (k : KindForm) (m : List OrderText) (d : Data) → is_kind_form k ≡ true → is_merge_form k m ≡ true
    → own_in levels (object (put (codes "input") d (with_some (codes "merge") entry_json m (with_kind k (with_text (codes "op") (codes "exchange") no_members))))) ≡ Some (own_exchange bare k m d)
unfolding own_in text_at name_at exchange_own kind_in hash_in range_in sized_in gather_in concat_in merge_in claimed
exchange_bare levels (hash z r cols) [] d h k = rw (name-back z (and-left (is_some_list z) (is_some_list r && are_some_names cols) h), name-back r (and-left (is_some_list r) (are_some_names cols) (and-right (is_some_list z) (is_some_list r && are_some_names cols) h)), some_names-back cols (and-right (is_some_list r) (are_some_names cols) (and-right (is_some_list z) (is_some_list r && are_some_names cols) h))) refl
exchange_bare levels (hash z r cols) (x ∷ xs) d h k = rw (name-back z (and-left (is_some_list z) (is_some_list r && are_some_names cols) h), name-back r (and-left (is_some_list r) (are_some_names cols) (and-right (is_some_list z) (is_some_list r && are_some_names cols) h)), some_names-back cols (and-right (is_some_list r) (are_some_names cols) (and-right (is_some_list z) (is_some_list r && are_some_names cols) h)), some_order-back (x ∷ xs) k) refl
exchange_bare levels (range z n col) [] d h k = rw (name-back z (and-left (is_some_list z) (is_some_list n && is_some_list col) h), name-back n (and-left (is_some_list n) (is_some_list col) (and-right (is_some_list z) (is_some_list n && is_some_list col) h)), name-back col (and-right (is_some_list n) (is_some_list col) (and-right (is_some_list z) (is_some_list n && is_some_list col) h))) refl
exchange_bare levels (range z n col) (x ∷ xs) d h k = rw (name-back z (and-left (is_some_list z) (is_some_list n && is_some_list col) h), name-back n (and-left (is_some_list n) (is_some_list col) (and-right (is_some_list z) (is_some_list n && is_some_list col) h)), name-back col (and-right (is_some_list n) (is_some_list col) (and-right (is_some_list z) (is_some_list n && is_some_list col) h)), some_order-back (x ∷ xs) k) refl
exchange_bare levels (round z) [] d h k = rw (name-back z h) refl
exchange_bare levels (round z) (x ∷ xs) d h k = rw (name-back z h, some_order-back (x ∷ xs) k) refl
exchange_bare levels (broadcast z) [] d h k = rw (name-back z h) refl
exchange_bare levels (broadcast z) (x ∷ xs) d h k = rw (name-back z h, some_order-back (x ∷ xs) k) refl
exchange_bare levels gather [] d h k = refl
exchange_bare levels gather (x ∷ xs) d h k = rw (some_order-back (x ∷ xs) k) refl
exchange_bare levels concat [] d h k = refl
exchange_bare levels concat (x ∷ xs) d h k = cc

exchange_claimed : (levels : ℕ) (e : Data) (c : ClaimForm) → claim_in e ≡ Some c → (k : KindForm) (m : List OrderText) (d : Data) → is_kind_form k ≡ true → is_merge_form k m ≡ true
    → own_in levels (object (put (codes "input") d (with_some (codes "merge") entry_json m (with_kind k (with_text (codes "op") (codes "exchange") (member (codes "claim") e no_members)))))) ≡ Some (own_exchange c k m d)
unfolding own_in text_at name_at exchange_own kind_in hash_in range_in sized_in gather_in concat_in merge_in claimed
exchange_claimed levels e c g (hash z r cols) [] d h k = rw (g, name-back z (and-left (is_some_list z) (is_some_list r && are_some_names cols) h), name-back r (and-left (is_some_list r) (are_some_names cols) (and-right (is_some_list z) (is_some_list r && are_some_names cols) h)), some_names-back cols (and-right (is_some_list r) (are_some_names cols) (and-right (is_some_list z) (is_some_list r && are_some_names cols) h))) refl
exchange_claimed levels e c g (hash z r cols) (x ∷ xs) d h k = rw (g, name-back z (and-left (is_some_list z) (is_some_list r && are_some_names cols) h), name-back r (and-left (is_some_list r) (are_some_names cols) (and-right (is_some_list z) (is_some_list r && are_some_names cols) h)), some_names-back cols (and-right (is_some_list r) (are_some_names cols) (and-right (is_some_list z) (is_some_list r && are_some_names cols) h)), some_order-back (x ∷ xs) k) refl
exchange_claimed levels e c g (range z n col) [] d h k = rw (g, name-back z (and-left (is_some_list z) (is_some_list n && is_some_list col) h), name-back n (and-left (is_some_list n) (is_some_list col) (and-right (is_some_list z) (is_some_list n && is_some_list col) h)), name-back col (and-right (is_some_list n) (is_some_list col) (and-right (is_some_list z) (is_some_list n && is_some_list col) h))) refl
exchange_claimed levels e c g (range z n col) (x ∷ xs) d h k = rw (g, name-back z (and-left (is_some_list z) (is_some_list n && is_some_list col) h), name-back n (and-left (is_some_list n) (is_some_list col) (and-right (is_some_list z) (is_some_list n && is_some_list col) h)), name-back col (and-right (is_some_list n) (is_some_list col) (and-right (is_some_list z) (is_some_list n && is_some_list col) h)), some_order-back (x ∷ xs) k) refl
exchange_claimed levels e c g (round z) [] d h k = rw (g, name-back z h) refl
exchange_claimed levels e c g (round z) (x ∷ xs) d h k = rw (g, name-back z h, some_order-back (x ∷ xs) k) refl
exchange_claimed levels e c g (broadcast z) [] d h k = rw (g, name-back z h) refl
exchange_claimed levels e c g (broadcast z) (x ∷ xs) d h k = rw (g, name-back z h, some_order-back (x ∷ xs) k) refl
exchange_claimed levels e c g gather [] d h k = rw (g) refl
exchange_claimed levels e c g gather (x ∷ xs) d h k = rw (g, some_order-back (x ∷ xs) k) refl
exchange_claimed levels e c g concat [] d h k = rw (g) refl
exchange_claimed levels e c g concat (x ∷ xs) d h k = cc

exchange-back : (levels : ℕ) (c : ClaimForm) (k : KindForm) (m : List OrderText) (d : Data) → is_claim_form c ≡ true → is_kind_form k ≡ true → is_merge_form k m ≡ true → own_in levels (exchange_json c k m d) ≡ Some (own_exchange c k m d)
exchange-back levels c k m d h i j =
    by_claim (λ ms c. own_in levels (object (put (codes "input") d (with_some (codes "merge") entry_json m (with_kind k (with_text (codes "op") (codes "exchange") ms))))) ≡ Some (own_exchange c k m d))
    (exchange_bare levels k m d i j) (λ e c g. exchange_claimed levels e c g k m d i j) c h

-- the same in a plan that asks for what is known of its columns, or does not
under-back : (derives : Bool) (levels : ℕ) (d : Data) (own : OwnForm) → own_in levels d ≡ Some own → has_few_keys derives (own_claim own) ≡ true → own_under derives levels d ≡ Some own
unfolding own_under
under-back derives levels d own e h = rw (e, h) refl

-- a tree that is neither too deep nor too large
pub node-back : (derives : Bool) (levels seen : ℕ) (path : List ℕ) (t : Tree) → is_tree_form t ≡ true → are_operands_low levels t ≡ true → are_keys_few derives t ≡ true → tree_levels t ≤ levels → seen + tree_nodes t ≤ 1000
    → node_in derives levels seen path (node_json t) ≡ Ok (t, seen + tree_nodes t)
node-back derives levels seen path (scan c s) h operands keys low few =
    let own = scan-back (levels_left (levels - 1)) c s (and-left (is_claim_form c) (is_scan_form s) h) (and-right (is_claim_form c) (is_scan_form s) h) in
    node_step derives levels seen path _ _ (omega (arith, low)) (omega (arith, few)) (under-back derives (levels_left (levels - 1)) _ _ own keys)
node-back derives levels seen path (unary c op t) h operands keys low few =
    let rest = and-right (is_claim_form c) (is_unary_form op && is_tree_form t) h in
    let own = unary-back (levels_left (levels - 1)) c op (node_json t) (and-left (is_claim_form c) (is_unary_form op && is_tree_form t) h) (and-left (is_unary_low (levels_left (levels - 1)) op) (are_operands_low (levels - 1) t) operands) (and-left (is_unary_form op) (is_tree_form t) rest) in
    let under = under-back derives (levels_left (levels - 1)) _ _ own (and-left (has_few_keys derives c) (are_keys_few derives t) keys) in
    let step = node_step derives levels seen path _ _ (omega (arith, low)) (omega (arith, few)) under in
    let below = node-back derives (levels - 1) (seen + 1) (path ++ codes ".input") t (and-right (is_unary_form op) (is_tree_form t) rest) (and-right (is_unary_low (levels_left (levels - 1)) op) (are_operands_low (levels - 1) t) operands) (and-right (has_few_keys derives c) (are_keys_few derives t) keys) (omega (arith, low)) (omega (arith, few)) in
    let count : seen + 1 + tree_nodes t ≡ seen + suc (tree_nodes t) = omega arith in
    rw (step, below) (ap (λ n. Ok (unary c op t, n)) count)
node-back derives levels seen path (binary c op t u) h operands keys low few =
    let rest = and-right (is_claim_form c) (is_binary_form op && (is_tree_form t && is_tree_form u)) h in
    let trees = and-right (is_binary_form op) (is_tree_form t && is_tree_form u) rest in
    let own = binary-back (levels_left (levels - 1)) c op (node_json t) (node_json u) (and-left (is_claim_form c) (is_binary_form op && (is_tree_form t && is_tree_form u)) h) (and-left (is_binary_form op) (is_tree_form t && is_tree_form u) rest) in
    let inputs = and-right (has_few_keys derives c) (are_keys_few derives t && are_keys_few derives u) keys in
    let under = under-back derives (levels_left (levels - 1)) _ _ own (and-left (has_few_keys derives c) (are_keys_few derives t && are_keys_few derives u) keys) in
    let step = node_step derives levels seen path _ _ (omega (arith, low)) (omega (arith, few)) under in
    let l = le-max_left (tree_levels t) (tree_levels u) in
    let r = le-max_right (tree_levels t) (tree_levels u) in
    let first = node-back derives (levels - 1) (seen + 1) (path ++ codes ".left") t (and-left (is_tree_form t) (is_tree_form u) trees) (and-left (are_operands_low (levels - 1) t) (are_operands_low (levels - 1) u) operands) (and-left (are_keys_few derives t) (are_keys_few derives u) inputs) (omega (arith, low, l)) (omega (arith, few)) in
    let second = node-back derives (levels - 1) (seen + 1 + tree_nodes t) (path ++ codes ".right") u (and-right (is_tree_form t) (is_tree_form u) trees) (and-right (are_operands_low (levels - 1) t) (are_operands_low (levels - 1) u) operands) (and-right (are_keys_few derives t) (are_keys_few derives u) inputs) (omega (arith, low, r)) (omega (arith, few)) in
    let count : seen + 1 + tree_nodes t + tree_nodes u ≡ seen + suc (tree_nodes t + tree_nodes u) = omega arith in
    rw (step, first, second) (ap (λ n. Ok (binary c op t u, n)) count)
node-back derives levels seen path (exchange c k m t) h operands keys low few =
    let rest = and-right (is_claim_form c) (is_kind_form k && (is_merge_form k m && is_tree_form t)) h in
    let last = and-right (is_kind_form k) (is_merge_form k m && is_tree_form t) rest in
    let own = exchange-back (levels_left (levels - 1)) c k m (node_json t) (and-left (is_claim_form c) (is_kind_form k && (is_merge_form k m && is_tree_form t)) h) (and-left (is_kind_form k) (is_merge_form k m && is_tree_form t) rest) (and-left (is_merge_form k m) (is_tree_form t) last) in
    let under = under-back derives (levels_left (levels - 1)) _ _ own (and-left (has_few_keys derives c) (are_keys_few derives t) keys) in
    let step = node_step derives levels seen path _ _ (omega (arith, low)) (omega (arith, few)) under in
    let below = node-back derives (levels - 1) (seen + 1) (path ++ codes ".input") t (and-right (is_merge_form k m) (is_tree_form t) last) operands (and-right (has_few_keys derives c) (are_keys_few derives t) keys) (omega (arith, low)) (omega (arith, few)) in
    let count : seen + 1 + tree_nodes t ≡ seen + suc (tree_nodes t) = omega arith in
    rw (step, below) (ap (λ n. Ok (exchange c k m t, n)) count)

-- ---- documents

head-back : (zs : List Name) (rs : List RangeForm) (b v : Bool) (d : Data) → are_names zs ≡ true → list_all is_range_form rs ≡ true
    → head_in (object (put (codes "root") d (with_flag (codes "derive") v (with_flag (codes "total") b (with_some (codes "ranges") range_json rs (with_some (codes "sizes") string zs no_members)))))) ≡ Some (head_of zs rs b v d)
unfolding head_in
head-back [] [] true true d h k = refl
head-back [] (r ∷ rs) true true d h k = rw (list-back is_range_form declared_in range_json declared-back (r ∷ rs) k) refl
head-back (z ∷ zs) [] true true d h k = rw (names-back (z ∷ zs) h) refl
head-back (z ∷ zs) (r ∷ rs) true true d h k = rw (names-back (z ∷ zs) h, list-back is_range_form declared_in range_json declared-back (r ∷ rs) k) refl
head-back [] [] true false d h k = refl
head-back [] (r ∷ rs) true false d h k = rw (list-back is_range_form declared_in range_json declared-back (r ∷ rs) k) refl
head-back (z ∷ zs) [] true false d h k = rw (names-back (z ∷ zs) h) refl
head-back (z ∷ zs) (r ∷ rs) true false d h k = rw (names-back (z ∷ zs) h, list-back is_range_form declared_in range_json declared-back (r ∷ rs) k) refl
head-back [] [] false true d h k = refl
head-back [] (r ∷ rs) false true d h k = rw (list-back is_range_form declared_in range_json declared-back (r ∷ rs) k) refl
head-back (z ∷ zs) [] false true d h k = rw (names-back (z ∷ zs) h) refl
head-back (z ∷ zs) (r ∷ rs) false true d h k = rw (names-back (z ∷ zs) h, list-back is_range_form declared_in range_json declared-back (r ∷ rs) k) refl
head-back [] [] false false d h k = refl
head-back [] (r ∷ rs) false false d h k = rw (list-back is_range_form declared_in range_json declared-back (r ∷ rs) k) refl
head-back (z ∷ zs) [] false false d h k = rw (names-back (z ∷ zs) h) refl
head-back (z ∷ zs) (r ∷ rs) false false d h k = rw (names-back (z ∷ zs) h, list-back is_range_form declared_in range_json declared-back (r ∷ rs) k) refl

pub document-back : (d : Document) → is_head_form d.sizes d.ranges ≡ true → is_tree_form d.root ≡ true → are_operands_low 64 d.root ≡ true → are_keys_few d.derives d.root ≡ true → tree_levels d.root ≤ 64 → tree_nodes d.root ≤ 1000 → document_in (document_json d) ≡ Ok d
unfolding document_in
document-back d h formed operands keys low few =
    let head = head-back d.sizes d.ranges d.total d.derives (node_json d.root) (and-left (are_names d.sizes) (list_all is_range_form d.ranges) h) (and-right (are_names d.sizes) (list_all is_range_form d.ranges) h) in
    let root = node-back d.derives 64 0 (codes "root") d.root formed operands keys low (omega (arith, few)) in
    rw (head, root) refl
