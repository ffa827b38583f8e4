-- What a node says of itself has the form, and so has every tree that is read.
use Rattle.std.proofs.Common.{◌≡◌, ℕ, zero, suc, ◌+◌, ◌-◌, List, [], ◌∷◌, ◌++◌, Bool, true, false, cond, ltb, ◌&&◌, Option, Some, None, option_map, option_and_then, Result, Ok, Err, codes, bytes_eq, refl, arith}
use Rattle.std.specs.List.{list_all}
use Rattle.serde_json.specs.Data.{Data}
use Rattle.serde_json.specs.Find.{get, as_str, as_number, as_u64}
use Rattle.vx_catalog_json.specs.Look.{has_only, OrderText}
use Rattle.vx_plan_json.specs.Look.{name_at, text_at, each_in, some_in, or_default}
use Rattle.vx_rows_values.specs.Lists.{is_some_list}
use Rattle.vx_plan_json.specs.Fault.{Refusal, too_deep, ◌>>=◌}
use Rattle.vx_rows_values.specs.Values.{Name}
use Rattle.vx_plan_json.specs.Document.{ClaimForm, ConditionForm, AggregateForm, ScanForm, UnaryForm, select, project, distinct, sort, partial_sort, group, partial_group, final_group, limit, BinaryForm, union, join, semi_join, hash, range, round, broadcast, gather, concat, KindForm, Tree, scan, unary, binary, exchange}
use Rattle.vx_plan_json.specs.Form.{names_in, some_names_in, some_order_in, claimed, condition_in, filter_in, output_in, projected_in, aggregate_in, pair_in}
use Rattle.vx_plan_json.specs.Operators.{OwnForm, own_scan, own_unary, own_binary, own_exchange, mode_named, scan_in, scan_own, select_in, project_in, outputs_in, sort_in, partial_sort_in, sort_named, sort_by, sorted_in, group_or, lists_in, group_in, partial_in, final_in, phase_named, group_by, phased_in, if_small, rows_in, limit_in, unary_in, unary_own, method_named, inner_in, matches_by, matches_in, join_named, join_by, join_in, union_in, binary_own, hash_in, range_in, sized_in, gather_in, concat_in, kind_in, merge_in, merge_by, exchange_own, own_named, own_in, own_claim, if_few_keys, own_under}
use Rattle.vx_plan_json.specs.Reading.{node_in, with_inputs}
use Rattle.vx_plan_json.specs.Formed.{are_names, are_some_names, is_order, is_some_order, is_claim_form, is_condition_form, is_filter_form, is_entry_form, is_filter_low, is_entry_low, is_unary_low, levels_left, are_operands_low, is_output_form, is_aggregate_form, is_scan_form, is_group_form, is_unary_form, is_pair_form, is_binary_form, is_kind_form, is_merge_form, is_tree_form, has_few_keys}
use Rattle.vx_plan_json.proofs.Holds.{and-left, and-right, and-both, Within, within_then, within_any, within_map, within_if, all_left, all_right, Holds, holds_then}
use Rattle.vx_plan_json.proofs.FormedFacts.{name_at-some, each_within, some_within, names_within, some_names_within, some_order_within, claimed-within, condition-within, filter-within, projected-within, output-within, aggregate-within, pair-within}

-- an operator has the form, and its operands have so many levels of JSON at most
abbrev is_op : ℕ → UnaryForm → Bool
is_op levels op = is_unary_low levels op && is_unary_form op

-- what a node says of itself has the form
is_own_form : ℕ → OwnForm → Bool
is_own_form levels (own_scan c s) = is_claim_form c && is_scan_form s
is_own_form levels (own_unary c op d) = is_claim_form c && is_op levels op
is_own_form levels (own_binary c op d e) = is_claim_form c && is_binary_form op
is_own_form levels (own_exchange c k m d) = is_claim_form c && (is_kind_form k && is_merge_form k m)

scan_in-within : (d : Data) → Within is_scan_form (scan_in d)
unfolding scan_in
scan_in-within d =
    within_then is_some_list is_scan_form
    (λ r. option_and_then (λ m. option_and_then (λ z. option_and_then (λ p. Some (record { relation = r; shared = m; size = z; prefix = p })) (or_default [] as_str (get (codes "prefix") d))) (name_at (codes "size") d)) (option_and_then mode_named (text_at (codes "mode") d)))
    (name_at (codes "relation") d) (name_at-some (codes "relation") d)
    (λ r h. within_any is_scan_form (λ m. option_and_then (λ z. option_and_then (λ p. Some (record { relation = r; shared = m; size = z; prefix = p })) (or_default [] as_str (get (codes "prefix") d))) (name_at (codes "size") d)) (option_and_then mode_named (text_at (codes "mode") d))
    (λ m. within_then is_some_list is_scan_form (λ z. option_and_then (λ p. Some (record { relation = r; shared = m; size = z; prefix = p })) (or_default [] as_str (get (codes "prefix") d))) (name_at (codes "size") d) (name_at-some (codes "size") d)
    (λ z k. within_any is_scan_form (λ p. Some (record { relation = r; shared = m; size = z; prefix = p })) (or_default [] as_str (get (codes "prefix") d))
    (λ p. and-both (is_some_list r) (is_some_list z) h k))))

scan_own-within : (levels : ℕ) (d : Data) → Within (is_own_form levels) (scan_own d)
unfolding scan_own is_own_form
scan_own-within levels d =
    within_if (is_own_form levels) (has_only (codes "op" ∷ codes "relation" ∷ codes "mode" ∷ codes "size" ∷ codes "prefix" ∷ codes "claim" ∷ []) d) _ None
    (within_then is_scan_form (is_own_form levels) (λ s. option_and_then (λ c. Some (own_scan c s)) (claimed d)) (scan_in d) (scan_in-within d)
    (λ s h. within_then is_claim_form (is_own_form levels) (λ c. Some (own_scan c s)) (claimed d) (claimed-within d) (λ c k. and-both (is_claim_form c) (is_scan_form s) k h))) tt

-- a list of a form with an entry, in a member
some_at : {A : Type 0} (p : A → Bool) (f : Data → Option A) → ((d : Data) → Within p (f d)) → (key : List ℕ) (d : Data) → Within (λ xs. is_some_list xs && list_all p xs) (option_and_then (some_in f) (get key d))
some_at p f k key d = within_any (λ xs. is_some_list xs && list_all p xs) (some_in f) (get key d) (some_within p f k)

apart : {A : Type 0} (low form : A → Bool) (xs : List A) → (is_some_list xs && list_all (λ x. low x && form x) xs) ≡ true → (list_all low xs && (is_some_list xs && list_all form xs)) ≡ true
apart low form xs h =
    let each = and-right (is_some_list xs) (list_all (λ x. low x && form x) xs) h in
    and-both (list_all low xs) (is_some_list xs && list_all form xs) (all_left low form xs each)
    (and-both (is_some_list xs) (list_all form xs) (and-left (is_some_list xs) (list_all (λ x. low x && form x) xs) h) (all_right low form xs each))

select-within : (levels : ℕ) (d : Data) → Within (is_op levels) (select_in levels d)
unfolding select_in
select-within levels d =
    within_if (is_op levels) (has_only (codes "op" ∷ codes "where" ∷ codes "input" ∷ codes "claim" ∷ []) d) _ None
    (within_map (λ xs. is_some_list xs && list_all (λ f. is_filter_low levels f && is_filter_form f) xs) (is_op levels) select (option_and_then (some_in (filter_in levels)) (get (codes "where") d))
    (some_at (λ f. is_filter_low levels f && is_filter_form f) (filter_in levels) (filter-within levels) (codes "where") d) (λ fs h. apart (is_filter_low levels) is_filter_form fs h)) tt

project-within : (levels : ℕ) (d : Data) → Within (is_op levels) (project_in levels d)
unfolding project_in
project-within levels d =
    within_if (is_op levels) (has_only (codes "op" ∷ codes "columns" ∷ codes "input" ∷ codes "claim" ∷ []) d) _ None
    (within_map (λ xs. is_some_list xs && list_all (λ e. is_entry_low levels e && is_entry_form e) xs) (is_op levels) project (option_and_then (some_in (projected_in levels)) (get (codes "columns") d))
    (some_at (λ e. is_entry_low levels e && is_entry_form e) (projected_in levels) (projected-within levels) (codes "columns") d) (λ es h. apart (is_entry_low levels) is_entry_form es h)) tt

outputs-within : (d : Data) → Within (λ xs. is_some_list xs && list_all is_output_form xs) (outputs_in d)
unfolding outputs_in
outputs-within d =
    within_if (λ xs. is_some_list xs && list_all is_output_form xs) (has_only (codes "op" ∷ codes "columns" ∷ codes "input" ∷ codes "claim" ∷ []) d) _ None
    (some_at is_output_form output_in output-within (codes "columns") d) tt

sort-within : (levels : ℕ) (d : Data) → Within (is_op levels) (sort_in d)
unfolding sort_in
sort-within levels d =
    within_if (is_op levels) (has_only (codes "op" ∷ codes "columns" ∷ codes "input" ∷ codes "claim" ∷ []) d) _ None
    (within_map is_some_order (is_op levels) sort (option_and_then some_order_in (get (codes "columns") d)) (within_any is_some_order some_order_in (get (codes "columns") d) some_order_within) (λ es h. h)) tt

partial_sort-within : (levels : ℕ) (d : Data) → Within (is_op levels) (partial_sort_in d)
unfolding partial_sort_in
partial_sort-within levels d =
    within_if (is_op levels) (has_only (codes "op" ∷ codes "phase" ∷ codes "columns" ∷ codes "input" ∷ codes "claim" ∷ []) d) _ None
    (within_map is_some_order (is_op levels) partial_sort (option_and_then some_order_in (get (codes "columns") d)) (within_any is_some_order some_order_in (get (codes "columns") d) some_order_within) (λ es h. h)) tt

sort_named-within : (levels : ℕ) (s : List ℕ) (d : Data) → Within (is_op levels) (sort_named s d)
sort_named-within levels s d = within_if (is_op levels) (bytes_eq s (codes "partial")) (partial_sort_in d) None (partial_sort-within levels d) tt

sort_by-within : (levels : ℕ) (o : Option Data) (d : Data) → Within (is_op levels) (sort_by o d)
sort_by-within levels None d = sort-within levels d
sort_by-within levels (Some p) d = within_any (is_op levels) (λ s. sort_named s d) (as_str p) (λ s. sort_named-within levels s d)

sorted-within : (levels : ℕ) (d : Data) → Within (is_op levels) (sorted_in d)
unfolding sorted_in
sorted-within levels d = sort_by-within levels (get (codes "phase") d) d

group_or-within : (by : List Name) (aggregates : List AggregateForm) → are_names by ≡ true → list_all is_aggregate_form aggregates ≡ true → Within (λ (g : List Name × List AggregateForm). is_group_form g.0 g.1) (group_or by aggregates)
group_or-within [] [] h k = tt
group_or-within [] (a ∷ as') h k = k
group_or-within (n ∷ ns) as' h k = and-both (are_names (n ∷ ns)) (list_all is_aggregate_form as') h k

lists-within : (d : Data) → Within (λ (g : List Name × List AggregateForm). is_group_form g.0 g.1) (lists_in d)
unfolding lists_in
lists-within d =
    within_then are_names (λ (g : List Name × List AggregateForm). is_group_form g.0 g.1) (λ by. option_and_then (λ aggregates. group_or by aggregates) (option_and_then (each_in aggregate_in) (get (codes "aggregates") d))) (option_and_then names_in (get (codes "by") d))
    (within_any are_names names_in (get (codes "by") d) names_within)
    (λ by h. within_then (list_all is_aggregate_form) (λ (g : List Name × List AggregateForm). is_group_form g.0 g.1) (λ aggregates. group_or by aggregates) (option_and_then (each_in aggregate_in) (get (codes "aggregates") d))
    (within_any (list_all is_aggregate_form) (each_in aggregate_in) (get (codes "aggregates") d) (each_within is_aggregate_form aggregate_in aggregate-within))
    (λ aggregates k. group_or-within by aggregates h k))

group-within : (levels : ℕ) (d : Data) → Within (is_op levels) (group_in d)
unfolding group_in
group-within levels d =
    within_if (is_op levels) (has_only (codes "op" ∷ codes "by" ∷ codes "aggregates" ∷ codes "input" ∷ codes "claim" ∷ []) d) _ None
    (within_map (λ (g : List Name × List AggregateForm). is_group_form g.0 g.1) (is_op levels) (λ (g : List Name × List AggregateForm). group g.0 g.1) (lists_in d) (lists-within d) (λ g h. h)) tt

partial-within : (levels : ℕ) (d : Data) → Within (is_op levels) (partial_in d)
unfolding partial_in
partial-within levels d =
    within_if (is_op levels) (has_only (codes "op" ∷ codes "phase" ∷ codes "by" ∷ codes "aggregates" ∷ codes "input" ∷ codes "claim" ∷ []) d) _ None
    (within_map (λ (g : List Name × List AggregateForm). is_group_form g.0 g.1) (is_op levels) (λ (g : List Name × List AggregateForm). partial_group g.0 g.1) (lists_in d) (lists-within d) (λ g h. h)) tt

final-within : (levels : ℕ) (d : Data) → Within (is_op levels) (final_in d)
unfolding final_in
final-within levels d = within_if (is_op levels) (has_only (codes "op" ∷ codes "phase" ∷ codes "input" ∷ codes "claim" ∷ []) d) (Some final_group) None refl tt

phase-within : (levels : ℕ) (s : List ℕ) (d : Data) → Within (is_op levels) (phase_named s d)
phase-within levels s d =
    within_if (is_op levels) (bytes_eq s (codes "partial")) (partial_in d) _ (partial-within levels d)
    (within_if (is_op levels) (bytes_eq s (codes "final")) (final_in d) None (final-within levels d) tt)

group_by-within : (levels : ℕ) (o : Option Data) (d : Data) → Within (is_op levels) (group_by o d)
group_by-within levels None d = group-within levels d
group_by-within levels (Some p) d = within_any (is_op levels) (λ s. phase_named s d) (as_str p) (λ s. phase-within levels s d)

phased-within : (levels : ℕ) (d : Data) → Within (is_op levels) (phased_in d)
unfolding phased_in
phased-within levels d = group_by-within levels (get (codes "phase") d) d

if_small-within : (n : ℕ) → Within (λ k. ltb k 4294967296) (if_small n)
if_small-within n = go (ltb n 4294967296) refl
  where
    go : (b : Bool) → ltb n 4294967296 ≡ b → Within (λ k. ltb k 4294967296) (cond b (Some n) None)
    go true h = h
    go false h = tt

rows-within : (d : Data) → Within (λ k. ltb k 4294967296) (rows_in d)
unfolding rows_in
rows-within d = within_any (λ k. ltb k 4294967296) if_small (option_and_then as_u64 (as_number d)) if_small-within

limit-within : (levels : ℕ) (d : Data) → Within (is_op levels) (limit_in d)
unfolding limit_in
limit-within levels d =
    within_if (is_op levels) (has_only (codes "op" ∷ codes "rows" ∷ codes "input" ∷ codes "claim" ∷ []) d) _ None
    (within_map (λ k. ltb k 4294967296) (is_op levels) limit (option_and_then rows_in (get (codes "rows") d)) (within_any (λ k. ltb k 4294967296) rows_in (get (codes "rows") d) rows-within) (λ n h. h)) tt

unary-within : (levels : ℕ) (s : List ℕ) (d : Data) → Within (is_op levels) (unary_in levels s d)
unfolding unary_in
unary-within levels s d =
    within_if (is_op levels) (bytes_eq s (codes "select")) (select_in levels d) _ (select-within levels d)
    (within_if (is_op levels) (bytes_eq s (codes "project")) (project_in levels d) _ (project-within levels d)
    (within_if (is_op levels) (bytes_eq s (codes "distinct")) (option_map distinct (outputs_in d)) _ (within_map (λ xs. is_some_list xs && list_all is_output_form xs) (is_op levels) distinct (outputs_in d) (outputs-within d) (λ os h. h))
    (within_if (is_op levels) (bytes_eq s (codes "sort")) (sorted_in d) _ (sorted-within levels d)
    (within_if (is_op levels) (bytes_eq s (codes "group")) (phased_in d) _ (phased-within levels d)
    (within_if (is_op levels) (bytes_eq s (codes "limit")) (limit_in d) None (limit-within levels d) tt)))))

unary_own-within : (levels : ℕ) (s : List ℕ) (d : Data) → Within (is_own_form levels) (unary_own levels s d)
unfolding unary_own is_own_form
unary_own-within levels s d =
    within_then (is_op levels) (is_own_form levels) (λ op. option_and_then (λ c. option_and_then (λ i. Some (own_unary c op i)) (get (codes "input") d)) (claimed d)) (unary_in levels s d) (unary-within levels s d)
    (λ op h. within_then is_claim_form (is_own_form levels) (λ c. option_and_then (λ i. Some (own_unary c op i)) (get (codes "input") d)) (claimed d) (claimed-within d)
    (λ c k. within_any (is_own_form levels) (λ i. Some (own_unary c op i)) (get (codes "input") d) (λ i. and-both (is_claim_form c) (is_op levels op) k h)))

inner-within : (d : Data) → Within is_binary_form (inner_in d)
unfolding inner_in
inner-within d =
    within_if is_binary_form (has_only (codes "op" ∷ codes "method" ∷ codes "kind" ∷ codes "on" ∷ codes "left" ∷ codes "right" ∷ codes "claim" ∷ []) d) _ None
    (within_any is_binary_form (λ m. option_and_then (λ on. Some (join m on)) (option_and_then (some_in pair_in) (get (codes "on") d))) (option_and_then method_named (text_at (codes "method") d))
    (λ m. within_then (λ xs. is_some_list xs && list_all is_pair_form xs) is_binary_form (λ on. Some (join m on)) (option_and_then (some_in pair_in) (get (codes "on") d))
    (some_at is_pair_form pair_in pair-within (codes "on") d) (λ on h. h))) tt

-- pairs of which there is one, and conditions
are_matches : List (Name × Name) × List ConditionForm → Bool
are_matches g = (is_some_list g.0 && list_all is_pair_form g.0) && list_all is_condition_form g.1

where-within : (o : Option Data) → Within (list_all is_condition_form) (or_default [] (some_in condition_in) o)
where-within None = refl
where-within (Some d) = go (some_in condition_in d) (some_within is_condition_form condition_in condition-within d)
  where
    go : (o : Option (List ConditionForm)) → Within (λ cs. is_some_list cs && list_all is_condition_form cs) o → Within (list_all is_condition_form) o
    go None h = tt
    go (Some cs) h = and-right (is_some_list cs) (list_all is_condition_form cs) h

matches_by-within : (m : Bool) (d : Data) → Within are_matches (matches_by m d)
unfolding are_matches
matches_by-within true d = tt
matches_by-within false d =
    within_then (λ xs. is_some_list xs && list_all is_pair_form xs) are_matches (λ on. option_and_then (λ cs. Some (on, cs)) (or_default [] (some_in condition_in) (get (codes "where") d))) (option_and_then (some_in pair_in) (get (codes "on") d))
    (some_at is_pair_form pair_in pair-within (codes "on") d)
    (λ on h. within_then (list_all is_condition_form) are_matches (λ cs. Some (on, cs)) (or_default [] (some_in condition_in) (get (codes "where") d)) (where-within (get (codes "where") d))
    (λ cs k. and-both (is_some_list on && list_all is_pair_form on) (list_all is_condition_form cs) h k))

matches-within : (d : Data) → Within are_matches (matches_in d)
unfolding matches_in
matches-within d =
    within_if are_matches (has_only (codes "op" ∷ codes "method" ∷ codes "kind" ∷ codes "on" ∷ codes "where" ∷ codes "left" ∷ codes "right" ∷ codes "claim" ∷ []) d) _ None
    (within_any are_matches (λ m. matches_by m d) (option_and_then method_named (text_at (codes "method") d)) (λ m. matches_by-within m d)) tt

semi-within : (matched : Bool) (d : Data) → Within is_binary_form (option_map (λ g. semi_join matched g.0 g.1) (matches_in d))
unfolding are_matches
semi-within matched d = within_map are_matches is_binary_form (λ (g : List (Name × Name) × List ConditionForm). semi_join matched g.0 g.1) (matches_in d) (matches-within d) (λ g h. h)

join_named-within : (s : List ℕ) (d : Data) → Within is_binary_form (join_named s d)
join_named-within s d =
    within_if is_binary_form (bytes_eq s (codes "inner")) (inner_in d) _ (inner-within d)
    (within_if is_binary_form (bytes_eq s (codes "semi")) _ _ (semi-within true d)
    (within_if is_binary_form (bytes_eq s (codes "anti")) _ None (semi-within false d) tt))

join_by-within : (o : Option Data) (d : Data) → Within is_binary_form (join_by o d)
join_by-within None d = inner-within d
join_by-within (Some k) d = within_any is_binary_form (λ s. join_named s d) (as_str k) (λ s. join_named-within s d)

join-within : (d : Data) → Within is_binary_form (join_in d)
unfolding join_in
join-within d = join_by-within (get (codes "kind") d) d

union-within : (d : Data) → Within is_binary_form (union_in d)
unfolding union_in
union-within d = within_if is_binary_form (has_only (codes "op" ∷ codes "left" ∷ codes "right" ∷ codes "claim" ∷ []) d) (Some union) None refl tt

binary_own-within : (levels : ℕ) (form : Option BinaryForm) (d : Data) → Within is_binary_form form → Within (is_own_form levels) (binary_own form d)
unfolding is_own_form
binary_own-within levels form d w =
    within_then is_binary_form (is_own_form levels) (λ op. option_and_then (λ c. option_and_then (λ l. option_and_then (λ r. Some (own_binary c op l r)) (get (codes "right") d)) (get (codes "left") d)) (claimed d)) form w
    (λ op h. within_then is_claim_form (is_own_form levels) (λ c. option_and_then (λ l. option_and_then (λ r. Some (own_binary c op l r)) (get (codes "right") d)) (get (codes "left") d)) (claimed d) (claimed-within d)
    (λ c k. within_any (is_own_form levels) (λ l. option_and_then (λ r. Some (own_binary c op l r)) (get (codes "right") d)) (get (codes "left") d)
    (λ l. within_any (is_own_form levels) (λ r. Some (own_binary c op l r)) (get (codes "right") d) (λ r. and-both (is_claim_form c) (is_binary_form op) k h))))

hash-within : (d : Data) → Within is_kind_form (hash_in d)
unfolding hash_in
hash-within d =
    within_if is_kind_form (has_only (codes "op" ∷ codes "kind" ∷ codes "size" ∷ codes "route" ∷ codes "columns" ∷ codes "merge" ∷ codes "input" ∷ codes "claim" ∷ []) d) _ None
    (within_then is_some_list is_kind_form (λ z. option_and_then (λ r. option_and_then (λ cols. Some (hash z r cols)) (option_and_then some_names_in (get (codes "columns") d))) (name_at (codes "route") d)) (name_at (codes "size") d) (name_at-some (codes "size") d)
    (λ z h. within_then is_some_list is_kind_form (λ r. option_and_then (λ cols. Some (hash z r cols)) (option_and_then some_names_in (get (codes "columns") d))) (name_at (codes "route") d) (name_at-some (codes "route") d)
    (λ r k. within_then are_some_names is_kind_form (λ cols. Some (hash z r cols)) (option_and_then some_names_in (get (codes "columns") d)) (within_any are_some_names some_names_in (get (codes "columns") d) some_names_within)
    (λ cols m. and-both (is_some_list z) (is_some_list r && are_some_names cols) h (and-both (is_some_list r) (are_some_names cols) k m))))) tt

range-within : (d : Data) → Within is_kind_form (range_in d)
unfolding range_in
range-within d =
    within_if is_kind_form (has_only (codes "op" ∷ codes "kind" ∷ codes "size" ∷ codes "route" ∷ codes "column" ∷ codes "merge" ∷ codes "input" ∷ codes "claim" ∷ []) d) _ None
    (within_then is_some_list is_kind_form (λ z. option_and_then (λ r. option_and_then (λ c. Some (range z r c)) (name_at (codes "column") d)) (name_at (codes "route") d)) (name_at (codes "size") d) (name_at-some (codes "size") d)
    (λ z h. within_then is_some_list is_kind_form (λ r. option_and_then (λ c. Some (range z r c)) (name_at (codes "column") d)) (name_at (codes "route") d) (name_at-some (codes "route") d)
    (λ r k. within_then is_some_list is_kind_form (λ c. Some (range z r c)) (name_at (codes "column") d) (name_at-some (codes "column") d)
    (λ c m. and-both (is_some_list z) (is_some_list r && is_some_list c) h (and-both (is_some_list r) (is_some_list c) k m))))) tt

sized-within : (d : Data) → Within is_some_list (sized_in d)
unfolding sized_in
sized-within d = within_if is_some_list (has_only (codes "op" ∷ codes "kind" ∷ codes "size" ∷ codes "merge" ∷ codes "input" ∷ codes "claim" ∷ []) d) (name_at (codes "size") d) None (name_at-some (codes "size") d) tt

gather-within : (d : Data) → Within is_kind_form (gather_in d)
unfolding gather_in
gather-within d = within_if is_kind_form (has_only (codes "op" ∷ codes "kind" ∷ codes "merge" ∷ codes "input" ∷ codes "claim" ∷ []) d) (Some gather) None refl tt

concat-within : (d : Data) → Within is_kind_form (concat_in d)
unfolding concat_in
concat-within d = within_if is_kind_form (has_only (codes "op" ∷ codes "kind" ∷ codes "input" ∷ codes "claim" ∷ []) d) (Some concat) None refl tt

kind-within : (s : List ℕ) (d : Data) → Within is_kind_form (kind_in s d)
unfolding kind_in
kind-within s d =
    within_if is_kind_form (bytes_eq s (codes "hash")) (hash_in d) _ (hash-within d)
    (within_if is_kind_form (bytes_eq s (codes "range")) (range_in d) _ (range-within d)
    (within_if is_kind_form (bytes_eq s (codes "round")) (option_map round (sized_in d)) _ (within_map is_some_list is_kind_form round (sized_in d) (sized-within d) (λ z h. h))
    (within_if is_kind_form (bytes_eq s (codes "broadcast")) (option_map broadcast (sized_in d)) _ (within_map is_some_list is_kind_form broadcast (sized_in d) (sized-within d) (λ z h. h))
    (within_if is_kind_form (bytes_eq s (codes "gather")) (gather_in d) _ (gather-within d)
    (within_if is_kind_form (bytes_eq s (codes "concat")) (concat_in d) None (concat-within d) tt)))))

default-within : (o : Option Data) → Within is_order (or_default [] some_order_in o)
default-within None = refl
default-within (Some d) = go (some_order_in d) (some_order_within d)
  where
    go : (o : Option (List OrderText)) → Within is_some_order o → Within is_order o
    go None h = tt
    go (Some es) h = and-right (is_some_list es) (is_order es) h

merge_in-within : (d : Data) → Within is_order (merge_in d)
unfolding merge_in
merge_in-within d = default-within (get (codes "merge") d)

merge-within : (k : KindForm) (d : Data) → Within (is_merge_form k) (merge_by k d)
merge-within (hash z r cols) d = merge_in-within d
merge-within (range z n col) d = merge_in-within d
merge-within (round z) d = merge_in-within d
merge-within (broadcast z) d = merge_in-within d
merge-within gather d = merge_in-within d
merge-within concat d = refl

exchange_own-within : (levels : ℕ) (d : Data) → Within (is_own_form levels) (exchange_own d)
unfolding exchange_own is_own_form
exchange_own-within levels d =
    within_any (is_own_form levels) (λ s. option_and_then (λ k. option_and_then (λ m. option_and_then (λ c. option_and_then (λ i. Some (own_exchange c k m i)) (get (codes "input") d)) (claimed d)) (merge_by k d)) (kind_in s d)) (text_at (codes "kind") d)
    (λ s. within_then is_kind_form (is_own_form levels) (λ k. option_and_then (λ m. option_and_then (λ c. option_and_then (λ i. Some (own_exchange c k m i)) (get (codes "input") d)) (claimed d)) (merge_by k d)) (kind_in s d) (kind-within s d)
    (λ k h. within_then (is_merge_form k) (is_own_form levels) (λ m. option_and_then (λ c. option_and_then (λ i. Some (own_exchange c k m i)) (get (codes "input") d)) (claimed d)) (merge_by k d) (merge-within k d)
    (λ m n. within_then is_claim_form (is_own_form levels) (λ c. option_and_then (λ i. Some (own_exchange c k m i)) (get (codes "input") d)) (claimed d) (claimed-within d)
    (λ c w. within_any (is_own_form levels) (λ i. Some (own_exchange c k m i)) (get (codes "input") d) (λ i. and-both (is_claim_form c) (is_kind_form k && is_merge_form k m) w (and-both (is_kind_form k) (is_merge_form k m) h n))))))

own-within : (levels : ℕ) (d : Data) → Within (is_own_form levels) (own_in levels d)
unfolding own_in
own-within levels d = within_any (is_own_form levels) (λ s. own_named levels s d) (text_at (codes "op") d) (λ s.
    within_if (is_own_form levels) (bytes_eq s (codes "scan")) (scan_own d) _ (scan_own-within levels d)
    (within_if (is_own_form levels) (bytes_eq s (codes "union")) (binary_own (union_in d) d) _ (binary_own-within levels (union_in d) d (union-within d))
    (within_if (is_own_form levels) (bytes_eq s (codes "join")) (binary_own (join_in d) d) _ (binary_own-within levels (join_in d) d (join-within d))
    (within_if (is_own_form levels) (bytes_eq s (codes "exchange")) (exchange_own d) (unary_own levels s d) (exchange_own-within levels d) (unary_own-within levels s d)))))

few-within : (levels : ℕ) (derives : Bool) (own : OwnForm) → is_own_form levels own ≡ true → Within (is_own_form levels) (if_few_keys derives own)
few-within levels derives own h = within_if (is_own_form levels) (has_few_keys derives (own_claim own)) (Some own) None h tt

under-within : (derives : Bool) (levels : ℕ) (d : Data) → Within (is_own_form levels) (own_under derives levels d)
unfolding own_under
under-within derives levels d = within_then (is_own_form levels) (is_own_form levels) (if_few_keys derives) (own_in levels d) (own-within levels d) (few-within levels derives)

-- a tree has the form, and its operands do not have too many levels of JSON
pub record IsFormed (levels : ℕ) (t : Tree) : Type 0 where
  pub formed : is_tree_form t ≡ true
  pub low : are_operands_low levels t ≡ true

abbrev AreFormed : ℕ → Tree × ℕ → Type 0
AreFormed levels r = IsFormed levels r.0

scan-formed : (levels : ℕ) (c : ClaimForm) (s : ScanForm) → (is_claim_form c && is_scan_form s) ≡ true → IsFormed (suc levels) (scan c s)
scan-formed levels c s w = record { formed = w; low = refl }

unary-formed : (levels : ℕ) (c : ClaimForm) (op : UnaryForm) (t : Tree) → (is_claim_form c && is_op (levels_left levels) op) ≡ true → IsFormed levels t → IsFormed (suc levels) (unary c op t)
unary-formed levels c op t w h =
    let m : suc levels - 1 ≡ levels = omega arith in
    let own = and-right (is_claim_form c) (is_op (levels_left levels) op) w in
    record {
      formed = and-both (is_claim_form c) (is_unary_form op && is_tree_form t) (and-left (is_claim_form c) (is_op (levels_left levels) op) w)
          (and-both (is_unary_form op) (is_tree_form t) (and-right (is_unary_low (levels_left levels) op) (is_unary_form op) own) h.formed);
      low = rw m (and-both (is_unary_low (levels_left levels) op) (are_operands_low levels t) (and-left (is_unary_low (levels_left levels) op) (is_unary_form op) own) h.low);
    }

binary-formed : (levels : ℕ) (c : ClaimForm) (op : BinaryForm) (t u : Tree) → (is_claim_form c && is_binary_form op) ≡ true → IsFormed levels t → IsFormed levels u → IsFormed (suc levels) (binary c op t u)
binary-formed levels c op t u w h k =
    let m : suc levels - 1 ≡ levels = omega arith in
    record {
      formed = and-both (is_claim_form c) (is_binary_form op && (is_tree_form t && is_tree_form u)) (and-left (is_claim_form c) (is_binary_form op) w)
          (and-both (is_binary_form op) (is_tree_form t && is_tree_form u) (and-right (is_claim_form c) (is_binary_form op) w) (and-both (is_tree_form t) (is_tree_form u) h.formed k.formed));
      low = rw m (and-both (are_operands_low levels t) (are_operands_low levels u) h.low k.low);
    }

exchange-formed : (levels : ℕ) (c : ClaimForm) (k : KindForm) (m : List OrderText) (t : Tree) → (is_claim_form c && (is_kind_form k && is_merge_form k m)) ≡ true → IsFormed levels t → IsFormed (suc levels) (exchange c k m t)
exchange-formed levels c k m t w h =
    let one_less : suc levels - 1 ≡ levels = omega arith in
    let rest = and-right (is_claim_form c) (is_kind_form k && is_merge_form k m) w in
    record {
      formed = and-both (is_claim_form c) (is_kind_form k && (is_merge_form k m && is_tree_form t)) (and-left (is_claim_form c) (is_kind_form k && is_merge_form k m) w)
          (and-both (is_kind_form k) (is_merge_form k m && is_tree_form t) (and-left (is_kind_form k) (is_merge_form k m) rest) (and-both (is_merge_form k m) (is_tree_form t) (and-right (is_kind_form k) (is_merge_form k m) rest) h.formed));
      low = rw one_less h.low;
    }

inputs-formed : (levels : ℕ) (below : ℕ → List ℕ → Data → Result (Tree × ℕ) Refusal) → ((seen : ℕ) (path : List ℕ) (d : Data) → Holds (AreFormed levels) (below seen path d)) → (seen : ℕ) (path : List ℕ) (own : Option OwnForm)
    → Within (is_own_form (levels_left levels)) own → Holds (AreFormed (suc levels)) (with_inputs below seen path own)
unfolding is_own_form
inputs-formed levels below formed seen path None w = tt
inputs-formed levels below formed seen path (Some (own_scan c s)) w = scan-formed levels c s w
inputs-formed levels below formed seen path (Some (own_unary c op d)) w =
    holds_then (AreFormed levels) (AreFormed (suc levels)) (λ t. Ok (unary c op t.0, t.1)) (below (seen + 1) (path ++ codes ".input") d) (formed (seen + 1) (path ++ codes ".input") d)
    (λ t h. unary-formed levels c op t.0 w h)
inputs-formed levels below formed seen path (Some (own_binary c op d e)) w =
    holds_then (AreFormed levels) (AreFormed (suc levels)) (λ l. below l.1 (path ++ codes ".right") e >>= λ r. Ok (binary c op l.0 r.0, r.1)) (below (seen + 1) (path ++ codes ".left") d) (formed (seen + 1) (path ++ codes ".left") d)
    (λ l h. holds_then (AreFormed levels) (AreFormed (suc levels)) (λ r. Ok (binary c op l.0 r.0, r.1)) (below l.1 (path ++ codes ".right") e) (formed l.1 (path ++ codes ".right") e)
    (λ r k. binary-formed levels c op l.0 r.0 w h k))
inputs-formed levels below formed seen path (Some (own_exchange c k m d)) w =
    holds_then (AreFormed levels) (AreFormed (suc levels)) (λ t. Ok (exchange c k m t.0, t.1)) (below (seen + 1) (path ++ codes ".input") d) (formed (seen + 1) (path ++ codes ".input") d)
    (λ t h. exchange-formed levels c k m t.0 w h)

formed_if : (levels : ℕ) (b : Bool) (r : Result (Tree × ℕ) Refusal) → Holds (AreFormed levels) r → Holds (AreFormed levels) (cond b r (Err too_deep))
formed_if levels true r h = h
formed_if levels false r h = tt

-- every tree that is read has the form
pub node-formed : (derives : Bool) (levels seen : ℕ) (path : List ℕ) (d : Data) → Holds (λ (r : Tree × ℕ). IsFormed levels r.0) (node_in derives levels seen path d)
unfolding node_in
node-formed derives zero seen path d = tt
node-formed derives (suc levels) seen path d =
    formed_if (suc levels) (ltb seen 1000) (with_inputs (node_in derives levels) seen path (own_under derives (levels_left levels) d))
    (inputs-formed levels (node_in derives levels) (node-formed derives levels) seen path (own_under derives (levels_left levels) d) (under-within derives (levels_left levels) d))
