-- Operators that were found are typed, and give the columns that they say.
use Rattle.std.proofs.Common.{◌≡◌, ℕ, ◌+◌, nat_lt, nat_le, List, [], ◌∷◌, ◌++◌, true, ◌&&◌, ◌||◌, is_some, Result, Ok, Err, map, length, bytes_eq, refl, sym, ap, ◌∙◌, subst, length-append, not, false, Bool, Option, Some, None, true≢false, eq-eqb}
use Rattle.std.specs.Prelude.{⊤}
use Rattle.std.specs.List.{list_all}
use Rattle.std.proofs.lemmas.List.{length-map, length_push, map_push}
use Rattle.vx_rows_values.specs.declared.value.ColType.{ColType}
use Rattle.vx_catalog_json.specs.Look.{OrderText}
use Rattle.vx_rows_values.specs.declared.order.OrderEntry.{OrderEntry}
use Rattle.vx_rows_values.specs.Order.{order_columns}
use Rattle.vx_rows_values.specs.Types.{type_at}
use Rattle.vx_catalog_relations.specs.Catalog.{all_below, relation_at}
use Rattle.vx_plan_nodes.specs.declared.typed.Projected.{Projected}
use Rattle.vx_plan_nodes.specs.Plan.{Aggregate, Phase, Unary, Condition, Expression, Filter, Entry, ExchangeKind, Plan, route_to, by_hash, by_range}
use Rattle.vx_plan_nodes.specs.Plan as plan
use Rattle.vx_plan_nodes.specs.Types.{types_of, unary_types, binary_types, entry_type, aggregate_type}
use Rattle.vx_plan_nodes.specs.Phases.{first_columns, merged, unary_open, is_open, phase_fits}
use Rattle.vx_plan_nodes.specs.Typed.{are_columns, is_condition, is_filter, is_entry, is_aggregate, is_unary, is_pair, are_distinct_pairs, has_directions, is_binary, types_eq, is_kind, may_merge, is_size, is_routed, typed}
use Rattle.vx_rows_values.specs.Lists.{is_some_list}
use Rattle.vx_rows_values.specs.Values.{Name}
use Rattle.vx_plan_json.specs.Document.{ConditionForm, FilterForm, OutputForm, EntryForm, AggregateForm, UnaryForm, BinaryForm, KindForm}
use Rattle.vx_plan_json.specs.Document as form
use Rattle.vx_plan_nodes.specs.Outline.{Columns, Outline, columns, plan_in}
use Rattle.vx_plan_json.specs.Fault.{Refusal, ◌>>=◌}
use Rattle.vx_plan.specs.Lookup.{walk_onto, find_column, find_columns, order_names, find_order, test_distinct, test_distinct_pairs, pair_eq, test_match, test_width, find_size, find_range}
use Rattle.vx_plan_nodes.specs.Names.{Names, scope_of}
use Rattle.vx_plan.specs.Resolve.{find_conditions, find_operand, find_filter, find_filters, filter_fits, FoundEntry, entry_name, find_entry, find_entries, entries_shape, entry_columns, select_shape, Shape, output_name, find_kept, find_all_kept, kept_shape, kept_columns, project_shape, distinct_shape, sort_shape, partial_sort_shape, limit_shape, find_function, find_aggregates, find_group, test_group, group_columns, group_shape, test_phase, partial_shape, parts_of, sorts_before, final_shape, under_final, unary_shape, find_pair, find_pairs, test_join, join_pairs, both_columns, find_matches, join_matches, method_of, Joint, binary_shape, find_kind, kind_names, kind_fits, exchange_columns, test_exchange, exchange_shape}
use Rattle.vx_plan_json.specs.Formed.{are_names, are_some_names, is_order, is_condition_form, is_operand_form, is_made, is_filter_form, is_entry_form, is_output_form, is_aggregate_form, is_unary_form, is_pair_form, is_binary_form, is_kind_form, is_merge_form}
use Rattle.vx_plan_json.proofs.Holds.{all_push, Holds, holds_then, holds_at}
use Rattle.vx_rows_values.proofs.Booleans.{and-left, and-right, and-both}
use Rattle.vx_plan.proofs.Apart.{apart, apart-prefix, test_distinct-apart, test_distinct_pairs-apart, distinct-pairs}
use Rattle.vx_plan.proofs.FoundFacts.{name_of, AreColumns, IsColumn, column-found, columns-found, walk-holds, walk-length, test_distinct-columns, some-columns}
use Rattle.vx_plan.proofs.Each.{ok_last, Each}
use Rattle.vx_plan.proofs.Computed.{each-holds, each-length, operand-typed, filters-typed}
use Rattle.vx_plan.proofs.OrderFacts.{IsOrder, order-found, order-count}
use Rattle.vx_plan_nodes.proofs.ErasedFacts.{final-types}
use Rattle.vx_plan.proofs.PhaseFacts.{some-alike, parts-found, parts-open, final-unary}
use Rattle.vx_plan.proofs.ClaimFacts.{test_match-holds, test_width-holds, size-holds, range-holds, hash-routed, range-routed}

-- as wide as the types say, and at most 64 columns
pub record IsOutput (types : List ColType) (cols : Columns) : Type 0 where
  pub types_are : cols.types ≡ types
  pub names_are : length cols.names ≡ length cols.types
  pub few : nat_le (length cols.types) 64 ≡ true

-- an output is one of its own types
pub own-output : {types : List ColType} {cols : Columns} → IsOutput types cols → IsOutput cols.types cols
own-output out = record { types_are = refl; names_are = out.names_are; few = out.few }

-- over this plan, whose columns these are; only under a final group it may leave the plan open
pub record IsShape (under : Bool) (p : Plan) (cols : Columns) (o : Shape) : Type 0 where
  pub op : is_unary cols.types o.op ≡ true
  pub output : IsOutput (unary_types o.op cols.types) o.columns
  pub fits : phase_fits o.op p ≡ true
  pub closed : under ≡ false → unary_open o.op (is_open p) ≡ false

select-holds : (under : Bool) (p : Plan) (node : ℕ) (cols : Columns) (fs : List FilterForm) → IsOutput cols.types cols → (is_some_list fs && list_all is_filter_form fs) ≡ true → is_open p ≡ false → Holds (IsShape under p cols) (select_shape node cols fs)
unfolding select_shape find_filters
select-holds under p node cols fs out h shut =
    holds_then (λ (ks : List Filter). Each (find_filter node cols.names) fs ks) (IsShape under p cols) (λ ks. test_match node (list_all (filter_fits cols.types) ks) >>= λ u. Ok (record { op = plan.select ks; renamed = []; columns = cols }))
    (walk_onto (find_filter node cols.names) [] fs) (each-holds (find_filter node cols.names) fs)
    (λ ks l. holds_then (λ (u : ⊤). list_all (filter_fits cols.types) ks ≡ true) (IsShape under p cols) (λ u. Ok (record { op = plan.select ks; renamed = []; columns = cols })) (test_match node (list_all (filter_fits cols.types) ks)) (test_match-holds node (list_all (filter_fits cols.types) ks))
    (λ u m. record {
      op = and-both (is_some_list ks) (list_all (is_filter cols.types) ks) (some-alike ks fs (each-length (find_filter node cols.names) fs ks l) ∙ and-left (is_some_list fs) (list_all is_filter_form fs) h)
          (filters-typed node cols fs ks out.names_are (and-right (is_some_list fs) (list_all is_filter_form fs) h) l m);
      output = out;
      fits = ap not shut;
      closed = λ e. refl;
    }))

record AreKept (names : List Name) (os : List OutputForm) (ks : List Projected) : Type 0 where
  below : all_below (length names) (map (λ (k : Projected). k.column) ks) ≡ true
  count : length ks ≡ length os

pub map-map : {A B C : Type 0} (f : B → C) (g : A → B) (xs : List A) → map f (map g xs) ≡ map (λ x. f (g x)) xs
map-map f g [] = refl
map-map f g (x ∷ xs) = ap (λ ys. f (g x) ∷ ys) (map-map f g xs)

one-kept : (node : ℕ) (names : List Name) (o : OutputForm) → Holds (λ (k : Projected). nat_lt k.column (length names) ≡ true) (find_kept node names o)
unfolding find_kept
one-kept node names o =
    holds_then (IsColumn names o.column) (λ (k : Projected). nat_lt k.column (length names) ≡ true) (λ c. Ok (record { column = c; renamed = is_some o.renamed })) (find_column node names o.column) (column-found node names o.column) (λ c h. h.below)

all-kept : (node : ℕ) (names : List Name) (os : List OutputForm) → Holds (AreKept names os) (find_all_kept node names os)
unfolding find_all_kept
all-kept node names os =
    walk-holds (find_kept node names) (λ o (k : Projected). nat_lt k.column (length names) ≡ true) (AreKept names) (one-kept node names)
    (λ xs ks x k h p.
    let P : List ℕ → Type 0 = λ cs. all_below (length names) cs ≡ true in
    record {
      below = subst P (sym (map_push (λ (k : Projected). k.column) ks k)) (all_push (λ c. nat_lt c (length names)) (map (λ (k : Projected). k.column) ks) k.column h.below p);
      count = length_push ks k ∙ ap (λ n. n + 1) h.count ∙ sym (length_push xs x);
    }) os [] [] (record { below = refl; count = refl })

record IsKeptShape (cols : Columns) (os : List OutputForm) (ks : List Projected) : Type 0 where
  kept : AreKept cols.names os ks
  few : nat_le (length os) 64 ≡ true

kept-holds : (node : ℕ) (cols : Columns) (os : List OutputForm) → Holds (IsKeptShape cols os) (kept_shape node cols os)
unfolding kept_shape
kept-holds node cols os =
    holds_then (AreKept cols.names os) (IsKeptShape cols os) (λ ks. test_distinct node (map output_name os) >>= λ u. test_width node (length os) >>= λ v. Ok ks) (find_all_kept node cols.names os) (all-kept node cols.names os)
    (λ ks h. holds_then (λ (u : ⊤). apart bytes_eq (map output_name os) ≡ true) (IsKeptShape cols os) (λ u. test_width node (length os) >>= λ v. Ok ks) (test_distinct node (map output_name os)) (test_distinct-apart node (map output_name os))
    (λ u a. holds_then (λ (v : ⊤). nat_le (length os) 64 ≡ true) (IsKeptShape cols os) (λ v. Ok ks) (test_width node (length os)) (test_width-holds node (length os)) (λ v n. record { kept = h; few = n })))

kept-output : (cols : Columns) (os : List OutputForm) (ks : List Projected) → IsKeptShape cols os ks → IsOutput (map (type_at cols.types) (map (λ (k : Projected). k.column) ks)) (kept_columns cols os ks)
kept-output cols os ks h =
    let types : List ColType = map (λ (k : Projected). type_at cols.types k.column) ks in
    let e : length types ≡ length os = length-map ks (λ (k : Projected). type_at cols.types k.column) ∙ h.kept.count in
    let P : ℕ → Type 0 = λ n. nat_le n 64 ≡ true in
    record {
      types_are = sym (map-map (type_at cols.types) (λ (k : Projected). k.column) ks);
      names_are = length-map os output_name ∙ sym e;
      few = subst P (sym e) h.few;
    }

kept-below : (cols : Columns) (os : List OutputForm) (ks : List Projected) → length cols.names ≡ length cols.types → is_some_list os ≡ true → IsKeptShape cols os ks
    → (is_some_list (map (λ (k : Projected). k.column) ks) && all_below (length cols.types) (map (λ (k : Projected). k.column) ks)) ≡ true
kept-below cols os ks e h k =
    let P : ℕ → Type 0 = λ n. all_below n (map (λ (k : Projected). k.column) ks) ≡ true in
    and-both (is_some_list (map (λ (k : Projected). k.column) ks)) (all_below (length cols.types) (map (λ (k : Projected). k.column) ks))
    (some-alike (map (λ (k : Projected). k.column) ks) os (length-map ks (λ (k : Projected). k.column) ∙ k.kept.count) ∙ h) (subst P e k.kept.below)

entry-typed : (node : ℕ) (cols : Columns) (f : EntryForm) (k : FoundEntry) → length cols.names ≡ length cols.types → is_entry_form f ≡ true → find_entry node cols.names f ≡ Ok k → is_entry cols.types k.entry ≡ true
unfolding find_entry
entry-typed node cols (form.kept o) k wide h e =
    let t = ok_last (λ (x : Projected). record { entry = plan.copy_of x.column; renamed = x.renamed }) (find_kept node cols.names o) k e in
    let P : FoundEntry → Type 0 = λ k. is_entry cols.types k.entry ≡ true in
    let Q : ℕ → Type 0 = λ n. nat_lt t.0.column n ≡ true in
    subst P t.2 (subst Q wide (holds_at (λ (k : Projected). nat_lt k.column (length cols.names) ≡ true) (find_kept node cols.names o) t.0 (one-kept node cols.names o) t.1))
entry-typed node cols (form.made o n) k wide h e =
    let t = ok_last (λ (x : Expression). record { entry = plan.made_by x; renamed = true }) (find_operand node cols.names o) k e in
    let P : FoundEntry → Type 0 = λ k. is_entry cols.types k.entry ≡ true in
    subst P t.2 (operand-typed node cols o t.0 wide (and-left (is_operand_form o) (is_some_list n) (and-right (is_made o) (is_operand_form o && is_some_list n) h)) t.1)

abbrev entry_in : FoundEntry → Entry
entry_in k = k.entry

entries-typed : (node : ℕ) (cols : Columns) (fs : List EntryForm) (ks : List FoundEntry) → length cols.names ≡ length cols.types → list_all is_entry_form fs ≡ true → Each (find_entry node cols.names) fs ks → list_all (is_entry cols.types) (map entry_in ks) ≡ true
entries-typed node cols [] [] wide h e = refl
entries-typed node cols [] (k ∷ ks) wide h e = absurd e
entries-typed node cols (f ∷ fs) [] wide h e = absurd e
entries-typed node cols (f ∷ fs) (k ∷ ks) wide h e =
    and-both (is_entry cols.types k.entry) (list_all (is_entry cols.types) (map entry_in ks)) (entry-typed node cols f k wide (and-left (is_entry_form f) (list_all is_entry_form fs) h) e.0)
    (entries-typed node cols fs ks wide (and-right (is_entry_form f) (list_all is_entry_form fs) h) e.1)

record IsEntriesShape (node : ℕ) (cols : Columns) (fs : List EntryForm) (ks : List FoundEntry) : Type 0 where
  each : Each (find_entry node cols.names) fs ks
  few : nat_le (length fs) 64 ≡ true

entries-holds : (node : ℕ) (cols : Columns) (fs : List EntryForm) → Holds (IsEntriesShape node cols fs) (entries_shape node cols fs)
unfolding entries_shape find_entries
entries-holds node cols fs =
    holds_then (λ (ks : List FoundEntry). Each (find_entry node cols.names) fs ks) (IsEntriesShape node cols fs) (λ ks. test_distinct node (map entry_name fs) >>= λ u. test_width node (length fs) >>= λ v. Ok ks)
    (walk_onto (find_entry node cols.names) [] fs) (each-holds (find_entry node cols.names) fs)
    (λ ks h. holds_then (λ (u : ⊤). apart bytes_eq (map entry_name fs) ≡ true) (IsEntriesShape node cols fs) (λ u. test_width node (length fs) >>= λ v. Ok ks) (test_distinct node (map entry_name fs)) (test_distinct-apart node (map entry_name fs))
    (λ u a. holds_then (λ (v : ⊤). nat_le (length fs) 64 ≡ true) (IsEntriesShape node cols fs) (λ v. Ok ks) (test_width node (length fs)) (test_width-holds node (length fs)) (λ v n. record { each = h; few = n })))

project-holds : (under : Bool) (p : Plan) (node : ℕ) (cols : Columns) (fs : List EntryForm) → IsOutput cols.types cols → (is_some_list fs && list_all is_entry_form fs) ≡ true → is_open p ≡ false → Holds (IsShape under p cols) (project_shape node cols fs)
unfolding project_shape
project-holds under p node cols fs out h shut =
    holds_then (IsEntriesShape node cols fs) (IsShape under p cols) (λ ks. Ok (record { op = plan.project (map entry_in ks); renamed = map (λ (k : FoundEntry). k.renamed) ks; columns = entry_columns cols fs ks })) (entries_shape node cols fs) (entries-holds node cols fs)
    (λ ks k.
    let types : List ColType = map (λ (k : FoundEntry). entry_type cols.types k.entry) ks in
    let count : length ks ≡ length fs = each-length (find_entry node cols.names) fs ks k.each in
    let wide : length types ≡ length fs = length-map ks (λ (k : FoundEntry). entry_type cols.types k.entry) ∙ count in
    let P : ℕ → Type 0 = λ n. nat_le n 64 ≡ true in
    record {
      op = and-both (is_some_list (map entry_in ks)) (list_all (is_entry cols.types) (map entry_in ks))
          (some-alike (map entry_in ks) fs (length-map ks entry_in ∙ count) ∙ and-left (is_some_list fs) (list_all is_entry_form fs) h)
          (entries-typed node cols fs ks out.names_are (and-right (is_some_list fs) (list_all is_entry_form fs) h) k.each);
      output = record { types_are = sym (map-map (entry_type cols.types) entry_in ks); names_are = length-map fs entry_name ∙ sym wide; few = subst P (sym wide) k.few };
      fits = ap not shut;
      closed = λ e. refl;
    })

distinct-holds : (under : Bool) (p : Plan) (node : ℕ) (cols : Columns) (os : List OutputForm) → IsOutput cols.types cols → is_some_list os ≡ true → is_open p ≡ false → Holds (IsShape under p cols) (distinct_shape node cols os)
unfolding distinct_shape
distinct-holds under p node cols os out h shut =
    holds_then (IsKeptShape cols os) (IsShape under p cols) (λ ks. Ok (record { op = plan.distinct (map (λ (k : Projected). k.column) ks); renamed = map (λ (k : Projected). k.renamed) ks; columns = kept_columns cols os ks })) (kept_shape node cols os) (kept-holds node cols os)
    (λ ks k. record { op = kept-below cols os ks out.names_are h k; output = kept-output cols os ks k; fits = ap not shut; closed = λ e. refl })

sort-holds : (under : Bool) (p : Plan) (of_parts : Bool) (node : ℕ) (cols : Columns) (order : List OrderText) → IsOutput cols.types cols → is_some_list order ≡ true
    → ((o : List OrderEntry) → phase_fits (plan.sort of_parts o) p ≡ true) → ((o : List OrderEntry) → under ≡ false → unary_open (plan.sort of_parts o) (is_open p) ≡ false) → Holds (IsShape under p cols) (sort_shape of_parts node cols order)
unfolding sort_shape
sort-holds under p of_parts node cols order out h fits shut =
    holds_then (IsOrder cols.names order) (IsShape under p cols) (λ o. test_distinct node (order_names order) >>= λ u. Ok (record { op = plan.sort of_parts o; renamed = []; columns = cols })) (find_order node cols.names order) (order-found node cols.names order)
    (λ o f. holds_then (λ (u : ⊤). apart bytes_eq (order_names order) ≡ true) (IsShape under p cols) (λ u. Ok (record { op = plan.sort of_parts o; renamed = []; columns = cols })) (test_distinct node (order_names order)) (test_distinct-apart node (order_names order))
    (λ u a. record {
      op = and-both (is_some_list o) (are_columns (length cols.types) (order_columns o)) (some-alike o order (order-count cols.names order o f) ∙ h)
          (test_distinct-columns cols.names (order_names order) (order_columns o) (length cols.types) out.names_are f.columns a);
      output = out;
      fits = fits o;
      closed = shut o;
    }))

test_phase-holds : (node : ℕ) (fits : Bool) → Holds (λ (u : ⊤). fits ≡ true) (test_phase node fits)
unfolding test_phase
test_phase-holds node true = refl
test_phase-holds node false = tt

-- a partial sort that was found is under a final group, and over a plan that is open
partial_sort-holds : (under : Bool) (t : Outline) (node : ℕ) (cols : Columns) (order : List OrderText) → IsOutput cols.types cols → is_some_list order ≡ true
    → Holds (IsShape under (plan_in t) cols) (partial_sort_shape (under && is_some (parts_of t)) node cols order)
unfolding partial_sort_shape
partial_sort-holds under t node cols order out h =
    holds_then (λ (u : ⊤). (under && is_some (parts_of t)) ≡ true) (IsShape under (plan_in t) cols) (λ u. sort_shape true node cols order) (test_phase node (under && is_some (parts_of t))) (test_phase-holds node (under && is_some (parts_of t)))
    (λ u e. sort-holds under (plan_in t) true node cols order out h (λ ps. sym (parts-found t) ∙ and-right under (is_some (parts_of t)) e)
    (λ ps f. absurd (true≢false (sym (and-left under (is_some (parts_of t)) e) ∙ f))))

record IsGroupFound (cols : Columns) (by : List Name) (aggregates : List AggregateForm) (g : List ℕ × List Aggregate) : Type 0 where
  keys : AreColumns cols.names by g.0
  count : length g.1 ≡ length aggregates

find_group-holds : (node : ℕ) (cols : Columns) (by : List Name) (aggregates : List AggregateForm) → Holds (IsGroupFound cols by aggregates) (find_group node cols.names by aggregates)
unfolding find_group find_aggregates
find_group-holds node cols by aggregates =
    holds_then (AreColumns cols.names by) (IsGroupFound cols by aggregates) (λ bs. walk_onto (λ (a : AggregateForm). find_function node cols.names a.function) [] aggregates >>= λ ks. Ok (bs, ks)) (find_columns node cols.names by) (columns-found node cols.names by)
    (λ bs f. holds_then (λ (ks : List Aggregate). length ks ≡ length aggregates) (IsGroupFound cols by aggregates) (λ ks. Ok (bs, ks)) (walk_onto (λ (a : AggregateForm). find_function node cols.names a.function) [] aggregates)
    (walk-length (λ (a : AggregateForm). find_function node cols.names a.function) aggregates) (λ ks l. record { keys = f; count = l }))

record IsGroupTested (types : List ColType) (names : List Name) (ks : List Aggregate) : Type 0 where
  distinct : apart bytes_eq names ≡ true
  few : nat_le (length names) 64 ≡ true
  typed : list_all (is_aggregate types) ks ≡ true

test_group-holds : (node : ℕ) (types : List ColType) (names : List Name) (ks : List Aggregate) → Holds (λ (u : ⊤). IsGroupTested types names ks) (test_group node types names ks)
unfolding test_group
test_group-holds node types names ks =
    holds_then (λ (u : ⊤). apart bytes_eq names ≡ true) (λ (u : ⊤). IsGroupTested types names ks) (λ u. test_width node (length names) >>= λ v. test_match node (list_all (is_aggregate types) ks)) (test_distinct node names) (test_distinct-apart node names)
    (λ u a. holds_then (λ (u : ⊤). nat_le (length names) 64 ≡ true) (λ (u : ⊤). IsGroupTested types names ks) (λ v. test_match node (list_all (is_aggregate types) ks)) (test_width node (length names)) (test_width-holds node (length names))
    (λ v n. go a n (test_match node (list_all (is_aggregate types) ks)) (test_match-holds node (list_all (is_aggregate types) ks))))
  where
    go : apart bytes_eq names ≡ true → nat_le (length names) 64 ≡ true → (r : Result ⊤ Refusal) → Holds (λ (u : ⊤). list_all (is_aggregate types) ks ≡ true) r → Holds (λ (u : ⊤). IsGroupTested types names ks) r
    go a n (Ok u) m = record { distinct = a; few = n; typed = m }
    go a n (Err e) m = tt

columns-count : (names list : List Name) (cs : List ℕ) → AreColumns names list cs → length cs ≡ length list
columns-count names list cs h = sym (length-map cs (name_of names)) ∙ ap length h.named

group-holds : (under : Bool) (p : Plan) (phase : Phase) (node : ℕ) (cols : Columns) (by : List Name) (aggregates : List AggregateForm) → IsOutput cols.types cols → (is_some_list by || is_some_list aggregates) ≡ true
    → ((bs : List ℕ) (ks : List Aggregate) → phase_fits (plan.group phase bs ks) p ≡ true) → ((bs : List ℕ) (ks : List Aggregate) → under ≡ false → unary_open (plan.group phase bs ks) (is_open p) ≡ false)
    → Holds (IsShape under p cols) (group_shape phase node cols by aggregates)
unfolding group_shape
group-holds under p phase node cols by aggregates out h fits shut =
    holds_then (IsGroupFound cols by aggregates) (IsShape under p cols)
    (λ g. test_group node cols.types (by ++ map (λ (a : AggregateForm). a.name) aggregates) g.1 >>= λ u. Ok (record { op = plan.group phase g.0 g.1; renamed = []; columns = group_columns cols by aggregates g.0 g.1 }))
    (find_group node cols.names by aggregates) (find_group-holds node cols by aggregates)
    (λ g f. holds_then (λ (u : ⊤). IsGroupTested cols.types (by ++ map (λ (a : AggregateForm). a.name) aggregates) g.1) (IsShape under p cols) (λ u. Ok (record { op = plan.group phase g.0 g.1; renamed = []; columns = group_columns cols by aggregates g.0 g.1 }))
    (test_group node cols.types (by ++ map (λ (a : AggregateForm). a.name) aggregates) g.1) (test_group-holds node cols.types (by ++ map (λ (a : AggregateForm). a.name) aggregates) g.1)
    (λ u m.
    let names : List Name = by ++ map (λ (a : AggregateForm). a.name) aggregates in
    let types : List ColType = map (type_at cols.types) g.0 ++ map (aggregate_type cols.types) g.1 in
    let keys : length g.0 ≡ length by = columns-count cols.names by g.0 f.keys in
    let wide : length names ≡ length types =
    length-append by (map (λ (a : AggregateForm). a.name) aggregates) ∙ ap (λ n. length by + n) (length-map aggregates (λ (a : AggregateForm). a.name))
    ∙ ap (λ n. n + length aggregates) (sym keys) ∙ ap (λ n. length g.0 + n) (sym f.count)
    ∙ sym (length-append (map (type_at cols.types) g.0) (map (aggregate_type cols.types) g.1) ∙ ap (λ n. n + length (map (aggregate_type cols.types) g.1)) (length-map g.0 (type_at cols.types)) ∙ ap (λ n. length g.0 + n) (length-map g.1 (aggregate_type cols.types))) in
    let P : ℕ → Type 0 = λ n. nat_le n 64 ≡ true in
    record {
      op = and-both (is_some_list g.0 || is_some_list g.1) (are_columns (length cols.types) g.0 && list_all (is_aggregate cols.types) g.1)
          (ap (λ b. b || is_some_list g.1) (some-alike g.0 by keys) ∙ ap (λ b. is_some_list by || b) (some-alike g.1 aggregates f.count) ∙ h)
          (and-both (are_columns (length cols.types) g.0) (list_all (is_aggregate cols.types) g.1)
          (test_distinct-columns cols.names by g.0 (length cols.types) out.names_are f.keys (apart-prefix bytes_eq by (map (λ (a : AggregateForm). a.name) aggregates) m.distinct)) m.typed);
      output = record { types_are = refl; names_are = wide; few = subst P wide m.few };
      fits = fits g.0 g.1;
      closed = shut g.0 g.1;
    }))

partial-holds : (under : Bool) (p : Plan) (node : ℕ) (cols : Columns) (by : List Name) (aggregates : List AggregateForm) → IsOutput cols.types cols → (is_some_list by || is_some_list aggregates) ≡ true → is_open p ≡ false
    → Holds (IsShape under p cols) (partial_shape under node cols by aggregates)
unfolding partial_shape
partial-holds under p node cols by aggregates out h shut =
    holds_then (λ (u : ⊤). under ≡ true) (IsShape under p cols) (λ u. group_shape plan.partial node cols by aggregates) (test_phase node under) (test_phase-holds node under)
    (λ u e. group-holds under p plan.partial node cols by aggregates out h (λ bs ks. ap not shut) (λ bs ks f. absurd (true≢false (sym e ∙ f))))

final-holds : (under : Bool) (s : Names) (node : ℕ) (t : Outline) (parts : Option (List ℕ × List Aggregate)) → parts_of t ≡ parts → IsOutput (types_of (relation_at s.catalog) (plan_in t)) (columns t) → typed (scope_of s) (plan_in t) ≡ true
    → Holds (IsShape under (plan_in t) (columns t)) (final_shape node t parts)
unfolding final_shape
final-holds under s node t None e out h = tt
final-holds under s node t (Some g) e out h =
    let op : Unary = plan.group plan.final (first_columns (length g.0)) (merged (length g.0) g.1) in
    holds_then (λ (u : ⊤). sorts_before (length g.0) t ≡ true) (IsShape under (plan_in t) (columns t)) (λ u. Ok (record { op = op; renamed = []; columns = columns t }))
    (test_phase node (sorts_before (length g.0) t)) (test_phase-holds node (sorts_before (length g.0) t))
    (λ u b.
    let opened = parts-open t g e b in
    let U : List ColType → Type 0 = λ ts. is_unary ts op ≡ true in
    let T : List ColType → Type 0 = λ ts. ts ≡ unary_types op ts in
    record {
      op = subst U (sym out.types_are) (final-unary s t g e h);
      output = record { types_are = subst T (sym out.types_are) (sym (final-types (relation_at s.catalog) (first_columns (length g.0)) (merged (length g.0) g.1) (plan_in t) opened)); names_are = out.names_are; few = out.few };
      fits = opened;
      closed = λ f. refl;
    })

-- of an operator that does not hand down that it is under a final group the input is closed
pub shape-holds : (under : Bool) (s : Names) (node : ℕ) (t : Outline) (op : UnaryForm) → IsOutput (types_of (relation_at s.catalog) (plan_in t)) (columns t) → typed (scope_of s) (plan_in t) ≡ true → is_unary_form op ≡ true
    → (under_final under op ≡ false → is_open (plan_in t) ≡ false) → Holds (IsShape under (plan_in t) (columns t)) (unary_shape under node t op)
unfolding unary_shape limit_shape
shape-holds under s node t (form.select fs) out typed h shut = select-holds under (plan_in t) node (columns t) fs (own-output out) h (shut refl)
shape-holds under s node t (form.project fs) out typed h shut = project-holds under (plan_in t) node (columns t) fs (own-output out) h (shut refl)
shape-holds under s node t (form.distinct os) out typed h shut = distinct-holds under (plan_in t) node (columns t) os (own-output out) (and-left (is_some_list os) (list_all is_output_form os) h) (shut refl)
shape-holds under s node t (form.sort order) out typed h shut =
    sort-holds under (plan_in t) false node (columns t) order (own-output out) (and-left (is_some_list order) (is_order order) h) (λ ps. ap not (shut refl)) (λ ps e. refl)
shape-holds under s node t (form.partial_sort order) out typed h shut = partial_sort-holds under t node (columns t) order (own-output out) (and-left (is_some_list order) (is_order order) h)
shape-holds under s node t (form.group by aggregates) out typed h shut =
    group-holds under (plan_in t) plan.plain node (columns t) by aggregates (own-output out) (and-left (is_some_list by || is_some_list aggregates) (are_names by && list_all is_aggregate_form aggregates) h)
    (λ bs ks. ap not (shut refl)) (λ bs ks e. refl)
shape-holds under s node t (form.partial_group by aggregates) out typed h shut =
    partial-holds under (plan_in t) node (columns t) by aggregates (own-output out) (and-left (is_some_list by || is_some_list aggregates) (are_names by && list_all is_aggregate_form aggregates) h) (shut refl)
shape-holds under s node t form.final_group out typed h shut = final-holds under s node t (parts_of t) refl out typed
shape-holds under s node t (form.limit rows) out typed h shut = record { op = refl; output = own-output out; fits = ap not (shut refl); closed = λ e. refl }

-- ---- two inputs

pub record IsJoint (l r : Columns) (o : Joint) : Type 0 where
  pub op : is_binary l.types r.types o.op ≡ true
  pub output : IsOutput (binary_types o.op l.types r.types) o.columns

record ArePairs (l r : Columns) (on : List (Name × Name)) (ps : List (ℕ × ℕ)) : Type 0 where
  named : map (λ (p : ℕ × ℕ). (name_of l.names p.0, name_of r.names p.1)) ps ≡ on
  count : length ps ≡ length on

one-pair : (node : ℕ) (ls rs : List Name) (p : Name × Name) → Holds (λ (q : ℕ × ℕ). (name_of ls q.0, name_of rs q.1) ≡ p) (find_pair node ls rs p)
unfolding find_pair
one-pair node ls rs p =
    holds_then (IsColumn ls p.0) (λ (q : ℕ × ℕ). (name_of ls q.0, name_of rs q.1) ≡ p) (λ l. find_column node rs p.1 >>= λ r. Ok (l, r)) (find_column node ls p.0) (column-found node ls p.0)
    (λ l h. holds_then (IsColumn rs p.1) (λ (q : ℕ × ℕ). (name_of ls q.0, name_of rs q.1) ≡ p) (λ r. Ok (l, r)) (find_column node rs p.1) (column-found node rs p.1)
    (λ r k. ap (λ n. (n, name_of rs r)) h.named ∙ ap (λ n. (p.0, n)) k.named))

all-pairs : (node : ℕ) (l r : Columns) (on : List (Name × Name)) → Holds (ArePairs l r on) (find_pairs node l.names r.names on)
unfolding find_pairs
all-pairs node l r on =
    walk-holds (find_pair node l.names r.names) (λ p (q : ℕ × ℕ). (name_of l.names q.0, name_of r.names q.1) ≡ p) (ArePairs l r) (one-pair node l.names r.names)
    (λ xs ps x p h e. record {
      named = map_push (λ (p : ℕ × ℕ). (name_of l.names p.0, name_of r.names p.1)) ps p ∙ ap (λ zs. zs ++ (name_of l.names p.0, name_of r.names p.1) ∷ []) h.named ∙ ap (λ q. xs ++ q ∷ []) e;
      count = length_push ps p ∙ ap (λ n. n + 1) h.count ∙ sym (length_push xs x);
    }) on [] [] (record { named = refl; count = refl })

record IsJoinTested (names : List Name) (on : List (Name × Name)) : Type 0 where
  pairs : apart pair_eq on ≡ true
  few : nat_le (length names) 64 ≡ true

test_join-holds : (node : ℕ) (names : List Name) (on : List (Name × Name)) → Holds (λ (u : ⊤). IsJoinTested names on) (test_join node names on)
unfolding test_join
test_join-holds node names on =
    holds_then (λ (u : ⊤). apart bytes_eq names ≡ true) (λ (u : ⊤). IsJoinTested names on) (λ u. test_distinct_pairs node on >>= λ v. test_width node (length names)) (test_distinct node names) (test_distinct-apart node names)
    (λ u a. holds_then (λ (u : ⊤). apart pair_eq on ≡ true) (λ (u : ⊤). IsJoinTested names on) (λ v. test_width node (length names)) (test_distinct_pairs node on) (test_distinct_pairs-apart node on)
    (λ v p. go p (test_width node (length names)) (test_width-holds node (length names))))
  where
    go : apart pair_eq on ≡ true → (r : Result ⊤ Refusal) → Holds (λ (u : ⊤). nat_le (length names) 64 ≡ true) r → Holds (λ (u : ⊤). IsJoinTested names on) r
    go p (Ok u) n = record { pairs = p; few = n }
    go p (Err e) n = tt

record IsJoined (l r : Columns) (on : List (Name × Name)) (ps : List (ℕ × ℕ)) : Type 0 where
  found : ArePairs l r on ps
  tested : IsJoinTested (l.names ++ r.names) on
  typed : list_all (is_pair l.types r.types) ps ≡ true

join-holds : (node : ℕ) (l r : Columns) (on : List (Name × Name)) → Holds (IsJoined l r on) (join_pairs node l r on)
unfolding join_pairs
join-holds node l r on =
    holds_then (ArePairs l r on) (IsJoined l r on) (λ ps. test_join node (l.names ++ r.names) on >>= λ u. test_match node (list_all (is_pair l.types r.types) ps) >>= λ v. Ok ps) (find_pairs node l.names r.names on) (all-pairs node l r on)
    (λ ps f. holds_then (λ (u : ⊤). IsJoinTested (l.names ++ r.names) on) (IsJoined l r on) (λ u. test_match node (list_all (is_pair l.types r.types) ps) >>= λ v. Ok ps) (test_join node (l.names ++ r.names) on) (test_join-holds node (l.names ++ r.names) on)
    (λ u t. holds_then (λ (v : ⊤). list_all (is_pair l.types r.types) ps ≡ true) (IsJoined l r on) (λ v. Ok ps) (test_match node (list_all (is_pair l.types r.types) ps)) (test_match-holds node (list_all (is_pair l.types r.types) ps))
    (λ v m. record { found = f; tested = t; typed = m })))

-- the pairs of a semi or an anti join that were found
find_matches-holds : (node : ℕ) (l r : Columns) (on : List (Name × Name)) (cs : List ConditionForm) → Holds (λ (g : List (ℕ × ℕ) × List Condition). ArePairs l r on g.0) (find_matches node l r on cs)
unfolding find_matches
find_matches-holds node l r on cs =
    holds_then (ArePairs l r on) (λ (g : List (ℕ × ℕ) × List Condition). ArePairs l r on g.0) (λ ps. find_conditions node (l.names ++ r.names) cs >>= λ ks. Ok (ps, ks)) (find_pairs node l.names r.names on) (all-pairs node l r on)
    (λ ps f. go ps f (find_conditions node (l.names ++ r.names) cs))
  where
    go : (ps : List (ℕ × ℕ)) → ArePairs l r on ps → (k : Result (List Condition) Refusal) → Holds (λ (g : List (ℕ × ℕ) × List Condition). ArePairs l r on g.0) (k >>= λ ks. Ok (ps, ks))
    go ps f (Ok ks) = f
    go ps f (Err e) = tt

abbrev are_typed_matches : Columns → Columns → List (ℕ × ℕ) × List Condition → Bool
are_typed_matches l r g = list_all (is_pair l.types r.types) g.0 && list_all (is_condition (l.types ++ r.types)) g.1

record IsMatched (l r : Columns) (on : List (Name × Name)) (g : List (ℕ × ℕ) × List Condition) : Type 0 where
  found : ArePairs l r on g.0
  once : apart pair_eq on ≡ true
  typed : are_typed_matches l r g ≡ true

matches-holds : (node : ℕ) (l r : Columns) (on : List (Name × Name)) (cs : List ConditionForm) → Holds (IsMatched l r on) (join_matches node l r on cs)
unfolding join_matches
matches-holds node l r on cs =
    holds_then (λ (g : List (ℕ × ℕ) × List Condition). ArePairs l r on g.0) (IsMatched l r on) (λ g. test_distinct_pairs node on >>= λ u. test_match node (are_typed_matches l r g) >>= λ v. Ok g) (find_matches node l r on cs) (find_matches-holds node l r on cs)
    (λ g f. holds_then (λ (u : ⊤). apart pair_eq on ≡ true) (IsMatched l r on) (λ u. test_match node (are_typed_matches l r g) >>= λ v. Ok g) (test_distinct_pairs node on) (test_distinct_pairs-apart node on)
    (λ u p. holds_then (λ (v : ⊤). are_typed_matches l r g ≡ true) (IsMatched l r on) (λ v. Ok g) (test_match node (are_typed_matches l r g)) (test_match-holds node (are_typed_matches l r g))
    (λ v m. record { found = f; once = p; typed = m })))

-- pairs that were found are distinct
pairs-distinct : (l r : Columns) (on : List (Name × Name)) (ps : List (ℕ × ℕ)) → ArePairs l r on ps → apart pair_eq on ≡ true → are_distinct_pairs ps ≡ true
pairs-distinct l r on ps f h =
    let Q : List (Name × Name) → Type 0 = λ zs. apart pair_eq zs ≡ true in
    distinct-pairs (name_of l.names) (name_of r.names) ps (subst Q (sym f.named) h)

-- a merge join has a direction for each pair
directed : (merging : Bool) (ps : List (ℕ × ℕ)) → has_directions (method_of merging ps) ps ≡ true
directed false ps = refl
directed true ps = eq-eqb (length (map (λ (p : ℕ × ℕ). false) ps)) (length ps) (length-map ps (λ (p : ℕ × ℕ). false))

pub joint-holds : (node : ℕ) (l r : Columns) (op : BinaryForm) → IsOutput l.types l → IsOutput r.types r → is_binary_form op ≡ true → Holds (IsJoint l r) (binary_shape node l r op)
unfolding binary_shape
joint-holds node l r form.union lo ro h =
    holds_then (λ (u : ⊤). types_eq l.types r.types ≡ true) (IsJoint l r) (λ u. Ok (record { op = plan.union; columns = l })) (test_match node (types_eq l.types r.types)) (test_match-holds node (types_eq l.types r.types)) (λ u m. record { op = m; output = lo })
joint-holds node l r (form.join merging on) lo ro h =
    holds_then (IsJoined l r on) (IsJoint l r) (λ ps. Ok (record { op = plan.join (method_of merging ps) ps; columns = both_columns l r })) (join_pairs node l r on) (join-holds node l r on)
    (λ ps j.
    let wide : length (l.names ++ r.names) ≡ length (l.types ++ r.types) =
    length-append l.names r.names ∙ ap (λ n. n + length r.names) lo.names_are ∙ ap (λ n. length l.types + n) ro.names_are ∙ sym (length-append l.types r.types) in
    let P : ℕ → Type 0 = λ n. nat_le n 64 ≡ true in
    record {
      op = and-both (is_some_list ps) (list_all (is_pair l.types r.types) ps && (are_distinct_pairs ps && has_directions (method_of merging ps) ps))
          (some-alike ps on j.found.count ∙ and-left (is_some_list on) (list_all is_pair_form on) h)
          (and-both (list_all (is_pair l.types r.types) ps) (are_distinct_pairs ps && has_directions (method_of merging ps) ps) j.typed
          (and-both (are_distinct_pairs ps) (has_directions (method_of merging ps) ps) (pairs-distinct l r on ps j.found j.tested.pairs) (directed merging ps)));
      output = record { types_are = refl; names_are = wide; few = subst P wide j.tested.few };
    })
joint-holds node l r (form.semi_join matched on cs) lo ro h =
    holds_then (IsMatched l r on) (IsJoint l r) (λ g. Ok (record { op = plan.semi_join matched g.0 g.1; columns = l })) (join_matches node l r on cs) (matches-holds node l r on cs)
    (λ g j.
    let pairs : Bool = list_all (is_pair l.types r.types) g.0 in
    let fits : Bool = list_all (is_condition (l.types ++ r.types)) g.1 in
    let some : Bool = is_some_list on && list_all is_pair_form on in
    record {
      op = and-both (is_some_list g.0) (pairs && (are_distinct_pairs g.0 && fits))
          (some-alike g.0 on j.found.count ∙ and-left (is_some_list on) (list_all is_pair_form on) (and-left some (list_all is_condition_form cs) h))
          (and-both pairs (are_distinct_pairs g.0 && fits) (and-left pairs fits j.typed) (and-both (are_distinct_pairs g.0) fits (pairs-distinct l r on g.0 j.found j.once) (and-right pairs fits j.typed)));
      output = lo;
    })

-- ---- exchanges

-- a found kind is typed, where its columns stand once and have its type, and merges by an order where its form does
record IsKind (s : Names) (types : List ColType) (form : KindForm) (k : ExchangeKind) : Type 0 where
  sends : apart bytes_eq (kind_names form) ≡ true → kind_fits s types k ≡ true → is_kind (scope_of s) types k ≡ true
  merges : (order : List OrderText) (o : List OrderEntry) → is_merge_form form order ≡ true → length o ≡ length order → may_merge k o ≡ true

kind-holds : (s : Names) (node : ℕ) (cols : Columns) (kind : KindForm) → IsOutput cols.types cols → is_kind_form kind ≡ true → Holds (IsKind s cols.types kind) (find_kind s node cols.names kind)
unfolding find_kind
kind-holds s node cols (form.hash size route names) out h =
    let rest = and-right (is_some_list size) (is_some_list route && are_some_names names) h in
    holds_then (λ z. is_size (length s.sizes) z ≡ true) (IsKind s cols.types (form.hash size route names)) (λ z. find_columns node cols.names names >>= λ ps. Ok (route_to z (by_hash route) ps)) (find_size s size) (size-holds s size)
    (λ z hz. holds_then (AreColumns cols.names names) (IsKind s cols.types (form.hash size route names)) (λ ps. Ok (route_to z (by_hash route) ps)) (find_columns node cols.names names) (columns-found node cols.names names)
    (λ ps f. record {
      sends = λ a m. and-both (is_size (length s.sizes) z) (is_routed (scope_of s) cols.types (by_hash route) ps) hz
          (hash-routed s cols.names cols.types route names ps out.names_are (and-left (is_some_list route) (are_some_names names) rest) (and-right (is_some_list route) (are_some_names names) rest) f a);
      merges = λ ns ms g e. refl;
    }))
kind-holds s node cols (form.range size range col) out h =
    holds_then (λ z. is_size (length s.sizes) z ≡ true) (IsKind s cols.types (form.range size range col)) (λ z. find_range s node range >>= λ k. find_column node cols.names col >>= λ p. Ok (route_to z (by_range k) (p ∷ []))) (find_size s size) (size-holds s size)
    (λ z hz. holds_then (λ k. nat_lt k (length s.ranges) ≡ true) (IsKind s cols.types (form.range size range col)) (λ k. find_column node cols.names col >>= λ p. Ok (route_to z (by_range k) (p ∷ []))) (find_range s node range) (range-holds s node range)
    (λ k hk. holds_then (IsColumn cols.names col) (IsKind s cols.types (form.range size range col)) (λ p. Ok (route_to z (by_range k) (p ∷ []))) (find_column node cols.names col) (column-found node cols.names col)
    (λ p c. record {
      sends = λ a m. and-both (is_size (length s.sizes) z) (is_routed (scope_of s) cols.types (by_range k) (p ∷ [])) hz (range-routed s cols.names cols.types k p out.names_are hk c.below m);
      merges = λ ns ms g e. refl;
    })))
kind-holds s node cols (form.round size) out h =
    holds_then (λ z. is_size (length s.sizes) z ≡ true) (IsKind s cols.types (form.round size)) (λ z. Ok (plan.round z)) (find_size s size) (size-holds s size) (λ z hz. record { sends = λ a m. hz; merges = λ ns ms g e. refl })
kind-holds s node cols (form.broadcast size) out h =
    holds_then (λ z. is_size (length s.sizes) z ≡ true) (IsKind s cols.types (form.broadcast size)) (λ z. Ok (plan.broadcast z)) (find_size s size) (size-holds s size) (λ z hz. record { sends = λ a m. hz; merges = λ ns ms g e. refl })
kind-holds s node cols form.gather out h = record { sends = λ a m. refl; merges = λ ns ms g e. refl }
kind-holds s node cols form.concat out h = record { sends = λ a m. refl; merges = none-merged }
  where
    none-merged : (order : List OrderText) (o : List OrderEntry) → is_merge_form form.concat order ≡ true → length o ≡ length order → may_merge plan.concat o ≡ true
    none-merged [] [] g e = refl
    none-merged [] (c ∷ cs) g e = cc
    none-merged (n ∷ ns) cs g e = cc

record IsExchangeFound (s : Names) (cols : Columns) (kind : KindForm) (merge : List OrderText) (x : ExchangeKind × List OrderEntry) : Type 0 where
  sends : IsKind s cols.types kind x.0
  merges : IsOrder cols.names merge x.1

exchange_columns-holds : (s : Names) (node : ℕ) (cols : Columns) (kind : KindForm) (merge : List OrderText) → IsOutput cols.types cols → is_kind_form kind ≡ true → Holds (IsExchangeFound s cols kind merge) (exchange_columns s node cols.names kind merge)
unfolding exchange_columns
exchange_columns-holds s node cols kind merge out h =
    holds_then (IsKind s cols.types kind) (IsExchangeFound s cols kind merge) (λ k. find_order node cols.names merge >>= λ ms. Ok (k, ms)) (find_kind s node cols.names kind) (kind-holds s node cols kind out h)
    (λ k hk. holds_then (IsOrder cols.names merge) (IsExchangeFound s cols kind merge) (λ ms. Ok (k, ms)) (find_order node cols.names merge) (order-found node cols.names merge) (λ ms f. record { sends = hk; merges = f }))

record IsExchangeOnce (kind : KindForm) (merge : List OrderText) : Type 0 where
  sends : apart bytes_eq (kind_names kind) ≡ true
  merges : apart bytes_eq (order_names merge) ≡ true

test_exchange-holds : (node : ℕ) (kind : KindForm) (merge : List OrderText) → Holds (λ (u : ⊤). IsExchangeOnce kind merge) (test_exchange node kind merge)
unfolding test_exchange
test_exchange-holds node kind merge =
    holds_then (λ (u : ⊤). apart bytes_eq (kind_names kind) ≡ true) (λ (u : ⊤). IsExchangeOnce kind merge) (λ u. test_distinct node (order_names merge)) (test_distinct node (kind_names kind)) (test_distinct-apart node (kind_names kind)) (λ u k. go k (test_distinct node (order_names merge)) (test_distinct-apart node (order_names merge)))
  where
    go : apart bytes_eq (kind_names kind) ≡ true → (r : Result ⊤ Refusal) → Holds (λ (u : ⊤). apart bytes_eq (order_names merge) ≡ true) r → Holds (λ (u : ⊤). IsExchangeOnce kind merge) r
    go k (Ok u) m = record { sends = k; merges = m }
    go k (Err e) m = tt

pub record IsExchange (s : Names) (types : List ColType) (x : ExchangeKind × List OrderEntry) : Type 0 where
  pub kind : is_kind (scope_of s) types x.0 ≡ true
  pub merge : are_columns (length types) (order_columns x.1) ≡ true
  pub may : may_merge x.0 x.1 ≡ true

pub exchange-holds : (s : Names) (node : ℕ) (cols : Columns) (kind : KindForm) (merge : List OrderText) → IsOutput cols.types cols → is_kind_form kind ≡ true → is_merge_form kind merge ≡ true → Holds (IsExchange s cols.types) (exchange_shape s node cols kind merge)
unfolding exchange_shape
exchange-holds s node cols kind merge out h g =
    holds_then (IsExchangeFound s cols kind merge) (IsExchange s cols.types) (λ x. test_exchange node kind merge >>= λ u. test_match node (kind_fits s cols.types x.0) >>= λ v. Ok x) (exchange_columns s node cols.names kind merge) (exchange_columns-holds s node cols kind merge out h)
    (λ x f. holds_then (λ (u : ⊤). IsExchangeOnce kind merge) (IsExchange s cols.types) (λ u. test_match node (kind_fits s cols.types x.0) >>= λ v. Ok x) (test_exchange node kind merge) (test_exchange-holds node kind merge)
    (λ u o. holds_then (λ (v : ⊤). kind_fits s cols.types x.0 ≡ true) (IsExchange s cols.types) (λ v. Ok x) (test_match node (kind_fits s cols.types x.0)) (test_match-holds node (kind_fits s cols.types x.0))
    (λ v m. record { kind = f.sends.sends o.sends m; merge = test_distinct-columns cols.names (order_names merge) (order_columns x.1) (length cols.types) out.names_are f.merges.columns o.merges; may = f.sends.merges merge x.1 g (order-count cols.names merge x.1 f.merges) })))
