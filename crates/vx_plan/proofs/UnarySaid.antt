-- An operator over one input that was found says the names that were asked for, and names its output.
use Rattle.std.proofs.Common.{◌≡◌, ℕ, List, [], ◌∷◌, ◌++◌, Bool, true, false, ◌&&◌, ◌||◌, Option, Some, None, is_some, Result, Ok, map, length, take, drop, bytes_eq, refl, sym, ap, ◌∙◌, subst}
use Rattle.std.specs.Prelude.{⊤, if◌then◌else◌}
use Rattle.std.specs.List.{list_all}
use Rattle.std.proofs.lemmas.List.{length-map, take_at, drop_at}
use Rattle.std.proofs.lemmas.Slice.Eq.{bytes_eq-Decides}
use Rattle.vx_catalog_json.specs.Look.{OrderText}
use Rattle.vx_rows_values.specs.Values.{Name}
use Rattle.vx_rows_values.proofs.Booleans.{and-both}
use Rattle.vx_catalog_relations.specs.Catalog.{are_distinct_names}
use Rattle.vx_catalog_relations.specs.Naming.{name_at}
use Rattle.vx_plan_nodes.specs.declared.typed.Projected.{Projected}
use Rattle.vx_plan_nodes.specs.Plan.{Side, Condition, Expression, Filter, Entry, Aggregate, Phase}
use Rattle.vx_plan_nodes.specs.Plan as plan
use Rattle.vx_plan_nodes.specs.Phases.{first_columns, merged}
use Rattle.vx_plan_nodes.specs.Outline.{Columns, Outline, columns}
use Rattle.vx_plan_json.specs.Document.{SideForm, ConditionForm, FilterForm, OutputForm, EntryForm, FunctionForm, AggregateForm, UnaryForm}
use Rattle.vx_plan_json.specs.Document as form
use Rattle.vx_plan_json.specs.Fault.{Refusal}
use Rattle.vx_plan_json.proofs.Holds.{holds_at}
use Rattle.vx_plan.specs.Lookup.{walk_onto, find_column, find_columns, order_names, find_order, test_distinct, test_match, test_width}
use Rattle.vx_plan.specs.Resolve.{Shape, find_side, find_condition, find_operand, find_filter, find_filters, filter_fits, FoundEntry, entry_name, find_entry, find_entries, entries_shape, entry_columns, select_shape, output_name, find_kept, find_all_kept, kept_shape, kept_columns, project_shape, distinct_shape, sort_shape, partial_sort_shape, limit_shape, find_function, find_aggregates, find_group, test_group, group_columns, group_shape, test_phase, partial_shape, parts_of, sorts_before, final_shape, unary_shape}
use Rattle.vx_plan.specs.ByName.{names_at, side_by_name, condition_by_name, filter_by_name, entry_by_name, entries_by_name, kept_by_name, function_by_name, aggregates_by_name, unary_by_name, column_names}
use Rattle.vx_plan.specs.Exact.{FilterFunctions, FiltersFunctions, IsEntryNamed, AreEntries, are_kept, UnaryNames}
use Rattle.vx_plan.proofs.Apart.{apart, test_distinct-apart}
use Rattle.vx_plan.proofs.Each.{ok_then, ok_last, Each, each-walked}
use Rattle.vx_plan.proofs.Computed.{operand-said}
use Rattle.vx_plan.proofs.Passed.{apart-distinct}
use Rattle.vx_plan.proofs.Looked.{column-said, columns-said}
use Rattle.vx_plan.proofs.OrderFacts.{order-said}

-- over columns of these names
pub record IsSaid (names : List Name) (f : UnaryForm) (o : Shape) : Type 0 where
  pub says : unary_by_name names o.columns.names o.op o.renamed ≡ f
  pub named : UnaryNames o.op o.renamed names o.columns.names
  pub distinct : are_distinct_names o.columns.names ≡ true

pub test_distinct-distinct : (node : ℕ) (names : List Name) (u : ⊤) → test_distinct node names ≡ Ok u → are_distinct_names names ≡ true
test_distinct-distinct node names u h = apart-distinct names (holds_at (λ (u : ⊤). apart bytes_eq names ≡ true) (test_distinct node names) u (test_distinct-apart node names) h)

-- ---- selections

side-said : (node : ℕ) (names : List Name) (f : SideForm) (x : Side) → find_side node names f ≡ Ok x → side_by_name names x ≡ f
unfolding find_side
side-said node names (form.column name) x h =
    let t = ok_last (λ (c : ℕ). plan.column c) (find_column node names name) x h in
    rw (← t.2) (ap (λ n. form.column n) (column-said node names name t.0 t.1).named)
side-said node names (form.constant v) x h = let e : plan.constant v ≡ x = cc in rw (← e) refl

pub condition-said : (node : ℕ) (names : List Name) (f : ConditionForm) (c : Condition) → find_condition node names f ≡ Ok c → condition_by_name names c ≡ f
unfolding find_condition
condition-said node names f c h =
    let t = ok_then _ (find_column node names f.left) c h in
    let u = ok_last (λ (r : Side). record { left = t.0; test = f.test; right = r }) (find_side node names f.right) c t.2 in
    rw (← u.2) (rw ((column-said node names f.left t.0 t.1).named, side-said node names f.right u.0 u.1) refl)

record IsFilterSaid (names : List Name) (f : FilterForm) (k : Filter) : Type 0 where
  says : filter_by_name names k ≡ f
  own : FilterFunctions k

filter-said : (node : ℕ) (names : List Name) (f : FilterForm) (k : Filter) → find_filter node names f ≡ Ok k → IsFilterSaid names f k
unfolding find_filter
filter-said node names (form.compared c) k h =
    let t = ok_last (λ (x : Condition). plan.comparing x) (find_condition node names c) k h in
    let P : Filter → Type 0 = λ k. IsFilterSaid names (form.compared c) k in
    subst P t.2 (record { says = ap (λ c. form.compared c) (condition-said node names c t.0 t.1); own = tt })
filter-said node names (form.computed o) k h =
    let t = ok_last (λ (e : Expression). plan.computing e) (find_operand node names o) k h in
    let said = operand-said node names o t.0 t.1 in
    let P : Filter → Type 0 = λ k. IsFilterSaid names (form.computed o) k in
    subst P t.2 (record { says = ap (λ o. form.computed o) said.says; own = said.own })

record AreFiltersSaid (names : List Name) (fs : List FilterForm) (ks : List Filter) : Type 0 where
  says : map (filter_by_name names) ks ≡ fs
  own : FiltersFunctions ks

filters-said : (node : ℕ) (names : List Name) (fs : List FilterForm) (ks : List Filter) → Each (find_filter node names) fs ks → AreFiltersSaid names fs ks
filters-said node names [] [] h = record { says = refl; own = tt }
filters-said node names [] (k ∷ ks) h = absurd h
filters-said node names (f ∷ fs) [] h = absurd h
filters-said node names (f ∷ fs) (k ∷ ks) h =
    let one = filter-said node names f k h.0 in
    let rest = filters-said node names fs ks h.1 in
    record { says = λ i. one.says i ∷ rest.says i; own = (one.own, rest.own) }

select-said : (node : ℕ) (cols : Columns) (fs : List FilterForm) (o : Shape) → are_distinct_names cols.names ≡ true → select_shape node cols fs ≡ Ok o → IsSaid cols.names (form.select fs) o
unfolding select_shape find_filters
select-said node cols fs o d h =
    let t = ok_then _ (walk_onto (find_filter node cols.names) [] fs) o h in
    let u = ok_last (λ (w : ⊤). record { op = plan.select t.0; renamed = []; columns = cols }) (test_match node (list_all (filter_fits cols.types) t.0)) o t.2 in
    let said = filters-said node cols.names fs t.0 (each-walked (find_filter node cols.names) fs t.0 t.1) in
    let P : Shape → Type 0 = λ o. IsSaid cols.names (form.select fs) o in
    subst P u.2 (record { says = ap (λ l. form.select l) said.says; named = (refl, refl, said.own); distinct = d })

-- ---- kept columns

abbrev column_of : Projected → ℕ
column_of k = k.column

abbrev renamed_of : Projected → Bool
renamed_of k = k.renamed

record AreKeptSaid (names : List Name) (os : List OutputForm) (ks : List Projected) : Type 0 where
  says : kept_by_name names (map column_of ks) (map renamed_of ks) (map output_name os) ≡ os
  named : are_kept names (map column_of ks) (map renamed_of ks) (map output_name os) ≡ true

record IsKeptSaid (names : List Name) (o : OutputForm) (k : Projected) : Type 0 where
  says : record { column = name_at names k.column; renamed = if k.renamed then Some (output_name o) else None } ≡ o
  named : (k.renamed || bytes_eq (output_name o) (name_at names k.column)) ≡ true

kept-said : (node : ℕ) (names : List Name) (o : OutputForm) (k : Projected) → find_kept node names o ≡ Ok k → IsKeptSaid names o k
unfolding find_kept
kept-said node names o k h =
    let t = ok_last (λ (c : ℕ). record { column = c; renamed = is_some o.renamed }) (find_column node names o.column) k h in
    let P : Projected → Type 0 = λ k. IsKeptSaid names o k in
    subst P t.2 (go t.0 o.column o.renamed (column-said node names o.column t.0 t.1).named)
  where
    go : (c : ℕ) (column : Name) (renamed : Option Name) → name_at names c ≡ column → IsKeptSaid names (record { column = column; renamed = renamed }) (record { column = c; renamed = is_some renamed })
    go c column None e = record { says = rw e refl; named = (bytes_eq-Decides column (name_at names c)).1 (sym e) }
    go c column (Some new) e = record { says = rw e refl; named = refl }

all-kept-said : (node : ℕ) (names : List Name) (os : List OutputForm) (ks : List Projected) → Each (find_kept node names) os ks → AreKeptSaid names os ks
all-kept-said node names [] [] h = record { says = refl; named = refl }
all-kept-said node names [] (k ∷ ks) h = absurd h
all-kept-said node names (o ∷ os) [] h = absurd h
all-kept-said node names (o ∷ os) (k ∷ ks) h =
    let one = kept-said node names o k h.0 in
    let rest = all-kept-said node names os ks h.1 in
    record {
      says = ap (λ f. f ∷ kept_by_name names (map column_of ks) (map renamed_of ks) (map output_name os)) one.says ∙ ap (λ fs. o ∷ fs) rest.says;
      named = and-both (k.renamed || bytes_eq (output_name o) (name_at names k.column)) (are_kept names (map column_of ks) (map renamed_of ks) (map output_name os)) one.named rest.named;
    }

record IsKeptShape (names : List Name) (os : List OutputForm) (ks : List Projected) : Type 0 where
  kept : AreKeptSaid names os ks
  distinct : are_distinct_names (map output_name os) ≡ true

kept_shape-said : (node : ℕ) (cols : Columns) (os : List OutputForm) (ks : List Projected) → kept_shape node cols os ≡ Ok ks → IsKeptShape cols.names os ks
unfolding kept_shape find_all_kept
kept_shape-said node cols os ks h =
    let t = ok_then _ (walk_onto (find_kept node cols.names) [] os) ks h in
    let u = ok_then _ (test_distinct node (map output_name os)) ks t.2 in
    let v = ok_last (λ (w : ⊤). t.0) (test_width node (length os)) ks u.2 in
    let P : List Projected → Type 0 = λ ks. IsKeptShape cols.names os ks in
    subst P v.2 (record { kept = all-kept-said node cols.names os t.0 (each-walked (find_kept node cols.names) os t.0 t.1); distinct = test_distinct-distinct node (map output_name os) u.0 u.1 })

-- ---- columns of projections

abbrev entry_in : FoundEntry → Entry
entry_in k = k.entry

abbrev new_in : FoundEntry → Bool
new_in k = k.renamed

record IsEntrySaid (names : List Name) (f : EntryForm) (k : FoundEntry) : Type 0 where
  says : entry_by_name names k.entry k.renamed (entry_name f) ≡ f
  named : IsEntryNamed names k.entry k.renamed (entry_name f)

entry-said : (node : ℕ) (names : List Name) (f : EntryForm) (k : FoundEntry) → find_entry node names f ≡ Ok k → IsEntrySaid names f k
unfolding find_entry
entry-said node names (form.kept o) k h =
    let t = ok_last (λ (x : Projected). record { entry = plan.copy_of x.column; renamed = x.renamed }) (find_kept node names o) k h in
    let one = kept-said node names o t.0 t.1 in
    let P : FoundEntry → Type 0 = λ k. IsEntrySaid names (form.kept o) k in
    subst P t.2 (record { says = ap (λ o. form.kept o) one.says; named = one.named })
entry-said node names (form.made o n) k h =
    let t = ok_last (λ (e : Expression). record { entry = plan.made_by e; renamed = true }) (find_operand node names o) k h in
    let one = operand-said node names o t.0 t.1 in
    let P : FoundEntry → Type 0 = λ k. IsEntrySaid names (form.made o n) k in
    subst P t.2 (record { says = ap (λ o. form.made o n) one.says; named = (refl, one.own) })

record AreEntriesSaid (names : List Name) (fs : List EntryForm) (ks : List FoundEntry) : Type 0 where
  says : entries_by_name names (map entry_in ks) (map new_in ks) (map entry_name fs) ≡ fs
  named : AreEntries names (map entry_in ks) (map new_in ks) (map entry_name fs)

entries-said : (node : ℕ) (names : List Name) (fs : List EntryForm) (ks : List FoundEntry) → Each (find_entry node names) fs ks → AreEntriesSaid names fs ks
entries-said node names [] [] h = record { says = refl; named = tt }
entries-said node names [] (k ∷ ks) h = absurd h
entries-said node names (f ∷ fs) [] h = absurd h
entries-said node names (f ∷ fs) (k ∷ ks) h =
    let one = entry-said node names f k h.0 in
    let rest = entries-said node names fs ks h.1 in
    record { says = λ i. one.says i ∷ rest.says i; named = (one.named, rest.named) }

project-said : (node : ℕ) (cols : Columns) (fs : List EntryForm) (o : Shape) → project_shape node cols fs ≡ Ok o → IsSaid cols.names (form.project fs) o
unfolding project_shape entries_shape find_entries
project-said node cols fs o h =
    let s = ok_last (λ (ks : List FoundEntry). record { op = plan.project (map entry_in ks); renamed = map new_in ks; columns = entry_columns cols fs ks }) (entries_shape node cols fs) o h in
    let t = ok_then _ (walk_onto (find_entry node cols.names) [] fs) s.0 s.1 in
    let u = ok_then _ (test_distinct node (map entry_name fs)) s.0 t.2 in
    let v = ok_last (λ (w : ⊤). t.0) (test_width node (length fs)) s.0 u.2 in
    let said = entries-said node cols.names fs t.0 (each-walked (find_entry node cols.names) fs t.0 t.1) in
    let distinct = test_distinct-distinct node (map entry_name fs) u.0 u.1 in
    let Q : List FoundEntry → Type 0 = λ ks. IsSaid cols.names (form.project fs) (record { op = plan.project (map entry_in ks); renamed = map new_in ks; columns = entry_columns cols fs ks }) in
    let P : Shape → Type 0 = λ o. IsSaid cols.names (form.project fs) o in
    subst P s.2 (subst Q v.2 (record { says = ap (λ l. form.project l) said.says; named = said.named; distinct = distinct }))

distinct-said : (node : ℕ) (cols : Columns) (os : List OutputForm) (o : Shape) → distinct_shape node cols os ≡ Ok o → IsSaid cols.names (form.distinct os) o
unfolding distinct_shape
distinct-said node cols os o h =
    let t = ok_last (λ (ks : List Projected). record { op = plan.distinct (map column_of ks); renamed = map renamed_of ks; columns = kept_columns cols os ks }) (kept_shape node cols os) o h in
    let k = kept_shape-said node cols os t.0 t.1 in
    let P : Shape → Type 0 = λ o. IsSaid cols.names (form.distinct os) o in
    subst P t.2 (record { says = ap (λ l. form.distinct l) k.kept.says; named = k.kept.named; distinct = k.distinct })

sort-said : (node : ℕ) (cols : Columns) (order : List OrderText) (o : Shape) → are_distinct_names cols.names ≡ true → sort_shape false node cols order ≡ Ok o → IsSaid cols.names (form.sort order) o
unfolding sort_shape
sort-said node cols order o d h =
    let t = ok_then _ (find_order node cols.names order) o h in
    let u = ok_last (λ (w : ⊤). record { op = plan.sort false t.0; renamed = []; columns = cols }) (test_distinct node (order_names order)) o t.2 in
    let P : Shape → Type 0 = λ o. IsSaid cols.names (form.sort order) o in
    subst P u.2 (record { says = ap (λ l. form.sort l) (order-said node cols.names order t.0 t.1); named = (refl, refl); distinct = d })

partial_sort-said : (between : Bool) (node : ℕ) (cols : Columns) (order : List OrderText) (o : Shape) → are_distinct_names cols.names ≡ true → partial_sort_shape between node cols order ≡ Ok o → IsSaid cols.names (form.partial_sort order) o
unfolding partial_sort_shape sort_shape
partial_sort-said between node cols order o d h =
    let f = ok_then _ (test_phase node between) o h in
    let t = ok_then _ (find_order node cols.names order) o f.2 in
    let u = ok_last (λ (w : ⊤). record { op = plan.sort true t.0; renamed = []; columns = cols }) (test_distinct node (order_names order)) o t.2 in
    let P : Shape → Type 0 = λ o. IsSaid cols.names (form.partial_sort order) o in
    subst P u.2 (record { says = ap (λ l. form.partial_sort l) (order-said node cols.names order t.0 t.1); named = (refl, refl); distinct = d })

-- ---- groups

function-said : (node : ℕ) (names : List Name) (f : FunctionForm) (a : Aggregate) → find_function node names f ≡ Ok a → function_by_name names a ≡ f
unfolding find_function
function-said node names (form.least c) a h =
    let t = ok_last (λ (p : ℕ). plan.least p) (find_column node names c) a h in
    rw (← t.2) (ap (λ n. form.least n) (column-said node names c t.0 t.1).named)
function-said node names (form.greatest c) a h =
    let t = ok_last (λ (p : ℕ). plan.greatest p) (find_column node names c) a h in
    rw (← t.2) (ap (λ n. form.greatest n) (column-said node names c t.0 t.1).named)
function-said node names (form.sum c) a h =
    let t = ok_last (λ (p : ℕ). plan.sum p) (find_column node names c) a h in
    rw (← t.2) (ap (λ n. form.sum n) (column-said node names c t.0 t.1).named)
function-said node names form.count_rows a h = let e : plan.count_rows ≡ a = cc in rw (← e) refl

abbrev new_name : AggregateForm → Name
new_name a = a.name

abbrev function_in : ℕ → List Name → AggregateForm → Result Aggregate Refusal
function_in node names a = find_function node names a.function

aggregates-said : (node : ℕ) (names : List Name) (fs : List AggregateForm) (ks : List Aggregate) → Each (function_in node names) fs ks → aggregates_by_name names ks (map new_name fs) ≡ fs
aggregates-said node names [] [] h = refl
aggregates-said node names [] (k ∷ ks) h = absurd h
aggregates-said node names (f ∷ fs) [] h = absurd h
aggregates-said node names (f ∷ fs) (k ∷ ks) h =
    ap (λ g. record { function = g; name = f.name } ∷ aggregates_by_name names ks (map new_name fs)) (function-said node names f.function k h.0)
    ∙ ap (λ gs. f ∷ gs) (aggregates-said node names fs ks h.1)

record AreGroupSaid (names by : List Name) (fs : List AggregateForm) (g : List ℕ × List Aggregate) : Type 0 where
  keys : names_at names g.0 ≡ by
  puts : aggregates_by_name names g.1 (map new_name fs) ≡ fs

find_group-said : (node : ℕ) (names by : List Name) (fs : List AggregateForm) (g : List ℕ × List Aggregate) → find_group node names by fs ≡ Ok g → AreGroupSaid names by fs g
unfolding find_group find_aggregates
find_group-said node names by fs g h =
    let t = ok_then _ (find_columns node names by) g h in
    let u = ok_last (λ (ks : List Aggregate). (t.0, ks)) (walk_onto (function_in node names) [] fs) g t.2 in
    let P : List ℕ × List Aggregate → Type 0 = λ g. AreGroupSaid names by fs g in
    subst P u.2 (record { keys = columns-said node names by t.0 t.1; puts = aggregates-said node names fs u.0 (each-walked (function_in node names) fs u.0 u.1) })

abbrev group_made : Phase → Columns → List Name → List AggregateForm → List ℕ × List Aggregate → Shape
group_made phase cols by fs g = record { op = plan.group phase g.0 g.1; renamed = []; columns = group_columns cols by fs g.0 g.1 }

record IsGroupSaid (phase : Phase) (cols : Columns) (by : List Name) (fs : List AggregateForm) (o : Shape) : Type 0 where
  group : List ℕ × List Aggregate
  made : group_made phase cols by fs group ≡ o
  said : AreGroupSaid cols.names by fs group
  distinct : are_distinct_names (by ++ map new_name fs) ≡ true

group-said : (phase : Phase) (node : ℕ) (cols : Columns) (by : List Name) (fs : List AggregateForm) (o : Shape) → group_shape phase node cols by fs ≡ Ok o → IsGroupSaid phase cols by fs o
unfolding group_shape test_group
group-said phase node cols by fs o h =
    let t = ok_then _ (find_group node cols.names by fs) o h in
    let u = ok_last (λ (w : ⊤). group_made phase cols by fs t.0) (test_group node cols.types (by ++ map new_name fs) t.0.1) o t.2 in
    let v = ok_then _ (test_distinct node (by ++ map new_name fs)) u.0 u.1 in
    record { group = t.0; made = u.2; said = find_group-said node cols.names by fs t.0 t.1; distinct = test_distinct-distinct node (by ++ map new_name fs) v.0 v.1 }

keys-long : (names by : List Name) (fs : List AggregateForm) (g : List ℕ × List Aggregate) → AreGroupSaid names by fs g → length by ≡ length g.0
keys-long names by fs g h = ap length (sym h.keys) ∙ length-map g.0 (name_at names)

-- the first names are those of the keys, and the others those of the aggregates
first-names : (names by : List Name) (fs : List AggregateForm) (g : List ℕ × List Aggregate) → AreGroupSaid names by fs g → take (length g.0) (by ++ map new_name fs) ≡ names_at names g.0
first-names names by fs g h = take_at by (map new_name fs) (length g.0) (keys-long names by fs g h) ∙ sym h.keys

rest-names : (names by : List Name) (fs : List AggregateForm) (g : List ℕ × List Aggregate) → AreGroupSaid names by fs g → aggregates_by_name names g.1 (drop (length g.0) (by ++ map new_name fs)) ≡ fs
rest-names names by fs g h = ap (aggregates_by_name names g.1) (drop_at by (map new_name fs) (length g.0) (keys-long names by fs g h)) ∙ h.puts

plain-said : (node : ℕ) (cols : Columns) (by : List Name) (fs : List AggregateForm) (o : Shape) → group_shape plan.plain node cols by fs ≡ Ok o → IsSaid cols.names (form.group by fs) o
plain-said node cols by fs o h =
    let g = group-said plan.plain node cols by fs o h in
    let P : Shape → Type 0 = λ o. IsSaid cols.names (form.group by fs) o in
    subst P g.made (record {
      says = ap (λ bs. form.group bs (aggregates_by_name cols.names g.group.1 (drop (length g.group.0) (by ++ map new_name fs)))) g.said.keys ∙ ap (λ ks. form.group by ks) (rest-names cols.names by fs g.group g.said);
      named = (refl, first-names cols.names by fs g.group g.said);
      distinct = g.distinct;
    })

partial-said : (under : Bool) (node : ℕ) (cols : Columns) (by : List Name) (fs : List AggregateForm) (o : Shape) → partial_shape under node cols by fs ≡ Ok o → IsSaid cols.names (form.partial_group by fs) o
unfolding partial_shape
partial-said under node cols by fs o h =
    let f = ok_then _ (test_phase node under) o h in
    let g = group-said plan.partial node cols by fs o f.2 in
    let P : Shape → Type 0 = λ o. IsSaid cols.names (form.partial_group by fs) o in
    subst P g.made (record {
      says = ap (λ bs. form.partial_group bs (aggregates_by_name cols.names g.group.1 (drop (length g.group.0) (by ++ map new_name fs)))) g.said.keys ∙ ap (λ ks. form.partial_group by ks) (rest-names cols.names by fs g.group g.said);
      named = (refl, first-names cols.names by fs g.group g.said);
      distinct = g.distinct;
    })

final-said : (node : ℕ) (t : Outline) (parts : Option (List ℕ × List Aggregate)) (o : Shape) → are_distinct_names (column_names t) ≡ true → final_shape node t parts ≡ Ok o → IsSaid (column_names t) form.final_group o
unfolding final_shape
final-said node t None o d h = cc
final-said node t (Some g) o d h =
    let made = ok_last (λ (w : ⊤). record { op = plan.group plan.final (first_columns (length g.0)) (merged (length g.0) g.1); renamed = []; columns = columns t }) (test_phase node (sorts_before (length g.0) t)) o h in
    let P : Shape → Type 0 = λ o. IsSaid (column_names t) form.final_group o in
    subst P made.2 (record { says = refl; named = (refl, refl); distinct = d })

limit-said : (t : Outline) (rows : ℕ) (o : Shape) → are_distinct_names (column_names t) ≡ true → limit_shape (columns t) rows ≡ Ok o → IsSaid (column_names t) (form.limit rows) o
unfolding limit_shape
limit-said t rows o d h =
    let made : record { op = plan.limit rows; renamed = []; columns = columns t } ≡ o = cc in
    let P : Shape → Type 0 = λ o. IsSaid (column_names t) (form.limit rows) o in
    subst P made (record { says = refl; named = (refl, refl); distinct = d })

pub shape-said : (under : Bool) (node : ℕ) (t : Outline) (f : UnaryForm) (o : Shape) → are_distinct_names (column_names t) ≡ true → unary_shape under node t f ≡ Ok o → IsSaid (column_names t) f o
unfolding unary_shape
shape-said under node t (form.select fs) o d h = select-said node (columns t) fs o d h
shape-said under node t (form.project fs) o d h = project-said node (columns t) fs o h
shape-said under node t (form.distinct os) o d h = distinct-said node (columns t) os o h
shape-said under node t (form.sort order) o d h = sort-said node (columns t) order o d h
shape-said under node t (form.partial_sort order) o d h = partial_sort-said (under && is_some (parts_of t)) node (columns t) order o d h
shape-said under node t (form.group by fs) o d h = plain-said node (columns t) by fs o h
shape-said under node t (form.partial_group by fs) o d h = partial-said under node (columns t) by fs o h
shape-said under node t form.final_group o d h = final-said node t (parts_of t) o d h
shape-said under node t (form.limit rows) o d h = limit-said t rows o d h
