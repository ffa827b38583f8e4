-- A typed operator over one input is found again by its names.
use Rattle.std.proofs.Common.{◌≡◌, ℕ, ◌+◌, nat_lt, nat_le, List, [], ◌∷◌, ◌++◌, Bool, true, false, ◌&&◌, ◌||◌, Some, None, is_some, unwrap_or, Result, Ok, map, length, take, drop, bytes_eq, refl, sym, ap, ◌∙◌, subst, arith}
use Rattle.std.specs.Prelude.{if◌then◌else◌}
use Rattle.std.specs.List.{list_all}
use Rattle.std.proofs.lemmas.List.{length-map, length-append, take-append-drop, length-drop}
use Rattle.std.proofs.lemmas.Slice.Eq.{bytes_eq-Decides}
use Rattle.vx_rows_values.specs.declared.value.ColType.{ColType}
use Rattle.vx_rows_values.specs.declared.value.ColType.TheVariants.{Int}
use Rattle.vx_rows_values.specs.declared.order.OrderEntry.{OrderEntry}
use Rattle.vx_rows_values.specs.Order.{order_columns}
use Rattle.vx_catalog_relations.specs.Naming.{order_text}
use Rattle.vx_plan.proofs.OrderFacts.{order-again, order_once-again}
use Rattle.vx_rows_values.specs.Types.{type_at}
use Rattle.vx_rows_values.specs.Lists.{is_some_list}
use Rattle.vx_rows_values.specs.Values.{Name}
use Rattle.vx_rows_values.proofs.Booleans.{and-left, and-right, and-both}
use Rattle.vx_catalog_relations.specs.Catalog.{all_below, are_distinct}
use Rattle.vx_catalog_relations.specs.Naming.{name_at}
use Rattle.vx_plan_nodes.specs.declared.typed.Projected.{Projected}
use Rattle.vx_plan_nodes.specs.Plan.{Side, Condition, Filter, Entry, Aggregate, Phase, Unary}
use Rattle.vx_plan_nodes.specs.Plan as plan
use Rattle.vx_plan_nodes.specs.Types.{expression_type, entry_type, unary_types, aggregate_type}
use Rattle.vx_plan_nodes.specs.Phases.{first_columns, merged, columns_eq, aggregates_eq, unary_open, is_open, opens, phase_fits}
use Rattle.vx_plan_nodes.specs.Typed.{are_columns, type_eq, is_side, is_condition, is_expression, is_filter, is_entry, is_aggregate, is_unary}
use Rattle.vx_plan_nodes.specs.Outline.{Columns, Outline, scan, unary, binary, exchange, columns, plan_in}
use Rattle.vx_plan_nodes.proofs.PhaseEqual.{columns_eq-is, aggregates_eq-is}
use Rattle.vx_plan_json.specs.Document.{OutputForm, EntryForm, AggregateForm}
use Rattle.vx_plan_json.specs.Fault.{Refusal}
use Rattle.vx_plan.specs.Lookup.{test_width}
use Rattle.vx_plan.specs.Resolve.{Shape, find_side, find_condition, find_filter, find_filters, filter_fits, FoundEntry, entry_name, find_entry, find_entries, entries_shape, entry_columns, select_shape, output_name, find_kept, find_all_kept, kept_shape, kept_columns, project_shape, distinct_shape, sort_shape, partial_sort_shape, limit_shape, find_function, find_aggregates, find_group, test_group, group_columns, group_shape, test_phase, partial_shape, parts_of, sorts_before, final_shape, unary_shape}
use Rattle.vx_plan.specs.ByName.{names_at, side_by_name, condition_by_name, filter_by_name, entry_by_name, entries_by_name, kept_by_name, function_by_name, aggregates_by_name, unary_by_name, column_names}
use Rattle.vx_plan.specs.Exact.{FilterFunctions, FiltersFunctions, IsEntryNamed, AreEntries, are_kept, UnaryNames}
use Rattle.vx_plan.proofs.Apart.{apart}
use Rattle.vx_plan.proofs.Each.{Each, walk-each, each-again}
use Rattle.vx_plan.proofs.Computed.{operand-again, filters-fit}
use Rattle.vx_plan.proofs.Passed.{test_distinct-passes}
use Rattle.vx_plan.proofs.Looked.{column-again, columns-again, columns_once-again}
use Rattle.vx_plan.proofs.ClaimExact.{test_match-again, along}
use Rattle.vx_plan.proofs.PhaseFacts.{columns-length, parts-found}
use Rattle.vx_plan.proofs.ShapeFacts.{map-map}

-- columns are the same where their names and their types are
pub columns-same : (a b : Columns) → a.names ≡ b.names → a.types ≡ b.types → a ≡ b
columns-same a b n t = let e : a ≡ record { names = a.names; types = a.types } = refl in e ∙ rw (n, t) refl

pub test_width-again : (node w : ℕ) → nat_le w 64 ≡ true → test_width node w ≡ Ok tt
unfolding test_width
test_width-again node w h = rw h refl

-- an input with names of their own, an operator on it, and the output that the operator gives
pub record IsOver (input : Columns) (op : Unary) (renamed : List Bool) (output : Columns) : Type 0 where
  pub own : apart bytes_eq input.names ≡ true
  pub wide : length input.names ≡ length input.types
  pub fits : is_unary input.types op ≡ true
  pub named : UnaryNames op renamed input.names output.names
  pub typed : output.types ≡ unary_types op input.types
  pub long : length output.names ≡ length output.types
  pub few : nat_le (length output.types) 64 ≡ true
  pub distinct : apart bytes_eq output.names ≡ true

-- ---- selections

-- a column of the types has a name
below-names : (input : Columns) (c : ℕ) → length input.names ≡ length input.types → nat_lt c (length input.types) ≡ true → nat_lt c (length input.names) ≡ true
below-names input c e h = let P : ℕ → Type 0 = λ n. nat_lt c n ≡ true in subst P (sym e) h

side-again : (node : ℕ) (input : Columns) (t : ColType) (x : Side) → apart bytes_eq input.names ≡ true → length input.names ≡ length input.types → is_side input.types t x ≡ true → find_side node input.names (side_by_name input.names x) ≡ Ok x
unfolding find_side
side-again node input t (plan.column c) a e h = rw (column-again node input.names c a (below-names input c e (and-left (nat_lt c (length input.types)) (type_eq t (type_at input.types c)) h))) refl
side-again node input t (plan.constant v) a e h = refl

condition-again : (node : ℕ) (input : Columns) (c : Condition) → apart bytes_eq input.names ≡ true → length input.names ≡ length input.types → is_condition input.types c ≡ true
    → find_condition node input.names (condition_by_name input.names c) ≡ Ok c
unfolding find_condition
condition-again node input c a e h =
    let right = is_side input.types (type_at input.types c.left) c.right in
    let l = column-again node input.names c.left a (below-names input c.left e (and-left (nat_lt c.left (length input.types)) right h)) in
    let r = side-again node input (type_at input.types c.left) c.right a e (and-right (nat_lt c.left (length input.types)) right h) in
    rw (l, r) refl

filter-again : (node : ℕ) (input : Columns) (f : Filter) → apart bytes_eq input.names ≡ true → length input.names ≡ length input.types → is_filter input.types f ≡ true → FilterFunctions f
    → find_filter node input.names (filter_by_name input.names f) ≡ Ok f
unfolding find_filter
filter-again node input (plan.comparing c) a e h own = rw (condition-again node input c a e h) refl
filter-again node input (plan.computing x) a e h own = rw (operand-again node input x a e (and-left (is_expression input.types x) (type_eq (expression_type input.types x) Int) h) own) refl

filters-again : (node : ℕ) (input : Columns) (fs : List Filter) → apart bytes_eq input.names ≡ true → length input.names ≡ length input.types → list_all (is_filter input.types) fs ≡ true → FiltersFunctions fs
    → Each (find_filter node input.names) (map (filter_by_name input.names) fs) fs
filters-again node input [] a e h own = tt
filters-again node input (f ∷ fs) a e h own = (
  filter-again node input f a e (and-left (is_filter input.types f) (list_all (is_filter input.types) fs) h) own.0,
  filters-again node input fs a e (and-right (is_filter input.types f) (list_all (is_filter input.types) fs) h) own.1,
)

select-again : (node : ℕ) (input : Columns) (fs : List Filter) (renamed : List Bool) (output : Columns) → IsOver input (plan.select fs) renamed output
    → select_shape node input (map (filter_by_name input.names) fs) ≡ Ok (record { op = plan.select fs; renamed = renamed; columns = output })
unfolding select_shape find_filters
select-again node input fs renamed output o =
    let good = and-right (is_some_list fs) (list_all (is_filter input.types) fs) o.fits in
    let found = walk-each (find_filter node input.names) (map (filter_by_name input.names) fs) [] fs (filters-again node input fs o.own o.wide good o.named.2) in
    rw (found, test_match-again node (list_all (filter_fits input.types) fs) (filters-fit input.types fs good), o.named.0, columns-same output input o.named.1 o.typed) refl

-- ---- kept columns

-- kept columns, as the program holds them
abbrev kept : List ℕ → List Bool → List Projected
kept (c ∷ cols) (b ∷ renamed) = record { column = c; renamed = b } ∷ kept cols renamed
kept _ _ = []

record AreKept (node : ℕ) (names : List Name) (cols : List ℕ) (renamed : List Bool) (output : List Name) : Type 0 where
  each : Each (find_kept node names) (kept_by_name names cols renamed output) (kept cols renamed)
  which : map (λ (k : Projected). k.column) (kept cols renamed) ≡ cols
  flags : map (λ (k : Projected). k.renamed) (kept cols renamed) ≡ renamed
  named : map output_name (kept_by_name names cols renamed output) ≡ output

-- the name of a kept column in the output
kept-name : (n m : Name) (b : Bool) → (b || bytes_eq n m) ≡ true → unwrap_or (if b then Some n else None) m ≡ n
kept-name n m true h = refl
kept-name n m false h = sym ((bytes_eq-Decides n m).0 h)

is-new : (n : Name) (b : Bool) → is_some (if b then Some n else None) ≡ b
is-new n true = refl
is-new n false = refl

kept-again : (node : ℕ) (names : List Name) (cols : List ℕ) (renamed : List Bool) (output : List Name) → apart bytes_eq names ≡ true → all_below (length names) cols ≡ true → are_kept names cols renamed output ≡ true
    → AreKept node names cols renamed output
unfolding find_kept
kept-again node names [] [] [] a l h = record { each = tt; which = refl; flags = refl; named = refl }
kept-again node names [] [] (n ∷ output) a l h = cc
kept-again node names [] (b ∷ renamed) output a l h = cc
kept-again node names (c ∷ cols) [] output a l h = cc
kept-again node names (c ∷ cols) (b ∷ renamed) [] a l h = cc
kept-again node names (c ∷ cols) (b ∷ renamed) (n ∷ output) a l h =
    let rest = kept-again node names cols renamed output a (and-right (nat_lt c (length names)) (all_below (length names) cols) l)
    (and-right (b || bytes_eq n (name_at names c)) (are_kept names cols renamed output) h) in
    let one = column-again node names c a (and-left (nat_lt c (length names)) (all_below (length names) cols) l) in
    record {
      each = (rw (one, is-new n b) refl, rest.each);
      which = ap (λ cs. c ∷ cs) rest.which;
      flags = ap (λ bs. b ∷ bs) rest.flags;
      named = ap (λ m. m ∷ map output_name (kept_by_name names cols renamed output)) (kept-name n (name_at names c) b (and-left (b || bytes_eq n (name_at names c)) (are_kept names cols renamed output) h))
          ∙ ap (λ ms. n ∷ ms) rest.named;
    }

-- what is kept of an input
record IsKept (node : ℕ) (input : Columns) (cols : List ℕ) (renamed : List Bool) (output : Columns) : Type 0 where
  found : kept_shape node input (kept_by_name input.names cols renamed output.names) ≡ Ok (kept cols renamed)
  which : map (λ (k : Projected). k.column) (kept cols renamed) ≡ cols
  flags : map (λ (k : Projected). k.renamed) (kept cols renamed) ≡ renamed
  gives : kept_columns input (kept_by_name input.names cols renamed output.names) (kept cols renamed) ≡ output

kept_shape-again : (node : ℕ) (input : Columns) (cols : List ℕ) (renamed : List Bool) (output : Columns) → apart bytes_eq input.names ≡ true → length input.names ≡ length input.types → all_below (length input.types) cols ≡ true
    → are_kept input.names cols renamed output.names ≡ true → output.types ≡ map (type_at input.types) cols → length output.names ≡ length output.types → nat_le (length output.types) 64 ≡ true → apart bytes_eq output.names ≡ true
    → IsKept node input cols renamed output
unfolding kept_shape find_all_kept
kept_shape-again node input cols renamed output a e l h types long few own =
    let os : List OutputForm = kept_by_name input.names cols renamed output.names in
    let P : ℕ → Type 0 = λ n. all_below n cols ≡ true in
    let k = kept-again node input.names cols renamed output.names a (subst P (sym e) l) h in
    let found = walk-each (find_kept node input.names) os [] (kept cols renamed) k.each in
    let Q : List Name → Type 0 = λ ns. apart bytes_eq ns ≡ true in
    let distinct = test_distinct-passes node (map output_name os) (subst Q (sym k.named) own) in
    let R : ℕ → Type 0 = λ n. nat_le n 64 ≡ true in
    let count : length os ≡ length output.types = sym (length-map os output_name) ∙ ap length k.named ∙ long in
    record {
      found = rw (found, distinct, test_width-again node (length os) (subst R (sym count) few)) refl;
      which = k.which;
      flags = k.flags;
      gives = columns-same (kept_columns input os (kept cols renamed)) output k.named
          (sym (map-map (type_at input.types) (λ (k : Projected). k.column) (kept cols renamed)) ∙ (ap (map (type_at input.types)) k.which ∙ sym types));
    }

-- ---- columns of projections

-- columns of a projection, with what is known of their names
abbrev found_entries : List Entry → List Bool → List FoundEntry
found_entries (e ∷ es) (b ∷ renamed) = record { entry = e; renamed = b } ∷ found_entries es renamed
found_entries _ _ = []

record AreFound (node : ℕ) (names : List Name) (es : List Entry) (renamed : List Bool) (output : List Name) : Type 0 where
  each : Each (find_entry node names) (entries_by_name names es renamed output) (found_entries es renamed)
  which : map (λ (k : FoundEntry). k.entry) (found_entries es renamed) ≡ es
  flags : map (λ (k : FoundEntry). k.renamed) (found_entries es renamed) ≡ renamed
  named : map entry_name (entries_by_name names es renamed output) ≡ output

entry-again : (node : ℕ) (input : Columns) (e : Entry) (b : Bool) (n : Name) → apart bytes_eq input.names ≡ true → length input.names ≡ length input.types → is_entry input.types e ≡ true → IsEntryNamed input.names e b n
    → find_entry node input.names (entry_by_name input.names e b n) ≡ Ok (record { entry = e; renamed = b })
unfolding find_entry find_kept
entry-again node input (plan.copy_of c) b n a w h k = rw (column-again node input.names c a (below-names input c w h), is-new n b) refl
entry-again node input (plan.made_by e) b n a w h k = rw (operand-again node input e a w h k.1) (ap (λ b. Ok (record { entry = plan.made_by e; renamed = b })) (sym k.0))

entry-name : (names : List Name) (e : Entry) (b : Bool) (n : Name) → IsEntryNamed names e b n → entry_name (entry_by_name names e b n) ≡ n
entry-name names (plan.copy_of c) b n h = kept-name n (name_at names c) b h
entry-name names (plan.made_by e) b n h = refl

entries-again : (node : ℕ) (input : Columns) (es : List Entry) (renamed : List Bool) (output : List Name) → apart bytes_eq input.names ≡ true → length input.names ≡ length input.types → list_all (is_entry input.types) es ≡ true
    → AreEntries input.names es renamed output → AreFound node input.names es renamed output
entries-again node input [] [] [] a w l h = record { each = tt; which = refl; flags = refl; named = refl }
entries-again node input [] [] (n ∷ output) a w l h = absurd h
entries-again node input [] (b ∷ renamed) output a w l h = absurd h
entries-again node input (e ∷ es) [] output a w l h = absurd h
entries-again node input (e ∷ es) (b ∷ renamed) [] a w l h = absurd h
entries-again node input (e ∷ es) (b ∷ renamed) (n ∷ output) a w l h =
    let rest = entries-again node input es renamed output a w (and-right (is_entry input.types e) (list_all (is_entry input.types) es) l) h.1 in
    let one = entry-again node input e b n a w (and-left (is_entry input.types e) (list_all (is_entry input.types) es) l) h.0 in
    let name = entry-name input.names e b n h.0 in
    record {
      each = (one, rest.each);
      which = ap (λ es. e ∷ es) rest.which;
      flags = ap (λ bs. b ∷ bs) rest.flags;
      named = λ i. name i ∷ rest.named i;
    }

project-again : (node : ℕ) (input : Columns) (es : List Entry) (renamed : List Bool) (output : Columns) → IsOver input (plan.project es) renamed output
    → project_shape node input (entries_by_name input.names es renamed output.names) ≡ Ok (record { op = plan.project es; renamed = renamed; columns = output })
unfolding project_shape entries_shape find_entries
project-again node input es renamed output o =
    let fs : List EntryForm = entries_by_name input.names es renamed output.names in
    let k = entries-again node input es renamed output.names o.own o.wide (and-right (is_some_list es) (list_all (is_entry input.types) es) o.fits) o.named in
    let found = walk-each (find_entry node input.names) fs [] (found_entries es renamed) k.each in
    let Q : List Name → Type 0 = λ ns. apart bytes_eq ns ≡ true in
    let distinct = test_distinct-passes node (map entry_name fs) (subst Q (sym k.named) o.distinct) in
    let R : ℕ → Type 0 = λ n. nat_le n 64 ≡ true in
    let count : length fs ≡ length output.types = sym (length-map fs entry_name) ∙ ap length k.named ∙ o.long in
    let width = test_width-again node (length fs) (subst R (sym count) o.few) in
    let gives : entry_columns input fs (found_entries es renamed) ≡ output =
    columns-same (entry_columns input fs (found_entries es renamed)) output k.named
    (sym (map-map (entry_type input.types) (λ (k : FoundEntry). k.entry) (found_entries es renamed)) ∙ (ap (map (entry_type input.types)) k.which ∙ sym o.typed)) in
    rw (found, distinct, width, k.which, k.flags, gives) refl

distinct-again : (node : ℕ) (input : Columns) (cols : List ℕ) (renamed : List Bool) (output : Columns) → IsOver input (plan.distinct cols) renamed output
    → distinct_shape node input (kept_by_name input.names cols renamed output.names) ≡ Ok (record { op = plan.distinct cols; renamed = renamed; columns = output })
unfolding distinct_shape
distinct-again node input cols renamed output o =
    let k = kept_shape-again node input cols renamed output o.own o.wide (and-right (is_some_list cols) (all_below (length input.types) cols) o.fits) o.named o.typed o.long o.few o.distinct in
    rw (k.found, k.which, k.flags, k.gives) refl

sort-again : (of_parts : Bool) (node : ℕ) (input : Columns) (order : List OrderEntry) (renamed : List Bool) (output : Columns) → IsOver input (plan.sort of_parts order) renamed output
    → sort_shape of_parts node input (order_text input.names order) ≡ Ok (record { op = plan.sort of_parts order; renamed = renamed; columns = output })
unfolding sort_shape
sort-again of_parts node input order renamed output o =
    let are = along input.names input.types (order_columns order) o.wide (and-right (is_some_list order) (are_columns (length input.types) (order_columns order)) o.fits) in
    rw (order-again node input.names order o.own are, order_once-again node input.names order o.own are, o.named.0, columns-same output input o.named.1 o.typed) refl

-- ---- groups

function-again : (node : ℕ) (input : Columns) (a : Aggregate) → apart bytes_eq input.names ≡ true → length input.names ≡ length input.types → is_aggregate input.types a ≡ true → find_function node input.names (function_by_name input.names a) ≡ Ok a
unfolding find_function
function-again node input (plan.least c) a e h = rw (column-again node input.names c a (below-names input c e h)) refl
function-again node input (plan.greatest c) a e h = rw (column-again node input.names c a (below-names input c e h)) refl
function-again node input (plan.sum c) a e h = rw (column-again node input.names c a (below-names input c e (and-left (nat_lt c (length input.types)) (type_eq (type_at input.types c) Int) h))) refl
function-again node input plan.count_rows a e h = refl

record ArePut (node : ℕ) (input : Columns) (aggregates : List Aggregate) (names : List Name) : Type 0 where
  each : Each (λ (f : AggregateForm). find_function node input.names f.function) (aggregates_by_name input.names aggregates names) aggregates
  named : map (λ (f : AggregateForm). f.name) (aggregates_by_name input.names aggregates names) ≡ names

aggregates-again : (node : ℕ) (input : Columns) (aggregates : List Aggregate) (names : List Name) → apart bytes_eq input.names ≡ true → length input.names ≡ length input.types → list_all (is_aggregate input.types) aggregates ≡ true
    → length names ≡ length aggregates → ArePut node input aggregates names
aggregates-again node input [] [] a e h l = record { each = tt; named = refl }
aggregates-again node input [] (n ∷ names) a e h l = absurd (omega arith)
aggregates-again node input (k ∷ aggregates) [] a e h l = absurd (omega arith)
aggregates-again node input (k ∷ aggregates) (n ∷ names) a e h l =
    let rest = aggregates-again node input aggregates names a e (and-right (is_aggregate input.types k) (list_all (is_aggregate input.types) aggregates) h) (omega arith) in
    record {
      each = (function-again node input k a e (and-left (is_aggregate input.types k) (list_all (is_aggregate input.types) aggregates) h), rest.each);
      named = ap (λ ms. n ∷ ms) rest.named;
    }

-- the group that has these columns, by its names
abbrev group_again : Phase → ℕ → Columns → List ℕ → List Aggregate → Columns → Result Shape Refusal
group_again phase node input by aggregates output = group_shape phase node input (names_at input.names by) (aggregates_by_name input.names aggregates (drop (length by) output.names))

group-again : (phase : Phase) (node : ℕ) (input : Columns) (by : List ℕ) (aggregates : List Aggregate) (renamed : List Bool) (output : Columns)
    → apart bytes_eq input.names ≡ true → length input.names ≡ length input.types → (are_columns (length input.types) by && list_all (is_aggregate input.types) aggregates) ≡ true
    → (renamed ≡ []) × (take (length by) output.names ≡ names_at input.names by) → output.types ≡ map (type_at input.types) by ++ map (aggregate_type input.types) aggregates
    → length output.names ≡ length output.types → nat_le (length output.types) 64 ≡ true → apart bytes_eq output.names ≡ true
    → group_again phase node input by aggregates output ≡ Ok (record { op = plan.group phase by aggregates; renamed = renamed; columns = output })
unfolding group_shape find_group find_aggregates test_group
group-again phase node input by aggregates renamed output a e h named types long few own =
    let w : ℕ = length input.types in
    let good = and-right (are_columns w by) (list_all (is_aggregate input.types) aggregates) h in
    let are = along input.names input.types by e (and-left (are_columns w by) (list_all (is_aggregate input.types) aggregates) h) in
    let new : List Name = drop (length by) output.names in
    let fs : List AggregateForm = aggregates_by_name input.names aggregates new in
    let count : length output.types ≡ length by + length aggregates =
    ap length types ∙ (length-append (map (type_at input.types) by) (map (aggregate_type input.types) aggregates)
    ∙ (ap (λ n. n + length (map (aggregate_type input.types) aggregates)) (length-map by (type_at input.types)) ∙ ap (λ n. length by + n) (length-map aggregates (aggregate_type input.types)))) in
    let enough : length new ≡ length aggregates = (let k = length-drop (length by) output.names in omega (arith, k, long, count)) in
    let put = aggregates-again node input aggregates new a e good enough in
    let all : names_at input.names by ++ map (λ (f : AggregateForm). f.name) fs ≡ output.names =
    ap (λ ns. names_at input.names by ++ ns) put.named ∙ (ap (λ ns. ns ++ new) (sym named.1) ∙ take-append-drop (length by) output.names) in
    let keys = columns-again node input.names by a (and-left (all_below (length input.names) by) (are_distinct by) are) in
    let found = walk-each (λ (f : AggregateForm). find_function node input.names f.function) fs [] aggregates put.each in
    let Q : List Name → Type 0 = λ ns. apart bytes_eq ns ≡ true in
    let R : ℕ → Type 0 = λ n. nat_le n 64 ≡ true in
    let distinct = test_distinct-passes node (names_at input.names by ++ map (λ (f : AggregateForm). f.name) fs) (subst Q (sym all) own) in
    let few_names = test_width-again node (length (names_at input.names by ++ map (λ (f : AggregateForm). f.name) fs)) (subst R (sym (ap length all ∙ long)) few) in
    rw (
      keys,
      found,
      distinct,
      few_names,
      test_match-again node (list_all (is_aggregate input.types) aggregates) good,
      named.0,
      columns-same (group_columns input (names_at input.names by) fs by aggregates) output all (sym types),
    ) refl

test_phase-again : (node : ℕ) (fits : Bool) → fits ≡ true → test_phase node fits ≡ Ok tt
unfolding test_phase
test_phase-again node true h = refl
test_phase-again node false h = cc

-- what a partial group that a final one puts together gives, and the sorts between are on its keys
record IsPartsFound (t : Outline) (keys : List ℕ) (puts : List Aggregate) : Type 0 where
  parts : List ℕ × List Aggregate
  found : parts_of t ≡ Some parts
  keyed : first_columns (length parts.0) ≡ keys
  put : merged (length parts.0) parts.1 ≡ puts
  sorted : sorts_before (length parts.0) t ≡ true

parts-again : (t : Outline) (keys : List ℕ) (puts : List Aggregate) → opens keys puts (plan_in t) ≡ true → IsPartsFound t keys puts
parts-again (scan h r m z p) keys puts e = cc
parts-again (unary h (plan.select cs) renamed t) keys puts e = cc
parts-again (unary h (plan.project cols) renamed t) keys puts e = cc
parts-again (unary h (plan.distinct cols) renamed t) keys puts e = cc
parts-again (unary h (plan.sort false order) renamed t) keys puts e = cc
parts-again (unary h (plan.sort true order) renamed t) keys puts e =
    let g = parts-again t keys puts (and-right (all_below (length keys) (order_columns order)) (opens keys puts (plan_in t)) e) in
    let count : length keys ≡ length g.parts.0 = ap length (sym g.keyed) ∙ columns-length 0 (length g.parts.0) in
    let P : ℕ → Type 0 = λ n. all_below n (order_columns order) ≡ true in
    record {
      parts = g.parts;
      found = g.found;
      keyed = g.keyed;
      put = g.put;
      sorted = and-both (all_below (length g.parts.0) (order_columns order)) (sorts_before (length g.parts.0) t) (subst P count (and-left (all_below (length keys) (order_columns order)) (opens keys puts (plan_in t)) e)) g.sorted;
    }
parts-again (unary h (plan.group plan.plain bs ks) renamed t) keys puts e = cc
parts-again (unary h (plan.group plan.partial bs ks) renamed t) keys puts e =
    let a = and-left (columns_eq keys (first_columns (length bs))) (aggregates_eq puts (merged (length bs) ks)) e in
    let b = and-right (columns_eq keys (first_columns (length bs))) (aggregates_eq puts (merged (length bs) ks)) e in
    record {
      parts = (bs, ks);
      found = refl;
      keyed = sym (columns_eq-is keys (first_columns (length bs)) a);
      put = sym (aggregates_eq-is puts (merged (length bs) ks) b);
      sorted = refl;
    }
parts-again (unary h (plan.group plan.final bs ks) renamed t) keys puts e = cc
parts-again (unary h (plan.limit rows) renamed t) keys puts e = cc
parts-again (binary h op t u) keys puts e = cc
parts-again (exchange h k m t) keys puts e =
    let g = parts-again t keys puts e in
    record { parts = g.parts; found = g.found; keyed = g.keyed; put = g.put; sorted = g.sorted }

final-again : (node : ℕ) (t : Outline) (keys : List ℕ) (puts : List Aggregate) (renamed : List Bool) (output : Columns) → opens keys puts (plan_in t) ≡ true → renamed ≡ [] → output ≡ columns t
    → final_shape node t (parts_of t) ≡ Ok (record { op = plan.group plan.final keys puts; renamed = renamed; columns = output })
unfolding final_shape
final-again node t keys puts renamed output e n o =
    let g = parts-again t keys puts e in
    rw (g.found, test_phase-again node (sorts_before (length g.parts.0) t) g.sorted, g.keyed, g.put, n, o) refl

-- the types of a final group's output are those of its input
pub shape-again : (under : Bool) (node : ℕ) (t : Outline) (op : Unary) (renamed : List Bool) (output : Columns) → IsOver (columns t) op renamed output → phase_fits op (plan_in t) ≡ true → (unary_open op (is_open (plan_in t)) ≡ true → under ≡ true)
    → ((keys : List ℕ) (puts : List Aggregate) → op ≡ plan.group plan.final keys puts → output.types ≡ (columns t).types)
    → unary_shape under node t (unary_by_name (column_names t) output.names op renamed) ≡ Ok (record { op = op; renamed = renamed; columns = output })
unfolding unary_shape partial_sort_shape partial_shape limit_shape
shape-again under node t (plan.select cs) renamed output o fits above same = select-again node (columns t) cs renamed output o
shape-again under node t (plan.project cols) renamed output o fits above same = project-again node (columns t) cols renamed output o
shape-again under node t (plan.distinct cols) renamed output o fits above same = distinct-again node (columns t) cols renamed output o
shape-again under node t (plan.sort false order) renamed output o fits above same = sort-again false node (columns t) order renamed output o
shape-again under node t (plan.sort true order) renamed output o fits above same =
    rw (test_phase-again node (under && is_some (parts_of t)) (and-both under (is_some (parts_of t)) (above fits) (parts-found t ∙ fits)))
    (sort-again true node (columns t) order renamed output o)
shape-again under node t (plan.group plan.plain by aggregates) renamed output o fits above same =
    group-again plan.plain node (columns t) by aggregates renamed output o.own o.wide (and-right (is_some_list by || is_some_list aggregates) _ o.fits) o.named o.typed o.long o.few o.distinct
shape-again under node t (plan.group plan.partial by aggregates) renamed output o fits above same =
    rw (test_phase-again node under (above refl))
    (group-again plan.partial node (columns t) by aggregates renamed output o.own o.wide (and-right (is_some_list by || is_some_list aggregates) _ o.fits) o.named o.typed o.long o.few o.distinct)
shape-again under node t (plan.group plan.final keys puts) renamed output o fits above same =
    final-again node t keys puts renamed output fits o.named.0 (columns-same output (columns t) o.named.1 (same keys puts refl))
shape-again under node t (plan.limit rows) renamed output o fits above same = rw (o.named.0, columns-same output (columns t) o.named.1 o.typed) refl
