-- The orders that are placed are columns of their nodes, none twice.
use Rattle.std.proofs.Common.{◌≡◌, ℕ, ◌==◌, eq-eqb, nat_lt, Bool, true, false, cond, List, [], ◌∷◌, ◌++◌, map, length, refl, sym, ap, ◌∙◌, true≢false}
use Rattle.vx_rows_values.specs.Order.{order_columns}
use Rattle.vx_rows_values.specs.declared.order.OrderEntry.{OrderEntry}
use Rattle.vx_rows_values.specs.declared.value.ColType.{ColType}
use Rattle.vx_rows_values.specs.Lists.{is_some_list}
use Rattle.vx_rows_values.proofs.Booleans.{and-left, and-right, and-both}
use Rattle.vx_catalog_relations.specs.Catalog.{relation_at, IsCatalog}
use Rattle.vx_plan_nodes.specs.Plan.{Part, Unary, select, project, distinct, sort, group, limit, plain, partial, final, Binary, union, join, semi_join, ExchangeKind, route_to, round, broadcast, gather, concat, by_hashing, by_merging, left_order}
use Rattle.vx_plan_nodes.specs.Describe.{Copying, whole_rows, columns_kept, entries_kept, kept_column, described}
use Rattle.vx_plan_nodes.specs.Types.{unary_types, binary_types}
use Rattle.vx_plan_nodes.specs.Typed.{Scope, are_columns, is_unary}
use Rattle.vx_check_rules.specs.Rules.{contains}
use Rattle.vx_check_rules.proofs.Bools.{or-left}
use Rattle.vx_check_options.specs.Options.{OrderChoices, singles, places_up, places_after, narrowed, or_nowhere, places_over_both, places_sent, has_entry}
use Rattle.vx_check_options.specs.Placed.{order_along, order_below, order_to_left, order_sent}
use Rattle.vx_check_options.specs.Laws.{may_begin}
use Rattle.vx_check_options.proofs.Entries.{lone-entry}
use Rattle.vx_check_options.proofs.ChosenOrders.{are_front_copies, begin-whole, along-chosen, along-copies, chosen-begins, narrowed-begins, singles-filled, rising-begins}
use Rattle.vx_check_options.proofs.TypedParts.{KeepsTypes, whole-types, left-types, unary-types, columns-copied}

-- an order of copies is of columns where that of the input is
copies-typed : (k : Copying) (ts us : List ColType) (order : List OrderEntry) (places : OrderChoices) → KeepsTypes k ts us → may_begin order (places_up k places) ≡ true
    → are_columns (length ts) (order_columns (order_along k order places)) ≡ true → are_columns (length us) (order_columns order) ≡ true
copies-typed k ts us order places keeps h c = columns-copied k ts us (order_columns (order_along k order places)) (order_columns order) keeps (along-copies k order places h) c

-- an order that goes with these entries begins them
singles-copies : (order given : List OrderEntry) → may_begin order (singles given) ≡ true → are_front_copies whole_rows (order_columns given) (order_columns order) ≡ true
singles-copies [] given h = refl
singles-copies (c ∷ cs) [] h = h
singles-copies (c ∷ cs) (d ∷ ds) h =
    let is : c ≡ d = lone-entry d c (and-left (has_entry (d ∷ []) c) (may_begin cs (singles ds)) h) in
    and-both (contains (d.column ∷ []) c.column) (are_front_copies whole_rows (order_columns ds) (order_columns cs))
    (ap (λ (e : OrderEntry). contains (d.column ∷ []) e.column) is ∙ or-left (d.column == d.column) false (eq-eqb d.column d.column refl))
    (singles-copies cs ds (and-right (has_entry (d ∷ []) c) (may_begin cs (singles ds)) h))

-- an order that begins these entries
pub singles-typed : (ts : List ColType) (order given : List OrderEntry) → may_begin order (singles given) ≡ true → are_columns (length ts) (order_columns given) ≡ true
    → are_columns (length ts) (order_columns order) ≡ true
singles-typed ts order given h c = columns-copied whole_rows ts ts (order_columns given) (order_columns order) (whole-types ts) (singles-copies order given h) c

-- an order of no places is empty
none-typed : (w : ℕ) (order : List OrderEntry) → may_begin order [] ≡ true → are_columns w (order_columns order) ≡ true
none-typed w [] h = refl
none-typed w (c ∷ cs) h = absurd (true≢false (sym h))

-- the declared order of a relation is of its columns
pub declared-typed : (s : Scope) (r : ℕ) → IsCatalog s.catalog → nat_lt r (length s.catalog) ≡ true
    → are_columns (length (relation_at s.catalog r).types) (order_columns (relation_at s.catalog r).order) ≡ true
declared-typed s r catalog h = let is = catalog.each r h in ap (λ w. are_columns w (order_columns (relation_at s.catalog r).order)) is.typed ∙ is.order

-- the order of an operator over one input
pub unary-order-typed : (op : Unary) (ts : List ColType) (order : List OrderEntry) (places : OrderChoices) → is_unary ts op ≡ true
    → may_begin order (places_up (described op).copying (places_after (described op).order places)) ≡ true
    → are_columns (length ts) (order_columns (order_below (described op).order (described op).copying order places)) ≡ true → are_columns (length (unary_types op ts)) (order_columns order) ≡ true
unary-order-typed (select fs) ts order places o h c = copies-typed whole_rows ts ts order places (unary-types (select fs) ts) h c
unary-order-typed (project es) ts order places o h c =
    copies-typed (entries_kept (map kept_column es)) ts (unary_types (project es) ts) order places (unary-types (project es) ts) h c
unary-order-typed (distinct cols) ts order places o h c = copies-typed (columns_kept cols) ts (unary_types (distinct cols) ts) order places (unary-types (distinct cols) ts) h c
unary-order-typed (sort of_parts given) ts order places o h c =
    copies-typed whole_rows ts ts order (singles given) (whole-types ts) h
    (singles-typed ts (order_along whole_rows order (singles given)) given
    (chosen-begins (order_along whole_rows order (singles given)) (singles given) (along-chosen whole_rows order (singles given) (singles-filled given)))
    (and-right (is_some_list given) (are_columns (length ts) (order_columns given)) o))
unary-order-typed (group plain by aggregates) ts order places o h c =
    copies-typed (columns_kept by) ts (unary_types (group plain by aggregates) ts) order places (unary-types (group plain by aggregates) ts) h c
unary-order-typed (group partial by aggregates) ts order places o h c =
    copies-typed (columns_kept by) ts (unary_types (group partial by aggregates) ts) order places (unary-types (group partial by aggregates) ts) h c
unary-order-typed (group final by aggregates) ts order places o h c =
    copies-typed (columns_kept by) ts (unary_types (group final by aggregates) ts) order places (unary-types (group final by aggregates) ts) h c
unary-order-typed (limit m) ts order places o h c = copies-typed whole_rows ts ts order places (unary-types (limit m) ts) h c

-- of one over two
pub binary-order-typed : (op : Binary) (ts us : List ColType) (order : List OrderEntry) (places : OrderChoices) → may_begin order (places_over_both op places) ≡ true
    → are_columns (length ts) (order_columns (order_to_left op order places)) ≡ true → are_columns (length (binary_types op ts us)) (order_columns order) ≡ true
binary-order-typed union ts us order places h c = none-typed (length ts) order h
binary-order-typed (join (by_merging falls) on) ts us order places h c =
    copies-typed whole_rows ts (ts ++ us) order places (left-types ts us) (begin-whole order places (narrowed-begins (left_order falls on) order places h)) c
binary-order-typed (join by_hashing on) ts us order places h c = copies-typed whole_rows ts (ts ++ us) order places (left-types ts us) (begin-whole order places h) c
binary-order-typed (semi_join matched on conditions) ts us order places h c = copies-typed whole_rows ts ts order places (whole-types ts) (begin-whole order places h) c

-- and of an exchange
pub sent-order-typed : (k : ExchangeKind) (alone : Bool) (ts : List ColType) (merge order : List OrderEntry) (parts : List Part) (places : OrderChoices) → are_columns (length ts) (order_columns merge) ≡ true
    → may_begin order (cond alone (or_nowhere (narrowed merge places)) (places_sent k merge parts places)) ≡ true → are_columns (length ts) (order_columns (order_along whole_rows (order_sent k alone merge order) places)) ≡ true
    → are_columns (length ts) (order_columns order) ≡ true
sent-order-typed k true ts merge order parts places m h c =
    copies-typed whole_rows ts ts order places (whole-types ts) (begin-whole order places (narrowed-begins merge order places h)) c
sent-order-typed concat false ts merge order parts places m h c = copies-typed whole_rows ts ts order places (whole-types ts) (begin-whole order places (rising-begins parts order places h)) c
sent-order-typed (route_to z r cols) false ts merge order parts places m h c = singles-typed ts order merge h m
sent-order-typed (round z) false ts merge order parts places m h c = singles-typed ts order merge h m
sent-order-typed (broadcast z) false ts merge order parts places m h c = singles-typed ts order merge h m
sent-order-typed gather false ts merge order parts places m h c = singles-typed ts order merge h m
