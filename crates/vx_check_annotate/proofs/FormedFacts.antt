-- A document can say the claims of a typed plan: no name is empty, and no route is without columns.
use Rattle.std.proofs.Common.{◌≡◌, ℕ, ◌+◌, nat_lt, nat_le, List, [], ◌∷◌, ◌++◌, take, drop, length, map, Bool, true, false, ◌&&◌, ◌||◌, if◌then◌else◌, Some, None, bytes_eq, refl, sym, ap, ◌∙◌, subst, arith}
use Rattle.std.specs.List.{list_all}
use Rattle.std.proofs.lemmas.Bool.{ltb-true}
use Rattle.std.proofs.lemmas.List.{length-map, length-append, length-drop, take-append-drop}
use Rattle.std.proofs.lemmas.List.Folds.{list_all-append}
use Rattle.std.proofs.lemmas.List.Sums.{AllPass-from_list_all}
use Rattle.std.proofs.lemmas.Slice.Eq.{bytes_eq-Decides}
use Rattle.vx_rows_values.specs.declared.value.ColType.{ColType}
use Rattle.vx_rows_values.specs.Types.{type_at, is_held}
use Rattle.vx_rows_values.specs.Values.{Name}
use Rattle.vx_rows_values.specs.declared.order.OrderEntry.{OrderEntry}
use Rattle.vx_rows_values.specs.Order.{order_columns}
use Rattle.vx_rows_values.specs.Lists.{is_some_list}
use Rattle.vx_rows_values.specs.Ranges.{RangeForm}
use Rattle.vx_rows_values.proofs.Booleans.{and-left, and-right, and-both}
use Rattle.vx_catalog_relations.specs.Catalog.{relation_at, all_below, are_distinct, is_named, IsCatalog}
use Rattle.vx_catalog_relations.specs.Naming.{name_at, order_text}
use Rattle.vx_plan_nodes.specs.Plan.{by_hash, by_range, Part, routed, Claim, Entry, Aggregate, Unary, Binary}
use Rattle.vx_plan_nodes.specs.Plan as plan
use Rattle.vx_plan_nodes.specs.Types.{aggregate_type, types_of, unary_types, binary_types}
use Rattle.vx_plan_nodes.specs.Phases.{phase_fits, both_closed}
use Rattle.vx_plan_nodes.specs.Typed.{are_columns, is_size, is_unary, is_binary, is_kind, may_merge, is_part, is_claim, is_output, typed}
use Rattle.vx_plan_nodes.specs.Outline.{Top, Outline, scan, unary, binary, exchange, plan_in}
use Rattle.vx_plan_nodes.specs.Outputs.{IsOutputOf, HasOutputs}
use Rattle.vx_plan_nodes.specs.Names.{Names, scope_of}
use Rattle.vx_plan_json.specs.Document.{OperandForm}
use Rattle.vx_plan_json.specs.Formed.{are_names, are_some_names, is_order, is_range_form, is_part_form, is_claim_form, is_output_form, is_new_name, is_operand_form, is_made, is_entry_form, is_aggregate_form, is_function_form, is_unary_form, is_binary_form, is_kind_form, is_merge_form, is_tree_form}
use Rattle.vx_plan.specs.ByName.{names_at, part_by_name, claim_by_name, kept_by_name, operand_by_name, entry_by_name, entries_by_name, function_by_name, aggregates_by_name, top_by_name, unary_by_name, binary_by_name, kind_by_name, tree_by_name, column_names}
use Rattle.vx_plan.specs.Exact.{are_kept, IsEntryNamed, AreEntries, UnaryNames, binary_names, AreNamed}
use Rattle.vx_plan.proofs.ClaimExact.{range-fits}
use Rattle.vx_check_annotate.specs.Unclaimed.{without_claims, are_claims_formed}

-- ---- claims over columns of which each has a name

name-some : (names : List Name) (c : ℕ) → are_names names ≡ true → nat_lt c (length names) ≡ true → is_some_list (name_at names c) ≡ true
name-some names c h l = AllPass-from_list_all is_some_list names h c [] (ltb-true c (length names) l)

names-some : (names : List Name) (cols : List ℕ) → are_names names ≡ true → all_below (length names) cols ≡ true → are_names (names_at names cols) ≡ true
names-some names [] h b = refl
names-some names (c ∷ cols) h b =
    and-both (is_some_list (name_at names c)) (are_names (names_at names cols)) (name-some names c h (and-left (nat_lt c (length names)) (all_below (length names) cols) b))
    (names-some names cols h (and-right (nat_lt c (length names)) (all_below (length names) cols) b))

columns-some : (names : List Name) (cols : List ℕ) → are_names names ≡ true → are_columns (length names) cols ≡ true → are_names (names_at names cols) ≡ true
columns-some names cols h b = names-some names cols h (and-left (all_below (length names) cols) (are_distinct cols) b)

order-some : (names : List Name) (order : List OrderEntry) → are_names names ≡ true → all_below (length names) (order_columns order) ≡ true → is_order (order_text names order) ≡ true
order-some names [] h b = refl
order-some names (e ∷ order) h b =
    let rest : Bool = all_below (length names) (order_columns order) in
    and-both (is_some_list (name_at names e.column)) (is_order (order_text names order)) (name-some names e.column h (and-left (nat_lt e.column (length names)) rest b))
    (order-some names order h (and-right (nat_lt e.column (length names)) rest b))

keys-some : (names : List Name) (keys : List (List ℕ)) → are_names names ≡ true → list_all (are_columns (length names)) keys ≡ true → list_all are_names (map (names_at names) keys) ≡ true
keys-some names [] h b = refl
keys-some names (k ∷ keys) h b =
    and-both (are_names (names_at names k)) (list_all are_names (map (names_at names) keys)) (columns-some names k h (and-left (are_columns (length names) k) (list_all (are_columns (length names)) keys) b))
    (keys-some names keys h (and-right (are_columns (length names) k) (list_all (are_columns (length names)) keys) b))

range-names : (ranges : List RangeForm) → list_all is_range_form ranges ≡ true → are_names (map (λ (r : RangeForm). r.name) ranges) ≡ true
range-names [] h = refl
range-names (r ∷ ranges) h =
    and-both (is_some_list r.name) (are_names (map (λ (r : RangeForm). r.name) ranges)) (and-left (is_some_list r.name) (list_all is_held r.bounds) (and-left (is_range_form r) (list_all is_range_form ranges) h))
    (range-names ranges (and-right (is_range_form r) (list_all is_range_form ranges) h))

some-at : (names : List Name) (cols : List ℕ) → is_some_list cols ≡ true → is_some_list (names_at names cols) ≡ true
some-at names [] h = h
some-at names (c ∷ cols) h = refl

-- a typed part
part-formed : (s : Names) (names : List Name) (types : List ColType) (p : Part) → list_all is_range_form s.ranges ≡ true → are_names names ≡ true → length names ≡ length types → is_part (scope_of s) types p ≡ true
    → is_part_form (part_by_name s names p) ≡ true
part-formed s names types plan.one ranges h e k = refl
part-formed s names types plan.any ranges h e k = refl
part-formed s names types plan.all ranges h e k = refl
part-formed s names types (routed (by_hash route) cols) ranges h e k =
    let rest = and-right (is_some_list route) (is_some_list cols && are_columns (length types) cols) k in
    let P : ℕ → Type 0 = λ n. are_columns n cols ≡ true in
    and-both (is_some_list route) (are_some_names (names_at names cols)) (and-left (is_some_list route) (is_some_list cols && are_columns (length types) cols) k)
    (and-both (is_some_list (names_at names cols)) (are_names (names_at names cols)) (some-at names cols (and-left (is_some_list cols) (are_columns (length types) cols) rest))
    (columns-some names cols h (subst P (sym e) (and-right (is_some_list cols) (are_columns (length types) cols) rest))))
part-formed s names types (routed (by_range r) cols) ranges h e k =
    let t = range-fits s types r cols k in
    let declared : List Name = map (λ (r : RangeForm). r.name) s.ranges in
    let count : length (map (λ (r : RangeForm). r.bounds) s.ranges) ≡ length declared = length-map s.ranges (λ (r : RangeForm). r.bounds) ∙ sym (length-map s.ranges (λ (r : RangeForm). r.name)) in
    let P : ℕ → Type 0 = λ n. nat_lt r n ≡ true in
    let Q : ℕ → Type 0 = λ n. nat_lt t.0 n ≡ true in
    let R : List ℕ → Type 0 = λ cols. is_part_form (part_by_name s names (routed (by_range r) cols)) ≡ true in
    subst R (sym t.1)
    (and-both (is_some_list (name_at declared r)) (is_some_list (name_at names t.0)) (name-some declared r (range-names s.ranges ranges) (subst P count t.2))
    (name-some names t.0 h (subst Q (sym e) t.3)))

-- a typed claim
claim-formed : (s : Names) (names : List Name) (types : List ColType) (c : Claim) → list_all is_range_form s.ranges ≡ true → are_names names ≡ true → length names ≡ length types → is_claim (scope_of s) types c ≡ true
    → is_claim_form (claim_by_name s names c) ≡ true
claim-formed s names types c ranges h e k =
    let w : ℕ = length types in
    let columns : List ℕ = order_columns c.order in
    let rest = and-right (is_part (scope_of s) types c.part) (are_columns w columns && list_all (are_columns w) c.keys) k in
    let P : ℕ → Type 0 = λ n. are_columns n columns ≡ true in
    let Q : ℕ → Type 0 = λ n. list_all (are_columns n) c.keys ≡ true in
    let there = subst P (sym e) (and-left (are_columns w columns) (list_all (are_columns w) c.keys) rest) in
    and-both (is_part_form (part_by_name s names c.part)) (is_order (order_text names c.order) && list_all are_names (map (names_at names) c.keys))
    (part-formed s names types c.part ranges h e (and-left (is_part (scope_of s) types c.part) (are_columns w columns && list_all (are_columns w) c.keys) k))
    (and-both (is_order (order_text names c.order)) (list_all are_names (map (names_at names) c.keys))
    (order-some names c.order h (and-left (all_below (length names) columns) (are_distinct columns) there))
    (keys-some names c.keys h (subst Q (sym e) (and-right (are_columns w columns) (list_all (are_columns w) c.keys) rest))))

-- ---- each output column has a name

-- of a scan: those of the relation, behind a prefix
prefixed-some : (prefix : List ℕ) (names : List Name) → list_all is_named names ≡ true → are_names (map (λ n. prefix ++ n) names) ≡ true
prefixed-some prefix [] h = refl
prefixed-some prefix (n ∷ names) h =
    and-both (is_some_list (prefix ++ n)) (are_names (map (λ n. prefix ++ n) names)) (some prefix n (and-left (is_named n) (list_all is_named names) h))
    (prefixed-some prefix names (and-right (is_named n) (list_all is_named names) h))
  where
    some : (prefix n : List ℕ) → is_named n ≡ true → is_some_list (prefix ++ n) ≡ true
    some (c ∷ prefix) n h = refl
    some [] (c ∷ n) h = refl
    some [] [] h = cc

-- kept columns: each has a new name, or its old one
kept-some : (names : List Name) (cols : List ℕ) (renamed : List Bool) (output : List Name) → are_kept names cols renamed output ≡ true → list_all is_output_form (kept_by_name names cols renamed output) ≡ true → are_names output ≡ true
kept-some names [] [] [] h f = refl
kept-some names (c ∷ cols) (b ∷ renamed) (n ∷ output) h f =
    let own : Bool = is_some_list (name_at names c) && is_new_name (if b then Some n else None) in
    let below : Bool = list_all is_output_form (kept_by_name names cols renamed output) in
    and-both (is_some_list n) (are_names output)
    (one b (and-left own below f) (and-left (b || bytes_eq n (name_at names c)) (are_kept names cols renamed output) h))
    (kept-some names cols renamed output (and-right (b || bytes_eq n (name_at names c)) (are_kept names cols renamed output) h) (and-right own below f))
  where
    one : (b : Bool) → (is_some_list (name_at names c) && is_new_name (if b then Some n else None)) ≡ true → (b || bytes_eq n (name_at names c)) ≡ true → is_some_list n ≡ true
    one true f h = and-right (is_some_list (name_at names c)) (is_some_list n) f
    one false f h = ap is_some_list ((bytes_eq-Decides n (name_at names c)).0 h) ∙ and-left (is_some_list (name_at names c)) true f
kept-some names _ _ _ h f = cc

-- columns of a projection: one that is kept has a new name, or its old one, and one that is computed has a name
entries-some : (names : List Name) (es : List Entry) (renamed : List Bool) (output : List Name) → AreEntries names es renamed output → list_all is_entry_form (entries_by_name names es renamed output) ≡ true → are_names output ≡ true
entries-some names [] [] [] h f = refl
entries-some names (e ∷ es) (b ∷ renamed) (n ∷ output) h f =
    let own : Bool = is_entry_form (entry_by_name names e b n) in
    let below : Bool = list_all is_entry_form (entries_by_name names es renamed output) in
    and-both (is_some_list n) (are_names output) (one e b h.0 (and-left own below f)) (entries-some names es renamed output h.1 (and-right own below f))
  where
    one : (e : Entry) (b : Bool) → IsEntryNamed names e b n → is_entry_form (entry_by_name names e b n) ≡ true → is_some_list n ≡ true
    one (plan.copy_of c) true k f = and-right (is_some_list (name_at names c)) (is_some_list n) f
    one (plan.copy_of c) false k f = ap is_some_list ((bytes_eq-Decides n (name_at names c)).0 k) ∙ and-left (is_some_list (name_at names c)) true f
    one (plan.made_by e) b k f =
        let o : OperandForm = operand_by_name names e in
        and-right (is_operand_form o) (is_some_list n) (and-right (is_made o) (is_operand_form o && is_some_list n) f)
entries-some names _ _ _ h f = absurd h

aggregates-some : (names : List Name) (aggregates : List Aggregate) (output : List Name) → length output ≡ length aggregates → list_all is_aggregate_form (aggregates_by_name names aggregates output) ≡ true → are_names output ≡ true
aggregates-some names [] [] e f = refl
aggregates-some names [] (n ∷ output) e f = absurd (omega arith)
aggregates-some names (a ∷ aggregates) [] e f = refl
aggregates-some names (a ∷ aggregates) (n ∷ output) e f =
    let own : Bool = is_function_form (function_by_name names a) && is_some_list n in
    let below : Bool = list_all is_aggregate_form (aggregates_by_name names aggregates output) in
    and-both (is_some_list n) (are_names output) (and-right (is_function_form (function_by_name names a)) (is_some_list n) (and-left own below f))
    (aggregates-some names aggregates output (omega arith) (and-right own below f))

-- a group's keys, then its aggregates
group-some : (names output : List Name) (by : List ℕ) (aggregates : List Aggregate) (types : List ColType) → take (length by) output ≡ names_at names by → length output ≡ length (map (type_at types) by ++ map (aggregate_type types) aggregates)
    → (are_names (names_at names by) && list_all is_aggregate_form (aggregates_by_name names aggregates (drop (length by) output))) ≡ true → are_names output ≡ true
group-some names output by aggregates types e l f =
    let keys : Bool = are_names (names_at names by) in
    let puts : Bool = list_all is_aggregate_form (aggregates_by_name names aggregates (drop (length by) output)) in
    let count : length (map (type_at types) by ++ map (aggregate_type types) aggregates) ≡ length by + length aggregates =
    length-append (map (type_at types) by) (map (aggregate_type types) aggregates) ∙ λ i. length-map by (type_at types) i + length-map aggregates (aggregate_type types) i in
    let rest : length (drop (length by) output) ≡ length aggregates = let d = length-drop (length by) output in omega arith in
    let P : List Name → Type 0 = λ ns. are_names ns ≡ true in
    subst P (take-append-drop (length by) output)
    (list_all-append is_some_list (take (length by) output) (drop (length by) output)
    ∙ and-both (are_names (take (length by) output)) (are_names (drop (length by) output)) (ap are_names e ∙ and-left keys puts f)
    (aggregates-some names aggregates (drop (length by) output) rest (and-right keys puts f)))

-- what an operator over one input gives, whose columns have names
unary-some : (names output : List Name) (types : List ColType) (op : Unary) (renamed : List Bool) → are_names names ≡ true → UnaryNames op renamed names output → length output ≡ length (unary_types op types)
    → is_unary_form (unary_by_name names output op renamed) ≡ true → are_names output ≡ true
unary-some names output types (plan.select fs) renamed h n l f = ap are_names n.1 ∙ h
unary-some names output types (plan.project es) renamed h n l f =
    entries-some names es renamed output n (and-right (is_some_list (entries_by_name names es renamed output)) (list_all is_entry_form (entries_by_name names es renamed output)) f)
unary-some names output types (plan.distinct cols) renamed h n l f =
    kept-some names cols renamed output n (and-right (is_some_list (kept_by_name names cols renamed output)) (list_all is_output_form (kept_by_name names cols renamed output)) f)
unary-some names output types (plan.sort of_parts order) renamed h n l f = ap are_names n.1 ∙ h
unary-some names output types (plan.group plan.plain by aggregates) renamed h n l f = group-some names output by aggregates types n.1 l
    (and-right (is_some_list (names_at names by) || is_some_list (aggregates_by_name names aggregates (drop (length by) output))) (are_names (names_at names by) && list_all is_aggregate_form (aggregates_by_name names aggregates (drop (length by) output))) f)
unary-some names output types (plan.group plan.partial by aggregates) renamed h n l f = group-some names output by aggregates types n.1 l
    (and-right (is_some_list (names_at names by) || is_some_list (aggregates_by_name names aggregates (drop (length by) output))) (are_names (names_at names by) && list_all is_aggregate_form (aggregates_by_name names aggregates (drop (length by) output))) f)
unary-some names output types (plan.group plan.final by aggregates) renamed h n l f = ap are_names n.1 ∙ h
unary-some names output types (plan.limit m) renamed h n l f = ap are_names n.1 ∙ h

binary-some : (left right : List Name) (op : Binary) → are_names left ≡ true → are_names right ≡ true → are_names (binary_names op left right) ≡ true
binary-some left right plan.union l r = l
binary-some left right (plan.join method on) l r = list_all-append is_some_list left right ∙ and-both (are_names left) (are_names right) l r
binary-some left right (plan.semi_join matched on conditions) l r = l

-- ---- nodes

pub record AreFormed (s : Names) (o : Outline) : Type 0 where
  pub names : are_names (column_names o) ≡ true
  pub claims : are_claims_formed (tree_by_name s o) ≡ true

top-formed : (s : Names) (types : List ColType) (h : Top) → list_all is_range_form s.ranges ≡ true → are_names h.columns.names ≡ true → IsOutputOf types h.columns → is_output (scope_of s) types h.claim ≡ true → is_claim_form (top_by_name s h) ≡ true
top-formed s types h ranges names out ok = claim-formed s h.columns.names types h.claim ranges names out.names_are (and-right (nat_le (length types) 64) (is_claim (scope_of s) types h.claim) ok)

scan-formed : (s : Names) (h : Top) (r : ℕ) (shared : Bool) (z : plan.Size) (prefix : List ℕ) → IsCatalog s.catalog → list_all is_range_form s.ranges ≡ true → typed (scope_of s) (plan_in (scan h r shared z prefix)) ≡ true
    → HasOutputs (relation_at s.catalog) (scan h r shared z prefix) → AreNamed s.catalog (scan h r shared z prefix) → AreFormed s (scan h r shared z prefix)
scan-formed s h r shared z prefix cat ranges ok out a =
    let types : List ColType = (relation_at s.catalog r).types in
    let last : Bool = is_output (scope_of s) types h.claim in
    let there = and-left (nat_lt r (length s.catalog)) (is_size (length s.sizes) z && last) ok in
    let rest = and-right (nat_lt r (length s.catalog)) (is_size (length s.sizes) z && last) ok in
    let names : are_names h.columns.names ≡ true = ap are_names a.0 ∙ prefixed-some prefix (relation_at s.catalog r).names (cat.each r there).columns_named in
    record { names = names; claims = top-formed s types h ranges names out (and-right (is_size (length s.sizes) z) last rest) }

unary-formed : (s : Names) (h : Top) (op : Unary) (renamed : List Bool) (t : Outline) → AreFormed s t → list_all is_range_form s.ranges ≡ true → typed (scope_of s) (plan_in (unary h op renamed t)) ≡ true
    → HasOutputs (relation_at s.catalog) (unary h op renamed t) → AreNamed s.catalog (unary h op renamed t) → is_unary_form (unary_by_name (column_names t) h.columns.names op renamed) ≡ true → AreFormed s (unary h op renamed t)
unary-formed s h op renamed t below ranges ok out a f =
    let ts : List ColType = types_of (relation_at s.catalog) (plan_in t) in
    let last : Bool = is_output (scope_of s) (unary_types op ts) h.claim in
    let one = and-right (typed (scope_of s) (plan_in t)) (phase_fits op (plan_in t) && (is_unary ts op && last)) ok in
    let two = and-right (is_unary ts op) last (and-right (phase_fits op (plan_in t)) (is_unary ts op && last) one) in
    let names = unary-some (column_names t) h.columns.names ts op renamed below.names a.0 out.0.names_are f in
    record { names = names; claims = and-both (is_claim_form (top_by_name s h)) (are_claims_formed (tree_by_name s t)) (top-formed s (unary_types op ts) h ranges names out.0 two) below.claims }

binary-formed : (s : Names) (h : Top) (op : Binary) (t u : Outline) → AreFormed s t → AreFormed s u → list_all is_range_form s.ranges ≡ true → typed (scope_of s) (plan_in (binary h op t u)) ≡ true
    → HasOutputs (relation_at s.catalog) (binary h op t u) → AreNamed s.catalog (binary h op t u) → AreFormed s (binary h op t u)
binary-formed s h op t u left right ranges ok out a =
    let ts : List ColType = types_of (relation_at s.catalog) (plan_in t) in
    let us : List ColType = types_of (relation_at s.catalog) (plan_in u) in
    let last : Bool = is_output (scope_of s) (binary_types op ts us) h.claim in
    let closed : Bool = both_closed (plan_in t) (plan_in u) in
    let one = and-right (typed (scope_of s) (plan_in t)) (typed (scope_of s) (plan_in u) && (closed && (is_binary ts us op && last))) ok in
    let two = and-right closed (is_binary ts us op && last) (and-right (typed (scope_of s) (plan_in u)) (closed && (is_binary ts us op && last)) one) in
    let names : are_names h.columns.names ≡ true = ap are_names a.0 ∙ binary-some (column_names t) (column_names u) op left.names right.names in
    record {
      names = names;
      claims = and-both (is_claim_form (top_by_name s h)) (are_claims_formed (tree_by_name s t) && are_claims_formed (tree_by_name s u))
          (top-formed s (binary_types op ts us) h ranges names out.0 (and-right (is_binary ts us op) last two))
          (and-both (are_claims_formed (tree_by_name s t)) (are_claims_formed (tree_by_name s u)) left.claims right.claims);
    }

exchange-formed : (s : Names) (h : Top) (k : plan.ExchangeKind) (merge : List OrderEntry) (t : Outline) → AreFormed s t → list_all is_range_form s.ranges ≡ true → typed (scope_of s) (plan_in (exchange h k merge t)) ≡ true
    → HasOutputs (relation_at s.catalog) (exchange h k merge t) → AreNamed s.catalog (exchange h k merge t) → AreFormed s (exchange h k merge t)
exchange-formed s h k merge t below ranges ok out a =
    let ts : List ColType = types_of (relation_at s.catalog) (plan_in t) in
    let last : Bool = is_output (scope_of s) ts h.claim in
    let merged : Bool = are_columns (length ts) (order_columns merge) in
    let one = and-right (typed (scope_of s) (plan_in t)) (is_kind (scope_of s) ts k && (merged && (may_merge k merge && last))) ok in
    let two = and-right merged (may_merge k merge && last) (and-right (is_kind (scope_of s) ts k) (merged && (may_merge k merge && last)) one) in
    let names : are_names h.columns.names ≡ true = ap are_names a.0 ∙ below.names in
    record { names = names; claims = and-both (is_claim_form (top_by_name s h)) (are_claims_formed (tree_by_name s t)) (top-formed s ts h ranges names out.0 (and-right (may_merge k merge) last two)) below.claims }

-- a document that has its form but for claims can say those of a typed plan
pub claims-formed : (s : Names) (o : Outline) → IsCatalog s.catalog → list_all is_range_form s.ranges ≡ true → typed (scope_of s) (plan_in o) ≡ true → HasOutputs (relation_at s.catalog) o → AreNamed s.catalog o
    → is_tree_form (without_claims (tree_by_name s o)) ≡ true → AreFormed s o
claims-formed s (scan h r shared z prefix) cat ranges ok out a f = scan-formed s h r shared z prefix cat ranges ok out a
claims-formed s (unary h op renamed t) cat ranges ok out a f =
    let ts : List ColType = types_of (relation_at s.catalog) (plan_in t) in
    let own : Bool = phase_fits op (plan_in t) && (is_unary ts op && is_output (scope_of s) (unary_types op ts) h.claim) in
    let this : Bool = is_unary_form (unary_by_name (column_names t) h.columns.names op renamed) in
    let deep : Bool = is_tree_form (without_claims (tree_by_name s t)) in
    let below = claims-formed s t cat ranges (and-left (typed (scope_of s) (plan_in t)) own ok) out.1 a.2 (and-right this deep f) in
    unary-formed s h op renamed t below ranges ok out a (and-left this deep f)
claims-formed s (binary h op t u) cat ranges ok out a f =
    let ts : List ColType = types_of (relation_at s.catalog) (plan_in t) in
    let us : List ColType = types_of (relation_at s.catalog) (plan_in u) in
    let own : Bool = both_closed (plan_in t) (plan_in u) && (is_binary ts us op && is_output (scope_of s) (binary_types op ts us) h.claim) in
    let this : Bool = is_binary_form (binary_by_name (column_names t) (column_names u) op) in
    let left : Bool = is_tree_form (without_claims (tree_by_name s t)) in
    let right : Bool = is_tree_form (without_claims (tree_by_name s u)) in
    let rest = and-right (typed (scope_of s) (plan_in t)) (typed (scope_of s) (plan_in u) && own) ok in
    let forms = and-right this (left && right) f in
    let one = claims-formed s t cat ranges (and-left (typed (scope_of s) (plan_in t)) (typed (scope_of s) (plan_in u) && own) ok) out.1 a.2 (and-left left right forms) in
    let two = claims-formed s u cat ranges (and-left (typed (scope_of s) (plan_in u)) own rest) out.2 a.3 (and-right left right forms) in
    binary-formed s h op t u one two ranges ok out a
claims-formed s (exchange h k merge t) cat ranges ok out a f =
    let ts : List ColType = types_of (relation_at s.catalog) (plan_in t) in
    let own : Bool = is_kind (scope_of s) ts k && (are_columns (length ts) (order_columns merge) && (may_merge k merge && is_output (scope_of s) ts h.claim)) in
    let this : Bool = is_kind_form (kind_by_name s (column_names t) k) in
    let merged : Bool = is_merge_form (kind_by_name s (column_names t) k) (order_text (column_names t) merge) in
    let deep : Bool = is_tree_form (without_claims (tree_by_name s t)) in
    let below = claims-formed s t cat ranges (and-left (typed (scope_of s) (plan_in t)) own ok) out.1 a.2 (and-right merged deep (and-right this (merged && deep) f)) in
    exchange-formed s h k merge t below ranges ok out a
