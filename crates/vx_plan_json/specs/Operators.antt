-- Which operator a JSON object is, by its own members.
use Rattle.std.specs.Prelude.{ℕ, List, [], ◌∷◌, Bool, true, false, Option, Some, None, option_map, option_and_then, bytes_eq, codes, if◌then◌else◌, nat_lt, ◌^◌}
use Rattle.serde_json.specs.Data.{Data}
use Rattle.serde_json.specs.Find.{get, as_str, as_number, as_u64}
use Rattle.serde_json.specs.View.{view}
use Rattle.vx_catalog_json.specs.Look.{has_only, OrderText}
use Rattle.vx_plan_json.specs.Look.{name_at, text_at, each_in, some_in, or_default}
use Rattle.vx_rows_values.specs.Values.{Name}
use Rattle.vx_plan_json.specs.Document.{ClaimForm, ScanForm, ConditionForm, OutputForm, EntryForm, AggregateForm, UnaryForm, select, project, distinct, sort, partial_sort, group, partial_group, final_group, limit, BinaryForm, union, join, semi_join, KindForm, hash, range, round, broadcast, gather, concat, claim_form, scan_form, unary_form, binary_form, kind_form}
use Rattle.vx_plan_json.specs.Form.{names_in, some_names_in, some_order_in, claimed, condition_in, filter_in, output_in, projected_in, aggregate_in, pair_in}
use Rattle.vx_plan_json.specs.Formed.{has_few_keys}
use Rattle.vx_plan_json.specs.declared.operators.Own.{Own}
use Rattle.vx_plan_json.specs.declared.operators.Own.TheVariants as own

infixl 10 ◌>>=◌
abbrev ◌>>=◌ : {A B : Type 0} → Option A → (A → Option B) → Option B
o >>= f = option_and_then f o

-- what a node says of itself, and the values of its inputs
pub data OwnForm : Type 0 where
  own_scan : ClaimForm → ScanForm → OwnForm
  own_unary : ClaimForm → UnaryForm → Data → OwnForm
  own_binary : ClaimForm → BinaryForm → Data → Data → OwnForm
  own_exchange : ClaimForm → KindForm → List OrderText → Data → OwnForm

abbrev pub own_form : Own → OwnForm
own_form (own.Scan c s) = own_scan (claim_form c) (scan_form s)
own_form (own.Unary c op d) = own_unary (claim_form c) (unary_form op) (view d.now)
own_form (own.Binary c op d e) = own_binary (claim_form c) (binary_form op) (view d.now) (view e.now)
own_form (own.Exchange c k m d) = own_exchange (claim_form c) (kind_form k) m.items (view d.now)

-- whether the workers share the rows
abbrev pub mode_named : List ℕ → Option Bool
mode_named s = if bytes_eq s (codes "shared") then Some true else (if bytes_eq s (codes "whole") then Some false else None)

unfoldable pub scan_in : Data → Option ScanForm
scan_in d = do
  r ← name_at (codes "relation") d
  m ← option_and_then mode_named (text_at (codes "mode") d)
  z ← name_at (codes "size") d
  p ← or_default [] as_str (get (codes "prefix") d)
  Some (record { relation = r; shared = m; size = z; prefix = p })

unfoldable pub scan_own : Data → Option OwnForm
scan_own d = if has_only (codes "op" ∷ codes "relation" ∷ codes "mode" ∷ codes "size" ∷ codes "prefix" ∷ codes "claim" ∷ []) d
    then (do
      s ← scan_in d
      c ← claimed d
      Some (own_scan c s))
    else None

-- conditions; what stands in the objects of functions has so many levels of JSON at most
unfoldable pub select_in : ℕ → Data → Option UnaryForm
select_in levels d = if has_only (codes "op" ∷ codes "where" ∷ codes "input" ∷ codes "claim" ∷ []) d
    then option_map select (option_and_then (some_in (filter_in levels)) (get (codes "where") d)) else None

-- the kept and the computed columns of a projection
unfoldable pub project_in : ℕ → Data → Option UnaryForm
project_in levels d = if has_only (codes "op" ∷ codes "columns" ∷ codes "input" ∷ codes "claim" ∷ []) d
    then option_map project (option_and_then (some_in (projected_in levels)) (get (codes "columns") d)) else None

-- the kept columns of a distinct
unfoldable pub outputs_in : Data → Option (List OutputForm)
outputs_in d = if has_only (codes "op" ∷ codes "columns" ∷ codes "input" ∷ codes "claim" ∷ []) d
    then option_and_then (some_in output_in) (get (codes "columns") d) else None

unfoldable pub sort_in : Data → Option UnaryForm
sort_in d = if has_only (codes "op" ∷ codes "columns" ∷ codes "input" ∷ codes "claim" ∷ []) d
    then option_map sort (option_and_then some_order_in (get (codes "columns") d)) else None

unfoldable pub partial_sort_in : Data → Option UnaryForm
partial_sort_in d = if has_only (codes "op" ∷ codes "phase" ∷ codes "columns" ∷ codes "input" ∷ codes "claim" ∷ []) d
    then option_map partial_sort (option_and_then some_order_in (get (codes "columns") d)) else None

abbrev pub sort_named : List ℕ → Data → Option UnaryForm
sort_named s d = if bytes_eq s (codes "partial") then partial_sort_in d else None

-- a sort by what its member `phase` says, if there is one
abbrev pub sort_by : Option Data → Data → Option UnaryForm
sort_by None d = sort_in d
sort_by (Some p) d = option_and_then (λ s. sort_named s d) (as_str p)

unfoldable pub sorted_in : Data → Option UnaryForm
sorted_in d = sort_by (get (codes "phase") d) d

-- not both lists are empty
abbrev pub group_or : List Name → List AggregateForm → Option (List Name × List AggregateForm)
group_or [] [] = None
group_or [] (a ∷ as') = Some ([], a ∷ as')
group_or (n ∷ ns) as' = Some (n ∷ ns, as')

-- the columns and the aggregates of a group
unfoldable pub lists_in : Data → Option (List Name × List AggregateForm)
lists_in d = do
  by ← option_and_then names_in (get (codes "by") d)
  aggregates ← option_and_then (each_in aggregate_in) (get (codes "aggregates") d)
  group_or by aggregates

unfoldable pub group_in : Data → Option UnaryForm
group_in d = if has_only (codes "op" ∷ codes "by" ∷ codes "aggregates" ∷ codes "input" ∷ codes "claim" ∷ []) d
    then option_map (λ g. group g.0 g.1) (lists_in d) else None

unfoldable pub partial_in : Data → Option UnaryForm
partial_in d = if has_only (codes "op" ∷ codes "phase" ∷ codes "by" ∷ codes "aggregates" ∷ codes "input" ∷ codes "claim" ∷ []) d
    then option_map (λ g. partial_group g.0 g.1) (lists_in d) else None

unfoldable pub final_in : Data → Option UnaryForm
final_in d = if has_only (codes "op" ∷ codes "phase" ∷ codes "input" ∷ codes "claim" ∷ []) d then Some final_group else None

abbrev pub phase_named : List ℕ → Data → Option UnaryForm
phase_named s d = if bytes_eq s (codes "partial") then partial_in d else (if bytes_eq s (codes "final") then final_in d else None)

-- a group by what its member `phase` says, if there is one
abbrev pub group_by : Option Data → Data → Option UnaryForm
group_by None d = group_in d
group_by (Some p) d = option_and_then (λ s. phase_named s d) (as_str p)

unfoldable pub phased_in : Data → Option UnaryForm
phased_in d = group_by (get (codes "phase") d) d

abbrev pub if_small : ℕ → Option ℕ
if_small n = if nat_lt n (2 ^ 32) then Some n else None

-- a number from 0 to 4,294,967,295
unfoldable pub rows_in : Data → Option ℕ
rows_in d = option_and_then if_small (option_and_then as_u64 (as_number d))

unfoldable pub limit_in : Data → Option UnaryForm
limit_in d = if has_only (codes "op" ∷ codes "rows" ∷ codes "input" ∷ codes "claim" ∷ []) d
    then option_map limit (option_and_then rows_in (get (codes "rows") d)) else None

unfoldable pub unary_in : ℕ → List ℕ → Data → Option UnaryForm
unary_in levels s d =
    if bytes_eq s (codes "select") then select_in levels d
    else (if bytes_eq s (codes "project") then project_in levels d
    else (if bytes_eq s (codes "distinct") then option_map distinct (outputs_in d)
    else (if bytes_eq s (codes "sort") then sorted_in d
    else (if bytes_eq s (codes "group") then phased_in d
    else (if bytes_eq s (codes "limit") then limit_in d else None)))))

unfoldable pub unary_own : ℕ → List ℕ → Data → Option OwnForm
unary_own levels s d = do
  op ← unary_in levels s d
  c ← claimed d
  i ← get (codes "input") d
  Some (own_unary c op i)

abbrev pub method_named : List ℕ → Option Bool
method_named s = if bytes_eq s (codes "merge") then Some true else (if bytes_eq s (codes "hash") then Some false else None)

unfoldable pub inner_in : Data → Option BinaryForm
inner_in d = if has_only (codes "op" ∷ codes "method" ∷ codes "kind" ∷ codes "on" ∷ codes "left" ∷ codes "right" ∷ codes "claim" ∷ []) d
    then (do
      m ← option_and_then method_named (text_at (codes "method") d)
      on ← option_and_then (some_in pair_in) (get (codes "on") d)
      Some (join m on))
    else None

-- the pairs, and the conditions in `where`, of which there are none where it is left out
abbrev pub matches_by : (merging : Bool) → Data → Option (List (Name × Name) × List ConditionForm)
matches_by true d = None
matches_by false d = do
  on ← option_and_then (some_in pair_in) (get (codes "on") d)
  conditions ← or_default [] (some_in condition_in) (get (codes "where") d)
  Some (on, conditions)

-- on what a semi or an anti join looks for matches; it does not merge
unfoldable pub matches_in : Data → Option (List (Name × Name) × List ConditionForm)
matches_in d = if has_only (codes "op" ∷ codes "method" ∷ codes "kind" ∷ codes "on" ∷ codes "where" ∷ codes "left" ∷ codes "right" ∷ codes "claim" ∷ []) d
    then option_and_then (λ m. matches_by m d) (option_and_then method_named (text_at (codes "method") d)) else None

abbrev pub join_named : List ℕ → Data → Option BinaryForm
join_named s d =
    if bytes_eq s (codes "inner") then inner_in d
    else (if bytes_eq s (codes "semi") then option_map (λ g. semi_join true g.0 g.1) (matches_in d)
    else (if bytes_eq s (codes "anti") then option_map (λ g. semi_join false g.0 g.1) (matches_in d) else None))

-- a join by what its member `kind` says, if there is one
abbrev pub join_by : Option Data → Data → Option BinaryForm
join_by None d = inner_in d
join_by (Some k) d = option_and_then (λ s. join_named s d) (as_str k)

unfoldable pub join_in : Data → Option BinaryForm
join_in d = join_by (get (codes "kind") d) d

unfoldable pub union_in : Data → Option BinaryForm
union_in d = if has_only (codes "op" ∷ codes "left" ∷ codes "right" ∷ codes "claim" ∷ []) d then Some union else None

abbrev pub binary_own : Option BinaryForm → Data → Option OwnForm
binary_own form d = do
  op ← form
  c ← claimed d
  l ← get (codes "left") d
  r ← get (codes "right") d
  Some (own_binary c op l r)

unfoldable pub hash_in : Data → Option KindForm
hash_in d = if has_only (codes "op" ∷ codes "kind" ∷ codes "size" ∷ codes "route" ∷ codes "columns" ∷ codes "merge" ∷ codes "input" ∷ codes "claim" ∷ []) d
    then (do
      z ← name_at (codes "size") d
      r ← name_at (codes "route") d
      cols ← option_and_then some_names_in (get (codes "columns") d)
      Some (hash z r cols))
    else None

unfoldable pub range_in : Data → Option KindForm
range_in d = if has_only (codes "op" ∷ codes "kind" ∷ codes "size" ∷ codes "route" ∷ codes "column" ∷ codes "merge" ∷ codes "input" ∷ codes "claim" ∷ []) d
    then (do
      z ← name_at (codes "size") d
      r ← name_at (codes "route") d
      c ← name_at (codes "column") d
      Some (range z r c))
    else None

-- the size of an exchange that neither routes nor has one receiver
unfoldable pub sized_in : Data → Option Name
sized_in d = if has_only (codes "op" ∷ codes "kind" ∷ codes "size" ∷ codes "merge" ∷ codes "input" ∷ codes "claim" ∷ []) d
    then name_at (codes "size") d else None

unfoldable pub gather_in : Data → Option KindForm
gather_in d = if has_only (codes "op" ∷ codes "kind" ∷ codes "merge" ∷ codes "input" ∷ codes "claim" ∷ []) d then Some gather else None

unfoldable pub concat_in : Data → Option KindForm
concat_in d = if has_only (codes "op" ∷ codes "kind" ∷ codes "input" ∷ codes "claim" ∷ []) d then Some concat else None

unfoldable pub kind_in : List ℕ → Data → Option KindForm
kind_in s d =
    if bytes_eq s (codes "hash") then hash_in d
    else (if bytes_eq s (codes "range") then range_in d
    else (if bytes_eq s (codes "round") then option_map round (sized_in d)
    else (if bytes_eq s (codes "broadcast") then option_map broadcast (sized_in d)
    else (if bytes_eq s (codes "gather") then gather_in d
    else (if bytes_eq s (codes "concat") then concat_in d else None)))))

-- the order in `merge`; empty where it is left out
unfoldable pub merge_in : Data → Option (List OrderText)
merge_in d = or_default [] some_order_in (get (codes "merge") d)

-- the order by which an exchange of the kind merges: a concatenation by none
abbrev pub merge_by : KindForm → Data → Option (List OrderText)
merge_by (hash size route cols) d = merge_in d
merge_by (range size name col) d = merge_in d
merge_by (round size) d = merge_in d
merge_by (broadcast size) d = merge_in d
merge_by gather d = merge_in d
merge_by concat d = Some []

unfoldable pub exchange_own : Data → Option OwnForm
exchange_own d = do
  s ← text_at (codes "kind") d
  k ← kind_in s d
  m ← merge_by k d
  c ← claimed d
  i ← get (codes "input") d
  Some (own_exchange c k m i)

abbrev pub own_named : ℕ → List ℕ → Data → Option OwnForm
own_named levels s d =
    if bytes_eq s (codes "scan") then scan_own d
    else (if bytes_eq s (codes "union") then binary_own (union_in d) d
    else (if bytes_eq s (codes "join") then binary_own (join_in d) d
    else (if bytes_eq s (codes "exchange") then exchange_own d else unary_own levels s d)))

unfoldable pub own_in : ℕ → Data → Option OwnForm
own_in levels d = option_and_then (λ s. own_named levels s d) (text_at (codes "op") d)

abbrev pub own_claim : OwnForm → ClaimForm
own_claim (own_scan c s) = c
own_claim (own_unary c op d) = c
own_claim (own_binary c op d e) = c
own_claim (own_exchange c k m d) = c

abbrev pub if_few_keys : (derives : Bool) → OwnForm → Option OwnForm
if_few_keys derives own = if has_few_keys derives (own_claim own) then Some own else None

-- the same in a plan that asks for what is known of its columns, or does not: there a claim has at most 16 keys
unfoldable pub own_under : (derives : Bool) → ℕ → Data → Option OwnForm
own_under derives levels d = option_and_then (if_few_keys derives) (own_in levels d)
