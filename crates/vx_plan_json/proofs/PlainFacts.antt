-- The JSON of a plan nests no deeper than a text may, and has no float.
use Rattle.std.proofs.Common.{◌≡◌, ℕ, suc, ◌+◌, ◌-◌, ◌≤◌, nat_le, ◌&&◌, max, pos, negsuc, List, [], ◌∷◌, map, length, Bool, true, false, Option, Some, None, codes, String, Global, Ordering, Less, Equal, Greater, refl, arith}
use Rattle.std.proofs.lemmas.Bool.{or_from}
use Rattle.std.proofs.lemmas.Bool.Decides.{nat_tests}
use Rattle.std.specs.List.{list_all}
use Rattle.std.proofs.Math.Nat.{max-le, le-max_left, le-max_right}
use Rattle.std.specs.Ordering.{nat_cmp, match_ordering}
use Rattle.std.specs.Cmp.Lexicographic.{slice_cmp}
use Rattle.serde_json.specs.Data.{Data, boolean, number, unsigned, string, array, object, Items, Members, no_members, member, put, depth, items_depth, members_depth}
use Rattle.serde_json.specs.Written.{has_float, items_have_float, members_have_float}
use Rattle.serde_json.specs.View.{items_of, members_view}
use Rattle.serde_json.specs.declared.value.Value.{Value}
use Rattle.vx_catalog_json.specs.Look.{OrderText}
use Rattle.vx_rows_values.specs.Values.{Val, num, text, Name}
use Rattle.vx_rows_values.specs.Test.{test_text}
use Rattle.vx_rows_values.specs.declared.value.ColType.{ColType}
use Rattle.vx_plan_json.specs.Document.{PartForm, one, any, all, hash_part, range_part, ClaimForm, SideForm, column, constant, ConditionForm, OutputForm, OperandForm, operand_column, operand_value, operand_call, OperandForms, no_operands, more_operands, FilterForm, compared, computed, EntryForm, kept, made, FunctionForm, least, greatest, sum, count_rows, AggregateForm, ScanForm, UnaryForm, select, project, distinct, sort, partial_sort, group, partial_group, final_group, limit, BinaryForm, union, join, semi_join, KindForm, hash, range, round, broadcast, gather, concat, Tree, scan, unary, binary, exchange, Document, tree_levels}
use Rattle.vx_rows_values.specs.Ranges.{RangeForm}
use Rattle.vx_plan_json.specs.Formed.{operand_levels, operands_levels, is_filter_low, is_entry_low, is_unary_low, levels_left, are_operands_low}
use Rattle.vx_plan_json.proofs.Holds.{and-left, and-right}
use Rattle.vx_plan_json.specs.Written.{list_json, names_json, entry_json, order_json, value_json, with_some, with_text, range_json, part_json, with_part, claim_members, with_object, with_claim, with_side, condition_json, renamed_json, output_json, with_applied, with_typed, with_constant, type_text, operand_json, operand_items, answer_json, filter_json, with_operand, projected_json, with_call, with_function, aggregate_json, pair_json, with_some_text, mode_text, with_scan, with_lists, with_phase, with_unary, method_text, kind_text, with_join, with_matches, with_binary, with_kind, node_json, with_flag, document_json}

-- no deeper than n, and without floats
pub record IsPlain (n : ℕ) (d : Data) : Type 0 where
  pub low : depth d ≤ n
  pub exact : has_float d ≡ false

abbrev AllPlain : ℕ → Members → Type 0
AllPlain n no_members = Unit {0}
AllPlain n (member k d ms) = IsPlain n d × AllPlain n ms

pub record ArePlain (n : ℕ) (ms : Members) : Type 0 where
  pub each : AllPlain n ms

more : {n m : ℕ} {d : Data} → n ≤ m → IsPlain n d → IsPlain m d
more h p = record { low = let l = p.low in omega (arith, h, l); exact = p.exact }

none-plain : (n : ℕ) → ArePlain n no_members
none-plain n = record { each = tt }

placed-plain : (n : ℕ) (k : List ℕ) (d : Data) (l : List ℕ) (e : Data) (ms : Members) (o : Ordering) → IsPlain n d → IsPlain n e → AllPlain n ms → AllPlain n (put k d ms)
    → AllPlain n (match_ordering o (member k d (member l e ms)) (member l d ms) (member l e (put k d ms)))
placed-plain n k d l e ms Less p q rest later = (p, (q, rest))
placed-plain n k d l e ms Equal p q rest later = (p, rest)
placed-plain n k d l e ms Greater p q rest later = (q, later)

all-put : (n : ℕ) (k : List ℕ) (d : Data) (ms : Members) → IsPlain n d → AllPlain n ms → AllPlain n (put k d ms)
all-put n k d no_members p q = (p, q)
all-put n k d (member l e ms) p q = placed-plain n k d l e ms (slice_cmp nat_cmp k l) p q.0 q.1 (all-put n k d ms p q.1)

put-plain : (n : ℕ) (k : List ℕ) (d : Data) (ms : Members) → IsPlain n d → ArePlain n ms → ArePlain n (put k d ms)
put-plain n k d ms p q = record { each = all-put n k d ms p q.each }

members-plain : (n : ℕ) (ms : Members) → AllPlain n ms → (members_depth ms ≤ n) × (members_have_float ms ≡ false)
members-plain n no_members q = (omega arith, refl)
members-plain n (member k d ms) q =
    let rest = members-plain n ms q.1 in
    (max-le q.0.low rest.0, or_from (has_float d) (members_have_float ms) q.0.exact rest.1)

object-plain : (n : ℕ) (ms : Members) → ArePlain n ms → IsPlain (suc n) (object ms)
object-plain n ms q =
    let m = members-plain n ms q.each in
    record { low = let l = m.0 in omega (arith, l); exact = m.1 }

text-plain : (n : ℕ) (s : List ℕ) → IsPlain n (string s)
text-plain n s = record { low = omega arith; exact = refl }

items-plain : {X : Type 0} (n : ℕ) (json : X → Data) → ((x : X) → IsPlain n (json x)) → (xs : List X) → (items_depth (items_of (map json xs)) ≤ n) × (items_have_float (items_of (map json xs)) ≡ false)
items-plain n json plain [] = (omega arith, refl)
items-plain n json plain (x ∷ xs) =
    let rest = items-plain n json plain xs in
    (max-le (plain x).low rest.0, or_from (has_float (json x)) (items_have_float (items_of (map json xs))) (plain x).exact rest.1)

list-plain : {X : Type 0} (n : ℕ) (json : X → Data) → ((x : X) → IsPlain n (json x)) → (xs : List X) → IsPlain (suc n) (list_json json xs)
list-plain n json plain xs =
    let m = items-plain n json plain xs in
    record { low = let l = m.0 in omega (arith, l); exact = m.1 }

-- the same of what passes a test
items-where : {X : Type 0} (n : ℕ) (p : X → Bool) (json : X → Data) → ((x : X) → p x ≡ true → IsPlain n (json x)) → (xs : List X) → list_all p xs ≡ true → (items_depth (items_of (map json xs)) ≤ n) × (items_have_float (items_of (map json xs)) ≡ false)
items-where n p json plain [] h = (omega arith, refl)
items-where n p json plain (x ∷ xs) h =
    let rest = items-where n p json plain xs (and-right (p x) (list_all p xs) h) in
    let first = plain x (and-left (p x) (list_all p xs) h) in
    (max-le first.low rest.0, or_from (has_float (json x)) (items_have_float (items_of (map json xs))) first.exact rest.1)

list-where : {X : Type 0} (n : ℕ) (p : X → Bool) (json : X → Data) → ((x : X) → p x ≡ true → IsPlain n (json x)) → (xs : List X) → list_all p xs ≡ true → IsPlain (suc n) (list_json json xs)
list-where n p json plain xs h =
    let m = items-where n p json plain xs h in
    record { low = let l = m.0 in omega (arith, l); exact = m.1 }

names-plain : (n : ℕ) (names : List Name) → IsPlain (suc n) (names_json names)
names-plain n names = list-plain n string (text-plain n) names

with_text-plain : (n : ℕ) (key s : List ℕ) (ms : Members) → ArePlain n ms → ArePlain n (with_text key s ms)
with_text-plain n key s ms q = put-plain n key (string s) ms (text-plain n s) q

directed-plain : (n : ℕ) (name : Name) (falling : Bool) → IsPlain (suc n) (entry_json (record { name = name; falling = falling }))
directed-plain n name true = object-plain n _ (put-plain n (codes "desc") (boolean true) _ (record { low = omega arith; exact = refl }) (with_text-plain n (codes "column") name no_members (none-plain n)))
directed-plain n name false = text-plain (suc n) name

entry-plain : (n : ℕ) (e : OrderText) → IsPlain (suc n) (entry_json e)
entry-plain n e = directed-plain n e.name e.falling

order-plain : (n : ℕ) (order : List OrderText) → IsPlain (suc (suc n)) (order_json order)
order-plain n order = list-plain (suc n) entry_json (entry-plain n) order

value-plain : (n : ℕ) (v : Val) → IsPlain n (value_json v)
value-plain n (num (pos k)) = record { low = omega arith; exact = refl }
value-plain n (num (negsuc k)) = record { low = omega arith; exact = refl }
value-plain n (text s) = text-plain n s

with_some-plain : {X : Type 0} (n : ℕ) (key : List ℕ) (json : X → Data) → ((x : X) → IsPlain n (json x)) → (xs : List X) (ms : Members) → ArePlain (suc n) ms → ArePlain (suc n) (with_some key json xs ms)
with_some-plain n key json plain [] ms q = q
with_some-plain n key json plain (x ∷ xs) ms q = put-plain (suc n) key (list_json json (x ∷ xs)) ms (list-plain n json plain (x ∷ xs)) q

range-plain : (r : RangeForm) → IsPlain 2 (range_json r)
range-plain r = object-plain 1 _ (put-plain 1 (codes "bounds") (list_json value_json r.bounds) _ (list-plain 0 value_json (value-plain 0) r.bounds) (with_text-plain 1 (codes "name") r.name no_members (none-plain _)))

part-plain : (p : PartForm) → IsPlain 2 (part_json p)
part-plain one = text-plain 2 (codes "one")
part-plain any = text-plain 2 (codes "any")
part-plain all = text-plain 2 (codes "all")
part-plain (hash_part route cols) = object-plain 1 _ (put-plain 1 (codes "columns") (names_json cols) _ (names-plain 0 cols) (with_text-plain 1 (codes "hash") route no_members (none-plain _)))
part-plain (range_part name col) = object-plain 1 _ (with_text-plain 1 (codes "column") col _ (with_text-plain 1 (codes "range") name no_members (none-plain _)))

with_part-plain : (p : PartForm) (ms : Members) → ArePlain 2 ms → ArePlain 2 (with_part p ms)
with_part-plain one ms q = put-plain 2 (codes "part") (part_json one) ms (part-plain one) q
with_part-plain any ms q = q
with_part-plain all ms q = put-plain 2 (codes "part") (part_json all) ms (part-plain all) q
with_part-plain (hash_part route cols) ms q = put-plain 2 (codes "part") (part_json (hash_part route cols)) ms (part-plain (hash_part route cols)) q
with_part-plain (range_part name col) ms q = put-plain 2 (codes "part") (part_json (range_part name col)) ms (part-plain (range_part name col)) q

claim_members-plain : (c : ClaimForm) → ArePlain 2 (claim_members c)
claim_members-plain c =
    with_some-plain 1 (codes "keys") names_json (names-plain 0) c.keys _ (with_some-plain 1 (codes "order") entry_json (entry-plain 0) c.order _ (with_part-plain c.part no_members (none-plain _)))

pub claim-plain : (c : ClaimForm) → IsPlain 3 (object (claim_members c))
claim-plain c = object-plain 2 (claim_members c) (claim_members-plain c)

with_object-plain : (n : ℕ) (key : List ℕ) (own ms : Members) → ArePlain n own → ArePlain (suc n) ms → ArePlain (suc n) (with_object key own ms)
with_object-plain n key no_members ms p q = q
with_object-plain n key (member k d own) ms p q = put-plain (suc n) key (object (member k d own)) ms (object-plain n (member k d own) p) q

each-more : {n m : ℕ} (ms : Members) → n ≤ m → AllPlain n ms → AllPlain m ms
each-more no_members h q = tt
each-more (member k d ms) h q = (more h q.0, each-more ms h q.1)

all-more : {n m : ℕ} (ms : Members) → n ≤ m → ArePlain n ms → ArePlain m ms
all-more ms h q = record { each = each-more ms h q.each }

-- what a node says of itself nests three deep at most
with_claim-plain : (c : ClaimForm) → ArePlain 3 (with_claim c no_members)
with_claim-plain c = with_object-plain 2 (codes "claim") (claim_members c) no_members (claim_members-plain c) (none-plain 3)

side-plain : (s : SideForm) (ms : Members) → ArePlain 0 ms → ArePlain 0 (with_side s ms)
side-plain (column name) ms q = with_text-plain 0 (codes "column2") name ms q
side-plain (constant v) ms q = put-plain 0 (codes "value") (value_json v) ms (value-plain 0 v) q

condition-plain : (c : ConditionForm) → IsPlain 1 (condition_json c)
condition-plain c = object-plain 0 _ (side-plain c.right _ (with_text-plain 0 (codes "op") (test_text c.test) _ (with_text-plain 0 (codes "column") c.left no_members (none-plain 0))))

renamed-plain : (col : Name) (new : Option Name) → IsPlain 1 (renamed_json col new)
renamed-plain col None = text-plain 1 col
renamed-plain col (Some name) = object-plain 0 _ (with_text-plain 0 (codes "as") name _ (with_text-plain 0 (codes "column") col no_members (none-plain 0)))

output-plain : (o : OutputForm) → IsPlain 1 (output_json o)
output-plain o = renamed-plain o.column o.renamed

-- ---- functions of columns and values

ArePlainItems : ℕ → Items → Type 0
ArePlainItems n ds = (items_depth ds ≤ n) × (items_have_float ds ≡ false)

applied-plain : (n : ℕ) (f : Name) (ds : Items) (ms : Members) → ArePlainItems n ds → ArePlain (suc n) ms → ArePlain (suc n) (with_applied f ds ms)
unfolding ArePlainItems
applied-plain n f ds ms p q =
    put-plain (suc n) (codes "of") (array ds) _ (record { low = let l = p.0 in omega (arith, l); exact = p.1 }) (with_text-plain (suc n) (codes "fn") f ms q)

typed-plain : (n : ℕ) (f : Name) (t : ColType) (ds : Items) (ms : Members) → ArePlainItems n ds → ArePlain (suc n) ms → ArePlain (suc n) (with_typed f t ds ms)
typed-plain n f t ds ms p q = with_text-plain (suc n) (codes "type") (type_text t) _ (applied-plain n f ds ms p q)

constant-plain : (n : ℕ) (v : Val) (ms : Members) → ArePlain n ms → ArePlain n (with_constant v ms)
constant-plain n v ms q = put-plain n (codes "value") (value_json v) ms (value-plain n v) q

mutual
  unfolding ArePlainItems

  operand-plain : (o : OperandForm) → IsPlain (operand_levels o) (operand_json o)
  operand-plain (operand_column n) = text-plain 0 n
  operand-plain (operand_value v) = object-plain 0 _ (constant-plain 0 v no_members (none-plain 0))
  operand-plain (operand_call f t os) = object-plain (suc (operands_levels os)) _ (typed-plain (operands_levels os) f t (operand_items os) no_members (operands-plain os) (none-plain (suc (operands_levels os))))

  operands-plain : (os : OperandForms) → ArePlainItems (operands_levels os) (operand_items os)
  operands-plain no_operands = (omega arith, refl)
  operands-plain (more_operands o os) =
      let first = operand-plain o in
      let rest = operands-plain os in
      let l = le-max_left (operand_levels o) (operands_levels os) in
      let r = le-max_right (operand_levels o) (operands_levels os) in
      let a = first.low in
      let b = rest.0 in
      let head : depth (operand_json o) ≤ max (operand_levels o) (operands_levels os) = omega (arith, a, l) in
      let tail : items_depth (operand_items os) ≤ max (operand_levels o) (operands_levels os) = omega (arith, b, r) in
      (max-le head tail, or_from (has_float (operand_json o)) (items_have_float (operand_items os)) first.exact rest.1)

items-more : (n m : ℕ) (ds : Items) → n ≤ m → ArePlainItems n ds → ArePlainItems m ds
unfolding ArePlainItems
items-more n m ds h p = let l = p.0 in (omega (arith, h, l), p.1)

test-le : (m n : ℕ) → nat_le m n ≡ true → m ≤ n
test-le m n h = grind (arith, nat_tests, h)

answer-plain : (levels : ℕ) (o : OperandForm) → operand_levels o ≤ suc levels → IsPlain (suc levels) (answer_json o)
answer-plain levels (operand_column n) h = text-plain (suc levels) n
answer-plain levels (operand_value v) h = more h (operand-plain (operand_value v))
answer-plain levels (operand_call f t os) h =
    more {n = suc (suc (operands_levels os))} h (object-plain (suc (operands_levels os)) _ (applied-plain (operands_levels os) f (operand_items os) no_members (operands-plain os) (none-plain (suc (operands_levels os)))))

filter-plain : (levels : ℕ) (f : FilterForm) → is_filter_low levels f ≡ true → IsPlain (suc levels) (filter_json f)
filter-plain levels (compared c) h = more (omega arith) (condition-plain c)
filter-plain levels (computed o) h = answer-plain levels o (test-le (operand_levels o) (suc levels) h)

made-plain : (levels : ℕ) (o : OperandForm) → operand_levels o ≤ suc levels → ArePlain levels (with_operand o no_members)
made-plain levels (operand_column n) h = with_text-plain levels (codes "column") n no_members (none-plain levels)
made-plain levels (operand_value v) h = constant-plain levels v no_members (none-plain levels)
made-plain levels (operand_call f t os) h =
    let low : suc (operands_levels os) ≤ levels = omega (arith, h) in
    all-more _ low (typed-plain (operands_levels os) f t (operand_items os) no_members (operands-plain os) (none-plain (suc (operands_levels os))))

projected-plain : (levels : ℕ) (e : EntryForm) → is_entry_low levels e ≡ true → IsPlain (suc levels) (projected_json e)
projected-plain levels (kept o) h = more (omega arith) (output-plain o)
projected-plain levels (made o n) h = object-plain levels _ (with_text-plain levels (codes "as") n _ (made-plain levels o (test-le (operand_levels o) (suc levels) h)))

-- ---- aggregates, pairs and nodes

call-plain : (name col : List ℕ) → ArePlain 0 (with_call name col no_members)
call-plain name col = with_text-plain 0 (codes "column") col _ (with_text-plain 0 (codes "fn") name no_members (none-plain 0))

function-plain : (f : FunctionForm) → ArePlain 0 (with_function f no_members)
function-plain (least col) = call-plain (codes "min") col
function-plain (greatest col) = call-plain (codes "max") col
function-plain (sum col) = call-plain (codes "sum") col
function-plain count_rows = with_text-plain 0 (codes "fn") (codes "count") no_members (none-plain 0)

aggregate-plain : (a : AggregateForm) → IsPlain 1 (aggregate_json a)
aggregate-plain a = object-plain 0 _ (with_text-plain 0 (codes "as") a.name _ (function-plain a.function))

pair-plain : (p : Name × Name) → IsPlain 1 (pair_json p)
pair-plain p = names-plain 0 (p.0 ∷ p.1 ∷ [])

with_some_text-plain : (n : ℕ) (key s : List ℕ) (ms : Members) → ArePlain n ms → ArePlain n (with_some_text key s ms)
with_some_text-plain n key [] ms q = q
with_some_text-plain n key (b ∷ bs) ms q = with_text-plain n key (b ∷ bs) ms q

with_scan-plain : (n : ℕ) (s : ScanForm) (ms : Members) → ArePlain n ms → ArePlain n (with_scan s ms)
with_scan-plain n s ms q =
    with_some_text-plain n (codes "prefix") s.prefix _ (with_text-plain n (codes "size") s.size _
    (with_text-plain n (codes "mode") (mode_text s.shared) _ (with_text-plain n (codes "relation") s.relation _ (with_text-plain n (codes "op") (codes "scan") ms q))))

lists-plain : (by : List Name) (aggregates : List AggregateForm) (ms : Members) → ArePlain 3 ms → ArePlain 3 (with_lists by aggregates ms)
lists-plain by aggregates ms q =
    put-plain 3 (codes "aggregates") _ _ (more (omega arith) (list-plain 1 aggregate_json aggregate-plain aggregates)) (put-plain 3 (codes "by") _ _ (names-plain 2 by) q)

phase-plain : (phase : List ℕ) (ms : Members) → ArePlain 3 ms → ArePlain 3 (with_phase phase ms)
phase-plain phase ms q = with_text-plain 3 (codes "phase") phase _ (with_text-plain 3 (codes "op") (codes "group") ms q)

with_unary-plain : (levels : ℕ) → 1 ≤ levels → (op : UnaryForm) (ms : Members) → is_unary_low levels op ≡ true → ArePlain 3 ms → ArePlain (suc (suc levels)) (with_unary op ms)
with_unary-plain levels some (select fs) ms low q =
    put-plain (suc (suc levels)) (codes "where") _ _ (list-where (suc levels) (is_filter_low levels) filter_json (filter-plain levels) fs low)
    (with_text-plain (suc (suc levels)) (codes "op") (codes "select") ms (all-more ms (omega (arith, some)) q))
with_unary-plain levels some (project es) ms low q =
    put-plain (suc (suc levels)) (codes "columns") _ _ (list-where (suc levels) (is_entry_low levels) projected_json (projected-plain levels) es low)
    (with_text-plain (suc (suc levels)) (codes "op") (codes "project") ms (all-more ms (omega (arith, some)) q))
with_unary-plain levels some (distinct os) ms low q =
    all-more _ (omega (arith, some)) (put-plain 3 (codes "columns") _ _ (more (omega arith) (list-plain 1 output_json output-plain os)) (with_text-plain 3 (codes "op") (codes "distinct") ms q))
with_unary-plain levels some (sort order) ms low q = all-more _ (omega (arith, some)) (put-plain 3 (codes "columns") _ _ (order-plain 1 order) (with_text-plain 3 (codes "op") (codes "sort") ms q))
with_unary-plain levels some (partial_sort order) ms low q =
    all-more _ (omega (arith, some)) (put-plain 3 (codes "columns") _ _ (order-plain 1 order) (with_text-plain 3 (codes "phase") (codes "partial") _ (with_text-plain 3 (codes "op") (codes "sort") ms q)))
with_unary-plain levels some (group by aggregates) ms low q = all-more _ (omega (arith, some)) (lists-plain by aggregates _ (with_text-plain 3 (codes "op") (codes "group") ms q))
with_unary-plain levels some (partial_group by aggregates) ms low q = all-more _ (omega (arith, some)) (lists-plain by aggregates _ (phase-plain (codes "partial") ms q))
with_unary-plain levels some final_group ms low q = all-more _ (omega (arith, some)) (phase-plain (codes "final") ms q)
with_unary-plain levels some (limit rows) ms low q =
    all-more _ (omega (arith, some)) (put-plain 3 (codes "rows") (number (unsigned rows)) _ (record { low = omega arith; exact = refl }) (with_text-plain 3 (codes "op") (codes "limit") ms q))

with_join-plain : (method : List ℕ) (on : List (Name × Name)) (ms : Members) → ArePlain 3 ms → ArePlain 3 (with_join method on ms)
with_join-plain method on ms q =
    put-plain 3 (codes "on") _ _ (more (omega arith) (list-plain 1 pair_json pair-plain on)) (with_text-plain 3 (codes "method") method _ (with_text-plain 3 (codes "op") (codes "join") ms q))

with_matches-plain : (kind : List ℕ) (on : List (Name × Name)) (conditions : List ConditionForm) (ms : Members) → ArePlain 3 ms → ArePlain 3 (with_matches kind on conditions ms)
with_matches-plain kind on conditions ms q =
    with_some-plain 2 (codes "where") condition_json (λ c. more (omega arith) (condition-plain c)) conditions _ (with_text-plain 3 (codes "kind") kind _ (with_join-plain (codes "hash") on ms q))

with_binary-plain : (op : BinaryForm) (ms : Members) → ArePlain 3 ms → ArePlain 3 (with_binary op ms)
with_binary-plain union ms q = with_text-plain 3 (codes "op") (codes "union") ms q
with_binary-plain (join merging on) ms q = with_join-plain (method_text merging) on ms q
with_binary-plain (semi_join matched on conditions) ms q = with_matches-plain (kind_text matched) on conditions ms q

with_kind-plain : (k : KindForm) (ms : Members) → ArePlain 3 ms → ArePlain 3 (with_kind k ms)
with_kind-plain (hash size route cols) ms q =
    put-plain 3 (codes "columns") _ _ (names-plain 2 cols) (with_text-plain 3 (codes "route") route _ (with_text-plain 3 (codes "size") size _ (with_text-plain 3 (codes "kind") (codes "hash") ms q)))
with_kind-plain (range size name col) ms q =
    with_text-plain 3 (codes "column") col _ (with_text-plain 3 (codes "route") name _ (with_text-plain 3 (codes "size") size _ (with_text-plain 3 (codes "kind") (codes "range") ms q)))
with_kind-plain (round size) ms q = with_text-plain 3 (codes "size") size _ (with_text-plain 3 (codes "kind") (codes "round") ms q)
with_kind-plain (broadcast size) ms q = with_text-plain 3 (codes "size") size _ (with_text-plain 3 (codes "kind") (codes "broadcast") ms q)
with_kind-plain gather ms q = with_text-plain 3 (codes "kind") (codes "gather") ms q
with_kind-plain concat ms q = with_text-plain 3 (codes "kind") (codes "concat") ms q

node-plain : (levels : ℕ) (t : Tree) → tree_levels t ≤ levels → are_operands_low levels t ≡ true → IsPlain (levels + 62) (node_json t)
node-plain levels (scan c s) h low = more {n = 4} (omega (arith, h)) (object-plain 3 _ (with_scan-plain 3 s _ (with_claim-plain c)))
node-plain levels (unary c op t) h low =
    let below = node-plain (levels - 1) t (omega (arith, h)) (and-right (is_unary_low (levels_left (levels - 1)) op) (are_operands_low (levels - 1) t) low) in
    let own = with_unary-plain (levels_left (levels - 1)) (omega arith) op _ (and-left (is_unary_low (levels_left (levels - 1)) op) (are_operands_low (levels - 1) t) low) (with_claim-plain c) in
    more {n = suc (levels - 1 + 62)} (omega (arith, h)) (object-plain (levels - 1 + 62) _ (put-plain (levels - 1 + 62) (codes "input") (node_json t) _ below (all-more _ (omega arith) own)))
node-plain levels (binary c op t u) h low =
    let l : tree_levels t ≤ max (tree_levels t) (tree_levels u) = le-max_left (tree_levels t) (tree_levels u) in
    let r : tree_levels u ≤ max (tree_levels t) (tree_levels u) = le-max_right (tree_levels t) (tree_levels u) in
    let left = node-plain (levels - 1) t (omega (arith, h, l)) (and-left (are_operands_low (levels - 1) t) (are_operands_low (levels - 1) u) low) in
    let right = node-plain (levels - 1) u (omega (arith, h, r)) (and-right (are_operands_low (levels - 1) t) (are_operands_low (levels - 1) u) low) in
    more {n = suc (levels - 1 + 62)} (omega (arith, h))
    (object-plain (levels - 1 + 62) _ (put-plain (levels - 1 + 62) (codes "right") (node_json u) _ right
    (put-plain (levels - 1 + 62) (codes "left") (node_json t) _ left (all-more _ (omega arith) (with_binary-plain op _ (with_claim-plain c))))))
node-plain levels (exchange c k m t) h low =
    let below = node-plain (levels - 1) t (omega (arith, h)) low in
    more {n = suc (levels - 1 + 62)} (omega (arith, h))
    (object-plain (levels - 1 + 62) _ (put-plain (levels - 1 + 62) (codes "input") (node_json t) _ below
    (all-more _ (omega arith) (with_some-plain 2 (codes "merge") entry_json (entry-plain 1) m _ (with_kind-plain k _ (with_text-plain 3 (codes "op") (codes "exchange") _ (with_claim-plain c)))))))

flag-plain : (key : List ℕ) (b : Bool) (ms : Members) → ArePlain 3 ms → ArePlain 3 (with_flag key b ms)
flag-plain key false ms q = q
flag-plain key true ms q = put-plain 3 key (boolean true) ms (record { low = omega arith; exact = refl }) q

pub document-plain : (d : Document) → tree_levels d.root ≤ 64 → are_operands_low 64 d.root ≡ true → IsPlain 127 (document_json d)
document-plain d h low =
    object-plain 126 _ (put-plain 126 (codes "root") (node_json d.root) _ (more {n = 64 + 62} (omega arith) (node-plain 64 d.root h low))
    (all-more _ (omega arith) (flag-plain (codes "derive") d.derives _ (flag-plain (codes "total") d.total _
    (with_some-plain 2 (codes "ranges") range_json range-plain d.ranges _ (with_some-plain 2 (codes "sizes") string (text-plain 2) d.sizes no_members (none-plain 3)))))))

-- an object with a member is put
pub some_object : (key : List ℕ) (es : List (String Global × Value)) (ms : Members) → (length es ≡ 0 → ⊥) → with_object key (members_view es) ms ≡ put key (object (members_view es)) ms
some_object key [] ms h = absurd (h refl)
some_object key (e ∷ es) ms h = refl
