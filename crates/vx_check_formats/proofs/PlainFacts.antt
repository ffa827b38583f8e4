-- The JSON of a plan has no float, and does not nest deep.
use Rattle.std.proofs.Common.{◌≡◌, ℕ, ℤ, pos, negsuc, suc, ◌≤◌, ◌++◌, List, [], ◌∷◌, map, flat_map, Bool, false, codes, Ordering, Less, Equal, Greater, refl, arith, true, cond}
use Rattle.std.proofs.lemmas.Bool.{or_from}
use Rattle.std.proofs.Math.Nat.{max-le}
use Rattle.std.specs.Ordering.{nat_cmp, match_ordering}
use Rattle.std.specs.Cmp.Lexicographic.{slice_cmp}
use Rattle.serde_json.specs.Data.{Data, boolean, number, unsigned, string, array, object, Members, no_members, member, put, depth, items_depth, members_depth}
use Rattle.serde_json.specs.Written.{has_float, items_have_float, members_have_float}
use Rattle.serde_json.specs.Find.{of_integer}
use Rattle.serde_json.specs.View.{items_of}
use Rattle.vx_rows_values.specs.declared.value.ColType.{ColType}
use Rattle.vx_rows_values.specs.declared.value.ColType.TheVariants as type
use Rattle.vx_rows_values.specs.declared.order.OrderEntry.{OrderEntry}
use Rattle.vx_rows_values.specs.Values.{Name, Val, num, text}
use Rattle.vx_plan_nodes.specs.Plan.{Size, one_worker, group_of, Route, Part, one, any, all, routed, Claim, ExchangeKind, route_to, round, broadcast, gather, concat, size}
use Rattle.vx_plan_nodes.specs.Names.{Names}
use Rattle.vx_plan_nodes.specs.Outline.{Outline, scan, unary, binary, exchange, Columns, top, columns, plan_in}
use Rattle.vx_plan_nodes.specs.Phases.{first_columns}
use Rattle.vx_plan_nodes.specs.Types.{width}
use Rattle.vx_catalog_relations.specs.Catalog.{relation_at}
use Rattle.vx_plan_facts.specs.Equal.{Equality, equal_at}
use Rattle.vx_plan_facts.specs.Fixed.{Values, fixed_at}
use Rattle.vx_plan_facts.specs.Facts.{each_once}
use Rattle.vx_check.specs.Explain.{name_at, description}
use Rattle.vx_check_formats.specs.Json.{columns_json, entry_json, order_json, keys_json, type_json, size_json, route_word, route_name, routed_json, part_json, with_claim, op_word, with_operator, inputs, with_workers, classes, value_json, fixed_json, all_fixed, with_facts, with_output, with_kind, with_exchange, node_json, nodes_json, with_derive, outline_json, fixed_if, is_first}

-- no deeper than n, and without floats
pub record IsPlain (n : ℕ) (d : Data) : Type 0 where
  pub low : depth d ≤ n
  pub exact : has_float d ≡ false

abbrev AllPlain : ℕ → Members → Type 0
AllPlain n no_members = Unit {0}
AllPlain n (member k d ms) = IsPlain n d × AllPlain n ms

pub record ArePlain (n : ℕ) (ms : Members) : Type 0 where
  pub each : AllPlain n ms

none-plain : (n : ℕ) → ArePlain n no_members
none-plain n = record { each = tt }

placed-plain : (n : ℕ) (k : List ℕ) (d : Data) (l : List ℕ) (e : Data) (ms : Members) (o : Ordering) → IsPlain n d → IsPlain n e → AllPlain n ms → AllPlain n (put k d ms)
    → AllPlain n (match_ordering o (member k d (member l e ms)) (member l d ms) (member l e (put k d ms)))
placed-plain n k d l e ms Less p q rest later = (p, (q, rest))
placed-plain n k d l e ms Equal p q rest later = (p, rest)
placed-plain n k d l e ms Greater p q rest later = (q, later)

all-put : (n : ℕ) (k : List ℕ) (d : Data) (ms : Members) → IsPlain n d → AllPlain n ms → AllPlain n (put k d ms)
all-put n k d no_members p q = (p, q)
all-put n k d (member l e ms) p q = placed-plain n k d l e ms (slice_cmp nat_cmp k l) p q.0 q.1 (all-put n k d ms p q.1)

put-plain : (n : ℕ) (k : List ℕ) (d : Data) (ms : Members) → IsPlain n d → ArePlain n ms → ArePlain n (put k d ms)
put-plain n k d ms p q = record { each = all-put n k d ms p q.each }

members-plain : (n : ℕ) (ms : Members) → AllPlain n ms → (members_depth ms ≤ n) × (members_have_float ms ≡ false)
members-plain n no_members q = (omega arith, refl)
members-plain n (member k d ms) q =
    let rest = members-plain n ms q.1 in
    (max-le q.0.low rest.0, or_from (has_float d) (members_have_float ms) q.0.exact rest.1)

object-plain : (n : ℕ) (ms : Members) → ArePlain n ms → IsPlain (suc n) (object ms)
object-plain n ms q =
    let m = members-plain n ms q.each in
    record { low = let l = m.0 in omega (arith, l); exact = m.1 }

text-plain : (n : ℕ) (s : List ℕ) → IsPlain n (string s)
text-plain n s = record { low = omega arith; exact = refl }

number-plain : (n k : ℕ) → IsPlain n (number (unsigned k))
number-plain n k = record { low = omega arith; exact = refl }

integer-plain : (n : ℕ) (z : ℤ) → IsPlain n (number (of_integer z))
integer-plain n (pos k) = record { low = omega arith; exact = refl }
integer-plain n (negsuc k) = record { low = omega arith; exact = refl }

truth-plain : (n : ℕ) (b : Bool) → IsPlain n (boolean b)
truth-plain n b = record { low = omega arith; exact = refl }

-- each of these is plain
abbrev EachPlain : ℕ → List Data → Type 0
EachPlain n [] = Unit {0}
EachPlain n (d ∷ ds) = IsPlain n d × EachPlain n ds

each-append : (n : ℕ) (ds es : List Data) → EachPlain n ds → EachPlain n es → EachPlain n (ds ++ es)
each-append n [] es p q = q
each-append n (d ∷ ds) es p q = (p.0, each-append n ds es p.1 q)

each-map : {X : Type 0} (n : ℕ) (json : X → Data) → ((x : X) → IsPlain n (json x)) → (xs : List X) → EachPlain n (map json xs)
each-map n json plain [] = tt
each-map n json plain (x ∷ xs) = (plain x, each-map n json plain xs)

each-flat : {X : Type 0} (n : ℕ) (json : X → List Data) → ((x : X) → EachPlain n (json x)) → (xs : List X) → EachPlain n (flat_map json xs)
each-flat n json plain [] = tt
each-flat n json plain (x ∷ xs) = each-append n (json x) (flat_map json xs) (plain x) (each-flat n json plain xs)

each-items : (n : ℕ) (ds : List Data) → EachPlain n ds → (items_depth (items_of ds) ≤ n) × (items_have_float (items_of ds) ≡ false)
each-items n [] p = (omega arith, refl)
each-items n (d ∷ ds) p =
    let rest = each-items n ds p.1 in
    (max-le p.0.low rest.0, or_from (has_float d) (items_have_float (items_of ds)) p.0.exact rest.1)

array-plain : (n : ℕ) (ds : List Data) → EachPlain n ds → IsPlain (suc n) (array (items_of ds))
array-plain n ds p =
    let m = each-items n ds p in
    record { low = let l = m.0 in omega (arith, l); exact = m.1 }

list-plain : {X : Type 0} (n : ℕ) (json : X → Data) → ((x : X) → IsPlain n (json x)) → (xs : List X) → IsPlain (suc n) (array (items_of (map json xs)))
list-plain n json plain xs = array-plain n (map json xs) (each-map n json plain xs)

-- ---- a node's members

columns-plain : (n : ℕ) (names : List Name) (cols : List ℕ) → IsPlain (suc n) (columns_json names cols)
columns-plain n names cols = list-plain n (λ c. string (name_at names c)) (λ c. text-plain n (name_at names c)) cols

directed-plain : (n : ℕ) (falling : Bool) (name : Name)
    → IsPlain (suc n) (cond falling (object (put (codes "desc") (boolean true) (put (codes "column") (string name) no_members))) (string name))
directed-plain n true name = object-plain n _ (put-plain n (codes "desc") _ _ (truth-plain n true) (put-plain n (codes "column") _ _ (text-plain n name) (none-plain n)))
directed-plain n false name = text-plain (suc n) name

order-plain : (n : ℕ) (names : List Name) (order : List OrderEntry) → IsPlain (suc (suc n)) (order_json names order)
order-plain n names order = list-plain (suc n) (entry_json names) (λ e. directed-plain n e.falling (name_at names e.column)) order

keys-plain : (n : ℕ) (names : List Name) (keys : List (List ℕ)) → IsPlain (suc (suc n)) (keys_json names keys)
keys-plain n names keys = list-plain (suc n) (columns_json names) (columns-plain n names) keys

type-plain : (n : ℕ) (t : ColType) → IsPlain n (type_json t)
type-plain n type.Int = text-plain n (codes "int")
type-plain n type.Text = text-plain n (codes "text")

size-plain : (n : ℕ) (s : Names) (z : Size) → IsPlain n (size_json s z)
size-plain n s one_worker = number-plain n 1
size-plain n s (group_of k) = text-plain n (name_at s.sizes k)

routed-plain : (n : ℕ) (s : Names) (names : List Name) (r : Route) (cols : List ℕ) → IsPlain (suc (suc n)) (routed_json s names r cols)
routed-plain n s names r cols =
    object-plain (suc n) _ (put-plain (suc n) (codes "columns") _ _ (columns-plain n names cols) (put-plain (suc n) (route_word r) _ _ (text-plain (suc n) (route_name s r)) (none-plain (suc n))))

part-plain : (n : ℕ) (s : Names) (names : List Name) (p : Part) → IsPlain (suc (suc n)) (part_json s names p)
part-plain n s names one = text-plain _ (codes "one")
part-plain n s names any = text-plain _ (codes "any")
part-plain n s names all = text-plain _ (codes "all")
part-plain n s names (routed r cols) = routed-plain n s names r cols

operator-plain : (s : Names) (t : Outline) (ms : Members) → ArePlain 2 ms → ArePlain 2 (with_operator s t ms)
operator-plain s t ms q =
    put-plain 2 (codes "text") _ _ (text-plain 2 (description s t)) (put-plain 2 (codes "op") _ _ (text-plain 2 (op_word t)) (put-plain 2 (codes "number") _ _ (number-plain 2 (top t).number) q))

workers-plain : (s : Names) (t : Outline) (ms : Members) → ArePlain 2 ms → ArePlain 2 (with_workers s t ms)
workers-plain s t ms q =
    put-plain 2 (codes "workers") _ _ (size-plain 2 s (size (plan_in t))) (put-plain 2 (codes "inputs") _ _ (list-plain 1 (λ n. number (unsigned n)) (number-plain 1) (inputs t)) q)

claim-plain : (s : Names) (names : List Name) (c : Claim) (ms : Members) → ArePlain 2 ms → ArePlain 2 (with_claim s names c ms)
claim-plain s names c ms q =
    put-plain 2 (codes "keys") _ _ (keys-plain 0 names c.keys) (put-plain 2 (codes "order") _ _ (order-plain 0 names c.order) (put-plain 2 (codes "part") _ _ (part-plain 0 s names c.part) q))

value-plain : (n : ℕ) (v : Val) → IsPlain n (value_json v)
value-plain n (num z) = integer-plain n z
value-plain n (text s) = text-plain n s

fixed-plain : (n : ℕ) (names : List Name) (c : ℕ) (v : Val) → IsPlain (suc n) (fixed_json names c v)
fixed-plain n names c v = object-plain n _ (put-plain n (codes "value") _ _ (value-plain n v) (put-plain n (codes "column") _ _ (text-plain n (name_at names c)) (none-plain n)))

if-plain : (n : ℕ) (b : Bool) (ds : List Data) → EachPlain n ds → EachPlain n (cond b ds [])
if-plain n true ds h = h
if-plain n false ds h = tt

facts-plain : (names : List Name) (w : ℕ) (e : Equality) (f : Values) (ms : Members) → ArePlain 2 ms → ArePlain 2 (with_facts names w e f ms)
facts-plain names w e f ms q =
    put-plain 2 (codes "fixed") _ _ (array-plain 1 (all_fixed names w e f) (each-flat 1 (fixed_if names e f) (λ c. if-plain 1 (is_first e c) (map (fixed_json names c) (each_once (f c))) (each-map 1 (fixed_json names c) (fixed-plain 0 names c) (each_once (f c)))) (first_columns w)))
    (put-plain 2 (codes "equal") _ _ (keys-plain 0 names (classes w e)) q)

output-plain : (c : Columns) (ms : Members) → ArePlain 2 ms → ArePlain 2 (with_output c ms)
output-plain c ms q = put-plain 2 (codes "types") _ _ (list-plain 1 type_json (type-plain 1) c.types) (put-plain 2 (codes "output") _ _ (list-plain 1 string (text-plain 1) c.names) q)

kind-plain : (s : Names) (inputs : List Name) (k : ExchangeKind) (ms : Members) → ArePlain 2 ms → ArePlain 2 (with_kind s inputs k ms)
kind-plain s inputs (route_to z r cols) ms q =
    put-plain 2 (codes "columns") _ _ (columns-plain 1 inputs cols) (put-plain 2 (codes "route") _ _ (text-plain 2 (route_name s r)) (put-plain 2 (codes "kind") _ _ (text-plain 2 (route_word r)) q))
kind-plain s inputs (round z) ms q = put-plain 2 (codes "kind") _ _ (text-plain 2 (codes "round")) q
kind-plain s inputs (broadcast z) ms q = put-plain 2 (codes "kind") _ _ (text-plain 2 (codes "broadcast")) q
kind-plain s inputs gather ms q = put-plain 2 (codes "kind") _ _ (text-plain 2 (codes "gather")) q
kind-plain s inputs concat ms q = put-plain 2 (codes "kind") _ _ (text-plain 2 (codes "concat")) q

exchange-plain : (s : Names) (t : Outline) (ms : Members) → ArePlain 2 ms → ArePlain 2 (with_exchange s t ms)
exchange-plain s (scan h r m z p) ms q = q
exchange-plain s (unary h op f t) ms q = q
exchange-plain s (binary h op t u) ms q = q
exchange-plain s (exchange h k m t) ms q = put-plain 2 (codes "merge") _ _ (order-plain 0 (columns t).names m) (kind-plain s (columns t).names k ms q)

-- ---- the plan

node-plain : (s : Names) (t : Outline) → IsPlain 3 (node_json s t)
unfolding node_json
node-plain s t =
    let catalog = relation_at s.catalog in
    object-plain 2 _ (exchange-plain s t _ (output-plain (columns t) _
    (facts-plain (columns t).names (width catalog (plan_in t)) (equal_at catalog (plan_in t)) (fixed_at catalog (plan_in t)) _
    (claim-plain s (columns t).names (top t).claim _ (workers-plain s t _ (operator-plain s t _ (none-plain 2)))))))

nodes-plain : (s : Names) (t : Outline) → EachPlain 3 (nodes_json s t)
nodes-plain s (scan h r m z p) = (node-plain s (scan h r m z p), tt)
nodes-plain s (unary h op f t) = (node-plain s (unary h op f t), nodes-plain s t)
nodes-plain s (binary h op t u) = (node-plain s (binary h op t u), each-append 3 (nodes_json s t) (nodes_json s u) (nodes-plain s t) (nodes-plain s u))
nodes-plain s (exchange h k m t) = (node-plain s (exchange h k m t), nodes-plain s t)

derive-plain : (derives : Bool) (ms : Members) → ArePlain 4 ms → ArePlain 4 (with_derive derives ms)
derive-plain false ms q = q
derive-plain true ms q = put-plain 4 (codes "derive") _ _ (truth-plain 4 true) q

pub outline-plain : (s : Names) (total derives : Bool) (t : Outline) → IsPlain 5 (outline_json s total derives t)
outline-plain s total derives t =
    object-plain 4 _ (derive-plain derives _ (put-plain 4 (codes "total") _ _ (truth-plain 4 total) (put-plain 4 (codes "nodes") _ _ (array-plain 3 (nodes_json s t) (nodes-plain s t)) (none-plain 4))))
