-- What a plan's functions do not decide.
use Rattle.std.proofs.Common.{◌≡◌, ℕ, suc, ◌+◌, ◌==◌, nat_lt, Bool, true, false, not, ◌&&◌, cond, List, [], ◌∷◌, map, length, refl, ap, ap₂, ◌∙◌, None}
use Rattle.std.specs.List.{list_all}
use Rattle.std.proofs.lemmas.List.{length-map}
use Rattle.vx_rows_values.specs.Lists.{is_some_list}
use Rattle.vx_rows_values.specs.Order.{order_columns}
use Rattle.vx_rows_values.specs.declared.value.ColType.{ColType}
use Rattle.vx_rows_values.specs.declared.value.ColType.TheVariants.{Int}
use Rattle.vx_catalog_relations.specs.Relation.{Relation}
use Rattle.vx_catalog_relations.specs.Catalog.{relation_at}
use Rattle.vx_plan_nodes.specs.Plan.{Expression, input, value, call, Operands, no_operands, operand, Filter, comparing, computing, Entry, copy_of, made_by, Aggregate, Unary, select, project, distinct, sort, group, limit, plain, partial, final, union, join, semi_join, Plan, scan, unary, binary, exchange, number, claim, size, size_eq}
use Rattle.vx_plan_nodes.specs.Types.{expression_type, entry_type, unary_types, binary_types, types_of, unary_width, binary_width, width, names_columns, well_formed}
use Rattle.vx_plan_nodes.specs.Numbering.{nodes, is_numbered, relation_in, is_fit}
use Rattle.vx_plan_nodes.specs.Describe.{kept_column, entries_kept, order_kept, keys_kept, described}
use Rattle.vx_plan_nodes.specs.Phases.{is_final, unary_open, is_open, unary_opens, opens, phase_fits, both_closed}
use Rattle.vx_plan_nodes.specs.Typed.{Scope, type_eq, is_expression, are_operands, is_filter, is_entry, is_unary, is_binary, is_kind, may_merge, are_columns, is_output, typed, IsTyped}
use Rattle.vx_plan_nodes.specs.Workers.{workers_below}
use Rattle.vx_plan_nodes.specs.Streams.{workers}
use Rattle.vx_plan_nodes.specs.Under.{Functions, expression_under, operands_under, filter_under, entry_under, unary_under, under}
use Rattle.vx_plan_nodes.specs.UnderLaws.{NodesStay, DescriptionsStay, PhasesStay, TypesStay}

-- ---- lists of which each element is changed

pub map-same : {X Y : Type 0} (f : X → Y) (change : X → X) → ((x : X) → f (change x) ≡ f x) → (xs : List X) → map f (map change xs) ≡ map f xs
map-same f change same [] = refl
map-same f change same (x ∷ xs) = ap₂ (λ y ys. y ∷ ys) (same x) (map-same f change same xs)

pub all-same : {X : Type 0} (f : X → Bool) (change : X → X) → ((x : X) → f (change x) ≡ f x) → (xs : List X) → list_all f (map change xs) ≡ list_all f xs
all-same f change same [] = refl
all-same f change same (x ∷ xs) = ap₂ (λ a b. a && b) (same x) (all-same f change same xs)

some-same : {X : Type 0} (change : X → X) (xs : List X) → is_some_list (map change xs) ≡ is_some_list xs
some-same change [] = refl
some-same change (x ∷ xs) = refl

-- ---- expressions

pub kept-under : (given : Functions) (e : Entry) → kept_column (entry_under given e) ≡ kept_column e
kept-under given (copy_of c) = refl
kept-under given (made_by e) = refl

pub expression-type-under : (given : Functions) (types : List ColType) (e : Expression) → expression_type types (expression_under given e) ≡ expression_type types e
expression-type-under given types (input c) = refl
expression-type-under given types (value v) = refl
expression-type-under given types (call f t es) = refl

entry-type-under : (given : Functions) (types : List ColType) (e : Entry) → entry_type types (entry_under given e) ≡ entry_type types e
entry-type-under given types (copy_of c) = refl
entry-type-under given types (made_by e) = expression-type-under given types e

mutual
  is-expression-under : (given : Functions) (types : List ColType) (e : Expression) → is_expression types (expression_under given e) ≡ is_expression types e
  is-expression-under given types (input c) = refl
  is-expression-under given types (value v) = refl
  is-expression-under given types (call f t es) = are-operands-under given types es

  are-operands-under : (given : Functions) (types : List ColType) (es : Operands) → are_operands types (operands_under given es) ≡ are_operands types es
  are-operands-under given types no_operands = refl
  are-operands-under given types (operand e es) = ap₂ (λ a b. a && b) (is-expression-under given types e) (are-operands-under given types es)

is-filter-under : (given : Functions) (types : List ColType) (f : Filter) → is_filter types (filter_under given f) ≡ is_filter types f
is-filter-under given types (comparing c) = refl
is-filter-under given types (computing e) = ap₂ (λ a t. a && type_eq t Int) (is-expression-under given types e) (expression-type-under given types e)

is-entry-under : (given : Functions) (types : List ColType) (e : Entry) → is_entry types (entry_under given e) ≡ is_entry types e
is-entry-under given types (copy_of c) = refl
is-entry-under given types (made_by e) = is-expression-under given types e

-- ---- operators

is-unary-under : (given : Functions) (types : List ColType) (op : Unary) → is_unary types (unary_under given op) ≡ is_unary types op
is-unary-under given types (select fs) = ap₂ (λ a b. a && b) (some-same (filter_under given) fs) (all-same (is_filter types) (filter_under given) (is-filter-under given types) fs)
is-unary-under given types (project es) = ap₂ (λ a b. a && b) (some-same (entry_under given) es) (all-same (is_entry types) (entry_under given) (is-entry-under given types) es)
is-unary-under given types (distinct cols) = refl
is-unary-under given types (sort of_parts order) = refl
is-unary-under given types (group phase by aggregates) = refl
is-unary-under given types (limit n) = refl

unary-types-under : (given : Functions) (types : List ColType) (op : Unary) → unary_types (unary_under given op) types ≡ unary_types op types
unary-types-under given types (select fs) = refl
unary-types-under given types (project es) = map-same (entry_type types) (entry_under given) (entry-type-under given types) es
unary-types-under given types (distinct cols) = refl
unary-types-under given types (sort of_parts order) = refl
unary-types-under given types (group phase by aggregates) = refl
unary-types-under given types (limit n) = refl

pub unary-width-under : (given : Functions) (op : Unary) (w : ℕ) → unary_width (unary_under given op) w ≡ unary_width op w
unary-width-under given (select fs) w = refl
unary-width-under given (project es) w = length-map es (entry_under given)
unary-width-under given (distinct cols) w = refl
unary-width-under given (sort of_parts order) w = refl
unary-width-under given (group phase by aggregates) w = refl
unary-width-under given (limit n) w = refl

pub described-under : (given : Functions) (op : Unary) → described (unary_under given op) ≡ described op
described-under given (select fs) = refl
described-under given (project es) =
    ap (λ ks. record { copying = entries_kept ks; meets = None; order = order_kept; keys = keys_kept }) (map-same kept_column (entry_under given) (kept-under given) es)
described-under given (distinct cols) = refl
described-under given (sort of_parts order) = refl
described-under given (group phase by aggregates) = refl
described-under given (limit n) = refl

pub final-under : (given : Functions) (op : Unary) → is_final (unary_under given op) ≡ is_final op
final-under given (select fs) = refl
final-under given (project es) = refl
final-under given (distinct cols) = refl
final-under given (sort of_parts order) = refl
final-under given (group phase by aggregates) = refl
final-under given (limit n) = refl

open-over : (given : Functions) (op : Unary) (below : Bool) → unary_open (unary_under given op) below ≡ unary_open op below
open-over given (select fs) below = refl
open-over given (project es) below = refl
open-over given (distinct cols) below = refl
open-over given (sort of_parts order) below = refl
open-over given (group phase by aggregates) below = refl
open-over given (limit n) below = refl

opens-over : (given : Functions) (keys : List ℕ) (puts : List Aggregate) (op : Unary) (below : Bool) → unary_opens keys puts (unary_under given op) below ≡ unary_opens keys puts op below
opens-over given keys puts (select fs) below = refl
opens-over given keys puts (project es) below = refl
opens-over given keys puts (distinct cols) below = refl
opens-over given keys puts (sort of_parts order) below = refl
opens-over given keys puts (group phase by aggregates) below = refl
opens-over given keys puts (limit n) below = refl

-- ---- nodes

pub size-under : (given : Functions) (p : Plan) → size (under given p) ≡ size p
size-under given (scan n c r m z) = refl
size-under given (unary n c op p) = size-under given p
size-under given (binary n c op p q) = size-under given p
size-under given (exchange n c k m p) = refl

pub claim-under : (given : Functions) (p : Plan) → claim (under given p) ≡ claim p
claim-under given (scan n c r m z) = refl
claim-under given (unary n c op p) = refl
claim-under given (binary n c op p q) = refl
claim-under given (exchange n c k m p) = refl

pub number-under : (given : Functions) (p : Plan) → number (under given p) ≡ number p
number-under given (scan n c r m z) = refl
number-under given (unary n c op p) = refl
number-under given (binary n c op p q) = refl
number-under given (exchange n c k m p) = refl

nodes-under : (given : Functions) (p : Plan) → nodes (under given p) ≡ nodes p
nodes-under given (scan n c r m z) = refl
nodes-under given (unary n c op p) = ap suc (nodes-under given p)
nodes-under given (binary n c op p q) = ap₂ (λ a b. suc (a + b)) (nodes-under given p) (nodes-under given q)
nodes-under given (exchange n c k m p) = ap suc (nodes-under given p)

numbered-under : (given : Functions) (i : ℕ) (p : Plan) → is_numbered i (under given p) ≡ is_numbered i p
numbered-under given i (scan n c r m z) = refl
numbered-under given i (unary n c op p) = ap (λ b. (n == i) && b) (numbered-under given (suc i) p)
numbered-under given i (binary n c op p q) =
    ap (λ b. (n == i) && (b && is_numbered (suc i + nodes (under given p)) (under given q))) (numbered-under given (suc i) p)
    ∙ ap (λ k. (n == i) && (is_numbered (suc i) p && is_numbered (suc i + k) (under given q))) (nodes-under given p)
    ∙ ap (λ b. (n == i) && (is_numbered (suc i) p && b)) (numbered-under given (suc i + nodes p) q)
numbered-under given i (exchange n c k m p) = ap (λ b. (n == i) && b) (numbered-under given (suc i) p)

relation-under : (given : Functions) (p : Plan) (k : ℕ) → relation_in (under given p) k ≡ relation_in p k
relation-under given (scan n c r m z) k = refl
relation-under given (unary n c op p) k = relation-under given p k
relation-under given (binary n c op p q) k =
    ap (λ i. cond (nat_lt k i) (relation_in (under given p) k) (relation_in (under given q) k)) (number-under given q)
    ∙ ap₂ (λ a b. cond (nat_lt k (number q)) a b) (relation-under given p k) (relation-under given q k)
relation-under given (exchange n c kind m p) k = relation-under given p k

fit-under : (given : Functions) (relation_of : ℕ → ℕ) (p : Plan) → is_fit relation_of (under given p) ≡ is_fit relation_of p
fit-under given relation_of (scan n c r m z) = refl
fit-under given relation_of (unary n c op p) = fit-under given relation_of p
fit-under given relation_of (binary n c op p q) =
    ap₂ (λ y z. size_eq y z && (is_fit relation_of (under given p) && is_fit relation_of (under given q))) (size-under given p) (size-under given q)
    ∙ ap₂ (λ a b. size_eq (size p) (size q) && (a && b)) (fit-under given relation_of p) (fit-under given relation_of q)
fit-under given relation_of (exchange n c k m p) = fit-under given relation_of p

pub workers-under : (given : Functions) (sizes : ℕ → ℕ) (p : Plan) → workers_below sizes (under given p) ≡ workers_below sizes p
workers-under given sizes (scan n c r m z) = refl
workers-under given sizes (unary n c op p) = workers-under given sizes p
workers-under given sizes (binary n c op p q) = ap₂ (λ a b. a + b) (workers-under given sizes p) (workers-under given sizes q)
workers-under given sizes (exchange n c k m p) = ap₂ (λ z a. workers sizes z + a) (size-under given p) (workers-under given sizes p)

pub nodes-stay : NodesStay
nodes-stay = record {
  numbers = number-under;
  claims = claim-under;
  sizes = size-under;
  counts = nodes-under;
  numbered = numbered-under;
  relations = relation-under;
  fit = fit-under;
  crews = λ given sizes p. ap (λ a. 1 + a) (workers-under given sizes p);
}

pub descriptions-stay : DescriptionsStay
descriptions-stay = described-under

-- ---- groupings in two phases

open-under : (given : Functions) (p : Plan) → is_open (under given p) ≡ is_open p
open-under given (scan n c r m z) = refl
open-under given (unary n c op p) = open-over given op (is_open (under given p)) ∙ ap (unary_open op) (open-under given p)
open-under given (binary n c op p q) = refl
open-under given (exchange n c k m p) = open-under given p

opens-under : (given : Functions) (keys : List ℕ) (puts : List Aggregate) (p : Plan) → opens keys puts (under given p) ≡ opens keys puts p
opens-under given keys puts (scan n c r m z) = refl
opens-under given keys puts (unary n c op p) = opens-over given keys puts op (opens keys puts (under given p)) ∙ ap (unary_opens keys puts op) (opens-under given keys puts p)
opens-under given keys puts (binary n c op p q) = refl
opens-under given keys puts (exchange n c k m p) = opens-under given keys puts p

fits-under : (given : Functions) (op : Unary) (p : Plan) → phase_fits (unary_under given op) (under given p) ≡ phase_fits op p
fits-under given (select fs) p = ap not (open-under given p)
fits-under given (project es) p = ap not (open-under given p)
fits-under given (distinct cols) p = ap not (open-under given p)
fits-under given (sort true order) p = open-under given p
fits-under given (sort false order) p = ap not (open-under given p)
fits-under given (group plain by aggregates) p = ap not (open-under given p)
fits-under given (group partial by aggregates) p = ap not (open-under given p)
fits-under given (group final by aggregates) p = opens-under given by aggregates p
fits-under given (limit n) p = ap not (open-under given p)

pub phases-stay : PhasesStay
phases-stay = record { opened = open-under; finals = opens-under; fitting = fits-under }

closed-under : (given : Functions) (p q : Plan) → both_closed (under given p) (under given q) ≡ both_closed p q
closed-under given p q = ap₂ (λ a b. not a && not b) (open-under given p) (open-under given q)

-- ---- types

pub types-under : (given : Functions) (catalog : ℕ → Relation) (p : Plan) → types_of catalog (under given p) ≡ types_of catalog p
types-under given catalog (scan n c r m z) = refl
types-under given catalog (unary n c op p) = unary-types-under given (types_of catalog (under given p)) op ∙ ap (unary_types op) (types-under given catalog p)
types-under given catalog (binary n c op p q) = ap₂ (binary_types op) (types-under given catalog p) (types-under given catalog q)
types-under given catalog (exchange n c k m p) = types-under given catalog p

pub width-under : (given : Functions) (catalog : ℕ → Relation) (p : Plan) → width catalog (under given p) ≡ width catalog p
width-under given catalog (scan n c r m z) = refl
width-under given catalog (unary n c op p) = unary-width-under given op (width catalog (under given p)) ∙ ap (unary_width op) (width-under given catalog p)
width-under given catalog (binary n c op p q) = ap₂ (binary_width op) (width-under given catalog p) (width-under given catalog q)
width-under given catalog (exchange n c k m p) = width-under given catalog p

and-three : {a b c d e f : Bool} → a ≡ b → c ≡ d → e ≡ f → (a && (c && e)) ≡ (b && (d && f))
and-three p q r = ap₂ (λ x y. x && y) p (ap₂ (λ x y. x && y) q r)

formed-under : (given : Functions) (catalog : ℕ → Relation) (p : Plan) → well_formed catalog (under given p) ≡ well_formed catalog p
formed-under given catalog (scan n c r m z) = refl
formed-under given catalog (unary n c op p) =
    and-three (formed-under given catalog p) (fits-under given op p) (ap (λ w. names_columns w c) (width-under given catalog (unary n c op p)))
formed-under given catalog (binary n c union p q) =
    and-three (formed-under given catalog p) (formed-under given catalog q)
    (ap₂ (λ a b. a && b) (closed-under given p q) (ap₂ (λ v w. (v == w) && names_columns v c) (width-under given catalog p) (width-under given catalog q)))
formed-under given catalog (binary n c (join m on) p q) =
    and-three (formed-under given catalog p) (formed-under given catalog q)
    (ap₂ (λ a b. a && b) (closed-under given p q) (ap₂ (λ v w. names_columns (v + w) c) (width-under given catalog p) (width-under given catalog q)))
formed-under given catalog (binary n c (semi_join matched on conditions) p q) =
    and-three (formed-under given catalog p) (formed-under given catalog q)
    (ap₂ (λ a b. a && b) (closed-under given p q) (ap (λ w. names_columns w c) (width-under given catalog p)))
formed-under given catalog (exchange n c k m p) = ap₂ (λ a w. a && names_columns w c) (formed-under given catalog p) (width-under given catalog p)

typed-under : (given : Functions) (s : Scope) (p : Plan) → typed s (under given p) ≡ typed s p
typed-under given s (scan n c r m z) = refl
typed-under given s (unary n c op p) =
    let at : ℕ → Relation = relation_at s.catalog in
    let fit = is-unary-under given (types_of at (under given p)) op ∙ ap (λ ts. is_unary ts op) (types-under given at p) in
    let out = ap (λ ts. is_output s ts c) (types-under given at (unary n c op p)) in
    and-three (typed-under given s p) (fits-under given op p) (ap₂ (λ x y. x && y) fit out)
typed-under given s (binary n c op p q) =
    let at : ℕ → Relation = relation_at s.catalog in
    let fit = ap₂ (λ ts us. is_binary ts us op) (types-under given at p) (types-under given at q) in
    let out = ap (λ ts. is_output s ts c) (types-under given at (binary n c op p q)) in
    and-three (typed-under given s p) (typed-under given s q) (and-three (closed-under given p q) fit out)
typed-under given s (exchange n c k m p) =
    ap₂ (λ b ts. b && (is_kind s ts k && (are_columns (length ts) (order_columns m) && (may_merge k m && is_output s ts c))))
    (typed-under given s p) (types-under given (relation_at s.catalog) p)

typed-whole-under : (given : Functions) (s : Scope) (p : Plan) → IsTyped s p → IsTyped s (under given p)
typed-whole-under given s p t = record {
  ranges = t.ranges;
  sizes = t.sizes;
  nodes = typed-under given s p ∙ t.nodes;
  numbered = numbered-under given 0 p ∙ t.numbered;
  closed = open-under given p ∙ t.closed;
}

pub types-stay : TypesStay
types-stay = record {
  types = types-under;
  widths = width-under;
  formed = formed-under;
  operators = is-unary-under;
  all_nodes = typed-under;
  whole = typed-whole-under;
}
