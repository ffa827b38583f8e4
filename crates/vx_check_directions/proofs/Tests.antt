-- The tests of nodes that do not look at the directions of joins by merging: all but that of the orders that a node needs.
use Rattle.std.proofs.Common.{◌≡◌, ℕ, Bool, ◌&&◌, ◌||◌, List, map, refl, ap, ap₂, ◌∙◌}
use Rattle.vx_rows_values.specs.declared.order.OrderEntry.{OrderEntry}
use Rattle.vx_catalog_relations.specs.Relation.{Relation}
use Rattle.vx_plan_nodes.specs.Plan.{Part, one, any, all, routed, Claim, Unary, select, project, distinct, sort, group, limit, plain, partial, final, by_hashing, by_merging, Binary, union, join, semi_join, Plan, scan, unary, binary, exchange, claim, size, is_one}
use Rattle.vx_plan_nodes.specs.Describe.{kept_column}
use Rattle.vx_plan_nodes.specs.Types.{width}
use Rattle.vx_check_rules.specs.Rules.{has, sizes_match, not_replicated, keeps_apart, binary_inputs_match, inputs_match, first_rows_known, unary_shows, both_have, shows, part_shown, orders, order_shown, keys_of, keys_shown, is_total_order, unless_one, through, copied, copied_from, routed_alike, alike_shows, left_columns, right_columns, join_shows}
use Rattle.vx_check_directions.specs.Turned.{pairs_of, in_falls, Choice, turned}
use Rattle.vx_check_directions.proofs.Alike.{claim-alike, size-alike, width-alike}

has-alike : (h : Choice) (p : Plan) (q : Part) → has (turned h p) q ≡ has p q
has-alike h p q = rw (size-alike h p, claim-alike h p) refl

pub sizes-alike : (h : Choice) (p : Plan) → sizes_match (turned h p) ≡ sizes_match p
sizes-alike h (scan n c r m z) = refl
sizes-alike h (unary n c op p) = refl
sizes-alike h (binary n c op p q) = rw (size-alike h p, size-alike h q) refl
sizes-alike h (exchange n c k m p) = refl

pub once-alike : (h : Choice) (p : Plan) → not_replicated (turned h p) ≡ not_replicated p
once-alike h (scan n c r m z) = refl
once-alike h (unary n c op p) = refl
once-alike h (binary n c op p q) = refl
once-alike h (exchange n c k m p) = has-alike h p any

pub inputs-alike : (h : Choice) (p : Plan) → inputs_match (turned h p) ≡ inputs_match p
inputs-alike h (scan n c r m z) = refl
inputs-alike h (unary n c op p) = rw (size-alike h p, apart op) refl
  where
    apart : (op : Unary) → keeps_apart op (turned h p) ≡ keeps_apart op p
    apart (select fs) = refl
    apart (project es) = refl
    apart (distinct cols) = rw (size-alike h p, claim-alike h p) refl
    apart (sort of_parts order) = refl
    apart (group plain by aggregates) = rw (size-alike h p, claim-alike h p) refl
    apart (group partial by aggregates) = refl
    apart (group final by aggregates) = rw (size-alike h p, claim-alike h p) refl
    apart (limit m) = refl
inputs-alike h (binary n c op p q) = rw (size-alike h p, meet op (h (pairs_of op) p q)) refl
  where
    meet : (op : Binary) (falls : List Bool) → binary_inputs_match (in_falls falls op) (turned h p) (turned h q) ≡ binary_inputs_match op p q
    meet union falls = rw (size-alike h p, claim-alike h p, size-alike h q, claim-alike h q) refl
    meet (join by_hashing on) falls = rw (size-alike h p, claim-alike h p, size-alike h q, claim-alike h q) refl
    meet (join (by_merging old) on) falls = rw (size-alike h p, claim-alike h p, size-alike h q, claim-alike h q) refl
    meet (semi_join matched on conditions) falls = rw (claim-alike h p, size-alike h q, claim-alike h q) refl
inputs-alike h (exchange n c k m p) = refl

pub total-alike : (catalog : ℕ → Relation) (h : Choice) (p : Plan) → is_total_order catalog (turned h p) ≡ is_total_order catalog p
total-alike catalog h p = rw (claim-alike h p, width-alike catalog h p) refl

pub first-alike : (catalog : ℕ → Relation) (h : Choice) (p : Plan) → first_rows_known catalog (turned h p) ≡ first_rows_known catalog p
first-alike catalog h (scan n c r m z) = refl
first-alike catalog h (unary n c (select fs) p) = refl
first-alike catalog h (unary n c (project es) p) = refl
first-alike catalog h (unary n c (distinct cols) p) = refl
first-alike catalog h (unary n c (sort of_parts order) p) = refl
first-alike catalog h (unary n c (group phase by aggregates) p) = refl
first-alike catalog h (unary n c (limit m) p) = rw (size-alike h p, total-alike catalog h p) refl
first-alike catalog h (binary n c op p q) = refl
first-alike catalog h (exchange n c k m p) = refl

-- the parts that a node has
has-all : (h : Choice) (p : Plan) → has (turned h p) ≡ has p
has-all h p = λ i q. has-alike h p q i

-- what a join shows, by the parts that its inputs have
abbrev join_shows_by : List (ℕ × ℕ) → Part → ℕ → (c d : Claim) → (left right : Part → Bool) → Bool
join_shows_by on x w c d f g =
    (routed_alike on c.part d.part && alike_shows w c.part d.part x) || (g all && through f (left_columns w) x) || (f all && through g (right_columns w) x)

joins-alike : (catalog : ℕ → Relation) (h : Choice) (on : List (ℕ × ℕ)) (p q : Plan) (x : Part)
    → join_shows on (width catalog (turned h p)) (turned h p) (turned h q) x ≡ join_shows on (width catalog p) p q x
joins-alike catalog h on p q x =
    ap₂ (λ f g. join_shows_by on x (width catalog (turned h p)) (claim (turned h p)) (claim (turned h q)) f g) (has-all h p) (has-all h q)
    ∙ rw (width-alike catalog h p, claim-alike h p, claim-alike h q) refl

shows-alike : (catalog : ℕ → Relation) (h : Choice) (p : Plan) (x : Part) → shows catalog (turned h p) x ≡ shows catalog p x
shows-alike catalog h (scan n c r m z) x = refl
shows-alike catalog h (unary n c op p) x = over op
  where
    over : (op : Unary) → unary_shows op (turned h p) x ≡ unary_shows op p x
    over (select fs) = has-alike h p x
    over (project es) = ap (λ f. through f (copied_from (map kept_column es)) x) (has-all h p)
    over (distinct cols) = ap (λ f. through f (copied cols) x) (has-all h p)
    over (sort of_parts order) = has-alike h p x
    over (group phase by aggregates) = ap (λ f. through f (copied by) x) (has-all h p)
    over (limit m) = has-alike h p x
shows-alike catalog h (binary n c union p q) x = both x
  where
    both : (x : Part) → both_have (turned h p) (turned h q) x ≡ both_have p q x
    both one = refl
    both any = ap₂ (λ a b. a && b) (has-alike h p any) (has-alike h q any)
    both all = ap₂ (λ a b. a && b) (has-alike h p all) (has-alike h q all)
    both (routed r cols) = ap₂ (λ a b. a && b) (has-alike h p (routed r cols)) (has-alike h q (routed r cols))
shows-alike catalog h (binary n c (join by_hashing on) p q) x = joins-alike catalog h on p q x
shows-alike catalog h (binary n c (join (by_merging old) on) p q) x = joins-alike catalog h on p q x
shows-alike catalog h (binary n c (semi_join matched on conditions) p q) x = rw (size-alike h p, claim-alike h p, size-alike h q, claim-alike h q) refl
shows-alike catalog h (exchange n c k m p) x = refl

pub part-alike : (catalog : ℕ → Relation) (h : Choice) (p : Plan) → part_shown catalog (turned h p) ≡ part_shown catalog p
part-alike catalog h p = rw (size-alike h p, claim-alike h p) (go (claim p).part)
  where
    go : (q : Part) → (is_one (size p) || unless_one (shows catalog (turned h p)) q) ≡ (is_one (size p) || unless_one (shows catalog p) q)
    go one = refl
    go any = rw (shows-alike catalog h p any) refl
    go all = rw (shows-alike catalog h p all) refl
    go (routed r cols) = rw (shows-alike catalog h p (routed r cols)) refl

pub order-alike : (catalog : ℕ → Relation) (h : Choice) (p : Plan) (order : List OrderEntry) → orders catalog (turned h p) order ≡ orders catalog p order
order-alike catalog h (scan n c r m z) order = refl
order-alike catalog h (unary n c op p) order = rw (claim-alike h p) refl
order-alike catalog h (binary n c union p q) order = refl
order-alike catalog h (binary n c (join by_hashing on) p q) order = rw (claim-alike h p) refl
order-alike catalog h (binary n c (join (by_merging old) on) p q) order = rw (claim-alike h p) refl
order-alike catalog h (binary n c (semi_join matched on conditions) p q) order = rw (claim-alike h p) refl
order-alike catalog h (exchange n c k m p) order = rw (size-alike h p, claim-alike h p) refl

pub ordered-alike : (catalog : ℕ → Relation) (h : Choice) (p : Plan) → order_shown catalog (turned h p) ≡ order_shown catalog p
ordered-alike catalog h p = rw (claim-alike h p) (order-alike catalog h p (claim p).order)

pub key-at : (catalog : ℕ → Relation) (h : Choice) (p : Plan) (x : List ℕ) → keys_of catalog (turned h p) x ≡ keys_of catalog p x
key-at catalog h (scan n c r m z) x = refl
key-at catalog h (unary n c op p) x = rw (claim-alike h p) refl
key-at catalog h (binary n c union p q) x = refl
key-at catalog h (binary n c (join by_hashing on) p q) x = rw (width-alike catalog h p, claim-alike h p, claim-alike h q) refl
key-at catalog h (binary n c (join (by_merging old) on) p q) x = rw (width-alike catalog h p, claim-alike h p, claim-alike h q) refl
key-at catalog h (binary n c (semi_join matched on conditions) p q) x = rw (claim-alike h p) refl
key-at catalog h (exchange n c k m p) x = rw (claim-alike h p) refl

pub key-alike : (catalog : ℕ → Relation) (h : Choice) (p : Plan) → keys_of catalog (turned h p) ≡ keys_of catalog p
key-alike catalog h p = λ i x. key-at catalog h p x i

pub keys-alike : (catalog : ℕ → Relation) (h : Choice) (p : Plan) → keys_shown catalog (turned h p) ≡ keys_shown catalog p
keys-alike catalog h p = rw (claim-alike h p, key-alike catalog h p) refl
