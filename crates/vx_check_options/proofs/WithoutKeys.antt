-- Plans without their keys: no test of a node but the one of its keys looks at them.
use Rattle.std.proofs.Common.{◌≡◌, ℕ, Bool, true, false, ◌&&◌, ◌||◌, List, [], ◌∷◌, refl, sym, ap, subst, ◌∙◌, Option, Some, None}
use Rattle.std.specs.List.{list_all}
use Rattle.vx_rows_values.specs.declared.order.OrderEntry.{OrderEntry}
use Rattle.vx_rows_values.proofs.Booleans.{and-left}
use Rattle.vx_catalog_relations.specs.Relation.{Relation}
use Rattle.vx_catalog_relations.specs.Catalog.{all_below, are_distinct}
use Rattle.vx_plan_nodes.specs.Plan.{Size, Part, one, any, all, routed, Unary, select, project, distinct, sort, group, limit, plain, partial, final, Binary, union, join, semi_join, ExchangeKind, route_to, round, broadcast, gather, concat, Plan, scan, unary, binary, exchange, claim, size, is_one, by_hashing, by_merging}
use Rattle.vx_plan_nodes.specs.Types.{width, unary_width, binary_width}
use Rattle.vx_plan_nodes.specs.Typed.{are_columns}
use Rattle.vx_plan_nodes.specs.Describe.{described_both}
use Rattle.vx_check_rules.specs.Rules.{if_some, has, within, is_front, copied, left_columns, right_columns, through, routed_alike, alike_shows, binary_inputs_match, keeps_apart, sizes_match, not_replicated, inputs_match, order_given, unary_shows, join_shows, semi_join_shows, both_have, shows, unless_one, part_shown, unary_orders, goes_on, orders, order_shown, numbers_below, keys_shown}
use Rattle.vx_check_rules.specs.Refusal.{Rule, size_mismatch, part_not_shown, inputs_not_matched, replicated_input, order_not_shown, order_needed, key_not_shown, first_rows_open}
use Rattle.vx_check_rules.specs.Behaviour.{Keyed, keyed_over, behaviour}
use Rattle.vx_check_rules.proofs.Bools.{all-more}
use Rattle.vx_check_rules.proofs.ColumnFacts.{within-below}
use Rattle.vx_check_rules.proofs.Exact.{keys-all}
use Rattle.vx_check_options.specs.Placed.{keyless, placed}
use Rattle.vx_check_options.specs.Laws.{AtEach}
use Rattle.vx_check_options.specs.FoundKeys.{show, FoundKeys}
use Rattle.vx_check_options.specs.Claimed.{note, IsClaimed}
use Rattle.vx_check_options.proofs.PlacedIsFit.{width-placed, tests_with}

-- the same plan, where no node claims a key
abbrev pub without_keys : Plan → Plan
without_keys (scan n c r m z) = scan n (keyless c.part c.order) r m z
without_keys (unary n c op p) = unary n (keyless c.part c.order) op (without_keys p)
without_keys (binary n c op p q) = binary n (keyless c.part c.order) op (without_keys p) (without_keys q)
without_keys (exchange n c k m p) = exchange n (keyless c.part c.order) k m (without_keys p)

-- ---- what does not look at keys

part-without : (p : Plan) → (claim (without_keys p)).part ≡ (claim p).part
part-without (scan n c r m z) = refl
part-without (unary n c op p) = refl
part-without (binary n c op p q) = refl
part-without (exchange n c k m p) = refl

order-without : (p : Plan) → (claim (without_keys p)).order ≡ (claim p).order
order-without (scan n c r m z) = refl
order-without (unary n c op p) = refl
order-without (binary n c op p q) = refl
order-without (exchange n c k m p) = refl

size-without : (p : Plan) → size (without_keys p) ≡ size p
size-without (scan n c r m z) = refl
size-without (unary n c op p) = size-without p
size-without (binary n c op p q) = size-without p
size-without (exchange n c k m p) = refl

width-without : (catalog : ℕ → Relation) (p : Plan) → width catalog (without_keys p) ≡ width catalog p
width-without catalog (scan n c r m z) = refl
width-without catalog (unary n c op p) = ap (unary_width op) (width-without catalog p)
width-without catalog (binary n c op p q) =
    ap (λ w. binary_width op w (width catalog (without_keys q))) (width-without catalog p) ∙ ap (binary_width op (width catalog p)) (width-without catalog q)
width-without catalog (exchange n c k m p) = width-without catalog p

-- that a part holds
has-without : (p : Plan) (q : Part) → has (without_keys p) q ≡ has p q
has-without p q = rw (size-without p, part-without p) refl

-- ---- the tests

sizes-without : (p : Plan) → sizes_match (without_keys p) ≡ sizes_match p
sizes-without (scan n c r m z) = refl
sizes-without (unary n c op p) = refl
sizes-without (binary n c op p q) = rw (size-without p, size-without q) refl
sizes-without (exchange n c k m p) = refl

once-without : (p : Plan) → not_replicated (without_keys p) ≡ not_replicated p
once-without (scan n c r m z) = refl
once-without (unary n c op p) = refl
once-without (binary n c op p q) = refl
once-without (exchange n c k m p) = has-without p any

apart-without : (op : Unary) (p : Plan) → keeps_apart op (without_keys p) ≡ keeps_apart op p
apart-without (select fs) p = refl
apart-without (project es) p = refl
apart-without (distinct cols) p = rw (size-without p, part-without p) refl
apart-without (sort of_parts cols) p = refl
apart-without (group plain by aggregates) p = rw (size-without p, part-without p) refl
apart-without (group partial by aggregates) p = refl
apart-without (group final by aggregates) p = rw (size-without p, part-without p) refl
apart-without (limit m) p = refl

both-without : (op : Binary) (p q : Plan) → binary_inputs_match op (without_keys p) (without_keys q) ≡ binary_inputs_match op p q
both-without union p q = rw (size-without p, part-without p, size-without q, part-without q) refl
both-without (join m on) p q = rw (size-without p, part-without p, size-without q, part-without q) refl
both-without (semi_join matched on conditions) p q = rw (part-without p, size-without q, part-without q) refl

match-without : (p : Plan) → inputs_match (without_keys p) ≡ inputs_match p
match-without (scan n c r m z) = refl
match-without (unary n c op p) = rw (size-without p, apart-without op p) refl
match-without (binary n c op p q) = rw (size-without p, both-without op p q) refl
match-without (exchange n c k m p) = refl

given-without : (p : Plan) → order_given (without_keys p) ≡ order_given p
given-without (scan n c r m z) = refl
given-without (unary n c op p) = refl
given-without (binary n c union p q) = refl
given-without (binary n c (join (by_merging falls) on) p q) = rw (order-without p, order-without q) refl
given-without (binary n c (join by_hashing on) p q) = refl
given-without (binary n c (semi_join matched on conditions) p q) = refl
given-without (exchange n c k m p) = ap (is_front m) (order-without p)

-- ---- parts

through-same : (f g : Part → Bool) (columns : List ℕ → Option (List ℕ)) (q : Part) → ((x : Part) → f x ≡ g x) → through f columns q ≡ through g columns q
through-same f g columns one h = refl
through-same f g columns any h = h any
through-same f g columns all h = h all
through-same f g columns (routed r cols) h = some (columns cols)
  where
    some : (o : Option (List ℕ)) → if_some o (λ cs. f (routed r cs)) ≡ if_some o (λ cs. g (routed r cs))
    some None = refl
    some (Some cs) = h (routed r cs)

unless-same : (f g : Part → Bool) (q : Part) → ((x : Part) → f x ≡ g x) → unless_one f q ≡ unless_one g q
unless-same f g one h = refl
unless-same f g any h = h any
unless-same f g all h = h all
unless-same f g (routed r cols) h = h (routed r cols)

unary-without : (op : Unary) (p : Plan) (q : Part) → unary_shows op (without_keys p) q ≡ unary_shows op p q
unary-without (select fs) p q = has-without p q
unary-without (project es) p q = through-same (has (without_keys p)) (has p) _ q (has-without p)
unary-without (distinct cols) p q = through-same (has (without_keys p)) (has p) (copied cols) q (has-without p)
unary-without (sort of_parts cols) p q = has-without p q
unary-without (group phase by aggregates) p q = through-same (has (without_keys p)) (has p) (copied by) q (has-without p)
unary-without (limit m) p q = has-without p q

have-without : (p q : Plan) (x : Part) → both_have (without_keys p) (without_keys q) x ≡ both_have p q x
have-without p q one = refl
have-without p q any = rw (has-without p any, has-without q any) refl
have-without p q all = rw (has-without p all, has-without q all) refl
have-without p q (routed r cols) = rw (has-without p (routed r cols), has-without q (routed r cols)) refl

join-without : (on : List (ℕ × ℕ)) (v w : ℕ) (p q : Plan) (x : Part) → v ≡ w → join_shows on v (without_keys p) (without_keys q) x ≡ join_shows on w p q x
join-without on v w p q x e =
    ap (λ u. join_shows on u (without_keys p) (without_keys q) x) e
    ∙ same (part-without p) (part-without q) (has-without p all) (has-without q all)
    (through-same (has (without_keys p)) (has p) (left_columns w) x (has-without p)) (through-same (has (without_keys q)) (has q) (right_columns w) x (has-without q))
  where
    same : {y y' z z' : Part} {a a' b b' t t' u u' : Bool} → y ≡ y' → z ≡ z' → a ≡ a' → b ≡ b' → t ≡ t' → u ≡ u'
        → ((routed_alike on y z && alike_shows w y z x) || (b && t) || (a && u)) ≡ ((routed_alike on y' z' && alike_shows w y' z' x) || (b' && t') || (a' && u'))
    same d e f g h k = cc

semi-without : (on : List (ℕ × ℕ)) (p q : Plan) (x : Part) → semi_join_shows on (without_keys p) (without_keys q) x ≡ semi_join_shows on p q x
semi-without on p q x = rw (size-without p, part-without p, size-without q, part-without q) refl

shows-without : (catalog : ℕ → Relation) (p : Plan) (q : Part) → shows catalog (without_keys p) q ≡ shows catalog p q
shows-without catalog (scan n c r true z) q = refl
shows-without catalog (scan n c r false z) q = refl
shows-without catalog (unary n c op p) q = unary-without op p q
shows-without catalog (binary n c union p p2) q = have-without p p2 q
shows-without catalog (binary n c (join m on) p p2) q = join-without on _ _ p p2 q (width-without catalog p)
shows-without catalog (binary n c (semi_join matched on conditions) p p2) q = semi-without on p p2 q
shows-without catalog (exchange n c k m p) q = refl

shown-without : (catalog : ℕ → Relation) (p : Plan) → part_shown catalog (without_keys p) ≡ part_shown catalog p
shown-without catalog p =
    ap (λ z. is_one z || unless_one (shows catalog (without_keys p)) (claim (without_keys p)).part) (size-without p)
    ∙ ap (λ q. is_one (size p) || unless_one (shows catalog (without_keys p)) q) (part-without p)
    ∙ ap (λ b. is_one (size p) || b) (unless-same (shows catalog (without_keys p)) (shows catalog p) (claim p).part (shows-without catalog p))

-- ---- orders

goes-without : (k : ExchangeKind) (p : Plan) → goes_on k (claim (without_keys p)) ≡ goes_on k (claim p)
goes-without (route_to z r cols) p = refl
goes-without (round z) p = refl
goes-without (broadcast z) p = refl
goes-without gather p = refl
goes-without concat p = rw (part-without p, order-without p) refl

orders-without : (catalog : ℕ → Relation) (p : Plan) (order : List OrderEntry) → orders catalog (without_keys p) order ≡ orders catalog p order
orders-without catalog (scan n c r m z) order = refl
orders-without catalog (unary n c op p) order = ap (λ below. unary_orders op below order) (order-without p)
orders-without catalog (binary n c union p q) order = refl
orders-without catalog (binary n c (join m on) p q) order = ap (is_front order) (order-without p)
orders-without catalog (binary n c (semi_join matched on conditions) p q) order = ap (is_front order) (order-without p)
orders-without catalog (exchange n c k m p) order = same (size-without p) (goes-without k p) (order-without p)
  where
    same : {z z' : Size} {a a' : Bool} {below below' : List OrderEntry} → z ≡ z' → a ≡ a' → below ≡ below'
        → (is_front order m || ((is_one z || a) && is_front order below)) ≡ (is_front order m || ((is_one z' || a') && is_front order below'))
    same d e f = cc

ordered-without : (catalog : ℕ → Relation) (p : Plan) → order_shown catalog (without_keys p) ≡ order_shown catalog p
ordered-without catalog p = orders-without catalog p _ ∙ ap (orders catalog p) (order-without p)

-- ---- all tests

-- no key is there to be shown
keys-without : (catalog : ℕ → Relation) (p : Plan) → keys_shown catalog (without_keys p) ≡ true
keys-without catalog (scan n c r m z) = refl
keys-without catalog (unary n c op p) = refl
keys-without catalog (binary n c op p q) = refl
keys-without catalog (exchange n c k m p) = refl

-- where the keys of a node are shown, the same tests fail without them, but that of the first rows, which looks at keys
pub tests-without : (known : Bool) (catalog : ℕ → Relation) (p : Plan) → keys_shown catalog p ≡ true → tests_with known catalog (without_keys p) ≡ tests_with known catalog p
tests-without known catalog p h =
    same (sizes-without p) (once-without p) (match-without p) (given-without p) (shown-without catalog p) (ordered-without catalog p) (keys-without catalog p ∙ sym h)
  where
    same : {a a' b b' c c' d d' e e' f f' g g' : Bool} → a ≡ a' → b ≡ b' → c ≡ c' → d ≡ d' → e ≡ e' → f ≡ f' → g ≡ g'
        → ◌≡◌ {A = List (Bool × Rule)}
        ((a, size_mismatch) ∷ (b, replicated_input) ∷ (c, inputs_not_matched) ∷ (d, order_needed) ∷ (known, first_rows_open) ∷ (e, part_not_shown) ∷ (f, order_not_shown) ∷ (g, key_not_shown) ∷ [])
        ((a', size_mismatch) ∷ (b', replicated_input) ∷ (c', inputs_not_matched) ∷ (d', order_needed) ∷ (known, first_rows_open) ∷ (e', part_not_shown) ∷ (f', order_not_shown) ∷ (g', key_not_shown) ∷ [])
    same h1 h2 h3 h4 h5 h6 h7 = cc

-- at a node, the keys are shown and name its columns
pub record HasShownKeys (catalog : ℕ → Relation) (p : Plan) : Type 0 where
  pub shown : keys_shown catalog p ≡ true
  pub columns : list_all (are_columns (width catalog p)) (claim p).keys ≡ true

-- what holds at each node holds at the top
pub at-top : (P : Plan → Type 0) (p : Plan) → AtEach P p → P p
at-top P (scan n c r m z) h = h
at-top P (unary n c op p) h = h.1
at-top P (binary n c op p q) h = h.2
at-top P (exchange n c k m p) h = h.1

-- ---- claims with the keys that are found

-- without its keys, the plan is the placed one
pub claimed-placed : (catalog : ℕ → Relation) (p : Plan) (q : Part) (order : List OrderEntry) (x : Plan) → IsClaimed catalog p q order x → without_keys x ≡ placed catalog p q order
claimed-placed catalog (scan n c r m z) q order x h = ap without_keys h.1
claimed-placed catalog (unary n c op p) q order x h = ap without_keys h.2 ∙ ap (unary n (keyless q order) op) (claimed-placed catalog p _ _ h.1 h.3)
claimed-placed catalog (binary n c op p p2) q order x h =
    ap without_keys h.3 ∙ both (claimed-placed catalog p _ _ h.1 h.4) (claimed-placed catalog p2 _ _ h.2 h.5)
  where
    both : {y y' z z' : Plan} → y ≡ y' → z ≡ z' → binary n (keyless q order) op y z ≡ binary n (keyless q order) op y' z'
    both e f = cc
claimed-placed catalog (exchange n c k m p) q order x h = ap without_keys h.2 ∙ ap (exchange n (keyless q order) k m) (claimed-placed catalog p _ _ h.1 h.3)

-- it is as wide
pub claimed-width : (catalog : ℕ → Relation) (p : Plan) (q : Part) (order : List OrderEntry) (x : Plan) → IsClaimed catalog p q order x → width catalog x ≡ width catalog p
claimed-width catalog p q order x h = sym (width-without catalog x) ∙ ap (width catalog) (claimed-placed catalog p q order x h) ∙ width-placed catalog p q order

-- keys that are found are shown
keys-here : (catalog : ℕ → Relation) (x : Plan) (keyed : List Keyed) (w : ℕ) (claimed : List (List ℕ)) → width catalog x ≡ w → (behaviour catalog x).keyed ≡ keyed
    → FoundKeys (show keyed) w claimed (claim x).keys → HasShownKeys catalog x
keys-here catalog x keyed w claimed wide same found =
    let columns : list_all (are_columns (width catalog x)) (claim x).keys ≡ true = ap (λ v. list_all (are_columns v) (claim x).keys) wide ∙ found.columns in
    record {
      shown = keys-all catalog x (claim x).keys
          (all-more (are_columns (width catalog x)) (λ key. within key (numbers_below (width catalog x))) (claim x).keys
          (λ key h. sym (within-below (width catalog x) key) ∙ and-left (all_below (width catalog x) key) (are_distinct key) h) columns)
          ∙ (ap (λ ks. list_all (show ks) (claim x).keys) same ∙ found.shown);
      columns = columns;
    }

-- so at each node
pub claimed-keys : (catalog : ℕ → Relation) (p : Plan) (q : Part) (order : List OrderEntry) (x : Plan) → IsClaimed catalog p q order x → AtEach (HasShownKeys catalog) x
claimed-keys catalog (scan n c r m z) q order x h =
    subst (AtEach (HasShownKeys catalog)) (sym h.1) (keys-here catalog (scan n (note q order h.0) r m z) _ _ _ refl refl h.2)
claimed-keys catalog (unary n c op p) q order x h =
    subst (AtEach (HasShownKeys catalog)) (sym h.2)
    (claimed-keys catalog p _ _ h.1 h.3, keys-here catalog (unary n (note q order h.0) op h.1) _ _ _ (ap (unary_width op) (claimed-width catalog p _ _ h.1 h.3)) refl h.4)
claimed-keys catalog (binary n c op p p2) q order x h =
    let wide : width catalog h.1 ≡ width catalog p = claimed-width catalog p _ _ h.1 h.4 in
    subst (AtEach (HasShownKeys catalog)) (sym h.3) (
      claimed-keys catalog p _ _ h.1 h.4,
      claimed-keys catalog p2 _ _ h.2 h.5,
      keys-here catalog (binary n (note q order h.0) op h.1 h.2) _ _ _
          (ap (λ w. binary_width op w (width catalog h.2)) wide ∙ ap (binary_width op (width catalog p)) (claimed-width catalog p2 _ _ h.2 h.5))
          (ap (λ w. keyed_over (described_both w op).meeting (described_both w op) (claim h.1).keys (claim h.2).keys) wide) h.6,
    )
claimed-keys catalog (exchange n c k m p) q order x h =
    subst (AtEach (HasShownKeys catalog)) (sym h.2)
    (claimed-keys catalog p _ _ h.1 h.3, keys-here catalog (exchange n (note q order h.0) k m h.1) _ _ _ (claimed-width catalog p _ _ h.1 h.3) refl h.4)
