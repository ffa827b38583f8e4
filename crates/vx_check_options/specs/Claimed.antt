-- Plans with claims that are placed from the top down and keys that are found from the inputs upwards, and what such claims are good for.
use Rattle.std.specs.Prelude.{ℕ, ◌≡◌, ◌<◌, ◌⊎◌, Bool, true, ◌&&◌, List, [], ◌∷◌, ◌++◌, length, Option, Some, None, slice_get}
use Rattle.std.specs.List.{list_all}
use Rattle.vx_rows_values.specs.declared.order.OrderEntry.{OrderEntry}
use Rattle.vx_catalog_relations.specs.Relation.{Relation}
use Rattle.vx_catalog_relations.specs.Catalog.{relation_at, all_below, IsCatalog}
use Rattle.vx_plan_nodes.specs.Plan.{Part, Claim, Plan, scan, unary, binary, exchange, claim, size, is_one}
use Rattle.vx_plan_nodes.specs.Types.{width, types_of}
use Rattle.vx_plan_nodes.specs.Describe.{whole_rows, described}
use Rattle.vx_plan_nodes.specs.Typed.{Scope, typed, are_columns}
use Rattle.vx_check_rules.specs.Rules.{sizes_match, first_rows_known, covers, allowed}
use Rattle.vx_check_rules.specs.Refusal.{Rule, size_mismatch, inputs_not_matched, replicated_input, order_not_shown, order_needed, first_rows_open, or_else, refused_at, first_refused}
use Rattle.vx_check_rules.specs.Behaviour.{behaviour, shown_key, keyed_from}
use Rattle.vx_check_options.specs.Options.{no_input, parts_at, places_at, can_send, can_meet, can_order, can_keep, first_unfit}
use Rattle.vx_check_options.specs.Placed.{is_chosen, order_along, order_below, order_to_left, order_to_right, order_sent, parts_below, part_sent, bare}
use Rattle.vx_check_options.specs.Laws.{Keeps, is_option, IsStrongest, AtEach}
use Rattle.vx_check_options.specs.FoundKeys.{are_apart, show, FoundKeys}

-- a claim
abbrev pub note : Part → List OrderEntry → List (List ℕ) → Claim
note q order keys = record { part = q; order = order; keys = keys }

-- the keys of a node with these nodes, over inputs that claim these
abbrev pub FoundAt : (ℕ → Relation) → Plan → (lefts rights found : List (List ℕ)) → Type 0
FoundAt catalog p lefts rights found = FoundKeys (show (keyed_from catalog p lefts rights)) (width catalog p) (claim p).keys found

-- the second plan is the first one with claims as they are placed under this part and this order, and with the keys that are found at each node
abbrev pub IsClaimed : (ℕ → Relation) → Plan → Part → List OrderEntry → Plan → Type 0
IsClaimed catalog (scan n c r m z) q order x = (keys : List (List ℕ)) × (x ≡ scan n (note q order keys) r m z) × FoundAt catalog (scan n c r m z) [] [] keys
IsClaimed catalog (unary n c op p) q order x =
    (keys : List (List ℕ)) × (y : Plan) × (x ≡ unary n (note q order keys) op y)
    × IsClaimed catalog p (parts_below catalog (unary n c op p) q (parts_at catalog p) no_input).0 (order_below (described op).order (described op).copying order (places_at catalog p)) y
    × FoundAt catalog (unary n c op p) (claim y).keys [] keys
IsClaimed catalog (binary n c op p p2) q order x =
    (keys : List (List ℕ)) × (y : Plan) × (y2 : Plan) × (x ≡ binary n (note q order keys) op y y2)
    × IsClaimed catalog p (parts_below catalog (binary n c op p p2) q (parts_at catalog p) (parts_at catalog p2)).0 (order_to_left op order (places_at catalog p)) y
    × IsClaimed catalog p2 (parts_below catalog (binary n c op p p2) q (parts_at catalog p) (parts_at catalog p2)).1 (order_to_right op (places_at catalog p2)) y2
    × FoundAt catalog (binary n c op p p2) (claim y).keys (claim y2).keys keys
IsClaimed catalog (exchange n c k merge p) q order x =
    (keys : List (List ℕ)) × (y : Plan) × (x ≡ exchange n (note q order keys) k merge y)
    × IsClaimed catalog p (part_sent k order (parts_at catalog p)) (order_along whole_rows (order_sent k (is_one (size p)) merge order) (places_at catalog p)) y
    × FoundAt catalog (exchange n c k merge p) (claim y).keys [] keys

-- ---- the laws

-- what comes before them: a typed plan, and a part and an order that its top can claim
abbrev pub IsReady : Scope → Plan → Part → List OrderEntry → Type 0
IsReady s p q order =
    IsCatalog s.catalog × (typed s p ≡ true) × (is_option (parts_at (relation_at s.catalog) p) q ≡ true) × (is_chosen order (places_at (relation_at s.catalog) p) ≡ true)

-- the tests that no claims can pass, and between them whether the first rows of a limit's input are known
abbrev pub fit_tests_with : (known : Bool) → (ℕ → Relation) → Plan → List (Bool × Rule)
fit_tests_with known catalog p =
    (sizes_match p, size_mismatch) ∷ (can_send catalog p, replicated_input) ∷ (can_meet catalog p, inputs_not_matched) ∷ (can_order catalog p, order_needed)
    ∷ (known, first_rows_open) ∷ (can_keep catalog p, order_not_shown) ∷ []

-- the inputs of a node, itself where it has none
abbrev pub first_input : Plan → Plan
first_input (scan n c r m z) = scan n c r m z
first_input (unary n c op p) = p
first_input (binary n c op p q) = p
first_input (exchange n c k m p) = p

abbrev pub second_input : Plan → Plan
second_input (binary n c op p q) = q
second_input p = p

-- the first node in post-order that no claims can save, or that is a limit of which these claims, those of the second plan, do not make the first rows known
abbrev pub unfit_in : (ℕ → Relation) → Plan → Plan → Option (ℕ × Rule)
unfit_in catalog (scan n c r m z) x = refused_at n (fit_tests_with (first_rows_known catalog x) catalog (scan n c r m z))
unfit_in catalog (unary n c op p) x = or_else (unfit_in catalog p (first_input x)) (refused_at n (fit_tests_with (first_rows_known catalog x) catalog (unary n c op p)))
unfit_in catalog (binary n c op p q) x =
    or_else (unfit_in catalog p (first_input x))
    (or_else (unfit_in catalog q (second_input x)) (refused_at n (fit_tests_with (first_rows_known catalog x) catalog (binary n c op p q))))
unfit_in catalog (exchange n c k m p) x = or_else (unfit_in catalog p (first_input x)) (refused_at n (fit_tests_with (first_rows_known catalog x) catalog (exchange n c k m p)))

-- the checker refuses such claims exactly where no claims fit, or where they do not make the first rows of a limit's input known
abbrev pub ClaimedIsFit : Type 0
ClaimedIsFit = (s : Scope) (p : Plan) (q : Part) (order : List OrderEntry) (x : Plan) → IsReady s p q order → (bare p ≡ p) ⊎ (first_unfit (relation_at s.catalog) p ≡ None)
    → IsClaimed (relation_at s.catalog) p q order x → first_refused (relation_at s.catalog) x ≡ unfit_in (relation_at s.catalog) p x

-- they are typed, at the same nodes
abbrev pub ClaimedIsTyped : Type 0
ClaimedIsTyped = (s : Scope) (p : Plan) (q : Part) (order : List OrderEntry) (x : Plan) → IsReady s p q order → IsClaimed (relation_at s.catalog) p q order x
    → (typed s x ≡ true) × (bare x ≡ bare p)

-- of each key of the first claim a part is a key of the second
abbrev pub KeepsKeysOf : Claim → Claim → Type 0
KeepsKeysOf c d = (key : List ℕ) → covers c.keys key ≡ true → covers d.keys key ≡ true

-- so at every node
abbrev pub KeepsKeys : Plan → Plan → Type 0
KeepsKeys (scan n c r m z) x = KeepsKeysOf c (claim x)
KeepsKeys (unary n c op p) x = (d : Claim) × (y : Plan) × (x ≡ unary n d op y) × KeepsKeysOf c d × KeepsKeys p y
KeepsKeys (binary n c op p q) x = (d : Claim) × (y : Plan) × (z : Plan) × (x ≡ binary n d op y z) × KeepsKeysOf c d × KeepsKeys p y × KeepsKeys q z
KeepsKeys (exchange n c k m p) x = (d : Claim) × (y : Plan) × (x ≡ exchange n d k m y) × KeepsKeysOf c d × KeepsKeys p y

-- where a plan is accepted, they keep what it claims
abbrev pub ClaimedKeeps : Type 0
ClaimedKeeps = (s : Scope) (p : Plan) (q : Part) (order : List OrderEntry) (x : Plan) → IsReady s p q order → allowed (relation_at s.catalog) p ≡ true
    → IsClaimed (relation_at s.catalog) p q order x → Keeps p x × KeepsKeys p x

-- at a node, over the keys that its inputs claim: no claimed key contains another one, and where fewer than 16 are claimed, each list of columns that is shown as a key
-- contains a claimed one
pub record HasAllKeys (catalog : ℕ → Relation) (p : Plan) : Type 0 where
  pub apart : are_apart (claim p).keys ≡ true
  pub all : length (claim p).keys < 16 → (cols : List ℕ) → all_below (width catalog p) cols ≡ true → shown_key (behaviour catalog p) cols ≡ true → covers (claim p).keys cols ≡ true

-- they tell the most at every node
abbrev pub ClaimedIsStrongest : Type 0
ClaimedIsStrongest = (s : Scope) (p : Plan) (q : Part) (order : List OrderEntry) (x : Plan) → IsReady s p q order → first_unfit (relation_at s.catalog) p ≡ None
    → IsClaimed (relation_at s.catalog) p q order x → AtEach (IsStrongest (relation_at s.catalog)) x × AtEach (HasAllKeys (relation_at s.catalog)) x

-- ---- claims as the program finds them

-- the claims of all nodes: those of a right input before those of a left one, and the claim of a node behind those of its inputs
abbrev pub reversed_claims : Plan → List Claim
reversed_claims (scan n c r m z) = c ∷ []
reversed_claims (unary n c op p) = reversed_claims p ++ c ∷ []
reversed_claims (binary n c op p q) = reversed_claims q ++ (reversed_claims p ++ c ∷ [])
reversed_claims (exchange n c k m p) = reversed_claims p ++ c ∷ []

-- at every node each claimed key names columns of the output, none twice
abbrev pub names_keys_at : (ℕ → Relation) → Plan → Bool
names_keys_at catalog p = list_all (are_columns (length (types_of catalog p))) (claim p).keys

abbrev pub names_keys : (ℕ → Relation) → Plan → Bool
names_keys catalog (scan n c r m z) = names_keys_at catalog (scan n c r m z)
names_keys catalog (unary n c op p) = names_keys catalog p && names_keys_at catalog (unary n c op p)
names_keys catalog (binary n c op p q) = names_keys catalog p && (names_keys catalog q && names_keys_at catalog (binary n c op p q))
names_keys catalog (exchange n c k m p) = names_keys catalog p && names_keys_at catalog (exchange n c k m p)

-- the keys of the claim at this place, none where there is none
abbrev pub keys_of : Option Claim → List (List ℕ)
keys_of None = []
keys_of (Some c) = c.keys

abbrev pub keys_at : List Claim → Option ℕ → List (List ℕ)
keys_at claims None = []
keys_at claims (Some i) = keys_of (slice_get claims i)
