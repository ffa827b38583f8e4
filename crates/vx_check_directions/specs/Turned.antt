-- Plans that differ in the directions of their joins by merging alone.
use Rattle.std.specs.Prelude.{◌≡◌, ℕ, Bool, false, List, [], ◌∷◌, ◌++◌, map, length}
use Rattle.vx_plan_nodes.specs.Plan.{by_hashing, by_merging, Binary, union, join, semi_join, Plan, scan, unary, binary, exchange}
use Rattle.vx_plan_nodes.specs.Outline.{Outline, plan_in}
use Rattle.vx_plan_nodes.specs.Outline as outline

-- the pairs of a join that makes rows of both inputs
abbrev pub pairs_of : Binary → List (ℕ × ℕ)
pairs_of union = []
pairs_of (join method on) = on
pairs_of (semi_join matched on conditions) = []

-- a join by merging compares in these directions; other operators have none
abbrev pub in_falls : List Bool → Binary → Binary
in_falls falls union = union
in_falls falls (join by_hashing on) = join by_hashing on
in_falls falls (join (by_merging old) on) = join (by_merging falls) on
in_falls falls (semi_join matched on conditions) = semi_join matched on conditions

-- directions for a join by merging, by its pairs and its inputs
abbrev pub Choice : Type 0
Choice = List (ℕ × ℕ) → Plan → Plan → List Bool

-- one for each pair
abbrev pub IsFull : Choice → Type 0
IsFull h = (on : List (ℕ × ℕ)) (p q : Plan) → length (h on p q) ≡ length on

-- the plan whose joins by merging compare in the directions that are chosen so
abbrev pub turned : Choice → Plan → Plan
turned h (scan n c r m z) = scan n c r m z
turned h (unary n c op p) = unary n c op (turned h p)
turned h (binary n c op p q) = binary n c (in_falls (h (pairs_of op) p q) op) (turned h p) (turned h q)
turned h (exchange n c k m p) = exchange n c k m (turned h p)

-- the same of a plan with its names
abbrev pub turned_outline : Choice → Outline → Outline
turned_outline h (outline.scan t r m z prefix) = outline.scan t r m z prefix
turned_outline h (outline.unary t op flags o) = outline.unary t op flags (turned_outline h o)
turned_outline h (outline.binary t op o u) = outline.binary t (in_falls (h (pairs_of op) (plan_in o) (plan_in u)) op) (turned_outline h o) (turned_outline h u)
turned_outline h (outline.exchange t k m o) = outline.exchange t k m (turned_outline h o)

-- all rise
abbrev pub rising_pairs : Choice
rising_pairs on p q = map (λ x. false) on

abbrev pub all_rising : Plan → Plan
all_rising p = turned rising_pairs p

-- the plans are the same but for directions
abbrev pub DifferInDirections : Plan → Plan → Type 0
DifferInDirections p q = all_rising p ≡ all_rising q

-- ---- as the program lists them

-- the directions at an operator; none at one that does not merge
abbrev pub falls_at : Choice → Binary → Plan → Plan → List Bool
falls_at h union p q = []
falls_at h (join by_hashing on) p q = []
falls_at h (join (by_merging old) on) p q = h on p q
falls_at h (semi_join matched on conditions) p q = []

-- for each node, in preorder
abbrev pub chosen : Choice → Plan → List (List Bool)
chosen h (scan n c r m z) = [] ∷ []
chosen h (unary n c op p) = [] ∷ chosen h p
chosen h (binary n c op p q) = falls_at h op p q ∷ chosen h p ++ chosen h q
chosen h (exchange n c k m p) = [] ∷ chosen h p

-- the plan with these directions of each node, by its number
abbrev pub placed : (ℕ → List Bool) → Outline → Outline
placed f (outline.scan t r m z prefix) = outline.scan t r m z prefix
placed f (outline.unary t op flags o) = outline.unary t op flags (placed f o)
placed f (outline.binary t op o u) = outline.binary t (in_falls (f t.number) op) (placed f o) (placed f u)
placed f (outline.exchange t k m o) = outline.exchange t k m (placed f o)
