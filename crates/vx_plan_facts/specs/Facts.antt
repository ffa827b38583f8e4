-- What is kept of the equal and the fixed columns of a node: for each column the first one that is equal to it, and the values of those first ones.
use Rattle.std.specs.Prelude.{◌≡◌, ◌<◌, ◌≤◌, ℕ, ◌==◌, cond, List, [], ◌∷◌, ◌++◌, map, filter, length, slice_index, slice_get, Some}
use Rattle.vx_rows_values.specs.Values.{Val}
use Rattle.vx_catalog_relations.specs.Relation.{Relation}
use Rattle.vx_plan_nodes.specs.Plan.{Unary, Binary, Plan, number, scan, unary, binary, exchange}
use Rattle.vx_plan_nodes.specs.Types.{width, unary_width, binary_width}
use Rattle.vx_plan_nodes.specs.Describe.{Copying}
use Rattle.vx_plan_facts.specs.Equal.{Equality, lifted, unary_equal, binary_equal, equal_at}
use Rattle.vx_plan_facts.specs.Fixed.{Values, has_value, carried_values, unary_fixed, binary_fixed, fixed_at}

-- for each column the first one of its class, and a list of such first ones with their values
pub record Facts : Type 0 where
  pub firsts : List ℕ
  pub fixed : List (ℕ × Val)

-- ---- classes of columns

-- no column comes before the first one of its class, which is its own first one
pub record NamesFirsts (firsts : List ℕ) : Type 0 where
  pub before : (c : ℕ) → c < length firsts → slice_index firsts c ≤ c
  pub own : (c : ℕ) → c < length firsts → slice_index firsts (slice_index firsts c) ≡ slice_index firsts c

-- two columns have one first column just if they are equal
abbrev pub Tells : Equality → List ℕ → Type 0
Tells e firsts = (a b : ℕ) → a < length firsts → b < length firsts → (slice_index firsts a == slice_index firsts b) ≡ e a b

-- ---- values of columns

-- the values that stand beside this column
abbrev pub values_in : List (ℕ × Val) → ℕ → List Val
values_in fixed c = map (λ e. e.1) (filter (λ e. e.0 == c) fixed)

-- those that a column has, which stand beside the first one of its class
abbrev pub values_of : Facts → ℕ → List Val
values_of k c = values_in k.fixed (slice_index k.firsts c)

-- the values with one more behind them, if it is not among them
abbrev pub with_value : List Val → Val → List Val
with_value vs v = cond (has_value vs v) vs (vs ++ v ∷ [])

abbrev pub with_values : List Val → List Val → List Val
with_values vs [] = vs
with_values vs (w ∷ ws) = with_values (with_value vs w) ws

-- the values, each once, where it first stands
abbrev pub each_once : List Val → List Val
each_once vs = with_values [] vs

-- ---- what is said of columns

-- of so many columns just these are equal, and they have just these values, each of them once
pub record Keeps (w : ℕ) (e : Equality) (f : Values) (k : Facts) : Type 0 where
  pub wide : length k.firsts ≡ w
  pub equal : Tells e k.firsts
  pub values : (c : ℕ) → c < w → values_of k c ≡ each_once (f c)

-- ---- facts over those of inputs

-- of so many columns that are copied
abbrev pub AreCarried : Copying → ℕ → (under own : Facts) → Type 0
AreCarried k w under own = (e : Equality) (f : Values) → Keeps (length under.firsts) e f under → Keeps w (lifted k e) (carried_values k f) own

-- of an operator over one input
abbrev pub AreAfter : Unary → (under own : Facts) → Type 0
AreAfter op under own =
    (e : Equality) (f : Values) → Keeps (length under.firsts) e f under
    → Keeps (unary_width op (length under.firsts)) (unary_equal op e) (unary_fixed (length under.firsts) (unary_equal op e) op f) own

-- of an operator over two inputs
abbrev pub AreAfterBoth : Binary → (left right own : Facts) → Type 0
AreAfterBoth op left right own =
    (d e : Equality) (f g : Values) → Keeps (length left.firsts) d f left → Keeps (length right.firsts) e g right
    → Keeps (binary_width op (length left.firsts) (length right.firsts)) (binary_equal (length left.firsts) op d e)
    (binary_fixed (length left.firsts) (binary_width op (length left.firsts) (length right.firsts)) (binary_equal (length left.firsts) op d e) op f g) own

-- ---- facts of nodes

-- they are the facts of the node at the top
abbrev pub AreFactsOf : (ℕ → Relation) → Plan → Facts → Type 0
AreFactsOf catalog p k = Keeps (width catalog p) (equal_at catalog p) (fixed_at catalog p) k

-- the facts of the node at the top stand in the list, at its number
abbrev pub StandAt : (ℕ → Relation) → List Facts → Plan → Type 0
StandAt catalog facts p = (k : Facts) × (slice_get facts (number p) ≡ Some k) × AreFactsOf catalog p k

-- so do those of each node
abbrev pub AreNumbered : (ℕ → Relation) → List Facts → Plan → Type 0
AreNumbered catalog facts (scan n c r m z) = StandAt catalog facts (scan n c r m z)
AreNumbered catalog facts (unary n c op p) = StandAt catalog facts (unary n c op p) × AreNumbered catalog facts p
AreNumbered catalog facts (binary n c op p q) = StandAt catalog facts (binary n c op p q) × AreNumbered catalog facts p × AreNumbered catalog facts q
AreNumbered catalog facts (exchange n c k m p) = StandAt catalog facts (exchange n c k m p) × AreNumbered catalog facts p

-- ---- as a walk finds them

-- the facts of all nodes: those of a right input before those of a left one, and those of a node behind those of its inputs
abbrev pub AreReversed : (ℕ → Relation) → Plan → List Facts → Type 0
AreReversed catalog (scan n c r m z) facts = (k : Facts) × AreFactsOf catalog (scan n c r m z) k × (facts ≡ k ∷ [])
AreReversed catalog (unary n c op p) facts =
    (k : Facts) × (below : List Facts) × AreFactsOf catalog (unary n c op p) k × AreReversed catalog p below × (facts ≡ below ++ k ∷ [])
AreReversed catalog (binary n c op p q) facts =
    (k : Facts) × (lefts : List Facts) × (rights : List Facts) × AreFactsOf catalog (binary n c op p q) k
    × AreReversed catalog p lefts × AreReversed catalog q rights × (facts ≡ rights ++ (lefts ++ k ∷ []))
AreReversed catalog (exchange n c x m p) facts =
    (k : Facts) × (below : List Facts) × AreFactsOf catalog (exchange n c x m p) k × AreReversed catalog p below × (facts ≡ below ++ k ∷ [])

-- they stand behind those that were there, those of the node at the top at this place
pub record ArePut (catalog : ℕ → Relation) (p : Plan) (old new : List Facts) (at : ℕ) : Type 0 where
  pub own : Facts
  pub made : List Facts
  pub is : AreFactsOf catalog p own
  pub all : AreReversed catalog p made
  pub there : slice_get new at ≡ Some own
  pub put : new ≡ old ++ made
