-- What it means that columns are determined: a set of columns determines the least set that holds it and to which no step adds a column, and two rows of
-- a node's serial list that have the same values in the one have them in the other.
use Rattle.std.specs.Prelude.{◌≡◌, ℕ, ◌<◌, Bool, true, ◌||◌, List, length}
use Rattle.std.specs.List.{list_all, list_any}
use Rattle.vx_rows_values.specs.Values.{Row, row_eq, value_at}
use Rattle.vx_catalog_relations.specs.Relation.{Relation, KeysHold}
use Rattle.vx_plan_nodes.specs.Plan.{Plan, scan, unary, binary, exchange, claim}
use Rattle.vx_plan_nodes.specs.Types.{width, well_formed}
use Rattle.vx_plan_nodes.specs.Phases.{spoken, listed}
use Rattle.vx_plan_nodes.specs.Serial.{rows, serial}
use Rattle.vx_plan_facts.specs.Equal.{equal_at}
use Rattle.vx_plan_facts.specs.Fixed.{fixed_at}
use Rattle.vx_plan_facts.specs.RowFacts.{MeetsAt, EachWide, all_inputs_fit}
use Rattle.vx_plan_facts.specs.Determined.{Columns, by_rows, by_inputs, determined}

-- ---- which set it is

-- each column of the one set is in the other
abbrev pub Within : Columns → Columns → Type 0
Within s t = (c : ℕ) → s c ≡ true → t c ≡ true

-- the same of the first w columns
abbrev pub WithinFirst : ℕ → Columns → Columns → Type 0
WithinFirst w s t = (c : ℕ) → c < w → s c ≡ true → t c ≡ true

-- a set with the columns that one step adds to it at a node
abbrev pub one_step : (ℕ → Relation) → Plan → Columns → Columns
one_step catalog p s c = by_rows (width catalog p) (equal_at catalog p) (fixed_at catalog p) (claim p).keys s c || by_inputs catalog p s c

-- what a set determines at a node holds the set, a step adds no column of the node to it, and it is within each set of which both are true
pub record LeastSet (catalog : ℕ → Relation) (p : Plan) (s : Columns) : Type 0 where
  pub holds : Within s (determined catalog p s)
  pub closed : WithinFirst (width catalog p) (one_step catalog p (determined catalog p s)) (determined catalog p s)
  pub least : (t : Columns) → WithinFirst (width catalog p) s t → WithinFirst (width catalog p) (one_step catalog p t) t
      → WithinFirst (width catalog p) (determined catalog p s) t

-- at each node whose claim names columns of the node
abbrev pub LeastSets : Type 0
LeastSets = (catalog : ℕ → Relation) (p : Plan) → well_formed catalog p ≡ true → (s : Columns) → LeastSet catalog p s

-- a set determines its own columns, and more columns determine more; at a node whose claim names columns of the node only those of its columns count
pub record MoreFromMore : Type 0 where
  pub itself : (catalog : ℕ → Relation) (p : Plan) (s : Columns) → Within s (determined catalog p s)
  pub of_all : (catalog : ℕ → Relation) (p : Plan) (s t : Columns) → Within s t → Within (determined catalog p s) (determined catalog p t)
  pub of_first : (catalog : ℕ → Relation) (p : Plan) → well_formed catalog p ≡ true → (s t : Columns) → WithinFirst (width catalog p) s t
      → WithinFirst (width catalog p) (determined catalog p s) (determined catalog p t)

-- a set that holds a key of the one list holds one of the other
abbrev pub KeysSayMore : List (List ℕ) → List (List ℕ) → Type 0
KeysSayMore ks ls = (s : Columns) → list_any (list_all s) ks ≡ true → list_any (list_all s) ls ≡ true

-- the same operators over the same relations, where at each node the keys of the second plan say what those of the first one say
abbrev pub ClaimsMore : Plan → Plan → Type 0
ClaimsMore (scan n c r m z) (scan i d s o y) = KeysSayMore c.keys d.keys × (r ≡ s)
ClaimsMore (unary n c op p) (unary i d other q) = KeysSayMore c.keys d.keys × (op ≡ other) × ClaimsMore p q
ClaimsMore (binary n c op p q) (binary i d other s t) = KeysSayMore c.keys d.keys × (op ≡ other) × ClaimsMore p s × ClaimsMore q t
ClaimsMore (exchange n c k m p) (exchange i d l o q) = KeysSayMore c.keys d.keys × ClaimsMore p q
ClaimsMore _ _ = ⊥

-- with more keys the same columns determine more
abbrev pub MoreFromKeys : Type 0
MoreFromKeys = (catalog : ℕ → Relation) (p q : Plan) → ClaimsMore p q → (s : Columns) → Within (determined catalog p s) (determined catalog q s)

-- ---- what it says of rows

-- the row is in the list
abbrev pub occurs : Row → List Row → Bool
occurs row xs = list_any (row_eq row) xs

-- the rows have the same values in these columns
abbrev pub AgreeOn : Columns → Row → Row → Type 0
AgreeOn s a b = (c : ℕ) → s c ≡ true → value_at a c ≡ value_at b c

-- the same of the first w columns
abbrev pub AgreeOnFirst : ℕ → Columns → Row → Row → Type 0
AgreeOnFirst w s a b = (c : ℕ) → c < w → s c ≡ true → value_at a c ≡ value_at b c

-- each row of a node's serial list, if there is one, has the facts of the node
abbrev pub FactsAt : (ℕ → Relation) → (ℕ → List Row) → Plan → Type 0
FactsAt catalog db p = (xs : List Row) → serial db p ≡ rows xs → (row : Row) → occurs row xs ≡ true
    → MeetsAt catalog p row

-- at each node
abbrev pub FactsHold : (ℕ → Relation) → (ℕ → List Row) → Plan → Type 0
FactsHold catalog db (scan n c r m z) = FactsAt catalog db (scan n c r m z)
FactsHold catalog db (unary n c op p) = FactsAt catalog db (unary n c op p) × FactsHold catalog db p
FactsHold catalog db (binary n c op p q) = FactsAt catalog db (binary n c op p q) × FactsHold catalog db p × FactsHold catalog db q
FactsHold catalog db (exchange n c k m p) = FactsAt catalog db (exchange n c k m p) × FactsHold catalog db p

-- they have, over relations whose rows are as wide as the catalog says
abbrev pub FactsOfSerial : Type 0
FactsOfSerial = (catalog : ℕ → Relation) (db : ℕ → List Row) → ((r : ℕ) → EachWide (length (catalog r).types) (db r))
    → (p : Plan) → all_inputs_fit catalog p ≡ true → FactsHold catalog db p

-- the claimed keys of a node hold of its serial list, if there is one
abbrev pub KeysAt : (ℕ → List Row) → Plan → Type 0
KeysAt db p = (xs : List Row) → serial db p ≡ rows xs → KeysHold (claim p).keys xs

-- at each node
abbrev pub ClaimedKeysHold : (ℕ → List Row) → Plan → Type 0
ClaimedKeysHold db (scan n c r m z) = KeysAt db (scan n c r m z)
ClaimedKeysHold db (unary n c op p) = KeysAt db (unary n c op p) × ClaimedKeysHold db p
ClaimedKeysHold db (binary n c op p q) = KeysAt db (binary n c op p q) × ClaimedKeysHold db p × ClaimedKeysHold db q
ClaimedKeysHold db (exchange n c k m p) = KeysAt db (exchange n c k m p) × ClaimedKeysHold db p

-- two rows of the serial list that have the same values in some columns of the node have them in all columns that these determine
abbrev pub DeterminedHolds : Type 0
DeterminedHolds = (catalog : ℕ → Relation) (db : ℕ → List Row) (p : Plan) → FactsHold catalog db p → ClaimedKeysHold db p
    → (xs : List Row) → serial db p ≡ rows xs → (a b : Row) → occurs a xs ≡ true → occurs b xs ≡ true
    → (s : Columns) → AgreeOnFirst (width catalog p) s a b → AgreeOn (determined catalog p s) a b

-- ---- at open nodes

-- the claimed keys of a node hold of the list of which they are claimed, if there is one: at an open node the keys of its groups
abbrev pub ListedKeysAt : (ℕ → List Row) → Plan → Type 0
ListedKeysAt db p = (base : List Row) → serial db (spoken p) ≡ rows base → KeysHold (claim p).keys (listed p base)

-- at each node
abbrev pub ListedKeysHold : (ℕ → List Row) → Plan → Type 0
ListedKeysHold db (scan n c r m z) = ListedKeysAt db (scan n c r m z)
ListedKeysHold db (unary n c op p) = ListedKeysAt db (unary n c op p) × ListedKeysHold db p
ListedKeysHold db (binary n c op p q) = ListedKeysAt db (binary n c op p q) × ListedKeysHold db p × ListedKeysHold db q
ListedKeysHold db (exchange n c k m p) = ListedKeysAt db (exchange n c k m p) × ListedKeysHold db p

-- keys that hold of the lists of which they are claimed hold of the serial lists
abbrev pub KeysOfSerial : Type 0
KeysOfSerial = (db : ℕ → List Row) (p : Plan) → ListedKeysHold db p → ClaimedKeysHold db p

-- two rows of the list of which a node's keys are claimed that have the same values in some columns of the node have them in all that these determine,
-- also where the serial list of an open node is none
abbrev pub DeterminedInListed : Type 0
DeterminedInListed = (catalog : ℕ → Relation) (db : ℕ → List Row) (p : Plan) → FactsHold catalog db p → ListedKeysHold db p
    → (base : List Row) → serial db (spoken p) ≡ rows base → (a b : Row) → occurs a (listed p base) ≡ true → occurs b (listed p base) ≡ true
    → (s : Columns) → AgreeOnFirst (width catalog p) s a b → AgreeOn (determined catalog p s) a b
