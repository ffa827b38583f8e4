-- Typed plans: columns by position, nodes by their numbers in preorder. The exchange is Graefe's: producers below it, consumers above it.
use Rattle.std.specs.Prelude.{ℕ, ◌==◌, Bool, true, false, List, map, Option}
use Rattle.vx_rows_values.specs.Order.{in_directions}
use Rattle.vx_rows_values.specs.declared.order.OrderEntry.{OrderEntry}
use Rattle.vx_rows_values.specs.declared.value.ColType.{ColType}
use Rattle.vx_rows_values.specs.Values.{Val}
pub use Rattle.vx_rows_values.specs.Test.{Test, equal, unequal, below, at_most, above, at_least}

-- the number of workers: one, or that of a declared size name
pub data Size : Type 0 where
  one_worker : Size
  group_of : ℕ → Size

-- a hash route by its name, or a declared range
pub data Route : Type 0 where
  by_hash : List ℕ → Route
  by_range : ℕ → Route

-- how the rows of a node lie on its workers, as its claim says: all on one; some on each; all on each; or each row where its key is sent
pub data Part : Type 0 where
  one : Part
  any : Part
  all : Part
  routed : Route → List ℕ → Part

-- what an optimizer claims of a node: how its rows lie, in which order they are, and which lists of columns are keys; columns of the output by position
pub record Claim : Type 0 where
  pub part : Part
  pub order : List OrderEntry
  pub keys : List (List ℕ)

-- the right side of a condition
pub data Side : Type 0 where
  column : ℕ → Side
  constant : Val → Side

-- a column compared with a column or a constant
pub record Condition : Type 0 where
  pub left : ℕ
  pub test : Test
  pub right : Side

-- a function of values: its name; the type of its answer of values of these types, none if it takes no such values; and what it answers, none if it overflows
pub record Function : Type 0 where
  pub name : List ℕ
  pub signature : List ColType → Option ColType
  pub answer : List Val → Option Val

-- what is computed of a row: the value in one of its columns, a value that is always the same, or what a function answers of other expressions,
-- with the type that the plan says of it
mutual
  pub data Expression : Type 0 where
    input : ℕ → Expression
    value : Val → Expression
    call : Function → ColType → Operands → Expression

  pub data Operands : Type 0 where
    no_operands : Operands
    operand : Expression → Operands → Operands

-- a condition of a select: a comparison, or an expression that is to answer a number other than 0
pub data Filter : Type 0 where
  comparing : Condition → Filter
  computing : Expression → Filter

-- a column of a projection's output: a column of the input, or what an expression answers
pub data Entry : Type 0 where
  copy_of : ℕ → Entry
  made_by : Expression → Entry

-- the least, the greatest or the sum of a column, or how many rows
pub data Aggregate : Type 0 where
  least : ℕ → Aggregate
  greatest : ℕ → Aggregate
  sum : ℕ → Aggregate
  count_rows : Aggregate

-- a grouping in one step; one of some of the rows, whose results a final one puts together; and that final one (Graefe's local and global aggregation)
pub data Phase : Type 0 where
  plain : Phase
  partial : Phase
  final : Phase

-- operators over one input; of a distinct and a group the columns are those of the input that are kept.
-- A sort of parts stands between a partial grouping and its final one. A final grouping has the columns and the aggregates that it takes from its partial's output.
-- A limit takes so many first rows
pub data Unary : Type 0 where
  select : List Filter → Unary
  project : List Entry → Unary
  distinct : List ℕ → Unary
  sort : (of_parts : Bool) → List OrderEntry → Unary
  group : Phase → List ℕ → List Aggregate → Unary
  limit : ℕ → Unary

-- how a join finds its pairs of rows: by hashing, or by merging inputs that are both in order on its columns; then it says of each pair whether its columns
-- fall
pub data JoinMethod : Type 0 where
  by_hashing : JoinMethod
  by_merging : (falls : List Bool) → JoinMethod

-- operators over two inputs. A join is by the pairs (left column, right column). A semi join gives the left rows that some right row matches, and an anti
-- join those that none does: it agrees on the pairs, and the conditions hold of the left columns and then the right ones
pub data Binary : Type 0 where
  union : Binary
  join : JoinMethod → List (ℕ × ℕ) → Binary
  semi_join : (matched : Bool) → List (ℕ × ℕ) → List Condition → Binary

-- how an exchange sends, and to how many; a gather shuffles what it gets, a concat takes the producers in the order of their numbers
pub data ExchangeKind : Type 0 where
  route_to : Size → Route → List ℕ → ExchangeKind
  round : Size → ExchangeKind
  broadcast : Size → ExchangeKind
  gather : ExchangeKind
  concat : ExchangeKind

-- each node has its number and its claim; an exchange merges by its order, if that is not empty
pub data Plan : Type 0 where
  scan : ℕ → Claim → (relation : ℕ) → (shared : Bool) → Size → Plan
  unary : ℕ → Claim → Unary → Plan → Plan
  binary : ℕ → Claim → Binary → Plan → Plan → Plan
  exchange : ℕ → Claim → ExchangeKind → List OrderEntry → Plan → Plan

-- the orders in which a join by merging has to have the rows of its left and of its right input
abbrev pub left_order : (falls : List Bool) → List (ℕ × ℕ) → List OrderEntry
left_order falls on = in_directions (map (λ x. x.0) on) falls

abbrev pub right_order : (falls : List Bool) → List (ℕ × ℕ) → List OrderEntry
right_order falls on = in_directions (map (λ x. x.1) on) falls

-- the node at the top
abbrev pub number : Plan → ℕ
number (scan n c r m z) = n
number (unary n c op p) = n
number (binary n c op p q) = n
number (exchange n c k m p) = n

-- the claim of the node at the top
abbrev pub claim : Plan → Claim
claim (scan n c r m z) = c
claim (unary n c op p) = c
claim (binary n c op p q) = c
claim (exchange n c k m p) = c

-- the size of an exchange's consumer group
abbrev pub target : ExchangeKind → Size
target (route_to z r cols) = z
target (round z) = z
target (broadcast z) = z
target gather = one_worker
target concat = one_worker

-- the size of the node at the top: its own for a scan and an exchange, else that of its (left) input
abbrev pub size : Plan → Size
size (scan n c r m z) = z
size (unary n c op p) = size p
size (binary n c op p q) = size p
size (exchange n c k m p) = target k

-- the same size name
abbrev pub size_eq : Size → Size → Bool
size_eq one_worker one_worker = true
size_eq one_worker (group_of k) = false
size_eq (group_of j) one_worker = false
size_eq (group_of j) (group_of k) = j == k

-- one worker
abbrev pub is_one : Size → Bool
is_one one_worker = true
is_one (group_of k) = false
