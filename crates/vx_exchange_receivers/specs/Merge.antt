-- What a caller sees of a merge of growing streams, and what it has given.
use Rattle.std.specs.Prelude.{ℕ, ◌≡◌, ◌<◌, ◌++◌, Bool, true, List, [], length, Option}
use Rattle.vx_rows_values.specs.Order.{order_columns}
use Rattle.vx_rows_values.specs.declared.order.OrderEntry.{OrderEntry}
use Rattle.vx_rows_values.specs.Values.{Row}
use Rattle.vx_rows_values.specs.declared.value.ColType.{ColType}
use Rattle.vx_rows.specs.View.{AreColumns}
use Rattle.vx_plan_nodes.specs.Streams.{Streams}
use Rattle.vx_exchange_receivers.specs.Merged.{Merged}
use Rattle.vx_exchange_receivers.specs.Heads.{held_at, left_at, ended_at, IsOrder, AreAll, AllRise, AreOf, LacksAt, IsMissing}
use Rattle.vx_exchange_receivers.specs.declared.heads.StreamHead.{StreamHead}

-- its order of rows and their types, what is at hand of each producer, which of them have rows in which order, and one that lacks a row
pub record MergeView : Type 0 where
  pub merge : List OrderEntry
  pub types : List ColType
  pub heads : List StreamHead
  pub order : List ℕ
  pub missing : Option ℕ

-- its parts fit each other
pub record MergeFits (m : MergeView) : Type 0 where
  pub columns : AreColumns (length m.types) (order_columns m.merge)
  pub types : AreOf m.types m.heads
  pub rises : AllRise m.merge m.heads
  pub order : IsOrder m.merge m.heads m.order
  pub all : AreAll m.heads m.order
  pub missing : IsMissing m.heads m.missing

-- the first rows are the last of the second, and some of them if there are any
pub record EndsIn (xs ys : List Row) : Type 0 where
  pub front : List Row
  pub joined : front ++ xs ≡ ys
  pub edge : xs ≡ [] → front ≡ []

-- where these rows came of each producer and those that have ended are closed, this is what was given
pub record IsMergeOf (merge : List OrderEntry) (hs : List StreamHead) (closed : ℕ → Bool) (came : Streams) (given : List Row) : Type 0 where
  pub taken : Streams
  pub merged : Merged (length hs) merge (ended_at hs) taken (left_at hs) given
  pub parts : (p : ℕ) → taken p ++ left_at hs p ≡ came p
  pub ends : (p : ℕ) → EndsIn (held_at hs p) (came p)
  pub are_closed : (p : ℕ) → p < length hs → ended_at hs p ≡ true → closed p ≡ true

abbrev pub HasMerged : MergeView → (ℕ → Bool) → Streams → List Row → Type 0
HasMerged m closed came given = IsMergeOf m.merge m.heads closed came given

-- no row is at hand, and no producer lacks one
pub record AllGiven (m : MergeView) : Type 0 where
  pub none : AreAll m.heads []
  pub full : (p : ℕ) → LacksAt m.heads p → ⊥

-- the same order, types and producers
pub record HasSameShape (m n : MergeView) : Type 0 where
  pub merge : n.merge ≡ m.merge
  pub types : n.types ≡ m.types
  pub many : length n.heads ≡ length m.heads
