-- Relations: what a catalog declares of one, and the lists of rows that meet it.
use Rattle.std.specs.Prelude.{◌≡◌, ℕ, true, List, [], ◌∷◌}
use Rattle.std.specs.List.{AllByRecursion}
use Rattle.vx_rows_values.specs.declared.value.ColType.{ColType}
use Rattle.vx_rows_values.specs.declared.order.OrderEntry.{OrderEntry}
use Rattle.vx_rows_values.specs.Values.{Row}
use Rattle.vx_rows_values.specs.Order.{sorted}
use Rattle.vx_rows_values.specs.Keys.{HasKey}
use Rattle.vx_rows_values.specs.Types.{Fits}

-- a relation's name, the names and types of its columns, and its keys and order by the columns' positions, counted from 0.
-- An empty order declares none
pub record Relation : Type 0 where
  pub name : List ℕ
  pub names : List (List ℕ)
  pub types : List ColType
  pub keys : List (List ℕ)
  pub order : List OrderEntry

-- each of these lists of columns is a key of the rows
abbrev pub KeysHold : List (List ℕ) → List Row → Type 0
KeysHold [] xs = Unit {0}
KeysHold (k ∷ ks) xs = HasKey k xs × KeysHold ks xs

-- the rows fit the relation's types, no two agree on a declared key, and they are sorted in the declared order
pub record Meets (relation : Relation) (xs : List Row) : Type 0 where
  pub fit : AllByRecursion (Fits relation.types) xs
  pub keys : KeysHold relation.keys xs
  pub order : sorted relation.order xs ≡ true
