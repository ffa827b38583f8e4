-- Databases: for each relation of a catalog rows that meet it.
use Rattle.std.specs.Prelude.{◌≡◌, ℕ, ◌<◌, ◌≤◌, List, [], length, slice_index_or, slice_set}
use Rattle.vx_rows_values.specs.Values.{Row}
use Rattle.vx_rows.specs.View.{RowsView}
use Rattle.vx_catalog_relations.specs.Relation.{Relation, Meets}
use Rattle.vx_catalog_relations.specs.Catalog.{relation_at}
use Rattle.vx_rows_values.specs.Limits.{max_rows}

-- rows of the relation with this number
pub record LoadedRows : Type 0 where
  pub catalog : List Relation
  pub relation : ℕ
  pub rows : List Row

-- these are rows of the relation with this number: they meet it, and they are no more than a relation may have
pub record IsLoaded (catalog : List Relation) (relation : ℕ) (rows : RowsView) : Type 0 where
  pub there : relation < length catalog
  pub types : rows.types ≡ (relation_at catalog relation).types
  pub meets : Meets (relation_at catalog relation) rows.rows
  pub few : length rows.rows ≤ max_rows

-- a catalog and the rows of each of its relations
pub record Database : Type 0 where
  pub catalog : List Relation
  pub rows : List (List Row)

-- the rows of the relation with this number, counted from 0
abbrev pub rows_at : Database → ℕ → List Row
rows_at db relation = slice_index_or db.rows relation []

-- the rows of each relation meet it; past the last relation there are no rows, and nothing is declared of them
abbrev pub MeetsAll : Database → Type 0
MeetsAll db = (relation : ℕ) → Meets (relation_at db.catalog relation) (rows_at db relation)

-- the same with other rows of one relation
abbrev pub with_rows : Database → ℕ → List Row → Database
with_rows db relation rows = record { catalog = db.catalog; rows = slice_set db.rows relation rows }

abbrev pub no_rows : RowsView
no_rows = record { types = []; rows = [] }

-- for each relation rows that meet it, and no more
pub record IsDatabase (catalog : List Relation) (tables : List RowsView) : Type 0 where
  pub many : length tables ≡ length catalog
  pub loaded : (i : ℕ) → i < length catalog → IsLoaded catalog i (slice_index_or tables i no_rows)
