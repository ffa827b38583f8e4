use Rattle.std.proofs.Common.{◌≡◌, ◌<◌, ℕ, [], length, slice_index_or}
use Rattle.vx_catalog_relations.specs.Catalog.{relation_at}
use Rattle.vx_catalog.specs.Database.{no_rows}
use Rattle.vx_catalog.proofs.database.empty_tables.Given as goal

abbrev pub invariant-loop-relation : goal.invariant-loop-relation
invariant-loop-relation l = record {
  many : length l.tables.items ≡ l.relation;
  types : (i : ℕ) → i < l.relation → (slice_index_or l.tables.items i no_rows).types ≡ (relation_at l.catalog i).types;
  empty : (i : ℕ) → i < l.relation → (slice_index_or l.tables.items i no_rows).rows ≡ [];
}
