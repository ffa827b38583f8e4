use Rattle.std.proofs.Common.{ℕ, ◌≡◌, ◌∙◌, ap, [], length, arith}
use Rattle.std.proofs.lemmas.List.{length_push}
use Rattle.vx_rows.specs.View.{RowsView}
use Rattle.vx_catalog_relations.specs.Relation.{Relation}
use Rattle.vx_catalog_relations.specs.Catalog.{relation_at}
use Rattle.vx_catalog.proofs.DatabaseFacts.{pushed, empty_database, all_empty}
use Rattle.vx_catalog.proofs.database.empty_tables.Goals as goal

pub loop-relation-preserved : goal.loop-relation-preserved
loop-relation-preserved c =
    let many = c.loop-relation.invariant.many in
    let long = length_push c.loop-relation.tables.items c.in_ok-new.field-0 in
    rw c.in_ok-push.ensures.items (record {
      many = long ∙ omega (arith, many);
      types = pushed (λ (i : ℕ) (t : RowsView). t.types ≡ (relation_at c.args.catalog.now i).types) c.loop-relation.tables.items c.in_ok-new.field-0 c.loop-relation.relation many c.loop-relation.invariant.types
          (c.in_ok-new.ensures.types ∙ (c.types.ensures ∙ ap (λ (r : Relation). r.types) c.get.ensures.value));
      empty = pushed (λ (i : ℕ) (t : RowsView). t.rows ≡ []) c.loop-relation.tables.items c.in_ok-new.field-0 c.loop-relation.relation many c.loop-relation.invariant.empty c.in_ok-new.ensures.rows;
    })

pub returns-clause-database : goal.returns-clause-database
returns-clause-database c =
    let many = c.loop-relation.invariant.many in
    let all : c.loop-relation.relation ≡ length c.args.catalog.now = omega arith in
    empty_database c.args.catalog.now c.loop-relation.tables.items (many ∙ all) (λ i h. c.loop-relation.invariant.types i (omega arith)) (λ i h. c.loop-relation.invariant.empty i (omega arith))

pub returns-clause-empty : goal.returns-clause-empty
returns-clause-empty c =
    let many = c.loop-relation.invariant.many in
    let all : c.loop-relation.relation ≡ length c.args.catalog.now = omega arith in
    all_empty c.args.catalog.now c.loop-relation.tables.items (many ∙ all) (λ i h. c.loop-relation.invariant.empty i (omega arith))
