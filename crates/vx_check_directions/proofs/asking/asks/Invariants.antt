use Rattle.std.proofs.Common.{List}
use Rattle.vx_catalog_relations.specs.Relation.{Relation}
use Rattle.vx_plan_nodes.specs.Outline.{plan_of}
use Rattle.vx_plan_facts.specs.ColumnSetView.{set_of_columns}
use Rattle.vx_check_rules.specs.Seen.{columns_seen}
use Rattle.vx_check_rules.specs.TableView.{derives, StaysTable}
use Rattle.vx_check_directions.specs.Finding.{AreAsked}
use Rattle.vx_check_directions.proofs.AskingSteps.{Asked}
use Rattle.vx_check_directions.proofs.asking.asks.Given as goal

abbrev pub invariant-loop-place : goal.invariant-loop-place
invariant-loop-place l = record {
  stays : StaysTable l.fn.table l.table (plan_of l.node);
  asked : (catalog : List Relation) → AreAsked catalog l.fn.table (plan_of l.node) (columns_seen l.columns)
      → Asked (derives l.fn.table) catalog (plan_of l.node) (columns_seen l.columns) l.asked.items l.rest l.place (set_of_columns l.passed);
}
