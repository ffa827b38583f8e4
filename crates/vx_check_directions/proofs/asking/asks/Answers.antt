use Rattle.std.proofs.Common.{◌≡◌, ◌∙◌, ◌<◌, ℕ, true, length, sym, ap, subst, arith}
use Rattle.vx_catalog_relations.specs.Catalog.{relation_at}
use Rattle.vx_plan_nodes.specs.Outline.{plan_of}
use Rattle.vx_plan_nodes.specs.Plan.{Plan}
use Rattle.vx_plan_nodes.specs.Types.{width}
use Rattle.vx_plan_facts.specs.ColumnSetView.{set_of_columns}
use Rattle.vx_check_rules.specs.declared.table.Table.{Table}
use Rattle.vx_check_rules.specs.Seen.{columns_seen}
use Rattle.vx_check_rules.specs.TableView.{derives}
use Rattle.vx_check_rules.proofs.TableFacts.{stays-then, still-judges}
use Rattle.vx_check_directions.specs.Directed.{determined_by}
use Rattle.vx_check_directions.proofs.AskingSteps.{asked-goes, steady-at, column-below}
use Rattle.vx_check_directions.proofs.asking.asks.Goals as goal

pub loop-place-preserved : goal.loop-place-preserved
loop-place-preserved c =
    let p : Plan = plan_of c.args.node.now in
    let old : Table = c.args.table.now in
    let t : Table = c.loop-place.table in
    let cols = columns_seen c.args.columns in
    let i = c.loop-place.place in
    let l : i < length cols = omega (arith, c.loop-place-test.true, c.loop-place.auto.place-end, c.len-place-end.ensures) in
    record {
      stays = stays-then old t c.determined.new.table p c.loop-place.invariant.stays c.determined.ensures.stays;
      asked = λ catalog h.
          let judged = still-judges old t catalog p c.loop-place.invariant.stays h.judged in
          let same : derives t ≡ derives old = c.loop-place.invariant.stays.same in
          let passed = set_of_columns c.loop-place.passed in
          let column = c.at-column.result in
          let below : derives t ≡ true → column < width (relation_at catalog) p = λ d.
          let P : ℕ → Type 0 = λ k. k < width (relation_at catalog) p in
          subst P (sym c.at-column.ensures) (column-below (width (relation_at catalog) p) cols i l (h.below (sym same ∙ d))) in
          let found : c.contains-is_determined.result ≡ determined_by (derives old) (relation_at catalog) p passed column =
          c.contains-is_determined.ensures ∙ (c.determined.ensures.answer catalog judged column below ∙ ap (λ b. determined_by b (relation_at catalog) p passed column) same) in
          let next = asked-goes (derives old) catalog p cols c.loop-place.asked.items c.loop-place.rest.now i passed (set_of_columns c.put.new.self) column c.contains-is_determined.result
          (λ s u alike. ap (λ b. determined_by b (relation_at catalog) p s column) (sym same)
          ∙ (steady-at t catalog p judged column below s u alike ∙ ap (λ b. determined_by b (relation_at catalog) p u column) same))
          (c.loop-place.invariant.asked catalog h) l c.at-column.ensures found c.put.ensures in
          rw (c.in_ok-push.ensures.items, c.ask.ensures, c.behind-rest.ensures) next;
    }
