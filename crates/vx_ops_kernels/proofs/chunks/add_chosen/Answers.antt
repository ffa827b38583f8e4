use Rattle.std.proofs.Common.{◌++◌, ap, ◌∙◌, sym, append_assoc, take, filter}
use Rattle.std.proofs.lemmas.List.Elements.{filter-append}
use Rattle.vx_plan_nodes.specs.Conditions.{conditions_of}
use Rattle.vx_plan_nodes.specs.Serial.{passes}
use Rattle.vx_rows_views.specs.Chunks.{all_rows}
use Rattle.vx_rows_views.proofs.Whole.{next-rows}
use Rattle.vx_ops_kernels.proofs.chunks.add_chosen.Goals as goal

pub loop-i-preserved : goal.loop-i-preserved
loop-i-preserved c =
    let test = passes (conditions_of c.args.conditions.now) in
    let ts = c.args.chunks.now in
    let i = c.loop-i.i in
    let t = c.index-chunks-i.result in
    let before = c.args.found.now.rows in
    record {
      types = c.in_ok-push.ensures.types ∙ c.loop-i.invariant.types;
      rows = c.in_ok-push.ensures.ok
          ∙ (ap (λ rs. c.loop-i.found.rows ++ rs) c.in_ok-chunk.ensures.rows
          ∙ (ap (λ rs. rs ++ filter test t.rows) c.loop-i.invariant.rows
          ∙ (append_assoc before (filter test (all_rows (take i ts))) (filter test t.rows)
          ∙ ap (λ rs. before ++ rs) (sym (ap (filter test) (next-rows ts i t c.loop-i-test.true c.index-chunks-i.is) ∙ filter-append test (all_rows (take i ts)) t.rows)))));
    }
