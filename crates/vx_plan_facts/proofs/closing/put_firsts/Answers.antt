use Rattle.std.proofs.Common.{◌∙◌, ◌<◌, length, ap, sym, arith}
use Rattle.vx_plan_facts.specs.FactsView.{facts_of}
use Rattle.vx_plan_facts.specs.ColumnSetView.{set_of_columns}
use Rattle.vx_plan_facts.proofs.MarkedFacts.{default-same, first-put, first-left}
use Rattle.vx_plan_facts.proofs.closing.put_firsts.Goals.{then-contains, else-contains}
use Rattle.vx_plan_facts.proofs.closing.put_firsts.Goals as goal

pub loop-column-preserved : goal.loop-column-preserved
loop-column-preserved c v l =
    let k = facts_of c.args.own.now in
    let s = set_of_columns c.args.set.now in
    let n = c.loop-column.column in
    let start = set_of_columns c.args.firsts.now v in
    let old = set_of_columns c.loop-column.firsts v in
    let there : n < length k.firsts = omega (arith, c.loop-column-test.true, c.width-column-end.ensures) in
    elim c.if-contains.branch [
      | then-contains w ↦
          ap (λ x. set_of_columns x v) w.firsts-is
          ∙ first-put k s n v w.index.result.now start old (set_of_columns w.put.new.self v) (sym c.contains.ensures ∙ w.if-contains.true)
          (w.index.ensures ∙ default-same k.firsts n w.index.result.now 0 there) (c.loop-column.invariant v l) (w.put.ensures v l)
      | else-contains w ↦ ap (λ x. set_of_columns x v) w.firsts-is ∙ first-left k s n v start old (sym c.contains.ensures ∙ w.if-contains.false) (c.loop-column.invariant v l)
    ]
