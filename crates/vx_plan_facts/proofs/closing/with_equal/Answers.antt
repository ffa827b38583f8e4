use Rattle.std.proofs.Common.{◌≡◌, ◌∙◌, ◌<◌, ◌||◌, length, map, get_or, ap, sym, arith}
use Rattle.vx_rows_values.specs.Limits.{max_columns}
use Rattle.vx_rows_values.specs.Lists.{is_some_list}
use Rattle.vx_plan_facts.specs.Facts.{values_in}
use Rattle.vx_plan_facts.specs.FactsView.{fixed_of, facts_of}
use Rattle.vx_plan_facts.specs.ColumnSetView.{set_of_columns}
use Rattle.vx_plan_facts.specs.Closing.{has_first, is_reached}
use Rattle.vx_plan_facts.proofs.MarkedFacts.{default-same, marked-all, reaches, reach-put, reach-left}
use Rattle.vx_plan_facts.proofs.closing.with_equal.Goals.{then-contains, else-contains}
use Rattle.vx_plan_facts.proofs.closing.with_equal.Goals as goal

pub loop-column-preserved : goal.loop-column-preserved
loop-column-preserved c v l =
    let k = facts_of c.args.own.now in
    let s = set_of_columns c.args.set.now in
    let n = c.loop-column.column in
    let f = c.index.result.now in
    let old = set_of_columns c.loop-column.found v in
    let there : n < length k.firsts = omega (arith, c.loop-column-test.true, c.width-column-end.ensures) in
    let is : f ≡ get_or k.firsts n 0 = c.index.ensures ∙ default-same k.firsts n f 0 there in
    let before = c.args.own.now.named.before n there in
    let few : f < max_columns = omega (arith, is, before, there, c.requires) in
    let marked = set_of_columns c.put_firsts.new.firsts f in
    let at : marked ≡ (is_some_list (values_in k.fixed f) || has_first k s (length k.firsts) f) =
    marked-all k s f (set_of_columns c.new-firsts.result f) (set_of_columns c.put_fixed.new.firsts f) marked (map fixed_of c.as_slice.result.now) (c.new-firsts.ensures f) (c.put_fixed.ensures f few)
    (ap (map fixed_of) c.as_slice.ensures.value) (c.put_firsts.ensures f few) in
    let told = sym (reaches k s n f marked is at) ∙ sym c.contains.ensures in
    elim c.if-contains.branch [
      | then-contains w ↦
          ap (λ x. set_of_columns x v) w.found-is ∙ reach-put (is_reached k s) n v old (set_of_columns w.put.new.self v) (told ∙ w.if-contains.true) (c.loop-column.invariant v l) (w.put.ensures v l)
      | else-contains w ↦ ap (λ x. set_of_columns x v) w.found-is ∙ reach-left (is_reached k s) n v old (told ∙ w.if-contains.false) (c.loop-column.invariant v l)
    ]
