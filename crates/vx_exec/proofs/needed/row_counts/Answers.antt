use Rattle.std.proofs.Common.{length, ap, arith, sym, ◌∙◌}
use Rattle.vx_catalog.specs.Database.{rows_at}
use Rattle.vx_exec.proofs.Counts.{counts-none, counts-push, counts-all, each-one}
use Rattle.vx_exec.proofs.needed.row_counts.Goals as goal

pub loop-relation-init : goal.loop-relation-init
loop-relation-init c = counts-none 1 c.args.database.now c.in_ok-counts.counts.items c.in_ok-counts.ensures.items

pub loop-relation-preserved : goal.loop-relation-preserved
loop-relation-preserved c =
    let few = c.rows.ensures.few in
    let len = c.len.ensures in
    counts-push 1 c.args.database.now c.loop-relation.relation c.loop-relation.counts.items c.push.new.self.items c.len.result
    c.loop-relation.invariant c.in_ok-push.ensures.items
    (c.len.ensures ∙ ap length c.rows.ensures.rows ∙ sym (each-one (length (rows_at c.args.database.now c.loop-relation.relation)))) (omega (arith, few, len))

pub returns : goal.returns
returns c = λ r.
    let count = c.len-relations.ensures.count in
    let mine = ap length c.catalog.ensures.catalog in
    let many = c.catalog.ensures.many in
    let past = c.loop-relation-test.false in
    sym (counts-all 1 c.args.database.now c.loop-relation.relation c.loop-relation.counts.items (omega arith) (omega (arith, count, mine, many, past)) c.loop-relation.invariant r
    ∙ each-one (length (rows_at c.args.database.now r)))
