use Rattle.std.proofs.Common.{◌∙◌, ap, sym, arith, length, length-append, [], ◌∷◌}
use Rattle.std.proofs.lemmas.Option.{slice_get-get_or}
use Rattle.vx_plan_nodes.specs.DescribeView.{copying_of}
use Rattle.vx_plan_nodes.specs.Outline.{plan_of}
use Rattle.vx_plan_nodes.specs.Types.{width}
use Rattle.vx_plan_facts.specs.Equal.{equal_at}
use Rattle.vx_check_rules.proofs.OrderSteps.{entry-at}
use Rattle.vx_check_rules.proofs.CopySteps.{copied-starts, copied-goes, copied-stops, copied-ends}
use Rattle.vx_check_rules.proofs.carried_orders.front_copies.Goals as goal

pub loop-entry-init : goal.loop-entry-init
loop-entry-init c = record {
  few = let e = ap length c.new-copies.ensures in omega (arith, e);
  copied = λ catalog copies below.
      copied-starts c.args.outputs (copying_of c.args.copying) (equal_at catalog (plan_of c.args.input.now)) c.args.order.now c.new-copies.result.items c.new-copies.ensures;
}

pub copy_of-requires : goal.copy_of-requires
copy_of-requires c = (
  c.requires.copies.0,
  c.requires.copies.1,
  entry-at (width c.requires.copies.0 (plan_of c.args.input.now)) c.args.order.now c.loop-entry.entry-index _ c.requires.copies.2
      (slice_get-get_or c.args.order.now c.loop-entry.entry-index _ c.loop-entry-test.true),
)

pub loop-entry-preserved : goal.loop-entry-preserved
loop-entry-preserved c = record {
  few = let e = ap length c.push.ensures.items ∙ length-append c.loop-entry.copies.items (_ ∷ []) in let m = c.loop-entry.invariant.few in omega (arith, e, m);
  copied = λ catalog copies below.
      let w = width catalog (plan_of c.args.input.now) in
      let i = c.loop-entry.entry-index in
      copied-goes c.args.outputs (copying_of c.args.copying) (equal_at catalog (plan_of c.args.input.now)) c.args.order.now c.loop-entry.copies.items c.push.new.self.items i c.in-Some.column
      (c.loop-entry.invariant.copied catalog copies below) _ (slice_get-get_or c.args.order.now c.loop-entry.entry-index _ c.loop-entry-test.true)
      (sym (c.copy_of.ensures catalog copies (entry-at w c.args.order.now i _ below (slice_get-get_or c.args.order.now c.loop-entry.entry-index _ c.loop-entry-test.true))) ∙ c.in-Some.is) c.push.ensures.items;
}

pub returns-in-None : goal.returns-in-None
returns-in-None c = λ catalog copies below.
    let w = width catalog (plan_of c.args.input.now) in
    let i = c.loop-entry.entry-index in
    copied-stops c.args.outputs (copying_of c.args.copying) (equal_at catalog (plan_of c.args.input.now)) c.args.order.now c.loop-entry.copies.items i
    (c.loop-entry.invariant.copied catalog copies below) _ (slice_get-get_or c.args.order.now c.loop-entry.entry-index _ c.loop-entry-test.true)
    (sym (c.copy_of.ensures catalog copies (entry-at w c.args.order.now i _ below (slice_get-get_or c.args.order.now c.loop-entry.entry-index _ c.loop-entry-test.true))) ∙ c.in-None.is)

pub returns : goal.returns
returns c = λ catalog copies below.
    copied-ends c.args.outputs (copying_of c.args.copying) (equal_at catalog (plan_of c.args.input.now)) c.args.order.now c.loop-entry.copies.items c.loop-entry.entry-index
    (c.loop-entry.invariant.copied catalog copies below) (omega (arith, c.loop-entry-test.false))
