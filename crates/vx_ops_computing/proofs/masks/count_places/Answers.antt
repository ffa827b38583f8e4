use Rattle.std.proofs.Common.{◌+◌, false, get_or, refl, ap, ◌∙◌, sym, length, arith}
use Rattle.std.proofs.lemmas.List.{take_all}
use mir.Val.{bool_byte}
use Rattle.vx_rows_views.specs.Selected.{places_of}
use Rattle.vx_rows_views.proofs.Counted.{bit-few, one-more}
use Rattle.vx_ops_computing.proofs.masks.count_places.Goals as goal

pub loop-k-preserved : goal.loop-k-preserved
loop-k-preserved c =
    let holds = get_or c.args.mask.now c.loop-k.k false in
    let few = bit-few holds in
    let small = c.loop-k.invariant.1 in (
      ap (λ k. k + bool_byte holds) c.loop-k.invariant.0 ∙ sym (one-more (λ b. b) c.args.mask.now c.loop-k.k false holds c.loop-k-test.true refl),
      omega (arith, few, small),
    )

pub returns : goal.returns
returns c = c.loop-k.invariant.0 ∙ ap (λ bs. length (places_of (λ b. b) bs)) (take_all c.loop-k.k c.args.mask.now c.loop-k-test.false)
