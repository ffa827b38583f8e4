use Rattle.std.proofs.Common.{◌+◌, ◌<◌, false, get_or, ap, ◌∙◌, sym, refl, length, arith}
use Rattle.std.proofs.lemmas.List.{length-set, take_all}
use mir.Val.{bool_byte}
use Rattle.vx_rows_views.proofs.Counted.{not-yet, all-found, one-more, put-more}
use Rattle.vx_ops_computing.proofs.masks.fill_places.Goals as goal

pub loop-found-init : goal.loop-found-init
loop-found-init c = record { count = refl; near = omega arith; done = refl; long = c.requires }

pub loop-found-preserved : goal.loop-found-preserved
loop-found-preserved c =
    let mask = c.args.mask.now in
    let places = c.loop-found.places in
    let k = c.loop-found.k in
    let found = c.loop-found.invariant.count in
    let long = c.loop-found.invariant.long in
    let more = c.loop-found-test.true in
    let there : k < length mask = not-yet (λ b. b) mask k (omega (arith, found, long, more)) in
    let holds = get_or mask k false in
    record {
      count = ap (λ n. n + bool_byte holds) found ∙ sym (one-more (λ b. b) mask k false holds there refl);
      near = omega (arith, there);
      done = put-more (λ b. b) mask k false holds places c.loop-found.found there refl more c.loop-found.invariant.done;
      long = length-set places c.loop-found.found k ∙ long;
    }

pub returns : goal.returns
returns c =
    let mask = c.args.mask.now in
    let found = c.loop-found.invariant.count in
    let long = c.loop-found.invariant.long in
    let end = c.loop-found-test.false in
    sym (take_all c.loop-found.found c.loop-found.places end)
    ∙ (c.loop-found.invariant.done ∙ all-found (λ b. b) mask c.loop-found.k (omega (arith, found, long, end)))
