use Rattle.std.proofs.Common.{ℕ, List, ◌++◌, ◌∷◌, [], length, ap, sym, ◌∙◌, arith}
use Rattle.std.proofs.lemmas.List.{length-take}
use Rattle.vx_rows.proofs.Below.{each_below-none, each_below-next}
use Rattle.vx_exchange.proofs.places.clear_places.Goals as goal

pub loop-consumer-init : goal.loop-consumer-init
loop-consumer-init c =
    let f : ℕ → List ℕ = λ j. [] in
    let kept = ap length c.truncate.ensures.items in
    let few = length-take c.args.n c.args.places.now.items in
    record {
      long = omega arith;
      bound = omega (arith, kept, few);
      none = sym (each_below-none f);
    }

pub loop-consumer-preserved : goal.loop-consumer-preserved
loop-consumer-preserved c =
    let f : ℕ → List ℕ = λ j. [] in
    let j = c.loop-consumer.consumer in
    let long = c.in_ok-put_empty.ensures.long in
    let bound = c.in_ok-put_empty.ensures.bound in
    let was = c.loop-consumer.invariant.bound in
    let test = c.loop-consumer-test.true in
    record {
      long = omega (arith, long);
      bound = omega (arith, bound, was, test);
      none = c.in_ok-put_empty.ensures.ok ∙ (ap (λ l. l ++ [] ∷ []) c.loop-consumer.invariant.none ∙ sym (each_below-next j f));
    }
