use Rattle.std.proofs.Common.{ℕ, ◌≡◌, ◌+◌, ◌%◌, ◌<◌, ◌++◌, ◌∷◌, [], ap, sym, ◌∙◌, subst, arith}
use Rattle.std.proofs.Math.Nat.{mod-add-mod, mod-eq_of_lt}
use Rattle.std.proofs.lemmas.Nat.{mod_below}
use Rattle.vx_rows.specs.Lists.{each_below}
use Rattle.vx_rows.proofs.Below.{each_below-none, each_below-next}
use Rattle.vx_exchange.proofs.places.turns.Goals as goal

pub loop-i-init : goal.loop-i-init
loop-i-init c =
    let f : ℕ → ℕ = λ j. (c.args.next + j) % c.args.n in
    let none : c.args.next + 0 ≡ c.args.next = omega arith in
    record {
      found = c.in_ok-reserve.ensures.items ∙ (c.clear.ensures.items ∙ sym (each_below-none f));
      turn = sym (ap (λ k. k % c.args.n) none ∙ mod-eq_of_lt c.requires);
    }

pub next_turn-consumer-requires : goal.next_turn-consumer-requires
next_turn-consumer-requires c =
    let some : 0 < c.args.n = omega (arith, c.requires) in
    subst (λ k. k < c.args.n) (sym c.loop-i.invariant.turn) (mod_below (c.args.next + c.loop-i._i) c.args.n some)

pub loop-i-preserved : goal.loop-i-preserved
loop-i-preserved c =
    let f : ℕ → ℕ = λ j. (c.args.next + j) % c.args.n in
    let i = c.loop-i._i in
    let turn = c.loop-i.invariant.turn in
    let more : c.args.next + i + 1 ≡ c.args.next + (i + 1) = omega arith in
    record {
      found = c.in_ok-push.ensures.items ∙ (ap (λ xs. xs ++ c.loop-i.consumer ∷ []) c.loop-i.invariant.found ∙ (ap (λ x. each_below i f ++ x ∷ []) turn ∙ sym (each_below-next i f)));
      turn = c.next_turn-consumer.ensures ∙ (ap (λ k. (k + 1) % c.args.n) turn ∙ (mod-add-mod (c.args.next + i) c.args.n 1 ∙ ap (λ k. k % c.args.n) more));
    }
