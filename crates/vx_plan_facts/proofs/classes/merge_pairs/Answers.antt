use Rattle.std.proofs.Common.{◌≡◌, ◌∙◌, ◌-◌, ℕ, sym, length, get_or, arith, refl}
use Rattle.vx_plan_facts.proofs.ClassFacts.{pair-at, pairs-next, get_or-there}
use Rattle.vx_plan_facts.proofs.classes.merge_pairs.Goals as goal

pub overflow_add-left : goal.overflow_add-left
overflow_add-left c =
    let on = c.args.on.now in
    let i : ℕ = length on - 1 - c.loop-done.done in
    let at = pair-at c.args.left c.args.right on i (omega (arith, c.loop-done-test.true)) c.requires.within in
    omega (arith, at.1, c.requires.wide, c.loop-done.invariant.wide, c.loop-done.firsts.ok.0, c.loop-done.firsts.small)

pub merge-requires-clause-a : goal.merge-requires-clause-a
merge-requires-clause-a c =
    let on = c.args.on.now in
    let i : ℕ = length on - 1 - c.loop-done.done in
    let at = pair-at c.args.left c.args.right on i (omega (arith, c.loop-done-test.true)) c.requires.within in
    omega (arith, at.0, c.requires.wide, c.loop-done.invariant.wide)

pub merge-requires-clause-b : goal.merge-requires-clause-b
merge-requires-clause-b c =
    let on = c.args.on.now in
    let i : ℕ = length on - 1 - c.loop-done.done in
    let at = pair-at c.args.left c.args.right on i (omega (arith, c.loop-done-test.true)) c.requires.within in
    omega (arith, at.1, c.requires.wide, c.loop-done.invariant.wide)

pub loop-done-preserved : goal.loop-done-preserved
loop-done-preserved c =
    let on = c.args.on.now in
    let i : ℕ = length on - 1 - c.loop-done.done in
    let x : ℕ × ℕ = get_or on i (0, 0) in
    let is : x ≡ get_or on i x = sym (get_or-there on i x (0, 0) (omega (arith, c.loop-done-test.true))) in
    record {
      wide = c.merge.ensures.wide ∙ c.loop-done.invariant.wide;
      named = c.merge.ensures.named;
      equal = λ e tells. pairs-next c.args.left on (length on) c.loop-done.done x e _ _ refl c.loop-done-test.true is c.merge.ensures.equal (c.loop-done.invariant.equal e tells);
    }
