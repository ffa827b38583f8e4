use Rattle.std.proofs.Common.{◌≡◌, ℕ, List, None, Some, slice_get, ap, subst, sym}
use Rattle.vx_plan_facts.specs.declared.answers.Answers as rust_answers
use Rattle.vx_plan_facts.proofs.KeptFacts.{pushed, grown}
use Rattle.vx_plan_facts.proofs.answers.no_answers.Goals as goal

abbrev HasNone : rust_answers.Answers → Type 0
HasNone a = (i : ℕ) → slice_get a.kept.items i ≡ None

pub loop-preserved : goal.loop-preserved
loop-preserved c =
    let P : List rust_answers.Answers → Type 0 = λ xs. (n : ℕ) (a : rust_answers.Answers) → slice_get xs n ≡ Some a → HasNone a in
    record {
      count = grown c.loop.answers.items c.push.new.self.items _ c.loop.counter c.in_ok-push.ensures.items c.loop.invariant.count;
      none = subst P (sym c.in_ok-push.ensures.items) (pushed HasNone c.loop.answers.items _ c.loop.invariant.none (λ i. ap (λ xs. slice_get xs i) c.new.ensures.items));
    }
