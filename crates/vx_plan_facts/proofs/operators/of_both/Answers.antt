use Rattle.std.proofs.Common.{inl, inr}
use Rattle.std.proofs.lemmas.Result.{IfOk-weaker}
use Rattle.vx_plan_nodes.specs.Plan.{by_hashing, by_merging}
use Rattle.vx_plan_facts.proofs.operators.of_both.Goals as goal

pub returns-in-HashJoin : goal.returns-in-HashJoin
returns-in-HashJoin c =
    let joined = rw c.as_slice.ensures.value at c.joined.ensures in
    elim c.in-HashJoin.is [
      | inl u ↦ rw u (IfOk-weaker c.joined.result _ _ (λ k h. h by_hashing) joined)
      | inr u ↦ rw u.1 (IfOk-weaker c.joined.result _ _ (λ k h. h (by_merging u.0.items)) joined)
    ]

pub returns-in-Union : goal.returns-in-Union
returns-in-Union c = rw c.in-Union.is c.united.ensures
