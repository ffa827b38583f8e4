use Rattle.std.proofs.Common.{◌≡◌, ◌∙◌, ◌++◌, [], length, ap, sym, subst, arith, append-nil}
use Rattle.vx_plan_nodes.specs.Serial.{binary_rows}
use Rattle.vx_match.specs.SemiJoining.{SemiJoiningView, semi_joining, SemiJoiningHasBuilt}
use Rattle.vx_match.proofs.SemiJoins.{nothing-behind}
use Rattle.vx_match.proofs.semi_join.SemiJoiningProbeKernel.probe.Goals as goal

pub returns-clause-probed : goal.returns-clause-probed
returns-clause-probed c = λ rs built.
    let batch = c.args.batch.rows in
    let none : c.in_ok-rest.rest.rows ≡ [] = c.in_ok-rest.ensures.rows ∙ nothing-behind batch c.len-count.result in
    let kept = c.in_ok-kept.ensures.rows rs (subst (λ (v : SemiJoiningView). SemiJoiningHasBuilt v rs) (sym c.self.view_is) built) in
    record {
      front = batch;
      parts = ap (λ ys. batch ++ ys) none ∙ append-nil batch;
      made = subst (λ (v : SemiJoiningView). binary_rows (semi_joining v) batch rs ≡ c.in_ok-kept.kept.rows) c.self.view_is (sym kept);
    }

pub returns-clause-joins : goal.returns-clause-joins
returns-clause-joins c = λ n.
    let none = ap length (c.in_ok-rest.ensures.rows ∙ nothing-behind c.args.batch.rows c.len-count.result) in
    omega (arith, none, c.in_ok-kept.ensures.fewer)
