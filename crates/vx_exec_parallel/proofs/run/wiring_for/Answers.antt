use Rattle.std.proofs.Common.{◌≤◌, ℕ, List, ap, sym, ◌∙◌, subst}
use Rattle.std.specs.List.{All, slice_index_or}
use Rattle.vx_rows_values.specs.Limits.{max_rows}
use Rattle.vx_exec_layout.specs.Order.{AreInOrder}
use Rattle.vx_exec_layout.specs.declared.layout.Layout.{Layout}
use Rattle.vx_exec_layout.specs.declared.span.NodeSpan.{NodeSpan}
use Rattle.vx_exec.specs.Job.{model_of, job_plan}
use Rattle.vx_exec_parallel.proofs.Wirings.{laid-under, job-ordered, wiring-of-all}
use Rattle.vx_exec_parallel.proofs.run.wiring_for.Goals as goal

pub wiring_of-requires : goal.wiring_of-requires
wiring_of-requires g c =
    let j = c.args.job.now in
    record {
      small = subst (λ z. All (λ m. m ≤ max_rows) z) (sym c.as_slice.ensures.value) c.in_ok-counts.ensures.few;
      slack = (c.slack.ensures.some, c.slack.ensures.few);
      ordered = subst (λ (z : List NodeSpan). AreInOrder 0 1 z) (sym (ap (λ (l : Layout). l.spans.items) c.layout.ensures.value ∙ j.laid_out)) (job-ordered j c.requires.allowed c.requires.root);
    }

pub returns : goal.returns
returns g c =
    let given = g.F.PlanFunctions in
    let j = c.args.job.now in
    wiring-of-all given j c.wiring_of.result
    (λ hash. c.wiring_of.ensures.wired (model_of hash j) (job_plan given j) (laid-under given j c.layout.result.now.spans.items (ap (λ (l : Layout). l.spans.items) c.layout.ensures.value ∙ j.laid_out))
    (λ r. ap (λ (z : List ℕ). slice_index_or z r 0) c.as_slice.ensures.value ∙ c.in_ok-counts.ensures.counts r))
    c.wiring_of.ensures.sits
