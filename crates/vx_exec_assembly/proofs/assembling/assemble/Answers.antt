use Rattle.std.proofs.Common.{◌≡◌, ◌∙◌, List, map, subst, sym, refl}
use Rattle.std.specs.List.{All}
use Rattle.vx_plan_nodes.specs.Workers.{worker_group_at}
use Rattle.vx_exec_layout.specs.declared.span.NodeSpan.{NodeSpan}
use Rattle.vx_exec_threads.specs.Joined.{FlowsThrough}
use Rattle.vx_exec_threads.specs.Paired.{IsRingOf}
use Rattle.vx_exec_assembly.specs.Spans.{IsSpanned, IsSmall}
use Rattle.vx_exec_steps.specs.Ready.{Settled}
use Rattle.vx_exec_steps.specs.Headline.{Answers}
use Rattle.vx_exec_steps.specs.Verdicts.{GoesOn, Judged}
use Rattle.vx_exec_steps.specs.declared.verdict.RunState.TheVariants as run_state
use Rattle.vx_exec_steps.proofs.Answered.{answered, some-workers}
use Rattle.vx_exec_threads.proofs.Settling.{settled, reported}
use Rattle.vx_exec_assembly.specs.Parts.{worker_in, held_in}
use Rattle.vx_exec_assembly.proofs.Each.{none-goes-on}
use Rattle.vx_exec_assembly.proofs.Came.{paired, inlets-apart, seated, draws-apart, came-back}
use Rattle.vx_exec_assembly.proofs.assembling.assemble.Goals as goal

pub reunite_spans-requires-clause-small : goal.reunite_spans-requires-clause-small
reunite_spans-requires-clause-small g c = subst (λ (z : List NodeSpan). All IsSmall z) (sym c.spans.ensures) c.requires.small

pub reunite_spans-requires-clause-rings : goal.reunite_spans-requires-clause-rings
reunite_spans-requires-clause-rings g c =
    let ran = c.requires.ran in
    let parts = c.in_ok-workers.field-0 in
    let done = c.in_ok-workers.ensures in
    let sizes = worker_group_at c.args.layout.now.worker_groups.items in
    let os = parts.outs.items in
    let is = parts.ins.items in
    subst (λ (z : List NodeSpan). All (IsSpanned IsRingOf os is) z) (sym (c.spans.ensures ∙ ran.5))
    (paired g.O.Source.Stands g.O.Source.op g.S.Sends.Stands g.S.Sends.task g.S.Sends.post g.S.Sends.bounds ran.0 ran.1 ran.2
    ran.3 c.args.decks.items c.args.places.now c.args.joined.items ran.6 sizes ran.4
    os is parts.draws.items done.outs done.ins done.draws)

pub reunite_spans-requires-clause-apart : goal.reunite_spans-requires-clause-apart
reunite_spans-requires-clause-apart g c =
    let ran = c.requires.ran in
    let parts = c.in_ok-workers.field-0 in
    let done = c.in_ok-workers.ensures in
    inlets-apart g.O.Source.Stands g.O.Source.op g.S.Sends.Stands g.S.Sends.task g.S.Sends.post g.S.Sends.bounds ran.0 ran.1 ran.2
    ran.3 c.args.decks.items c.args.places.now c.args.joined.items ran.6 (worker_group_at c.args.layout.now.worker_groups.items) ran.4
    parts.outs.items parts.ins.items parts.draws.items done.outs done.ins done.draws

pub close_decks-requires-clause-many : goal.close_decks-requires-clause-many
close_decks-requires-clause-many g c = c.requires.ran.6.wired.matched

pub close_decks-requires-clause-seated : goal.close_decks-requires-clause-seated
close_decks-requires-clause-seated g c =
    let ran = c.requires.ran in
    let parts = c.in_ok-workers.field-0 in
    let done = c.in_ok-workers.ensures in
    seated g.O.Source.Stands g.O.Source.op g.S.Sends.Stands g.S.Sends.task g.S.Sends.post g.S.Sends.bounds ran.0 ran.1 ran.2
    ran.3 c.args.decks.items c.args.places.now c.args.joined.items ran.6 (worker_group_at c.args.layout.now.worker_groups.items) ran.4
    parts.outs.items parts.ins.items parts.draws.items done.outs done.ins done.draws

pub close_decks-requires-clause-apart : goal.close_decks-requires-clause-apart
close_decks-requires-clause-apart g c =
    let ran = c.requires.ran in
    let parts = c.in_ok-workers.field-0 in
    let done = c.in_ok-workers.ensures in
    draws-apart g.O.Source.Stands g.O.Source.op g.S.Sends.Stands g.S.Sends.task g.S.Sends.post g.S.Sends.bounds ran.0 ran.1 ran.2
    ran.3 c.args.decks.items c.args.places.now c.args.joined.items ran.6 (worker_group_at c.args.layout.now.worker_groups.items) ran.4
    parts.outs.items parts.ins.items parts.draws.items done.outs done.ins done.draws

pub returns-clause-workers : goal.returns-clause-workers
returns-clause-workers g c = c.in_ok-workers.ensures.workers

pub returns-clause-judged : goal.returns-clause-judged
returns-clause-judged g c = subst (λ z. Judged z c.judge-verdict.result) c.as_slice.ensures.value c.judge-verdict.ensures

pub returns-clause-whole : goal.returns-clause-whole
returns-clause-whole g c = λ hash m W p sized laid run unfinished.
    let js = c.args.joined.items in
    let ws = c.as_slice.result.now in
    let are : ws ≡ map worker_in js = c.as_slice.ensures.value ∙ c.in_ok-workers.ensures.workers in
    let judged : Judged ws run_state.Unfinished = subst (λ v. Judged ws v) unfinished c.judge-verdict.ensures in
    none-goes-on g.O.Source.Stands g.O.Source.op g.S.Sends.Stands g.S.Sends.task g.S.Sends.post g.S.Sends.bounds hash m
    run.members js run.honest (subst (λ z. GoesOn z) are judged)

pub returns-clause-settled : goal.returns-clause-settled
returns-clause-settled g c = λ hash m W p sized laid run.
    let parts = c.in_ok-workers.field-0 in
    let done = c.in_ok-workers.ensures in
    let js = c.args.joined.items in
    let ws = c.as_slice.result.now in
    let x = c.judge-verdict.result in
    subst (λ z. Settled g.S.Sends.task W p z x) c.as_slice.ensures.value
    (settled g.O.Source.Stands g.O.Source.op g.S.Sends.Stands g.S.Sends.task g.S.Sends.post g.S.Sends.bounds hash m g.met.S.Sends.at_post W p ws ws
    (map held_in js) refl
    (came-back g.O.Source.Stands g.O.Source.op g.S.Sends.Stands g.S.Sends.task g.S.Sends.post g.S.Sends.bounds hash m W p
    c.args.decks.items c.args.places.now js run (worker_group_at c.args.layout.now.worker_groups.items) sized parts.outs.items parts.ins.items parts.draws.items
    done.outs done.ins done.draws ws (c.as_slice.ensures.value ∙ done.workers) (subst (λ (z : List NodeSpan). All (IsSpanned FlowsThrough parts.outs.items parts.ins.items) z) (c.spans.ensures ∙ laid) c.reunite_spans.ensures.flows) c.in_ok-close_decks.ensures)
    x c.judge-verdict.ensures)

pub returns-clause-answers : goal.returns-clause-answers
returns-clause-answers g c = λ hash m W p is_total sized laid run ok.
    let parts = c.in_ok-workers.field-0 in
    let done = c.in_ok-workers.ensures in
    let js = c.args.joined.items in
    let ws = c.as_slice.result.now in
    let x = c.judge-verdict.result in
    subst (λ z. Answers g.S.Sends.task W is_total p z x) c.as_slice.ensures.value
    (answered g.S.Sends.task W is_total p ws x ok
    (settled g.O.Source.Stands g.O.Source.op g.S.Sends.Stands g.S.Sends.task g.S.Sends.post g.S.Sends.bounds hash m g.met.S.Sends.at_post W p ws ws
    (map held_in js) refl
    (came-back g.O.Source.Stands g.O.Source.op g.S.Sends.Stands g.S.Sends.task g.S.Sends.post g.S.Sends.bounds hash m W p
    c.args.decks.items c.args.places.now js run (worker_group_at c.args.layout.now.worker_groups.items) sized parts.outs.items parts.ins.items parts.draws.items
    done.outs done.ins done.draws ws (c.as_slice.ensures.value ∙ done.workers) (subst (λ (z : List NodeSpan). All (IsSpanned FlowsThrough parts.outs.items parts.ins.items) z) (c.spans.ensures ∙ laid) c.reunite_spans.ensures.flows) c.in_ok-close_decks.ensures)
    x c.judge-verdict.ensures))

pub returns-clause-first : goal.returns-clause-first
returns-clause-first g c = λ hash m W p is_total sized laid run ok.
    let parts = c.in_ok-workers.field-0 in
    let done = c.in_ok-workers.ensures in
    let js = c.args.joined.items in
    let ws = c.as_slice.result.now in
    reported g.O.Source.Stands g.O.Source.op g.S.Sends.Stands g.S.Sends.task g.S.Sends.post g.S.Sends.bounds hash m g.met.S.Sends.at_post W p ws ws
    (map held_in js) refl
    (came-back g.O.Source.Stands g.O.Source.op g.S.Sends.Stands g.S.Sends.task g.S.Sends.post g.S.Sends.bounds hash m W p
    c.args.decks.items c.args.places.now js run (worker_group_at c.args.layout.now.worker_groups.items) sized parts.outs.items parts.ins.items parts.draws.items
    done.outs done.ins done.draws ws (c.as_slice.ensures.value ∙ done.workers) (subst (λ (z : List NodeSpan). All (IsSpanned FlowsThrough parts.outs.items parts.ins.items) z) (c.spans.ensures ∙ laid) c.reunite_spans.ensures.flows) c.in_ok-close_decks.ensures)
    ok.fit (some-workers W is_total p ok) c.judge-verdict.result c.judge-verdict.ensures
