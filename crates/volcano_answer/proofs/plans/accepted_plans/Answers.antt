use Rattle.std.proofs.Common.{rules, ◌≡◌, ◌<◌, ◌∙◌, ◌++◌, ℕ, List, Ok, string_bytes, [], ◌∷◌, length, map, refl, sym, ap, subst, get_or}
use Rattle.std.proofs.lemmas.List.{map-append}
use Rattle.std.proofs.lemmas.Result.{err_from_is_err_and}
use Rattle.vx_plan_nodes.specs.TypedView.{resolved_of}
use Rattle.vx_check_rules.specs.CheckedView.{typed_plan}
use Rattle.volcano_answer.specs.Files.{left_of}
use Rattle.volcano_answer.specs.Plans.{NamedPlan, AreAccepted, plan_under, paths_of}
use Rattle.volcano_answer.specs.Planning.{exactly, IsPlanned}
use Rattle.volcano_answer.specs.PlansView.{named_is}
use Rattle.volcano_answer.proofs.PlansFacts.{not_accepted_here, accepted_grow, named_grow, left_grow}
use Rattle.volcano_answer.proofs.plans.accepted_plans.Goals as goal

pub returns-in_err-plan-clause-refused : goal.returns-in_err-plan-clause-refused
returns-in_err-plan-clause-refused g c =
    let l = c.loop-path in
    let there : l.path-index < length c.args.paths.now = search rules in
    let files = g.F.Store.holds c.args.files.now in
    let input = left_of c.args.was_read (g.I.ByteIn.remaining c.args.input.now) in
    let p = err_from_is_err_and c.from_residual.result c.from_residual.ensures.1 in
    rw (p.1, p.2)
    (not_accepted_here (λ q. q.now) files (g.F.Store.is_reliable c.args.files.now) input (left_of l.was_read (g.I.ByteIn.remaining l.input)) (g.I.ByteIn.has_failed c.plan_under.new.input) c.args.catalog.now
    c.args.paths.now l.path-index _ (map named_is l.plans.items) c.in_err-plan.field-0.0 there l.invariant.0 l.invariant.1 l.invariant.2 c.in_err-plan.ensures.refused)

pub loop-path-preserved : goal.loop-path-preserved
loop-path-preserved g c =
    let l = c.loop-path in
    let there : l.path-index < length c.args.paths.now = search rules in
    let files = g.F.Store.holds c.args.files.now in
    let input = left_of c.args.was_read (g.I.ByteIn.remaining c.args.input.now) in
    let left = left_of l.was_read (g.I.ByteIn.remaining l.input) in
    let relations = c.args.catalog.now in
    let ns = map named_is l.plans.items in
    let path = (get_or c.args.paths.now l.path-index _).now in
    let n : NamedPlan = record { path = string_bytes c.in_ok-name.name; plan = resolved_of (typed_plan c.in_ok-plan.plan) } in
    let at : n.path ≡ path = c.in_ok-name.ensures.ok in
    let Q : List ℕ → Type 0 = λ q. IsPlanned (exactly (Ok relations)) (plan_under files left q) n.plan in
    let grown : map named_is c.push.new.self.items ≡ ns ++ n ∷ [] = ap (map named_is) c.in_ok-push.ensures.items ∙ map-append named_is l.plans.items (_ ∷ []) in
    let P : List NamedPlan → Type 0 = λ ms. AreAccepted files input relations ms in (
      ap paths_of grown ∙ named_grow (λ q. q.now) c.args.paths.now l.path-index _ ns n there l.invariant.0 at,
      subst P (sym grown) (accepted_grow (λ q. q.now) files input left relations c.args.paths.now l.path-index ns n l.invariant.0 l.invariant.1 l.invariant.2 (subst Q (sym at) c.in_ok-plan.ensures.planned) c.in_ok-plan.ensures.shown),
      left_grow (λ q. q.now) input c.args.paths.now l.path-index _ l.was_read _ (g.I.ByteIn.remaining l.input) (g.I.ByteIn.remaining c.plan_under.new.input) path there refl l.invariant.2
          (λ other. ap (g.I.ByteIn.remaining) (c.in_ok-plan.ensures.kept other)) c.is_read-was_read.ensures,
    )
