use Rattle.std.proofs.Common.{◌≡◌, ◌∙◌, List, length, map, ap, sym, subst}
use Rattle.vx_plan_nodes.specs.Outline.{plan_of}
use Rattle.vx_plan_nodes.specs.TypedView.{plan as whole_plan}
use Rattle.vx_plan_facts.specs.declared.answers.Answers as rust_answers
use Rattle.vx_plan_facts.specs.declared.facts.ColumnFacts as rust_facts
use Rattle.vx_plan_facts.specs.FactsView.{facts_of}
use Rattle.vx_plan_facts.specs.Known.{in_order}
use Rattle.vx_plan_facts.specs.AnswersView.{AreKept}
use Rattle.vx_plan_facts.specs.KnownView.{plan_known}
use Rattle.vx_plan_facts.proofs.KeptFacts.{written-over, known-as}
use Rattle.vx_plan_facts.proofs.known.KnownColumns.determined.Goals as goal

pub returns-clause-answer : goal.returns-clause-answer
returns-clause-answer c catalog h x =
    let all = in_order (whole_plan (plan_known c.args.self.now)) in
    c.determined.ensures.answer catalog all (known-as catalog all _ _ _ _ (plan_of c.args.node.now) c.as_slice.ensures.value c.as_mut_slice.ensures.value h) x

pub returns-clause-kept : goal.returns-clause-kept
returns-clause-kept c catalog h p k =
    let all = in_order (whole_plan (plan_known c.args.self.now)) in
    let kept = c.determined.ensures.kept catalog all (known-as catalog all _ _ _ _ (plan_of c.args.node.now) c.as_slice.ensures.value c.as_mut_slice.ensures.value h) in
    let old = c.args.self.now.answers in
    let new = c.determined.new.answers in
    let K : List rust_answers.Answers → Type 0 = λ xs. AreKept catalog all (length (map facts_of c.args.self.now.facts.items)) xs in
    let F : List rust_facts.ColumnFacts → Type 0 = λ fs. AreKept catalog all (length (map facts_of fs)) new in
    let same : length new ≡ length old.items = c.determined.auto.answers ∙ ap length c.as_mut_slice.ensures.value in
    let wide : old.len ≡ length new = sym (c.determined.auto.answers ∙ c.as_mut_slice.ensures.len) in
    record { known = k.known; among = k.among; kept = subst K (sym (written-over old.len new old.items same wide)) (subst F c.as_slice.ensures.value kept) }
