use Rattle.std.proofs.Common.{◌∙◌, ap, sym, subst, true≢false, option_map, map}
use Rattle.std.specs.List.{list_all}
use Rattle.vx_catalog_relations.specs.Catalog.{IsCatalog}
use Rattle.vx_plan_nodes.specs.TypedView.{resolved_of, scope}
use Rattle.vx_plan_nodes.specs.Outline.{outline_of, plan_of, claim_of}
use Rattle.vx_plan_json.specs.Document.{Document}
use Rattle.vx_plan_json.specs.Formed.{has_few_keys}
use Rattle.vx_plan_json.specs.PlanView.{document_of}
use Rattle.vx_check_rules.specs.RuleView.{refusal_of}
use Rattle.vx_check_annotate.specs.Claimed.{claims_of, forms_in, named_forms}
use Rattle.vx_check_annotate.specs.Unclaimed.{unclaimed}
use Rattle.vx_check_annotate.proofs.FoundDocument.{hinted-named, found-said}
use Rattle.vx_check_annotate.proofs.FoundHere.{found-here, forms-here}
use Rattle.vx_check_directions.specs.Turned.{all_rising}
use Rattle.vx_check_annotate.proofs.Answering.{refused-found, typed-names, answered, Answered}
use Rattle.vx_check_annotate.proofs.ClaimedFacts.{with-same}
use Rattle.vx_check_annotate.proofs.ClaimsResolve.{claimed}
use Rattle.vx_check_annotate.proofs.FewKeys.{found-few}
use Rattle.vx_check_annotate.proofs.VerdictFacts.{plainly, refused-plainly}
use Rattle.vx_check_annotate.proofs.Reversed.{reversed}
use Rattle.vx_check_annotate.proofs.Reasons.{plain-reason}
use Rattle.vx_check_annotate.proofs.annotating.annotated_by_claims.Goals as goal

pub found_claims-requires-clause-keys : goal.found_claims-requires-clause-keys
found_claims-requires-clause-keys c = rw c.catalog.ensures (typed-names (scope c.in_ok-typed-2.typed) (plan_of c.root.result.now) c.root.ensures.typed.nodes)

pub hinted-requires : goal.hinted-requires
hinted-requires c = λ asks. absurd (true≢false (sym asks ∙ c.requires))

pub claimed_plan-found-requires : goal.claimed_plan-found-requires
claimed_plan-found-requires c =
    let d : Document = document_of c.args.plan in
    let p = resolved_of c.in_ok-typed.typed in
    let cat : IsCatalog c.args.catalog.now = c.len-relations.ensures.fine in
    let h = c.in_ok-typed.ensures.hinted in
    let over = (hinted-named c.args.catalog.now d p cat c.args.plan.formed h).0 in
    let v = resolved_of c.in_ok-typed-2.typed in
    let x = found-here c.args.catalog.now p v c.catalog.result.now (plan_of c.root.result.now) (map claim_of c.in_ok-claims.claims.items) c.in_ok-claims.is_total over c.in_ok-typed-2.ensures c.catalog.ensures c.root.ensures.plan
    c.in_ok-claims.ensures in
    let derives = ap (λ (e : Document). e.derives) c.in_ok-typed.ensures.same in
    let forms = c.in_ok-named.ensures v.names (sym c.ranges-2.ensures)
    ∙ (ap (λ l. named_forms v.names l (outline_of c.root-2.result.now)) (reversed c.in_ok-claims.claims.items x.0 x.2)
    ∙ (ap (named_forms v.names (claims_of x.0)) c.root-2.ensures.root ∙ forms-here p v (claims_of x.0) c.in_ok-typed-2.ensures)) in
    (λ i. list_all (has_few_keys (derives i)) (forms i)) ∙ found-few c.args.catalog.now d p _ _ x.0 cat c.args.plan.formed c.args.plan.few_keys h x.1

pub judge-requires : goal.judge-requires
judge-requires c =
    let d : Document = document_of c.args.plan in
    let e : Document = document_of c.claimed_plan-found.result in
    let p = resolved_of c.in_ok-typed.typed in
    let cat : IsCatalog c.args.catalog.now = c.len-relations.ensures.fine in
    let h = c.in_ok-typed.ensures.hinted in
    let over = (hinted-named c.args.catalog.now d p cat c.args.plan.formed h).0 in
    let v = resolved_of c.in_ok-typed-2.typed in
    let x = found-here c.args.catalog.now p v c.catalog.result.now (plan_of c.root.result.now) (map claim_of c.in_ok-claims.claims.items) c.in_ok-claims.is_total over c.in_ok-typed-2.ensures c.catalog.ensures c.root.ensures.plan
    c.in_ok-claims.ensures in
    let forms = c.in_ok-named.ensures v.names (sym c.ranges-2.ensures)
    ∙ (ap (λ l. named_forms v.names l (outline_of c.root-2.result.now)) (reversed c.in_ok-claims.claims.items x.0 x.2)
    ∙ (ap (named_forms v.names (claims_of x.0)) c.root-2.ensures.root ∙ forms-here p v (claims_of x.0) c.in_ok-typed-2.ensures)) in
    let placed = c.claimed_plan-found.ensures.placed ∙ with-same (forms_in c.in_ok-named.named.items) c.in_ok-claims.is_total (document_of c.in_ok-typed.kept) d c.in_ok-typed.ensures.same in
    let said = found-said c.args.catalog.now d e p x.0 c.in_ok-claims.is_total (forms_in c.in_ok-named.named.items) cat c.args.plan.formed c.args.plan.declared h x.1 forms x.3 placed in
    (claimed (all_rising x.0) c.in_ok-claims.is_total p, said.resolves)

pub returns-in-None-clause-same : goal.returns-in-None-clause-same
returns-in-None-clause-same c = ap unclaimed c.in_ok-plan.ensures.plan ∙ (c.claimed_plan-found.ensures.same ∙ c.in_ok-typed.ensures.same)

pub returns-in-None-clause-accepted : goal.returns-in-None-clause-accepted
returns-in-None-clause-accepted c =
    let d : Document = document_of c.args.plan in
    let e : Document = document_of c.claimed_plan-found.result in
    let p = resolved_of c.in_ok-typed.typed in
    let cat : IsCatalog c.args.catalog.now = c.len-relations.ensures.fine in
    let h = c.in_ok-typed.ensures.hinted in
    let over = (hinted-named c.args.catalog.now d p cat c.args.plan.formed h).0 in
    let v = resolved_of c.in_ok-typed-2.typed in
    let x = found-here c.args.catalog.now p v c.catalog.result.now (plan_of c.root.result.now) (map claim_of c.in_ok-claims.claims.items) c.in_ok-claims.is_total over c.in_ok-typed-2.ensures c.catalog.ensures c.root.ensures.plan
    c.in_ok-claims.ensures in
    let forms = c.in_ok-named.ensures v.names (sym c.ranges-2.ensures)
    ∙ (ap (λ l. named_forms v.names l (outline_of c.root-2.result.now)) (reversed c.in_ok-claims.claims.items x.0 x.2)
    ∙ (ap (named_forms v.names (claims_of x.0)) c.root-2.ensures.root ∙ forms-here p v (claims_of x.0) c.in_ok-typed-2.ensures)) in
    let placed = c.claimed_plan-found.ensures.placed ∙ with-same (forms_in c.in_ok-named.named.items) c.in_ok-claims.is_total (document_of c.in_ok-typed.kept) d c.in_ok-typed.ensures.same in
    let plain = refused-plainly c.args.catalog.now e cat c.claimed_plan-found.result.formed (ap (λ (f : Document). f.derives) placed ∙ c.requires) in
    let told = sym plain ∙ sym c.in_ok-plan.ensures.refusal ∙ ap (option_map refusal_of) c.in-None.is in
    let made = answered c.args.catalog.now d e p x.0 c.in_ok-claims.is_total (forms_in c.in_ok-named.named.items) cat c.args.plan.formed c.args.plan.declared c.claimed_plan-found.result.formed h x.1 x.3 forms placed told in
    (subst (λ f. Answered c.args.catalog.now d f) (sym c.in_ok-plan.ensures.plan) made).accepted

pub returns-in-None-clause-telling : goal.returns-in-None-clause-telling
returns-in-None-clause-telling c =
    let d : Document = document_of c.args.plan in
    let e : Document = document_of c.claimed_plan-found.result in
    let p = resolved_of c.in_ok-typed.typed in
    let cat : IsCatalog c.args.catalog.now = c.len-relations.ensures.fine in
    let h = c.in_ok-typed.ensures.hinted in
    let over = (hinted-named c.args.catalog.now d p cat c.args.plan.formed h).0 in
    let v = resolved_of c.in_ok-typed-2.typed in
    let x = found-here c.args.catalog.now p v c.catalog.result.now (plan_of c.root.result.now) (map claim_of c.in_ok-claims.claims.items) c.in_ok-claims.is_total over c.in_ok-typed-2.ensures c.catalog.ensures c.root.ensures.plan
    c.in_ok-claims.ensures in
    let forms = c.in_ok-named.ensures v.names (sym c.ranges-2.ensures)
    ∙ (ap (λ l. named_forms v.names l (outline_of c.root-2.result.now)) (reversed c.in_ok-claims.claims.items x.0 x.2)
    ∙ (ap (named_forms v.names (claims_of x.0)) c.root-2.ensures.root ∙ forms-here p v (claims_of x.0) c.in_ok-typed-2.ensures)) in
    let placed = c.claimed_plan-found.ensures.placed ∙ with-same (forms_in c.in_ok-named.named.items) c.in_ok-claims.is_total (document_of c.in_ok-typed.kept) d c.in_ok-typed.ensures.same in
    let plain = refused-plainly c.args.catalog.now e cat c.claimed_plan-found.result.formed (ap (λ (f : Document). f.derives) placed ∙ c.requires) in
    let told = sym plain ∙ sym c.in_ok-plan.ensures.refusal ∙ ap (option_map refusal_of) c.in-None.is in
    let made = answered c.args.catalog.now d e p x.0 c.in_ok-claims.is_total (forms_in c.in_ok-named.named.items) cat c.args.plan.formed c.args.plan.declared c.claimed_plan-found.result.formed h x.1 x.3 forms placed told in
    (subst (λ f. Answered c.args.catalog.now d f) (sym c.in_ok-plan.ensures.plan) made).telling

pub returns-in-None-clause-strongest : goal.returns-in-None-clause-strongest
returns-in-None-clause-strongest c =
    let d : Document = document_of c.args.plan in
    let e : Document = document_of c.claimed_plan-found.result in
    let p = resolved_of c.in_ok-typed.typed in
    let cat : IsCatalog c.args.catalog.now = c.len-relations.ensures.fine in
    let h = c.in_ok-typed.ensures.hinted in
    let over = (hinted-named c.args.catalog.now d p cat c.args.plan.formed h).0 in
    let v = resolved_of c.in_ok-typed-2.typed in
    let x = found-here c.args.catalog.now p v c.catalog.result.now (plan_of c.root.result.now) (map claim_of c.in_ok-claims.claims.items) c.in_ok-claims.is_total over c.in_ok-typed-2.ensures c.catalog.ensures c.root.ensures.plan
    c.in_ok-claims.ensures in
    let forms = c.in_ok-named.ensures v.names (sym c.ranges-2.ensures)
    ∙ (ap (λ l. named_forms v.names l (outline_of c.root-2.result.now)) (reversed c.in_ok-claims.claims.items x.0 x.2)
    ∙ (ap (named_forms v.names (claims_of x.0)) c.root-2.ensures.root ∙ forms-here p v (claims_of x.0) c.in_ok-typed-2.ensures)) in
    let placed = c.claimed_plan-found.ensures.placed ∙ with-same (forms_in c.in_ok-named.named.items) c.in_ok-claims.is_total (document_of c.in_ok-typed.kept) d c.in_ok-typed.ensures.same in
    let plain = refused-plainly c.args.catalog.now e cat c.claimed_plan-found.result.formed (ap (λ (f : Document). f.derives) placed ∙ c.requires) in
    let told = sym plain ∙ sym c.in_ok-plan.ensures.refusal ∙ ap (option_map refusal_of) c.in-None.is in
    let made = answered c.args.catalog.now d e p x.0 c.in_ok-claims.is_total (forms_in c.in_ok-named.named.items) cat c.args.plan.formed c.args.plan.declared c.claimed_plan-found.result.formed h x.1 x.3 forms placed told in
    (subst (λ f. Answered c.args.catalog.now d f) (sym c.in_ok-plan.ensures.plan) made).strongest

pub returns-clause-refused : goal.returns-clause-refused
returns-clause-refused c =
    let d : Document = document_of c.args.plan in
    let e : Document = document_of c.claimed_plan-found.result in
    let p = resolved_of c.in_ok-typed.typed in
    let cat : IsCatalog c.args.catalog.now = c.len-relations.ensures.fine in
    let h = c.in_ok-typed.ensures.hinted in
    let over = (hinted-named c.args.catalog.now d p cat c.args.plan.formed h).0 in
    let v = resolved_of c.in_ok-typed-2.typed in
    let x = found-here c.args.catalog.now p v c.catalog.result.now (plan_of c.root.result.now) (map claim_of c.in_ok-claims.claims.items) c.in_ok-claims.is_total over c.in_ok-typed-2.ensures c.catalog.ensures c.root.ensures.plan
    c.in_ok-claims.ensures in
    let forms = c.in_ok-named.ensures v.names (sym c.ranges-2.ensures)
    ∙ (ap (λ l. named_forms v.names l (outline_of c.root-2.result.now)) (reversed c.in_ok-claims.claims.items x.0 x.2)
    ∙ (ap (named_forms v.names (claims_of x.0)) c.root-2.ensures.root ∙ forms-here p v (claims_of x.0) c.in_ok-typed-2.ensures)) in
    let placed = c.claimed_plan-found.ensures.placed ∙ with-same (forms_in c.in_ok-named.named.items) c.in_ok-claims.is_total (document_of c.in_ok-typed.kept) d c.in_ok-typed.ensures.same in
    let plain = refused-plainly c.args.catalog.now e cat c.claimed_plan-found.result.formed (ap (λ (f : Document). f.derives) placed ∙ c.requires) in
    let told = sym plain ∙ sym c.in_ok-plan.ensures.refusal ∙ ap (option_map refusal_of) c.in-Some.is in
    let same = c.claimed_plan-found.ensures.same ∙ c.in_ok-typed.ensures.same in
    let r = refused-found c.args.catalog.now d e p x.0 c.in_ok-claims.is_total (forms_in c.in_ok-named.named.items) _ _ cat c.args.plan.formed c.args.plan.declared h x.1 x.3 forms placed same told in
    plain-reason c.args.catalog.now d c.in-Some.node c.in-Some.rule c.requires (plainly c.args.catalog.now d cat c.args.plan.formed c.requires ∙ r.0, r.1)
