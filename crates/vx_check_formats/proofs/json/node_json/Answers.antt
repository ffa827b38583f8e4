use Rattle.std.proofs.Common.{◌≡◌, ◌∙◌, ap}
use Rattle.serde_json.specs.Data.{Members, object, no_members}
use Rattle.serde_json.specs.View.{members_view}
use Rattle.serde_json.proofs.Views.{view-Object}
use Rattle.vx_catalog_relations.specs.Catalog.{relation_at}
use Rattle.vx_plan_nodes.specs.Types.{width}
use Rattle.vx_plan_nodes.specs.TypedView.{names_in}
use Rattle.vx_plan_nodes.specs.Names.{Names}
use Rattle.vx_plan_nodes.specs.Outline.{Outline, outline_of, plan_of, claim_of, columns_of, top, columns}
use Rattle.vx_plan_facts.specs.Equal.{equal_at}
use Rattle.vx_plan_facts.specs.Fixed.{fixed_at}
use Rattle.vx_check_formats.specs.Json.{node_json, with_operator, with_workers, with_claim, with_facts, with_facts_at, with_output, with_exchange}
use Rattle.vx_check_formats.proofs.json.node_json.Goals as goal

pub returns : goal.returns
unfolding node_json
returns c =
    let s : Names = names_in c.args.plan.now in
    let t : Outline = outline_of c.args.node.now in
    let w = width (relation_at s.catalog) (plan_of c.args.node.now) in
    let e = equal_at (relation_at s.catalog) (plan_of c.args.node.now) in
    let f = fixed_at (relation_at s.catalog) (plan_of c.args.node.now) in
    let named : c.column_names-names.result.now ≡ (columns t).names = c.column_names-names.ensures in
    let claimed : claim_of c.head.result.now.claim ≡ (top t).claim = ap (λ h. h.claim) c.head.ensures.top in
    let output : columns_of c.deref.result.now ≡ columns t = ap columns_of c.deref.ensures ∙ ap (λ h. h.columns) c.head-2.ensures.top in
    let below : Members = members_view c.put_workers.new.members.entries in
    let working : below ≡ with_workers s t (with_operator s t no_members) =
    c.in_ok-put_workers.ensures ∙ ap (with_workers s t) (c.in_ok-put_operator.ensures ∙ ap (λ ms. with_operator s t (members_view ms)) c.new-members.ensures.empty) in
    let claiming : members_view c.put_claim.new.members.entries ≡ with_claim s (columns t).names (top t).claim (with_workers s t (with_operator s t no_members)) =
    c.in_ok-put_claim.ensures ∙ ap (λ ns. with_claim s ns (claim_of c.head.result.now.claim) below) named ∙ ap (λ k. with_claim s (columns t).names k below) claimed
    ∙ ap (with_claim s (columns t).names (top t).claim) working in
    let known : members_view c.put_facts.new.members.entries ≡ with_facts_at s t (with_claim s (columns t).names (top t).claim (with_workers s t (with_operator s t no_members))) =
    c.in_ok-put_facts.ensures w e f c.requires ∙ ap (λ ns. with_facts ns w e f (members_view c.put_claim.new.members.entries)) named ∙ ap (with_facts_at s t) claiming in
    view-Object c.put_exchange.new.members
    ∙ ap object (c.in_ok-put_exchange.ensures ∙ ap (with_exchange s t) (c.in_ok-put_output.ensures ∙ ap (λ k. with_output k (members_view c.put_facts.new.members.entries)) output ∙ ap (with_output (columns t)) known))
