use Rattle.std.proofs.Common.{◌≡◌, ◌++◌, map, sym, ap, subst, ◌∙◌}
use Rattle.vx_plan_nodes.specs.declared.typed.TypedNode.{TypedNode}
use Rattle.vx_plan_nodes.specs.Outline.{Top, columns_of, claim_of, outline_of, top}
use Rattle.vx_plan.specs.ByName.{claim_by_name, top_by_name}
use Rattle.vx_check_annotate.specs.Claimed.{form_of, kept_form, own_forms}
use Rattle.vx_check_annotate.proofs.NamedFacts.{put-below, put-right, ok-then}
use Rattle.vx_check_annotate.proofs.naming.Naming.+put_own.Goals as goal

pub returns-in-Unary : goal.returns-in-Unary
returns-in-Unary t c s e =
    let P : TypedNode → Type 0 = λ n. map form_of c.put_own.new.found.items ≡ map form_of c.args.found.now.items ++ own_forms s (outline_of n) in
    let named = c.in_ok-claim.ensures s e ∙ ap (λ d. kept_form (claim_by_name s (columns_of d).names (claim_of c.head-head.result.now.claim))) c.deref.ensures in
    let own = named ∙ (ap (λ (h : Top). kept_form (top_by_name s h)) c.head-head.ensures.top ∙ ap (λ n. kept_form (top_by_name s (top (outline_of n)))) c.in-Unary.is) in
    ok-then c.put_own.result
    (λ h. subst P (sym c.in-Unary.is) (put-below c.args.found.now.items c.push.new.self.items c.put_own.new.found.items c.in_ok-claim.claim _ _ _ c.in_ok-push.ensures.items own
    (ap (λ n. own_forms s (outline_of n)) c.deref-in-Unary.ensures) h))
    (c.put_own.ensures s e)

pub returns-in_ok-put_own-in-Binary : goal.returns-in_ok-put_own-in-Binary
returns-in_ok-put_own-in-Binary t c s e =
    let P : TypedNode → Type 0 = λ n. map form_of c.put_own-in-Binary-2.new.found.items ≡ map form_of c.args.found.now.items ++ own_forms s (outline_of n) in
    let named = c.in_ok-claim.ensures s e ∙ ap (λ d. kept_form (claim_by_name s (columns_of d).names (claim_of c.head-head.result.now.claim))) c.deref.ensures in
    let own = named ∙ (ap (λ (h : Top). kept_form (top_by_name s h)) c.head-head.ensures.top ∙ ap (λ n. kept_form (top_by_name s (top (outline_of n)))) c.in-Binary.is) in
    let one = put-below c.args.found.now.items c.push.new.self.items c.put_own-in-Binary.new.found.items c.in_ok-claim.claim _ _ _ c.in_ok-push.ensures.items own
    (ap (λ n. own_forms s (outline_of n)) c.deref-in-Binary.ensures) (c.in_ok-put_own-in-Binary.ensures s e) in
    ok-then c.put_own-in-Binary-2.result
    (λ h. subst P (sym c.in-Binary.is) (put-right c.args.found.now.items c.put_own-in-Binary.new.found.items c.put_own-in-Binary-2.new.found.items _ _ _ _ one
    (ap (λ n. own_forms s (outline_of n)) c.deref-in-Binary-2.ensures) h))
    (c.put_own-in-Binary-2.ensures s e)

pub returns-in-Exchange : goal.returns-in-Exchange
returns-in-Exchange t c s e =
    let P : TypedNode → Type 0 = λ n. map form_of c.put_own-in-Exchange.new.found.items ≡ map form_of c.args.found.now.items ++ own_forms s (outline_of n) in
    let named = c.in_ok-claim.ensures s e ∙ ap (λ d. kept_form (claim_by_name s (columns_of d).names (claim_of c.head-head.result.now.claim))) c.deref.ensures in
    let own = named ∙ (ap (λ (h : Top). kept_form (top_by_name s h)) c.head-head.ensures.top ∙ ap (λ n. kept_form (top_by_name s (top (outline_of n)))) c.in-Exchange.is) in
    ok-then c.put_own-in-Exchange.result
    (λ h. subst P (sym c.in-Exchange.is) (put-below c.args.found.now.items c.push.new.self.items c.put_own-in-Exchange.new.found.items c.in_ok-claim.claim _ _ _ c.in_ok-push.ensures.items own
    (ap (λ n. own_forms s (outline_of n)) c.deref-in-Exchange.ensures) h))
    (c.put_own-in-Exchange.ensures s e)
