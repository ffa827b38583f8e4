use Rattle.std.proofs.Common.{◌≡◌, List, ◌++◌, map, drop, sym, ap, subst, ◌∙◌}
use Rattle.vx_plan_nodes.specs.declared.typed.TypedNode.{TypedNode}
use Rattle.vx_plan_nodes.specs.Plan.{Claim}
use Rattle.vx_plan_nodes.specs.Numbering.{nodes}
use Rattle.vx_plan_nodes.specs.Outline.{Top, columns_of, outline_of, plan_of}
use Rattle.vx_plan.specs.ByName.{column_names}
use Rattle.vx_check_annotate.specs.Claimed.{form_of, claims_in, first_named, later_claims, named_forms}
use Rattle.vx_check_annotate.proofs.NamedFacts.{put-below, put-right, ok-then}
use Rattle.vx_check_annotate.proofs.naming.Naming.+put_named.Goals as goal

pub returns-in-Unary-clause-forms : goal.returns-in-Unary-clause-forms
returns-in-Unary-clause-forms t c s e =
    let cs : List Claim = claims_in c.args.claims.now.items in
    let P : TypedNode → Type 0 = λ n. map form_of c.put_named.new.found.items ≡ map form_of c.args.found.now.items ++ named_forms s cs (outline_of n) in
    let names : (columns_of c.deref.result.now).names ≡ column_names (outline_of c.args.node.now) = ap (λ d. (columns_of d).names) c.deref.ensures ∙ ap (λ (h : Top). h.columns.names) c.head.ensures.top in
    let own = c.in_ok-claim.ensures.first s e ∙ ap (λ ns. first_named s ns cs) (names ∙ ap (λ n. column_names (outline_of n)) c.in-Unary.is) in
    let below : named_forms s (claims_in c.next_named.new.claims.items) (outline_of c.deref-in-Unary.result.now) ≡ named_forms s (later_claims cs) (outline_of c.in-Unary.input.value) =
    ap (λ cs. named_forms s cs (outline_of c.deref-in-Unary.result.now)) c.next_named.ensures.later ∙ ap (λ n. named_forms s (later_claims cs) (outline_of n)) c.deref-in-Unary.ensures in
    ok-then c.put_named.result
    (λ h. subst P (sym c.in-Unary.is) (put-below c.args.found.now.items c.push.new.self.items c.put_named.new.found.items c.in_ok-claim.claim _ _ _ c.in_ok-push.ensures.items own below h))
    (c.put_named.ensures.forms s e)

pub returns-in_ok-put_named-in-Binary-clause-forms : goal.returns-in_ok-put_named-in-Binary-clause-forms
returns-in_ok-put_named-in-Binary-clause-forms t c s e =
    let cs : List Claim = claims_in c.args.claims.now.items in
    let P : TypedNode → Type 0 = λ n. map form_of c.put_named-in-Binary-2.new.found.items ≡ map form_of c.args.found.now.items ++ named_forms s cs (outline_of n) in
    let names : (columns_of c.deref.result.now).names ≡ column_names (outline_of c.args.node.now) = ap (λ d. (columns_of d).names) c.deref.ensures ∙ ap (λ (h : Top). h.columns.names) c.head.ensures.top in
    let own = c.in_ok-claim.ensures.first s e ∙ ap (λ ns. first_named s ns cs) (names ∙ ap (λ n. column_names (outline_of n)) c.in-Binary.is) in
    let left : named_forms s (claims_in c.next_named.new.claims.items) (outline_of c.deref-in-Binary.result.now) ≡ named_forms s (later_claims cs) (outline_of c.in-Binary.left.value) =
    ap (λ cs. named_forms s cs (outline_of c.deref-in-Binary.result.now)) c.next_named.ensures.later ∙ ap (λ n. named_forms s (later_claims cs) (outline_of n)) c.deref-in-Binary.ensures in
    let rest : claims_in c.put_named-in-Binary.new.claims.items ≡ drop (nodes (plan_of c.in-Binary.left.value)) (later_claims cs) =
    c.in_ok-put_named-in-Binary.ensures.later ∙ (ap (drop (nodes (plan_of c.deref-in-Binary.result.now))) c.next_named.ensures.later ∙ ap (λ n. drop (nodes (plan_of n)) (later_claims cs)) c.deref-in-Binary.ensures) in
    let right : named_forms s (claims_in c.put_named-in-Binary.new.claims.items) (outline_of c.deref-in-Binary-2.result.now) ≡ named_forms s (drop (nodes (plan_of c.in-Binary.left.value)) (later_claims cs)) (outline_of c.in-Binary.right.value) =
    ap (λ cs. named_forms s cs (outline_of c.deref-in-Binary-2.result.now)) rest ∙ ap (λ n. named_forms s (drop (nodes (plan_of c.in-Binary.left.value)) (later_claims cs)) (outline_of n)) c.deref-in-Binary-2.ensures in
    let one = put-below c.args.found.now.items c.push.new.self.items c.put_named-in-Binary.new.found.items c.in_ok-claim.claim _ _ _ c.in_ok-push.ensures.items own left (c.in_ok-put_named-in-Binary.ensures.forms s e) in
    ok-then c.put_named-in-Binary-2.result
    (λ h. subst P (sym c.in-Binary.is) (put-right c.args.found.now.items c.put_named-in-Binary.new.found.items c.put_named-in-Binary-2.new.found.items _ _ _ _ one right h))
    (c.put_named-in-Binary-2.ensures.forms s e)

pub returns-in-Exchange-clause-forms : goal.returns-in-Exchange-clause-forms
returns-in-Exchange-clause-forms t c s e =
    let cs : List Claim = claims_in c.args.claims.now.items in
    let P : TypedNode → Type 0 = λ n. map form_of c.put_named-in-Exchange.new.found.items ≡ map form_of c.args.found.now.items ++ named_forms s cs (outline_of n) in
    let names : (columns_of c.deref.result.now).names ≡ column_names (outline_of c.args.node.now) = ap (λ d. (columns_of d).names) c.deref.ensures ∙ ap (λ (h : Top). h.columns.names) c.head.ensures.top in
    let own = c.in_ok-claim.ensures.first s e ∙ ap (λ ns. first_named s ns cs) (names ∙ ap (λ n. column_names (outline_of n)) c.in-Exchange.is) in
    let below : named_forms s (claims_in c.next_named.new.claims.items) (outline_of c.deref-in-Exchange.result.now) ≡ named_forms s (later_claims cs) (outline_of c.in-Exchange.input.value) =
    ap (λ cs. named_forms s cs (outline_of c.deref-in-Exchange.result.now)) c.next_named.ensures.later ∙ ap (λ n. named_forms s (later_claims cs) (outline_of n)) c.deref-in-Exchange.ensures in
    ok-then c.put_named-in-Exchange.result
    (λ h. subst P (sym c.in-Exchange.is) (put-below c.args.found.now.items c.push.new.self.items c.put_named-in-Exchange.new.found.items c.in_ok-claim.claim _ _ _ c.in_ok-push.ensures.items own below h))
    (c.put_named-in-Exchange.ensures.forms s e)
