use Rattle.std.proofs.Common.{◌∙◌, [], length, ap, sym, subst, arith}
use Rattle.std.proofs.lemmas.Result.{IfOk-weaker}
use Rattle.vx_catalog_relations.specs.Catalog.{relation_at}
use Rattle.vx_plan_nodes.specs.Plan.{Plan}
use Rattle.vx_plan_nodes.specs.Types.{width}
use Rattle.vx_plan_nodes.specs.Outline.{unary_of, binary_of, plan_of}
use Rattle.vx_plan_facts.specs.Equal.{each_itself}
use Rattle.vx_plan_facts.specs.Facts.{Facts, Keeps, AreFactsOf}
use Rattle.vx_plan_facts.specs.FactsView.{facts_of}
use Rattle.vx_plan_facts.specs.Naming.{names_within, both_within}
use Rattle.vx_plan_facts.proofs.NamedColumns.{typed-unary, typed-both}
use Rattle.vx_plan_facts.proofs.Numbers.{within, there, put-scan, put-unary, put-binary, put-exchange, unary-facts, both-facts, same-facts, right-still}
use Rattle.vx_plan_facts.proofs.numbered.+put_facts.Goals as goal

pub after_unary-requires : goal.after_unary-requires
after_unary-requires t c =
    let below = rw c.deref.ensures at c.in_ok-below-in-Unary.ensures in
    let same = there c.put_facts.new.facts.items c.in_ok-below-in-Unary.below below.own c.index.result.now c.index.ensures below.there in
    let typed = typed-unary c.args.catalog.now (plan_of c.args.node.now) _ _ _ (plan_of c.in-Unary.input.value) (ap plan_of c.in-Unary.is) c.requires in
    ap (λ (k : Facts). names_within (length k.firsts) (unary_of c.in-Unary.operator)) same ∙ ap (λ w. names_within w (unary_of c.in-Unary.operator)) below.is.wide ∙ typed.1

pub index-requires-in-Binary : goal.index-requires-in-Binary
index-requires-in-Binary t c =
    let left = c.in_ok-left-in-Binary.ensures in
    let h = within c.put_facts-in-Binary-2.new.facts.items c.in_ok-left-in-Binary.left left.own left.there in
    omega (arith, h, c.put_facts-in-Binary-2.new.facts.ok.0)

pub index-requires-in-Binary-2 : goal.index-requires-in-Binary-2
index-requires-in-Binary-2 t c =
    let right = c.in_ok-right-in-Binary.ensures in
    let still = right-still _ _ _ _ _ _ _ _ right c.in_ok-left-in-Binary.ensures in
    let h = within c.put_facts-in-Binary-2.new.facts.items c.in_ok-right-in-Binary.right right.own still in
    omega (arith, h, c.put_facts-in-Binary-2.new.facts.ok.0)

pub of_both-requires : goal.of_both-requires
of_both-requires t c =
    let op = binary_of c.in-Binary.operator in
    let right = rw c.deref-in-Binary.ensures at c.in_ok-right-in-Binary.ensures in
    let left = rw c.deref-in-Binary-2.ensures at c.in_ok-left-in-Binary.ensures in
    let still = right-still _ _ _ _ _ _ _ _ right left in
    let items = c.put_facts-in-Binary-2.new.facts.items in
    let lefts = there items c.in_ok-left-in-Binary.left left.own c.index-in-Binary.result.now c.index-in-Binary.ensures left.there in
    let rights = there items c.in_ok-right-in-Binary.right right.own c.index-in-Binary-2.result.now c.index-in-Binary-2.ensures still in
    let typed = typed-both c.args.catalog.now (plan_of c.args.node.now) _ _ _ (plan_of c.in-Binary.left.value) (plan_of c.in-Binary.right.value) (ap plan_of c.in-Binary.is) c.requires in
    ap (λ (k : Facts). both_within (length k.firsts) (length c.index-in-Binary-2.result.now.firsts.items) op) lefts ∙ ap (λ (k : Facts). both_within (length left.own.firsts) (length k.firsts) op) rights
    ∙ ap (λ v. both_within v (length right.own.firsts) op) left.is.wide ∙ ap (λ w. both_within (width (relation_at c.args.catalog.now) (plan_of c.in-Binary.left.value)) w op) right.is.wide ∙ typed.2

pub index-requires-in-Exchange : goal.index-requires-in-Exchange
index-requires-in-Exchange t c =
    let below = c.in_ok-below-in-Exchange.ensures in
    let h = within c.put_facts-in-Exchange.new.facts.items c.in_ok-below-in-Exchange.below below.own below.there in
    omega (arith, h, c.put_facts-in-Exchange.new.facts.ok.0)

pub returns-in_ok-own-in-Scan : goal.returns-in_ok-own-in-Scan
returns-in_ok-own-in-Scan t c =
    let catalog = relation_at c.args.catalog.now in
    let wide = ap length (c.types.ensures ∙ ap (λ r. r.types) c.get.ensures.value) in
    let facts = subst (λ w. Keeps w each_itself (λ d. []) (facts_of c.in_ok-own-in-Scan.own)) wide c.in_ok-own-in-Scan.ensures in
    IfOk-weaker c.put.result _ _ (λ at h. put-scan catalog (plan_of c.args.node.now) _ _ _ _ _ (facts_of c.in_ok-own-in-Scan.own) _ _ at (ap plan_of c.in-Scan.is) facts h.0 h.1) c.put.ensures

pub returns-in_ok-own-in-Unary : goal.returns-in_ok-own-in-Unary
returns-in_ok-own-in-Unary t c =
    let catalog = relation_at c.args.catalog.now in
    let x : Plan = plan_of c.args.node.now in
    let p : Plan = plan_of c.in-Unary.input.value in
    let below = rw c.deref.ensures at c.in_ok-below-in-Unary.ensures in
    let same = there c.put_facts.new.facts.items c.in_ok-below-in-Unary.below below.own c.index.result.now c.index.ensures below.there in
    let keeps = subst (λ k. AreFactsOf catalog p k) (sym same) below.is in
    let own = facts_of c.in_ok-own-in-Unary.own in
    let facts = unary-facts catalog x _ _ _ p (facts_of c.index.result.now) own (ap plan_of c.in-Unary.is) keeps c.in_ok-own-in-Unary.ensures in
    IfOk-weaker c.put-in-Unary.result _ _ (λ at h. put-unary catalog x _ _ _ p own _ _ _ _ at (ap plan_of c.in-Unary.is) below facts h.0 h.1) c.put-in-Unary.ensures

pub returns-in_ok-own-in-Binary : goal.returns-in_ok-own-in-Binary
returns-in_ok-own-in-Binary t c =
    let catalog = relation_at c.args.catalog.now in
    let x : Plan = plan_of c.args.node.now in
    let p : Plan = plan_of c.in-Binary.left.value in
    let q : Plan = plan_of c.in-Binary.right.value in
    let right = rw c.deref-in-Binary.ensures at c.in_ok-right-in-Binary.ensures in
    let left = rw c.deref-in-Binary-2.ensures at c.in_ok-left-in-Binary.ensures in
    let still = right-still _ _ _ _ _ _ _ _ right left in
    let items = c.put_facts-in-Binary-2.new.facts.items in
    let lefts = there items c.in_ok-left-in-Binary.left left.own c.index-in-Binary.result.now c.index-in-Binary.ensures left.there in
    let rights = there items c.in_ok-right-in-Binary.right right.own c.index-in-Binary-2.result.now c.index-in-Binary-2.ensures still in
    let own = facts_of c.in_ok-own-in-Binary.own in
    let facts = both-facts catalog x _ _ _ p q (facts_of c.index-in-Binary.result.now) (facts_of c.index-in-Binary-2.result.now) own (ap plan_of c.in-Binary.is) (subst (λ k. AreFactsOf catalog p k) (sym lefts) left.is)
    (subst (λ k. AreFactsOf catalog q k) (sym rights) right.is) c.in_ok-own-in-Binary.ensures in
    IfOk-weaker c.put-in-Binary.result _ _ (λ at h. put-binary catalog x _ _ _ p q own _ _ _ _ _ _ at (ap plan_of c.in-Binary.is) right left facts h.0 h.1) c.put-in-Binary.ensures

pub returns-in_ok-own-in-Exchange : goal.returns-in_ok-own-in-Exchange
returns-in_ok-own-in-Exchange t c =
    let catalog = relation_at c.args.catalog.now in
    let x : Plan = plan_of c.args.node.now in
    let p : Plan = plan_of c.in-Exchange.input.value in
    let below = rw c.deref-in-Exchange.ensures at c.in_ok-below-in-Exchange.ensures in
    let same = there c.put_facts-in-Exchange.new.facts.items c.in_ok-below-in-Exchange.below below.own c.index-in-Exchange.result.now c.index-in-Exchange.ensures below.there in
    let own = facts_of c.in_ok-own-in-Exchange.own in
    let facts = same-facts catalog x _ _ _ _ p below.own own (ap plan_of c.in-Exchange.is) (c.in_ok-own-in-Exchange.ensures ∙ same) below.is in
    IfOk-weaker c.put-in-Exchange.result _ _ (λ at h. put-exchange catalog x _ _ _ _ p own _ _ _ _ at (ap plan_of c.in-Exchange.is) below facts h.0 h.1) c.put-in-Exchange.ensures
