use Rattle.std.proofs.Common.{◌≡◌, ◌∙◌, ◌++◌, length, map, ap, sym, reverse}
use Rattle.std.proofs.lemmas.List.{length-map, length-reverse}
use Rattle.vx_catalog_relations.specs.Catalog.{relation_at}
use Rattle.vx_plan_nodes.specs.TypedView.{plan}
use Rattle.vx_plan_facts.specs.FactsView.{facts_of}
use Rattle.vx_plan_facts.proofs.Numbers.{numbered-all, map-reverse, count}
use Rattle.vx_plan_facts.proofs.numbered.column_facts.Goals as goal

pub returns-clause-facts : goal.returns-clause-facts
returns-clause-facts c =
    let put = rw (c.catalog.ensures, c.root.ensures.plan) at c.in_ok-put_facts.ensures in
    let made : map facts_of c.put_facts.new.facts.items ≡ put.made = put.put ∙ ap (λ xs. map facts_of xs ++ put.made) c.new-facts.ensures.items in
    let all = ap (map facts_of) c.reverse.ensures.items ∙ map-reverse facts_of c.put_facts.new.facts.items ∙ ap reverse made in
    numbered-all (relation_at c.args.plan.now.catalog) (plan c.args.plan.now) put.made _ put.all c.args.plan.now.numbered all

pub returns-clause-count : goal.returns-clause-count
returns-clause-count c =
    let put = rw (c.catalog.ensures, c.root.ensures.plan) at c.in_ok-put_facts.ensures in
    let items = c.put_facts.new.facts.items in
    let made : map facts_of items ≡ put.made = put.put ∙ ap (λ xs. map facts_of xs ++ put.made) c.new-facts.ensures.items in
    ap length c.reverse.ensures.items ∙ length-reverse items ∙ sym (length-map items facts_of) ∙ ap length made ∙ count (relation_at c.args.plan.now.catalog) (plan c.args.plan.now) put.made put.all
