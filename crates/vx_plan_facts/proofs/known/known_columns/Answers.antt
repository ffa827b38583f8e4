use Rattle.std.proofs.Common.{◌≡◌, ◌∙◌, length, sym, arith}
use Rattle.std.specs.Vec.{vec_len}
use Rattle.std.proofs.lemmas.List.{length-map}
use Rattle.vx_catalog_relations.specs.Catalog.{relation_at}
use Rattle.vx_plan_nodes.specs.TypedView.{scope, plan as whole_plan}
use Rattle.vx_plan_facts.proofs.WellTyped.{typed-well-formed}
use Rattle.vx_plan_facts.proofs.TypedKnown.{typed-known}
use Rattle.vx_plan_facts.proofs.KnownFacts.{stand-all}
use Rattle.vx_plan_facts.proofs.KeptFacts.{none-are}
use Rattle.vx_plan_facts.specs.FactsView.{facts_of}
use Rattle.vx_plan_facts.proofs.known.known_columns.Goals as goal

pub returns-clause-known : goal.returns-clause-known
returns-clause-known c =
    let s = scope c.args.plan.now in
    let p = whole_plan c.args.plan.now in
    let fs = c.in_ok-facts.facts in
    let count : vec_len fs ≡ length fs.items = omega (arith, fs.ok.0) in
    let typed = c.args.plan.now.typed_nodes in
    record {
      known = typed-known s _ p typed (typed-well-formed s p typed) c.in_ok-facts.ensures.facts;
      among = stand-all p c.args.plan.now.numbered;
      kept = record {
        wide = c.in_ok-answers.ensures.count ∙ c.len.ensures ∙ count ∙ sym (length-map fs.items facts_of);
        right = λ n q a at there. none-are (relation_at s.catalog) q a (c.in_ok-answers.ensures.none n a there);
      };
    }
