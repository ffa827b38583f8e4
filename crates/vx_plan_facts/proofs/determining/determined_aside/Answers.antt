use Rattle.std.proofs.Common.{◌&&◌, ◌∙◌, ap, map, nat_lt}
use Rattle.vx_plan_nodes.specs.Outline.{plan_of}
use Rattle.vx_plan_nodes.specs.Types.{width}
use Rattle.vx_plan_facts.specs.FactsView.{facts_of}
use Rattle.vx_plan_facts.specs.ColumnSetView.{set_of_columns}
use Rattle.vx_plan_facts.proofs.Searching.{known-aside, aside-same}
use Rattle.vx_plan_facts.proofs.determining.determined_aside.Goals as goal

pub with_keys-requires : goal.with_keys-requires
with_keys-requires c =
    let h = c.requires.2 in
    (c.requires.0, c.requires.1, record { known = known-aside c.requires.0 (map facts_of c.args.facts.now) (plan_of c.args.node.now) h.known; among = h.among; kept = h.kept })

pub returns-clause-answer : goal.returns-clause-answer
returns-clause-answer c catalog all h d =
    let p = plan_of c.args.node.now in
    c.with_keys.ensures.answer catalog all (record { known = known-aside catalog (map facts_of c.args.facts.now) p h.known; among = h.among; kept = h.kept }) d
    ∙ ap (λ b. nat_lt d (width catalog p) && b) (aside-same catalog p (set_of_columns c.args.set.now) d)

pub returns-clause-kept : goal.returns-clause-kept
returns-clause-kept c catalog all h =
    c.with_keys.ensures.kept catalog all
    (record { known = known-aside catalog (map facts_of c.args.facts.now) (plan_of c.args.node.now) h.known; among = h.among; kept = h.kept })
