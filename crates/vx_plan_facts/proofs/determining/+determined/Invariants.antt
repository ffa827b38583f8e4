use Rattle.std.proofs.Common.{ℕ, ◌+◌, ◌*◌, List, map, option_map}
use Rattle.vx_catalog_relations.specs.Relation.{Relation}
use Rattle.vx_plan_nodes.specs.Numbering.{nodes}
use Rattle.vx_plan_nodes.specs.Outline.{plan_of}
use Rattle.vx_plan_facts.specs.FactsView.{facts_of}
use Rattle.vx_plan_facts.specs.ColumnSetView.{set_of_columns}
use Rattle.vx_plan_nodes.specs.Plan.{Plan}
use Rattle.vx_plan_facts.specs.Asking.{with_keys}
use Rattle.vx_plan_facts.specs.AnswersView.{IsKnownWith}
use Rattle.vx_plan_facts.specs.AskingView.{input_of, answer_of}
use Rattle.vx_plan_facts.proofs.Searching.{asked-size, room}
use Rattle.vx_plan_facts.proofs.KeptFacts.{StillKnown}
use Rattle.vx_plan_facts.proofs.determining.+determined.Given as goal

abbrev pub decreases-ask : goal.decreases-ask
decreases-ask l = asked-size (option_map input_of l.input)

abbrev pub decreases-determined : goal.decreases-determined
decreases-determined l = 4 * nodes (plan_of l.node.now) + 2

abbrev pub decreases-with_keys : goal.decreases-with_keys
decreases-with_keys l = 4 * nodes (plan_of l.node.now) + 1

abbrev pub invariant-with_keys-loop-right : goal.invariant-with_keys-loop-right
invariant-with_keys-loop-right l =
    (catalog : ℕ → Relation) (all : List Plan) → IsKnownWith catalog all (map facts_of l.facts) l.fn.answers (map (λ k. k.items) l.keys) (plan_of l.node)
    → StillKnown catalog all (map facts_of l.facts) l.answers (with_keys (map (λ k. k.items) l.keys) (plan_of l.node)) (set_of_columns l.set) (set_of_columns l.found) (answer_of l.lefts)
    (answer_of l.rights)

abbrev pub decreases-with_keys-loop-right : goal.decreases-with_keys-loop-right
decreases-with_keys-loop-right l = room (answer_of l.lefts) + room (answer_of l.rights)
