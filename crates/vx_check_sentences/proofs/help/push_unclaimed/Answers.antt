use Rattle.vx_catalog_relations.specs.Catalog.{relation_at}
use Rattle.vx_plan_nodes.specs.Outline.{plan_of}
use Rattle.vx_plan_nodes.specs.TypedView.{names_in}
use Rattle.vx_check_rules.proofs.NamedKeys.{named-here}
use Rattle.vx_check_failures.proofs.TableSteps.{still-table}
use Rattle.vx_check_sentences.proofs.help.push_unclaimed.Goals as goal

pub shown_claim-requires-clause-keys : goal.shown_claim-requires-clause-keys
shown_claim-requires-clause-keys c = rw c.catalog.ensures (named-here (relation_at (names_in c.args.plan.now).catalog) (plan_of c.args.input.now) c.requires.node.keys)

pub shown_claim-requires-clause-judges : goal.shown_claim-requires-clause-judges
shown_claim-requires-clause-judges c = rw c.catalog.ensures (c.requires.node.judged c.args.table.now c.requires.table.judges)

pub tells-requires : goal.tells-requires
tells-requires c = (
  (names_in c.args.plan.now).catalog,
  (c.in_ok-claim.ensures.stays.judges (names_in c.args.plan.now).catalog (c.requires.node.judged c.args.table.now c.requires.table.judges) (plan_of c.args.input.now) (c.requires.node.judged c.args.table.now c.requires.table.judges)),
)
