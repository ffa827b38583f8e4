use Rattle.std.proofs.Common.{◌∙◌, ap}
use Rattle.vx_catalog_relations.specs.Catalog.{relation_at}
use Rattle.vx_plan_nodes.specs.Outline.{outline_of, plan_of}
use Rattle.vx_plan_nodes.specs.TypedView.{names_in}
use Rattle.vx_check_rules.specs.RuleView.{rule_of}
use Rattle.vx_check_rules.proofs.NamedKeys.{named-here}
use Rattle.vx_check_failures.proofs.TableSteps.{still-table}
use Rattle.vx_check_sentences.specs.Shown.{shown_text}
use Rattle.vx_check_sentences.proofs.explaining.explained.Goals as goal

pub shown_claim-requires-clause-keys : goal.shown_claim-requires-clause-keys
shown_claim-requires-clause-keys c = rw c.catalog.ensures (named-here (relation_at (names_in c.args.plan.now).catalog) (plan_of c.args.node.now) c.requires.node.keys)

pub shown_claim-requires-clause-judges : goal.shown_claim-requires-clause-judges
shown_claim-requires-clause-judges c = rw c.catalog.ensures (c.requires.node.judged c.args.table.now c.requires.table.judges)

pub help-requires-clause-table : goal.help-requires-clause-table
help-requires-clause-table c =
    still-table c.args.table.now c.shown_claim.new.table c.args.plan.now (plan_of c.args.node.now) c.requires.table (c.requires.node.judged c.args.table.now c.requires.table.judges) c.in_ok-claim.ensures.stays

pub returns-clause-shown : goal.returns-clause-shown
returns-clause-shown c =
    c.in_ok-shown.ensures
    ∙ ap (shown_text (names_in c.args.plan.now) (rule_of c.args.rule) (outline_of c.args.node.now)) (rw (c.catalog.ensures, c.requires.table.derives_as) at c.in_ok-claim.ensures.claim)
