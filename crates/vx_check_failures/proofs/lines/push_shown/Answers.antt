use Rattle.vx_catalog_relations.specs.Catalog.{relation_at}
use Rattle.vx_plan_nodes.specs.Outline.{plan_of}
use Rattle.vx_plan_nodes.specs.TypedView.{names_in}
use Rattle.vx_check_rules.proofs.NamedKeys.{named-here}
use Rattle.vx_check_failures.proofs.TableSteps.{still-after}
use Rattle.vx_check_failures.proofs.lines.push_shown.Goals as goal

pub shown_claim-requires-clause-keys : goal.shown_claim-requires-clause-keys
shown_claim-requires-clause-keys c =
    let is = rw c.in-Some.is at c.requires.node in
    rw c.catalog.ensures (named-here (relation_at (names_in c.args.plan.now).catalog) (plan_of c.in-Some.node.now) is.keys)

pub shown_claim-requires-clause-judges : goal.shown_claim-requires-clause-judges
shown_claim-requires-clause-judges c =
    let is = rw c.in-Some.is at c.requires.node in
    rw c.catalog.ensures (is.judged c.args.table.now c.requires.table.judges)

pub returns-clause-text : goal.returns-clause-text
returns-clause-text c =
    let shown = rw (c.catalog.ensures, c.requires.table.derives_as) at c.in_ok-claim.ensures.claim in
    rw c.in-Some.is (rw (c.column_names.ensures, shown) at c.push_claim.ensures)

pub returns-clause-table : goal.returns-clause-table
returns-clause-table c =
    let is = rw c.in-Some.is at c.requires.node in
    still-after c.push_claim.result c.args.table.now c.shown_claim.new.table c.args.plan.now (plan_of c.in-Some.node.now) c.requires.table (is.judged c.args.table.now c.requires.table.judges) c.in_ok-claim.ensures.stays
