use Rattle.std.proofs.Common.{◌∙◌, ap, sym}
use Rattle.vx_plan_nodes.specs.Outline.{claim_of, unary_of, plan_of}
use Rattle.vx_plan_nodes.specs.Plan.{Plan, Unary}
use Rattle.vx_check_rules.specs.Derived.{first_rows_known_derived}
use Rattle.vx_check_rules.proofs.KeySteps.{first-is, known-in}
use Rattle.vx_check_rules.proofs.derived_keys.are_first_rows_known_derived.Goals as goal

pub are_first_known-requires : goal.are_first_known-requires
are_first_known-requires c =
    let b = c.in-Unary in
    let under = known-in c.requires.0 c.args.known.now (plan_of c.args.node.now) b.field-0.number (claim_of b.field-0.claim) (unary_of b.operator) (plan_of b.input.value) (ap plan_of b.is)
    c.requires.1 in
    let has = rw b.is at c.requires.2 in
    rw c.deref.ensures (c.requires.0, under, has.1)

pub returns-in-Unary-clause-first : goal.returns-in-Unary-clause-first
returns-in-Unary-clause-first c = λ catalog h given.
    let b = c.in-Unary in
    let p : Plan = plan_of b.input.value in
    let op : Unary = unary_of b.operator in
    let under = known-in catalog c.args.known.now (plan_of c.args.node.now) b.field-0.number (claim_of b.field-0.claim) op p (ap plan_of b.is) h in
    let has = rw b.is at given in
    let told = (rw c.deref.ensures at c.are_first_known.ensures.first) catalog under has.1 in
    told ∙ sym (first-is catalog b.field-0.number (claim_of b.field-0.claim) op p) ∙ sym (ap (first_rows_known_derived catalog) (ap plan_of b.is))

pub returns-in-Unary-clause-kept : goal.returns-in-Unary-clause-kept
returns-in-Unary-clause-kept c = λ catalog here q known.
    let b = c.in-Unary in
    let under = known-in catalog c.args.known.now (plan_of c.args.node.now) b.field-0.number (claim_of b.field-0.claim) (unary_of b.operator) (plan_of b.input.value) (ap plan_of b.is) here in
    (rw c.deref.ensures at c.are_first_known.ensures.kept) catalog under q known
