use Rattle.std.proofs.Common.{◌∙◌, ℕ, List, ap, sym}
use Rattle.vx_plan_nodes.specs.Outline.{claim_of, unary_of, plan_of}
use Rattle.vx_plan_nodes.specs.Plan.{Plan, Unary}
use Rattle.vx_check_rules.specs.Derived.{key_below}
use Rattle.vx_check_rules.proofs.KeySteps.{projected-is, known-in, key-over}
use Rattle.vx_check_rules.proofs.derived_keys.is_key_below.Goals as goal

pub is_projected_below-requires : goal.is_projected_below-requires
is_projected_below-requires c =
    let b = c.in-Unary in
    let over = key-over c.requires.0 c.args.known.now (plan_of c.args.node.now) b.field-0.number (claim_of b.field-0.claim) (unary_of b.operator) (plan_of b.input.value) c.args.key.now
    (ap plan_of b.is) c.requires.1 in
    rw c.deref.ensures (c.requires.0, over)

pub returns-in-Unary-clause-below : goal.returns-in-Unary-clause-below
returns-in-Unary-clause-below c = λ catalog h.
    let b = c.in-Unary in
    let p : Plan = plan_of b.input.value in
    let op : Unary = unary_of b.operator in
    let key : List ℕ = c.args.key.now in
    let over = key-over catalog c.args.known.now (plan_of c.args.node.now) b.field-0.number (claim_of b.field-0.claim) op p key (ap plan_of b.is) h in
    let told = (rw c.deref.ensures at c.is_projected_below.ensures.below) catalog over in
    told ∙ sym (projected-is catalog b.field-0.number (claim_of b.field-0.claim) op p key) ∙ sym (ap (λ z. key_below catalog z key) (ap plan_of b.is))

pub returns-in-Unary-clause-kept : goal.returns-in-Unary-clause-kept
returns-in-Unary-clause-kept c = λ catalog here q known.
    let b = c.in-Unary in
    let under = known-in catalog c.args.known.now (plan_of c.args.node.now) b.field-0.number (claim_of b.field-0.claim) (unary_of b.operator) (plan_of b.input.value) (ap plan_of b.is) here in
    (rw c.deref.ensures at c.is_projected_below.ensures.kept) catalog under q known
