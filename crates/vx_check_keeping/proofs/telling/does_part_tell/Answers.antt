use Rattle.std.proofs.Common.{◌≡◌, ◌∙◌, ◌||◌, false, sym, ap}
use Rattle.vx_plan_nodes.specs.Outline.{part_of, plan_of}
use Rattle.vx_plan_nodes.specs.Plan.{claim, size, is_one}
use Rattle.vx_plan_nodes.specs.Types.{width}
use Rattle.vx_plan_facts.specs.Equal.{equal_at}
use Rattle.vx_check_rules.specs.Rules.{part_gives}
use Rattle.vx_check_rules.specs.Derived.{part_matches}
use Rattle.vx_check_rules.specs.DerivedView.{equality_of}
use Rattle.vx_check_rules.proofs.EqualBelow.{matches-same}
use Rattle.vx_check_rules.proofs.NamedNodes.{part-below}
use Rattle.vx_check_shown.specs.PartLaws.{told}
use Rattle.vx_check_shown.proofs.PartSteps.{equal-same}
use Rattle.vx_check_keeping.proofs.telling.does_part_tell.Goals as goal

pub returns-else-gives : goal.returns-else-gives
returns-else-gives c = λ catalog is below.
    let p = plan_of c.args.node.now in
    let k = c.facts_of.result.now in
    let e = equal_at catalog p in
    let mine = (claim p).part in
    let wanted = part_of c.args.wanted.now in
    let gives = rw c.claimed_part-part.ensures at c.gives.ensures in
    let no : part_gives mine wanted ≡ false = sym gives ∙ c.if-gives.false in
    let several : is_one (size p) ≡ false = sym c.has_one_worker.ensures ∙ c.if-has_one_worker.false in
    let same = rw (c.seen.ensures, c.claimed_part-part.ensures, c.seen-else-gives.ensures) at c.is_same_equally.ensures in
    same ∙ matches-same (width catalog p) (equality_of k) e (equal-same catalog p k (c.facts_of.ensures catalog is)) mine wanted (part-below catalog c.args.known.now p is) below
    ∙ sym (ap (λ b. b || part_matches e mine wanted) no) ∙ sym (ap (λ b. b || told e mine wanted) several)
