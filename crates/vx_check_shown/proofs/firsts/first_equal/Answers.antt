use Rattle.std.proofs.Common.{◌∙◌}
use Rattle.vx_plan_nodes.specs.Outline.{plan_of}
use Rattle.vx_plan_nodes.specs.Types.{width}
use Rattle.vx_plan_facts.specs.Equal.{equal_at}
use Rattle.vx_plan_facts.specs.Fixed.{fixed_at}
use Rattle.vx_plan_facts.specs.FactsView.{facts_of}
use Rattle.vx_check_shown.proofs.KeyColumns.{told-first}
use Rattle.vx_check_shown.proofs.firsts.first_equal.Goals as goal

pub returns : goal.returns
returns c = λ catalog h l.
    let p = plan_of c.args.node.now in
    let k = c.facts_of.result.now in
    c.first_of.ensures.first ∙ told-first (width catalog p) (equal_at catalog p) (fixed_at catalog p) (facts_of k) k.named (c.facts_of.ensures catalog h) c.args.column l
