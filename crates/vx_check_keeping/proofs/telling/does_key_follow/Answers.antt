use Rattle.std.proofs.Common.{◌∙◌}
use Rattle.vx_plan_nodes.specs.Outline.{plan_of}
use Rattle.vx_plan_facts.specs.ColumnSetView.{set_of_columns}
use Rattle.vx_plan_facts.specs.Following.{set_of}
use Rattle.vx_check_rules.proofs.KeySteps.{key-found}
use Rattle.vx_check_keeping.proofs.telling.does_key_follow.Goals as goal

pub returns-clause-follows : goal.returns-clause-follows
returns-clause-follows c = λ catalog known.
    c.is_key_within.ensures
    ∙ key-found catalog c.args.known.now (plan_of c.args.node.now) known (set_of_columns c.of.result) (set_of c.args.key.now) (set_of_columns c.determined-found.result) c.of.ensures
    (c.determined-found.ensures.answer catalog known) c.claimed_keys.result.now c.claimed_keys.ensures
