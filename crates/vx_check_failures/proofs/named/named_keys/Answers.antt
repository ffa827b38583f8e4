use Rattle.std.proofs.Common.{refl}
use Rattle.vx_plan_facts.specs.FactsView.{width_of}
use Rattle.vx_check_rules.proofs.KeySteps.{key-at}
use Rattle.vx_check_failures.proofs.named.named_keys.Goals as goal

pub named-requires : goal.named-requires
named-requires c = rw c.as_slice.ensures.value (key-at (width_of c.args.facts.now) c.args.keys.now _ c.loop-key.key-index c.key-item.result refl c.requires c.loop-key-test.true c.key-item.is)
