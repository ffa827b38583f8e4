use Rattle.vx_check_rules.specs.KeyedView.{all_keyed_in}
use Rattle.vx_check_options.specs.FoundKeys.{show, IsPart}
use Rattle.vx_check_options.proofs.keys.needed.Given as goal

abbrev pub invariant-loop-i : goal.invariant-loop-i
invariant-loop-i l = IsPart (show (all_keyed_in l.keyed)) l.key l.part.items
