use Rattle.std.proofs.Common.{◌≡◌, drop}
use Rattle.vx_check_rules.specs.Rules.{within}
use Rattle.vx_check_options.proofs.choices.is_within.Given as goal

abbrev pub invariant-loop-column : goal.invariant-loop-column
invariant-loop-column l = within l.columns l.others ≡ within (drop l.column-index l.columns) l.others
