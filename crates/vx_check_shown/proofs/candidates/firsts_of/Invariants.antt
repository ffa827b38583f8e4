use Rattle.std.proofs.Common.{◌≡◌, map, take}
use Rattle.vx_check_shown.specs.ShownKeys.{firsts_of}
use Rattle.vx_check_shown.proofs.candidates.firsts_of.Given as goal

abbrev pub invariant-loop-choice : goal.invariant-loop-choice
invariant-loop-choice l = l.firsts.items ≡ firsts_of (map (λ k. k.items) (take l.choice-index l.choices))
