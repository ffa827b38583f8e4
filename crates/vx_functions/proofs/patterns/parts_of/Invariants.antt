use Rattle.std.proofs.Common.{◌≡◌, ◌++◌, drop, false}
use Rattle.vx_functions.specs.Like.{parts_after}
use Rattle.vx_functions.proofs.patterns.parts_of.Given as goal

abbrev pub invariant-loop-character : goal.invariant-loop-character
invariant-loop-character l = l.parts.items ++ parts_after l.is_escaped (drop l.character-index l.pattern) ≡ parts_after false l.pattern
