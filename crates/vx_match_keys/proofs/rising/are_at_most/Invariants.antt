use Rattle.vx_match_keys.specs.Rising.{AtMostAnswer}
use Rattle.vx_match_keys.proofs.rising.are_at_most.Given as goal

abbrev pub invariant-loop-i : goal.invariant-loop-i
invariant-loop-i l = AtMostAnswer l.lower l.upper l.i l.all
