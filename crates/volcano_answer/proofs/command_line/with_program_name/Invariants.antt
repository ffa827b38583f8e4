use Rattle.std.proofs.Common.{◌≡◌, ◌∷◌, map, take, codes}
use Rattle.volcano_answer.specs.CommandLine.{spelled}
use Rattle.volcano_answer.proofs.command_line.with_program_name.Given as goal

abbrev pub invariant-loop-place : goal.invariant-loop-place
invariant-loop-place l = map (λ a. a.now) l.all.items ≡ codes "volcano" ∷ take l.place (spelled l.command (map (λ a. a.now) l.arguments))
