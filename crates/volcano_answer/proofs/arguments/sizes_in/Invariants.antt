use Rattle.std.proofs.Common.{map, take}
use Rattle.vx_exec_setup.specs.Setup.{entry_of}
use Rattle.volcano_answer.specs.Arguments.{AreSizes}
use Rattle.volcano_answer.proofs.arguments.sizes_in.Given as goal

abbrev pub invariant-loop-argument : goal.invariant-loop-argument
invariant-loop-argument l = AreSizes (map (λ a. a.now) (take l.argument-index l.arguments)) (map entry_of l.sizes.items)
