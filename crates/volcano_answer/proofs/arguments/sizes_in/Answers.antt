use Rattle.std.proofs.Common.{rules, ◌<◌, length, map}
use Rattle.vx_exec_setup.specs.Setup.{entry_of}
use Rattle.volcano_answer.proofs.ArgumentFacts.{size_missing, sizes_grow}
use Rattle.volcano_answer.proofs.arguments.sizes_in.Goals as goal

pub returns-in_default : goal.returns-in_default
returns-in_default c =
    let there : c.loop-argument.argument-index < length c.args.arguments.now = search rules in
    size_missing (λ a. a.now) c.args.arguments.now c.loop-argument.argument-index _ (map entry_of c.loop-argument.sizes.items) there c.loop-argument.invariant (rw c.in_default.is at c.in_ok-size.ensures)

pub loop-argument-preserved : goal.loop-argument-preserved
loop-argument-preserved c =
    let there : c.loop-argument.argument-index < length c.args.arguments.now = search rules in
    sizes_grow (λ a. a.now) c.args.arguments.now c.loop-argument.argument-index _ c.loop-argument.sizes.items c.push.new.self.items c.in-Some.size there c.loop-argument.invariant (rw c.in-Some.is at c.in_ok-size.ensures)
    c.in_ok-push.ensures.items
