use Rattle.volcano_answer.specs.Arguments.{without_number}
use Rattle.volcano_answer.proofs.ArgumentFacts.{cut_at}
use Rattle.volcano_answer.proofs.arguments.size_in.Goals as goal

pub returns-in_default-number_in : goal.returns-in_default-number_in
returns-in_default-number_in c =
    without_number c.in-Some.name.now c.in-Some.number.now (cut_at c.args.argument.now c.in-Some.name.now c.in-Some.number.now c.in-Some.ensures.cases) (rw c.in_default-number_in.is at c.number_in.ensures)
