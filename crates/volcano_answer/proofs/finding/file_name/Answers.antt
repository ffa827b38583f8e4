use Rattle.std.proofs.Common.{◌++◌, inr, refl, arith}
use Rattle.std.specs.Prelude.{codes}
use Rattle.std.specs.List.{before_first}
use Rattle.volcano_answer.proofs.FindingFacts.{no_slash, is_slash, front_of_rest}
use Rattle.volcano_answer.proofs.finding.file_name.Goals as goal

pub loop-rest-preserved : goal.loop-rest-preserved
loop-rest-preserved c =
    let found = c.in-Some.ensures.byte (omega arith) (λ w o x. x) in
    let given = c.loop-rest.invariant.0 in
    let before = before_first is_slash c.loop-rest.name.now in
    (((given.0 ++ before) ++ codes "/", inr (given.0 ++ before, refl), front_of_rest _ given.0 _ _ given.2 found.2 found.1), search)

pub returns : goal.returns
returns c =
    let none = c.in_default.ensures.byte (omega arith) (λ w o x. x) in
    let given = c.loop-rest.invariant.0 in
    (given.0, given.1, given.2, no_slash _ none)
