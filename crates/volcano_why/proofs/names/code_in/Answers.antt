use Rattle.std.proofs.Common.{◌∙◌, ap, option_map}
use Rattle.volcano_why.specs.Codes.{is_code}
use Rattle.volcano_why.proofs.CodeFacts.{code_found, found_passes}
use Rattle.volcano_why.proofs.names.code_in.Goals as goal

pub returns-clause-is : goal.returns-clause-is
returns-clause-is c = ap (option_map (λ c. c.now)) c.first_in.ensures ∙ code_found c.args.word.now c.args.names.now

pub returns-clause-listed : goal.returns-clause-listed
returns-clause-listed c = rw c.first_in.ensures (found_passes c.args.word.now is_code c.args.names.now c.requires)
