-- A wrong part of the command line as it is held.
use Rattle.volcano_arguments.specs.Asked.{Ask}
use Rattle.volcano_answer.specs.declared.usage.WrongPart.{WrongPart}
use Rattle.volcano_answer.specs.CommandLine.{IsNoTask}
use Rattle.volcano_answer.specs.Usage.{IsWrong}

-- what is asked for is not there, for this part
abbrev pub IsUnmet : Ask → WrongPart → Type 0
IsUnmet ask wrong = IsNoTask ask × IsWrong ask wrong.before.now wrong.argument.now
