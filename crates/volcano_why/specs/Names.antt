-- A code with its name as the program holds them.
use Rattle.volcano_why.specs.Codes.{Named}
use Rattle.volcano_why.specs.declared.names.CodeName.{CodeName}

abbrev pub named_is : CodeName → Named
named_is n = (n.0.now, n.1.now)
