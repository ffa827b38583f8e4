use Rattle.std.proofs.Common.{inl, inr, refl}
use Rattle.volcano_answer.proofs.command.accepted.Goals as goal

pub returns-in-Err-Refused-clause-refused : goal.returns-in-Err-Refused-clause-refused
returns-in-Err-Refused-clause-refused c = let fault = rw c.in-Err-Refused.field-0-is at c.in-Err-Refused.ensures.refused in inl (c.in-Err-Refused.refused.rule, c.in-Err-Refused.refused.node, refl, fault.0)

pub returns-in-Err-NoMemory-clause-refused : goal.returns-in-Err-NoMemory-clause-refused
returns-in-Err-NoMemory-clause-refused c = let fault = rw c.in-Err-NoMemory.field-0-is at c.in-Err-NoMemory.ensures.refused in inr (fault, refl)
