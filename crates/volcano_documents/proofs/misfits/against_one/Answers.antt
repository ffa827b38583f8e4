use Rattle.std.proofs.Common.{rules}
use Rattle.volcano_documents.proofs.misfits.against_one.Goals as goal

pub returns-then-has_second : goal.returns-then-has_second
returns-then-has_second c = λ words. c.in_ok-wrong_member.ensures words (search rules)
