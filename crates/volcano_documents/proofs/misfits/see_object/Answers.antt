use Rattle.volcano_documents.specs.Shapes.{names_of}
use Rattle.volcano_documents.proofs.misfits.see_object.Goals as goal

pub returns-in-Some-3 : goal.returns-in-Some-3
returns-in-Some-3 c = (rw c.in-Some-3.is at c.in_ok-seen-2.ensures) (names_of c.args.members.now)
