use Rattle.volcano_documents.specs.Shapes.{names_of}
use Rattle.volcano_documents.proofs.misfits.see_members.Goals as goal

pub returns-in-Some-missing_name : goal.returns-in-Some-missing_name
returns-in-Some-missing_name c = c.in_ok-missing_member-in-Some-missing_name.ensures (names_of c.args.members.now)
