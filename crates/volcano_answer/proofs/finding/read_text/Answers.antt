use Rattle.volcano_answer.proofs.FindingFacts.{path_fault_of}
use Rattle.volcano_answer.proofs.finding.read_text.Goals as goal

pub returns-in_default-clause-refused : goal.returns-in_default-clause-refused
returns-in_default-clause-refused g c =
    path_fault_of (g.F.Store.holds c.args.files.now) (g.F.Store.is_reliable c.args.files.now) c.args.path.now _ c.usage_fault.result c.in_default.ensures.none c.usage_fault.ensures
