use Rattle.volcano_embedding.specs.Annotated.{for_reason}
use Rattle.volcano_embedding.proofs.annotating.annotated_plan.Goals as goal

pub returns-in-Err-clause-refused : goal.returns-in-Err-clause-refused
returns-in-Err-clause-refused c = for_reason c.in-Err.fault c.refusal_of.ensures c.in-Err.ensures.refused
