use Rattle.volcano_embedding.proofs.replies.answer.Goals as goal

pub returns-in-Check-clause-refused : goal.returns-in-Check-clause-refused
returns-in-Check-clause-refused c = rw c.in-Check.is c.check_reply.ensures.refused

pub returns-in-CheckAll-clause-refused : goal.returns-in-CheckAll-clause-refused
returns-in-CheckAll-clause-refused c = rw c.in-CheckAll.is c.check_all_reply.ensures.refused

pub returns-in-Explain-clause-refused : goal.returns-in-Explain-clause-refused
returns-in-Explain-clause-refused c = rw c.in-Explain.is c.explain_reply.ensures.refused

pub returns-in-Annotate-clause-refused : goal.returns-in-Annotate-clause-refused
returns-in-Annotate-clause-refused c = rw c.in-Annotate.is c.annotate_reply.ensures.refused

pub returns-in-Evaluate-clause-refused : goal.returns-in-Evaluate-clause-refused
returns-in-Evaluate-clause-refused c = rw c.in-Evaluate.is c.evaluate_reply.ensures.refused
