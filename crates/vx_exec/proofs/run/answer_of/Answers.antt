use Rattle.vx_exec.proofs.run.answer_of.Goals as goal

pub rows_of_root-requires-clause-keeps : goal.rows_of_root-requires-clause-keeps
rows_of_root-requires-clause-keeps g c = c.requires.keeps c.in-Done.is
