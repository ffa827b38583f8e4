use Rattle.std.proofs.Common.{arith, ◌∙◌}
use Rattle.vx_catalog_bytes.proofs.PortFacts.{appends_more, or_false}
use Rattle.vx_wisconsin.proofs.RelationFacts.{rows-meet}
use Rattle.vx_wisconsin.proofs.TextFacts.{or-true}
use Rattle.vx_wisconsin.proofs.writing.generate.Goals as goal

pub returns-in_err-write_header-clause-failed : goal.returns-in_err-write_header-clause-failed
returns-in_err-write_header-clause-failed g c = λ _. c.in_err-write_header.ensures.fails ∙ or-true _

pub returns-in_err-write_lines-clause-failed : goal.returns-in_err-write_lines-clause-failed
returns-in_err-write_lines-clause-failed g c = λ _. c.in_err-write_lines.ensures.fails ∙ or-true _

pub returns-clause-meets : goal.returns-clause-meets
returns-clause-meets g c = λ name. rows-meet name c.args.rows (omega arith)

pub returns-clause-whole : goal.returns-clause-whole
returns-clause-whole g c = c.in_ok-write_lines.ensures.fails ∙ (or_false _ ∙ (c.in_ok-write_header.ensures.fails ∙ or_false _))

pub returns-clause-text : goal.returns-clause-text
returns-clause-text g c = appends_more _ _ _ _ _ c.in_ok-write_header.ensures.text c.in_ok-write_lines.ensures.text
