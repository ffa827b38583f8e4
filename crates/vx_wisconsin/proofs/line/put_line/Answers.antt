use Rattle.vx_wisconsin.proofs.LineFacts.{line-put}
use Rattle.vx_wisconsin.proofs.line.put_line.Goals as goal

pub returns-clause-text : goal.returns-clause-text
returns-clause-text c =
    line-put c.args.rows c.args.i c.unique1-unique1.result c.numbers.result _ _ _ _ _ c.requires.row.1 c.requires.row.0
    c.unique1-unique1.ensures c.numbers.ensures c.put_string4-string4.ensures.text c.put_text_of-stringu2.ensures.text c.put_text_of-stringu1.ensures.text c.put_numbers.ensures.text
