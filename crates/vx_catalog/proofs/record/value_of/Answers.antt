use Rattle.vx_catalog.proofs.RowFacts.{text_read, text_refused}
use Rattle.vx_catalog.proofs.record.value_of.Goals as goal

pub returns-in-Ok : goal.returns-in-Ok
returns-in-Ok c = rw c.in-Text.is (text_read _ _ c.args.field.now _ c.in-Ok.ensures.cases c.in-Ok.ensures.same)

pub returns-in-Err : goal.returns-in-Err
returns-in-Err c = rw c.in-Text.is (text_refused _ _ c.args.field.now c.in-Err.ensures.cases)
