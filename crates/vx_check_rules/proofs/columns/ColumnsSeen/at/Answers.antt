use Rattle.std.proofs.Common.{◌<◌, sym}
use Rattle.vx_check_rules.proofs.ColumnFacts.{first_at, first_length}
use Rattle.vx_check_rules.proofs.columns.ColumnsSeen.at.Goals as goal

pub returns-in-First : goal.returns-in-First
returns-in-First c =
    let within : c.args.place < c.in-First.field-0 = rw (c.in-First.is, first_length c.in-First.field-0) at c.requires in rw c.in-First.is (sym (first_at c.in-First.field-0 c.args.place within))
