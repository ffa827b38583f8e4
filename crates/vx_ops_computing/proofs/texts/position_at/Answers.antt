use Rattle.std.proofs.Common.{arith, sym}
use Rattle.vx_match_keys.proofs.ColumnFacts.{range-at}
use Rattle.vx_ops_computing.proofs.texts.position_at.Goals as goal

pub overflow_add-result : goal.overflow_add-result
overflow_add-result c = omega (arith, range-at c.args.at c.in-Range.from c.in-Range.field-1 c.args.k c.in-Range.is c.requires.there, c.requires.fits)

pub returns-in-Range : goal.returns-in-Range
returns-in-Range c = sym (range-at c.args.at c.in-Range.from c.in-Range.field-1 c.args.k c.in-Range.is c.requires.there)
