use Rattle.std.proofs.Common.{rules}
use Rattle.vx_rows.proofs.SpanFacts.{first-two}
use Rattle.vx_rows.proofs.spans.first_equal.Goals as goal

pub returns-in-Some : goal.returns-in-Some
returns-in-Some c =
    first-two c.args.numbers.now c.args.count c.first_place.result c.in-Some.second (search rules) (search rules) c.first_place.ensures.equal c.first_place.ensures.least
