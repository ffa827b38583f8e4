use Rattle.vx_check_rules.proofs.ways.node_ways.Goals as goal

pub returns-in-Scan : goal.returns-in-Scan
returns-in-Scan c = λ catalog given. let from = c.ways_from.ensures catalog given in rw c.in-Scan.is (rw c.in-Scan.is at from)

pub returns-in-Unary : goal.returns-in-Unary
returns-in-Unary c = λ catalog given.
    let input = rw c.deref.ensures at c.claimed.ensures in
    let from = rw input at c.ways_from-in-Unary.ensures catalog given in rw c.in-Unary.is (rw c.in-Unary.is at from)

pub returns-in-Binary : goal.returns-in-Binary
returns-in-Binary c = λ catalog given.
    let left = rw c.deref-in-Binary.ensures at c.claimed-in-Binary.ensures in
    let right = rw c.deref-in-Binary-2.ensures at c.claimed-in-Binary-2.ensures in
    let from = rw (left, right) at c.ways_from-in-Binary.ensures catalog given in rw c.in-Binary.is (rw c.in-Binary.is at from)

pub returns-in-Exchange : goal.returns-in-Exchange
returns-in-Exchange c = λ catalog given. let from = c.ways_from-in-Exchange.ensures catalog given in rw c.in-Exchange.is (rw c.in-Exchange.is at from)
