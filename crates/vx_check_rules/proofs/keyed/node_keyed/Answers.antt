use Rattle.vx_check_rules.proofs.keyed.node_keyed.Goals as goal

pub returns-in-Scan : goal.returns-in-Scan
returns-in-Scan c = rw c.in-Scan.is (rw c.in-Scan.is at c.keyed_from.ensures)

pub returns-in-Binary : goal.returns-in-Binary
returns-in-Binary c =
    let lefts = rw c.deref-in-Binary.ensures at c.claimed_keys-in-Binary.ensures in
    let rights = rw c.deref-in-Binary-2.ensures at c.claimed_keys-in-Binary-2.ensures in
    rw c.in-Binary.is (rw (c.in-Binary.is, lefts, rights) at c.keyed_from-in-Binary.ensures)

pub returns-in-Unary : goal.returns-in-Unary
returns-in-Unary c =
    let input = rw c.deref.ensures at c.claimed_keys.ensures in
    rw c.in-Unary.is (rw (c.in-Unary.is, input) at c.keyed_from-in-Unary.ensures)

pub returns-in-Exchange : goal.returns-in-Exchange
returns-in-Exchange c =
    let input = rw c.deref-in-Exchange.ensures at c.claimed_keys-in-Exchange.ensures in
    rw c.in-Exchange.is (rw (c.in-Exchange.is, input) at c.keyed_from-in-Exchange.ensures)
