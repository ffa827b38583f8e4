use Rattle.std.proofs.Common.{sym, arith}
use Rattle.vx_rows.proofs.RowFacts.{length-eq}
use Rattle.vx_rows.proofs.row.RowPartialEq.eq.Goals as goal

pub returns-then-len : goal.returns-then-len
returns-then-len c =
    let apart = length-eq c.self.inside.values.items c.other.inside.values.items (λ e. let t = c.if-len.true in grind (arith, e, t, c.len.ensures, c.len-2.ensures)) in
    rw (← c.self.view_is, ← c.other.view_is) (sym apart)
