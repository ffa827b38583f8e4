use Rattle.std.proofs.Common.{◌≤◌, arith, sym}
use Rattle.vx_rows.proofs.PartFacts.{has_next, kept_on}
use Rattle.vx_rows.proofs.parts.add_parts.Goals as goal

pub loop-i-preserved : goal.loop-i-preserved
loop-i-preserved c =
    let old = c.loop-i.column in
    let new = c.put_range.new.self in
    let end = c.loop-i.end in
    let before : c.args.at ≤ end = let e = c.loop-i.invariant.has.end_is in omega (arith, e) in
    record {
      front = kept_on c.args.at end c.args.column.now old new before c.loop-i.invariant.front c.in_ok-put_range.ensures.front;
      has = rw (c.len-end.ensures) (has_next c.args.at c.args.j c.loop-i.i end c.args.parts.now c.index-parts-i.result old new c.column.result.now c.loop-i.invariant.has c.loop-i-test.true c.index-parts-i.is
          c.in_ok-put_range.ensures.front (rw (sym c.len.ensures) c.in_ok-put_range.ensures.ok_long) (rw (sym c.len.ensures) c.in_ok-put_range.ensures.ok) c.column.ensures.values);
    }
