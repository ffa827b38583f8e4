use Rattle.std.proofs.Common.{◌≡◌, ℕ, ◌+◌, ◌<◌, arith, refl, ap, length, get_or, subst}
use Rattle.vx_rows.specs.Columns.{size}
use Rattle.vx_rows.specs.View.{ArePositions}
use Rattle.vx_rows.proofs.Fill.{map_at, keep_more}
use Rattle.vx_rows.proofs.NextColumn.{column_next, columns_end}
use Rattle.vx_rows.proofs.writes.put_rows_at.Goals as goal

pub put_part_at-requires-clause-there : goal.put_part_at-requires-clause-there
put_part_at-requires-clause-there c =
    let near : c.loop-j.j < length c.args.others.now.items = omega (arith, c.loop-j-test.true, c.len-j-end.ensures, c.args.others.now.ok.0) in
    let e = map_at size c.args.others.now.items c.loop-j.j c.index.result.now 0 near c.index.ensures in
    subst (λ (n : ℕ). ArePositions n c.args.positions.now) e (c.requires.there c.loop-j.j near)

pub returns-in_err-put_part_at-clause-rows : goal.returns-in_err-put_part_at-clause-rows
returns-in_err-put_part_at-clause-rows c = keep_more _ _ _ _ c.loop-j.invariant.rows c.in_err-put_part_at.ensures.rows

pub loop-j-preserved : goal.loop-j-preserved
loop-j-preserved c =
    let near : c.loop-j.j < length c.args.others.now.items = omega (arith, c.loop-j-test.true, c.len-j-end.ensures, c.args.others.now.ok.0) in
    record {
      rows = keep_more _ _ _ _ c.loop-j.invariant.rows c.in_ok-put_part_at.ensures.rows;
      fills = column_next c.args.at (length c.args.positions.now) c.args.first (c.args.first + c.loop-j.j) _ c.loop-j.j _ _ _ c.args.others.now.items _
          (λ k. get_or c.args.positions.now k 0) _ (omega arith) near c.index.ensures (λ k. refl) c.loop-j.invariant.fills
          c.in_ok-put_part_at.ensures.ok;
    }

pub returns-clause-ok : goal.returns-clause-ok
returns-clause-ok c =
    let end : c.loop-j.j ≡ length c.args.others.now.items = omega (arith, c.loop-j-test.false, c.loop-j.auto.j-end, c.len-j-end.ensures, c.args.others.now.ok.0) in
    columns_end c.args.at (length c.args.positions.now) c.args.first (c.args.first + c.loop-j.j) _ c.loop-j.j _ _ c.args.others.now.items
    (λ k. get_or c.args.positions.now k 0) (ap (λ i. c.args.first + i) end) (omega (arith, end)) c.loop-j.invariant.fills
