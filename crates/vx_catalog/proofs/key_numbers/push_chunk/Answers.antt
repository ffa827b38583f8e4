use Rattle.std.proofs.Common.{◌<◌, ap, arith, length}
use Rattle.std.proofs.lemmas.Result.{on_ok_weaker}
use Rattle.vx_rows_views.specs.Seen.{seen_positions}
use Rattle.vx_catalog.proofs.KeyNumberFacts.{listed-more, range-room, range-more}
use Rattle.vx_catalog.proofs.key_numbers.push_chunk.Goals as goal

pub push_range-requires : goal.push_range-requires
push_range-requires c =
    let some : 0 < length c.args.chunk.now.rows = omega (arith, c.len.ensures, c.if-len-eq0.false) in
    range-room _ _ c.in-Some.at c.in-Range.from c.in-Range.count c.args.column c.args.chunk.now.rows c.in-Some.ensures.values c.view.ensures c.in-Range.is some

pub returns-in-Range : goal.returns-in-Range
returns-in-Range c =
    let some : 0 < length c.args.chunk.now.rows = omega (arith, c.len.ensures, c.if-len-eq0.false) in
    on_ok_weaker c.push_range.result
    (range-more c.args.found.now.items c.push_range.new.found.items _ _ c.in-Some.at c.in-Range.from c.in-Range.count c.args.column c.args.chunk.now.rows c.in-Some.ensures.values c.view.ensures c.in-Range.is some)
    c.push_range.ensures

pub returns-in-Narrow : goal.returns-in-Narrow
returns-in-Narrow c =
    on_ok_weaker c.push_at.result
    (listed-more c.args.found.now.items c.push_at.new.found.items _ _ (seen_positions c.in-Some.at) c.in-Narrow.positions.now c.args.column c.args.chunk.now.rows c.in-Some.ensures.values c.view-in-Narrow.ensures (ap seen_positions c.in-Narrow.is))
    c.push_at.ensures

pub returns-in-Wide : goal.returns-in-Wide
returns-in-Wide c =
    on_ok_weaker c.push_at-in-Wide.result
    (listed-more c.args.found.now.items c.push_at-in-Wide.new.found.items _ _ (seen_positions c.in-Some.at) c.in-Wide.positions.now c.args.column c.args.chunk.now.rows c.in-Some.ensures.values c.view-in-Wide.ensures (ap seen_positions c.in-Wide.is))
    c.push_at-in-Wide.ensures
