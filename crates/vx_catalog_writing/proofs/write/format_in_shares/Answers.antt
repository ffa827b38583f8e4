use Rattle.std.proofs.Common.{arith, map, string_bytes}
use Rattle.vx_catalog_writing.proofs.BlockFacts.{lent_text}
use Rattle.vx_catalog_writing.proofs.write.format_in_shares.Goals as goal

pub returns : goal.returns
returns g c =
    let blocks = c.in_ok-blocks.blocks in
    lent_text (map string_bytes c.args.names.now) c.args.rows.rows c.in_ok-header.header.items c.with_lines.result blocks.len blocks.items c.as_mut_slice.result.now c.make_all_lines.new.blocks c.as_mut_slice.ensures.value
    (omega (arith, blocks.ok.0)) c.in_ok-header.ensures c.in_ok-blocks.ensures c.make_all_lines.ensures.many c.make_all_lines.ensures.lines c.with_lines.ensures.made (rw c.from.ensures at c.with_lines.ensures.lines)
