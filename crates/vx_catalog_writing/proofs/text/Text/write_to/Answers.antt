use Rattle.std.proofs.Common.{◌≡◌, rules, flat_map, take}
use Rattle.std.proofs.lemmas.List.{take_all}
use Rattle.vx_catalog_bytes.proofs.PortFacts.{appends_more}
use Rattle.vx_catalog_writing.proofs.BlockFacts.{wrote_more}
use Rattle.vx_catalog_writing.proofs.text.Text.write_to.Goals as goal

pub loop-lines-preserved : goal.loop-lines-preserved
loop-lines-preserved g c =
    let wrote = wrote_more (g.O.ByteOut.contents c.write_all.new.out) (g.O.ByteOut.contents c.loop-lines.out) (g.O.ByteOut.contents c.write_all-in-loop-lines.new.out)
    c.deref-lines-items.result.now c.loop-lines.lines-index c.lines-item.result _ c.loop-lines-test.true c.lines-item.is c.loop-lines.invariant.wrote (rw c.bytes.ensures at c.in_ok-write_all-2.ensures.ok) in
    record { wrote = wrote; whole = search rules }

pub returns-clause-ok : goal.returns-clause-ok
returns-clause-ok g c =
    let texts = c.deref-lines-items.result.now in
    let all : take c.loop-lines.lines-index texts ≡ texts = take_all c.loop-lines.lines-index texts c.loop-lines-test.false in
    let rest = rw all at c.loop-lines.invariant.wrote in
    let both = appends_more (g.O.ByteOut.contents c.args.out.now) (g.O.ByteOut.contents c.write_all.new.out) (g.O.ByteOut.contents c.loop-lines.out) c.as_slice.result.now (flat_map (λ t. t) texts) c.in_ok-write_all.ensures.ok rest in
    rw (← c.self.view_is) (rw (c.as_slice.ensures.value, c.deref-lines-items.ensures.value) at both)
