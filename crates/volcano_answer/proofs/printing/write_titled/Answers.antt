use Rattle.volcano_answer.proofs.PrintingFacts.{titled_text}
use Rattle.volcano_answer.proofs.printing.write_titled.Goals as goal

pub returns-clause-ok : goal.returns-clause-ok
returns-clause-ok g c =
    titled_text c.write_to.result (g.O.ByteOut.contents c.args.out.now) (g.O.ByteOut.contents c.write_all.new.out) (g.O.ByteOut.contents c.write_all-2.new.out) (g.O.ByteOut.contents c.write_all-3.new.out)
    (g.O.ByteOut.contents c.write_to.new.out) c.args.path.now c.args.text.now.items c.in_ok-write_all.ensures.ok (rw c.as_bytes.ensures.value at c.in_ok-write_all-2.ensures.ok) c.in_ok-write_all-3.ensures.ok c.write_to.ensures.ok
