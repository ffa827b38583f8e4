use Rattle.std.proofs.Common.{ℕ, List, subst, sym, OnOk}
use Rattle.std.specs.Io.KnownBytes.{Appends}
use Rattle.vx_wisconsin.proofs.TextFacts.{header-is}
use Rattle.vx_wisconsin.proofs.writing.write_header.Goals as goal

pub returns-clause-text : goal.returns-clause-text
returns-clause-text g c =
    subst (λ (l : List ℕ). OnOk c.write_all.result (Appends (g.W.ByteOut.contents c.args.writer.now) (g.W.ByteOut.contents c.write_all.new.out) l)) (sym header-is) c.write_all.ensures.ok
