use Rattle.std.proofs.Common.{arith, refl}
use Rattle.vx_rows.proofs.Splice.{count_of, kept_texts}
use Rattle.vx_rows.proofs.texts.Texts.truncate.Goals as goal

pub cut_back-requires-clause-near : goal.cut_back-requires-clause-near
cut_back-requires-clause-near c =
    omega (arith, count_of c.self.inside.bytes.items c.self.inside.cuts.items c.args.self.now c.self.view_is, c.requires, c.self.invariant.some)

pub returns-clause-kept : goal.returns-clause-kept
returns-clause-kept c =
    kept_texts c.self.inside.bytes.items c.self.inside.cuts.items c.cut_back.new.bytes.items c.cut_back.new.cuts.items c.args.self.now c.args.at c.self.view_is c.requires
    (omega (arith, c.cut_back.ensures.long)) c.cut_back.ensures.kept

pub returns-clause-long : goal.returns-clause-long
returns-clause-long c = omega (arith, count_of c.cut_back.new.bytes.items c.cut_back.new.cuts.items _ refl, c.cut_back.ensures.long)
