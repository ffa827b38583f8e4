use Rattle.std.proofs.Common.{◌+◌, arith, refl, ◌∙◌}
use Rattle.vx_rows.proofs.Splice.{count_of, at_piece, kept_texts}
use Rattle.vx_rows.proofs.texts.Texts.put_at.Goals as goal

pub loop-j-init : goal.loop-j-init
loop-j-init c =
    let n = count_of c.self.inside.bytes.items c.self.inside.cuts.items c.args.self.now c.self.view_is in
    record {
      cuts = c.self.invariant;
      long = omega (arith, n, c.requires.room, c.self.invariant.some);
      kept = λ k h. refl;
      moved = λ k h. absurd (omega arith);
    }

pub returns-in_err-put_text-clause-kept : goal.returns-in_err-put_text-clause-kept
returns-in_err-put_text-clause-kept c =
    kept_texts c.self.inside.bytes.items c.self.inside.cuts.items c.put_text.new.bytes.items c.put_text.new.cuts.items c.args.self.now c.args.at c.self.view_is c.requires.room (omega (arith, c.in_err-put_text.ensures.long))
    (λ k h. c.in_err-put_text.ensures.kept k (omega arith) ∙ c.loop-j.invariant.kept k h)

pub returns-in_err-put_text-clause-long : goal.returns-in_err-put_text-clause-long
returns-in_err-put_text-clause-long c = omega (arith, count_of c.put_text.new.bytes.items c.put_text.new.cuts.items _ refl, c.in_err-put_text.ensures.long)

pub returns-clause-kept : goal.returns-clause-kept
returns-clause-kept c =
    kept_texts c.self.inside.bytes.items c.self.inside.cuts.items c.loop-j.self-inside.bytes.items c.loop-j.self-inside.cuts.items c.args.self.now c.args.at c.self.view_is c.requires.room (omega (arith, c.loop-j.invariant.long)) c.loop-j.invariant.kept

pub returns-clause-long : goal.returns-clause-long
returns-clause-long c = omega (arith, count_of c.loop-j.self-inside.bytes.items c.loop-j.self-inside.cuts.items _ refl, c.loop-j.invariant.long)

pub returns-clause-ok : goal.returns-clause-ok
returns-clause-ok c =
    let b = c.loop-j.self-inside.bytes.items in
    let n = c.loop-j.self-inside.cuts.items in
    λ k h. at_piece b n _ refl (c.args.at + k) (omega (arith, c.loop-j.invariant.long, c.loop-j-test.false)) ∙ c.loop-j.invariant.moved k (omega (arith, c.loop-j-test.false))

pub returns-clause-ok_long : goal.returns-clause-ok_long
returns-clause-ok_long c = omega (arith, count_of c.loop-j.self-inside.bytes.items c.loop-j.self-inside.cuts.items _ refl, c.loop-j.invariant.long, c.loop-j-test.false)
