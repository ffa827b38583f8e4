use Rattle.std.proofs.Common.{◌∙◌, arith, refl, ◌≡◌, ◌+◌, length}
use Rattle.std.proofs.lemmas.Str.{is_utf8-from_IsUtf8}
use Rattle.vx_rows.specs.Texts.{piece}
use Rattle.vx_rows.proofs.Splice.{count_of, at_piece, kept_texts, on_ok, on_ok_both}
use Rattle.vx_rows.proofs.texts.Texts.put.Goals as goal

pub put_text-requires-clause-near : goal.put_text-requires-clause-near
put_text-requires-clause-near c =
    omega (arith, count_of c.self.inside.bytes.items c.self.inside.cuts.items c.args.self.now c.self.view_is, c.requires, c.self.invariant.some)

pub returns-clause-kept : goal.returns-clause-kept
returns-clause-kept c = kept_texts c.self.inside.bytes.items c.self.inside.cuts.items _ _ c.args.self.now c.args.at c.self.view_is c.requires c.put_text.ensures.long c.put_text.ensures.kept

pub returns-clause-long : goal.returns-clause-long
returns-clause-long c = omega (arith, count_of c.put_text.new.bytes.items c.put_text.new.cuts.items _ refl, c.put_text.ensures.long)

pub returns-clause-ok : goal.returns-clause-ok
returns-clause-ok c =
    let b = c.put_text.new.bytes.items in
    let n = c.put_text.new.cuts.items in
    on_ok_both c.put_text.result
    (λ (many : length n ≡ c.args.at + 2) (h : piece b n c.args.at ≡ c.args.text.now). at_piece b n _ refl c.args.at (omega arith) ∙ h)
    c.put_text.ensures.ok_long c.put_text.ensures.ok

pub returns-clause-ok_long : goal.returns-clause-ok_long
returns-clause-ok_long c = on_ok c.put_text.result (λ (many : length c.put_text.new.cuts.items ≡ c.args.at + 2). omega (arith, count_of c.put_text.new.bytes.items c.put_text.new.cuts.items _ refl)) c.put_text.ensures.ok_long

pub returns-clause-held : goal.returns-clause-held
returns-clause-held c = is_utf8-from_IsUtf8 c.args.text.now c.utf8.text
