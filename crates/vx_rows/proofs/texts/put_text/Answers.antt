use Rattle.std.proofs.Common.{◌≡◌, ◌+◌, arith, ap, ◌∙◌, [], ◌∷◌, length}
use Rattle.std.proofs.lemmas.Str.{IsUtf8-nil}
use Rattle.vx_rows.specs.Texts.{piece}
use Rattle.vx_rows.proofs.Splice.{Spliced, joined_as, with_no_text, text_with_no_cut, text_with_cut, one_text, text_piece, kept, moved, are_cuts}
use Rattle.vx_rows.proofs.texts.put_text.Goals as goal
use Rattle.vx_rows.proofs.texts.put_text.Goals.{In_err-extend_from_slice, In_err-push, In_ok-push}

-- no byte of the text came
without_text : (c : In_err-extend_from_slice)
    → Spliced c.args.bytes.now.items c.args.cuts.now.items [] (0 ∷ 0 ∷ []) c.extend_from_slice.new.self.items c.truncate-2.new.self.items c.args.at 0 0 1
without_text c =
    with_no_text _ _ _ _ c.args.text.now c.args.at _ c.requires.near c.index-start.ensures (c.in_err-extend_from_slice.ensures.items ∙ c.truncate.ensures.items)
    c.truncate-2.ensures.items

-- the text came, but not the cut behind it
without_cut : (c : In_err-push)
    → Spliced c.args.bytes.now.items c.args.cuts.now.items c.args.text.now (0 ∷ length c.args.text.now ∷ []) c.extend_from_slice.new.self.items c.push.new.self.items c.args.at 0 0 1
without_cut c =
    let e = joined_as c.in_ok-extend_from_slice.ensures.items c.truncate.ensures.items c.as_bytes.ensures.value in
    text_with_no_cut _ _ _ _ c.args.text.now c.args.at _ c.requires.near c.index-start.ensures e (c.in_err-push.ensures.items ∙ c.truncate-2.ensures.items)

-- both came
with_cut : (c : In_ok-push)
    → Spliced c.args.bytes.now.items c.args.cuts.now.items c.args.text.now (0 ∷ length c.args.text.now ∷ []) c.extend_from_slice.new.self.items c.push.new.self.items c.args.at 0 1 1
with_cut c =
    let e = joined_as c.in_ok-extend_from_slice.ensures.items c.truncate.ensures.items c.as_bytes.ensures.value in
    text_with_cut _ _ _ _ _ c.args.text.now c.args.at _ c.len.result c.requires.old c.requires.near c.index-start.ensures e c.truncate-2.ensures.items
    c.in_ok-push.ensures.items (omega (arith, c.len.ensures, c.extend_from_slice.new.self.ok.0))

pub returns-in_err-extend_from_slice-clause-cuts : goal.returns-in_err-extend_from_slice-clause-cuts
returns-in_err-extend_from_slice-clause-cuts c =
    are_cuts _ _ _ _ _ _ _ _ _ _ c.requires.old (one_text [] IsUtf8-nil) (without_text (goal.at.returns-in_err-extend_from_slice-clause-cuts c).In_err-extend_from_slice)

pub returns-in_err-extend_from_slice-clause-kept : goal.returns-in_err-extend_from_slice-clause-kept
returns-in_err-extend_from_slice-clause-kept c =
    kept _ _ _ _ _ _ _ _ _ _ c.requires.old (one_text [] IsUtf8-nil) (without_text (goal.at.returns-in_err-extend_from_slice-clause-kept c).In_err-extend_from_slice)

pub returns-in_err-push-clause-cuts : goal.returns-in_err-push-clause-cuts
returns-in_err-push-clause-cuts c = are_cuts _ _ _ _ _ _ _ _ _ _ c.requires.old (one_text c.args.text.now c.utf8.text) (without_cut (goal.at.returns-in_err-push-clause-cuts c).In_err-push)

pub returns-in_err-push-clause-kept : goal.returns-in_err-push-clause-kept
returns-in_err-push-clause-kept c = kept _ _ _ _ _ _ _ _ _ _ c.requires.old (one_text c.args.text.now c.utf8.text) (without_cut (goal.at.returns-in_err-push-clause-kept c).In_err-push)

pub returns-clause-cuts : goal.returns-clause-cuts
returns-clause-cuts c = are_cuts _ _ _ _ _ _ _ _ _ _ c.requires.old (one_text c.args.text.now c.utf8.text) (with_cut (goal.at.returns-clause-cuts c).In_ok-push)

pub returns-clause-kept : goal.returns-clause-kept
returns-clause-kept c = kept _ _ _ _ _ _ _ _ _ _ c.requires.old (one_text c.args.text.now c.utf8.text) (with_cut (goal.at.returns-clause-kept c).In_ok-push)

pub returns-clause-ok : goal.returns-clause-ok
returns-clause-ok c =
    let text = c.args.text.now in
    let e : c.args.at ≡ c.args.at + 0 = omega arith in
    ap (piece c.extend_from_slice.new.self.items c.push.new.self.items) e
    ∙ (moved _ _ _ _ _ _ _ _ _ _ c.requires.old (one_text text c.utf8.text) (with_cut (goal.at.returns-clause-ok c).In_ok-push) 0 (omega arith) ∙ text_piece text)
