use Rattle.std.proofs.Common.{rules, sym, ap, ◌∙◌, w64}
use Rattle.std.specs.Prelude.{position}
use Rattle.std.proofs.lemmas.Int.{to_z-of_z}
use Rattle.vx_rows_values.specs.Values.{row_eq}
use Rattle.vx_match_keys.specs.Columns.{number_key}
use Rattle.vx_match_keys.proofs.NumberFacts.{found-number, missing-number}
use Rattle.vx_match_keys.proofs.direct_keys.DirectKeys.number_or_next.Goals as goal

pub returns-in_default : goal.returns-in_default
returns-in_default c =
    let keys = c.args.self.now in
    let same = ap (λ z. position (row_eq (number_key z)) keys) (sym (to_z-of_z w64 c.args.key (search rules))) in
    c.len.ensures.len ∙ missing-number (row_eq (number_key c.args.key)) keys (same ∙ sym c.in_default.ensures)

pub returns : goal.returns
returns c =
    let keys = c.args.self.now in
    let same = ap (λ z. position (row_eq (number_key z)) keys) (sym (to_z-of_z w64 c.args.key (search rules))) in
    found-number (row_eq (number_key c.args.key)) keys c.in-Some.number (same ∙ sym c.in-Some.ensures)
