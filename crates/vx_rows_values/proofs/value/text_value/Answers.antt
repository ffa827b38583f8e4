use Rattle.std.proofs.lemmas.Str.{is_utf8-from_IsUtf8}
use Rattle.vx_rows_values.proofs.value.text_value.Goals as goal

pub returns-in_err-from_str-clause-held : goal.returns-in_err-from_str-clause-held
returns-in_err-from_str-clause-held c = is_utf8-from_IsUtf8 c.args.text.now c.utf8.text

pub returns-clause-held : goal.returns-clause-held
returns-clause-held c = is_utf8-from_IsUtf8 c.args.text.now c.utf8.text
