use Rattle.std.proofs.Common.{◌≡◌, true, string_bytes}
use Rattle.std.specs.Str.{is_utf8}
use Rattle.std.proofs.lemmas.Str.{is_utf8-from_IsUtf8}
use Rattle.vx_rows_values.proofs.value.Value.cell.Goals as goal

pub returns-in-Text-clause-held : goal.returns-in-Text-clause-held
returns-in-Text-clause-held c =
    let text : is_utf8 (string_bytes c.in-Text.s) ≡ true = rw (← c.as_str.ensures.value) (is_utf8-from_IsUtf8 c.as_str.result.now c.as_str.utf8) in
    rw c.in-Text.is text
