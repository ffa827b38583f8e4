use Rattle.std.proofs.Common.{◌≡◌, true, string_bytes}
use Rattle.std.specs.Str.{is_utf8}
use Rattle.std.proofs.lemmas.Str.{is_utf8-from_IsUtf8}
use Rattle.vx_plan.proofs.fits.is_constant_of.Goals as goal

pub returns-in-Text : goal.returns-in-Text
returns-in-Text c =
    let text : is_utf8 (string_bytes c.in-Text.text) ≡ true = rw (← c.as_str-text.ensures.value) (is_utf8-from_IsUtf8 c.as_str-text.result.now c.as_str-text.utf8) in
    rw (c.in-Text.is, text) c.is_same_type-in-Text.ensures
