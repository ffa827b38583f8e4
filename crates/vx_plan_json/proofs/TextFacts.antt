-- The plan of a text, by whether the text is UTF-8 and JSON.
use Rattle.std.proofs.Common.{◌≡◌, ℕ, List, Bool, true, false, cond, Some, None, Err, refl}
use Rattle.std.specs.Str.{IsUtf8, is_utf8}
use Rattle.std.proofs.lemmas.Str.{IsUtf8-from_is_utf8, is_utf8-from_IsUtf8}
use Rattle.serde_json.specs.Data.{Data}
use Rattle.serde_json.specs.Read.{read}
use Rattle.vx_plan_json.specs.Fault.{not_json}
use Rattle.vx_plan_json.specs.Reading.{document_in, document_or, document_of_text}

pub text_is : (bytes : List ℕ) (d : Data) → IsUtf8 bytes → read bytes ≡ Some d → document_of_text bytes ≡ document_in d
unfolding document_of_text
text_is bytes d u r = let t : is_utf8 bytes ≡ true = is_utf8-from_IsUtf8 bytes u in rw (t, r) refl

none_if : (bytes : List ℕ) (b : Bool) → is_utf8 bytes ≡ b → (IsUtf8 bytes → read bytes ≡ None) → cond b (document_or (read bytes)) (Err not_json) ≡ Err not_json
none_if bytes true e h = let r : read bytes ≡ None = h (IsUtf8-from_is_utf8 bytes e) in rw r refl
none_if bytes false e h = refl

pub no_text : (bytes : List ℕ) → (IsUtf8 bytes → read bytes ≡ None) → document_of_text bytes ≡ Err not_json
unfolding document_of_text
no_text bytes h = none_if bytes (is_utf8 bytes) refl h
