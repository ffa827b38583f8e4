-- The value of a text, by whether the text is UTF-8 and JSON.
use Rattle.std.proofs.Common.{◌≡◌, ℕ, List, Bool, true, false, cond, Some, None, refl, sym}
use Rattle.std.specs.Str.{IsUtf8, is_utf8}
use Rattle.std.proofs.lemmas.Str.{IsUtf8-from_is_utf8, is_utf8-from_IsUtf8}
use Rattle.serde_json.specs.Data.{Data}
use Rattle.serde_json.specs.Read.{read}
use Rattle.volcano_bundle.specs.Bundle.{value_of_text}

pub text_is : (bytes : List ℕ) (d : Data) → IsUtf8 bytes → read bytes ≡ Some d → Some d ≡ value_of_text bytes
text_is bytes d u r = let t : is_utf8 bytes ≡ true = is_utf8-from_IsUtf8 bytes u in rw (t, r) refl

none_if : (bytes : List ℕ) (b : Bool) → is_utf8 bytes ≡ b → (IsUtf8 bytes → read bytes ≡ None) → None ≡ cond b (read bytes) None
none_if bytes true e h = sym (h (IsUtf8-from_is_utf8 bytes e))
none_if bytes false e h = refl

pub no_text : (bytes : List ℕ) → (IsUtf8 bytes → read bytes ≡ None) → None ≡ value_of_text bytes
no_text bytes h = none_if bytes (is_utf8 bytes) refl h
