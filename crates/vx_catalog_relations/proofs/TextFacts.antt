-- A catalog's text, JSON or not.
use Rattle.std.proofs.Common.{◌≡◌, ℕ, List, Bool, true, false, cond, Option, Some, None, Err, refl}
use Rattle.std.specs.Prelude.{IsUtf8}
use Rattle.std.specs.Str.{is_utf8}
use Rattle.std.proofs.lemmas.Str.{IsUtf8-from_is_utf8, is_utf8-from_IsUtf8}
use Rattle.serde_json.specs.Data.{Data}
use Rattle.serde_json.specs.Read.{read as read_text}
use Rattle.vx_catalog_relations.specs.Naming.{bad_catalog, some_catalog, catalog_of, catalog_text}

pub text_read : (bytes : List ℕ) (d : Data) → IsUtf8 bytes → read_text bytes ≡ Some d → catalog_text bytes ≡ catalog_of d
unfolding catalog_text
text_read bytes d u e = rw (is_utf8-from_IsUtf8 bytes u, e) refl

refused_if : (b : Bool) (o : Option Data) → (b ≡ true → o ≡ None) → cond b (some_catalog o) (Err bad_catalog) ≡ Err bad_catalog
refused_if true o h = rw (h refl) refl
refused_if false o h = refl

pub text_refused : (bytes : List ℕ) → (IsUtf8 bytes → read_text bytes ≡ None) → catalog_text bytes ≡ Err bad_catalog
unfolding catalog_text
text_refused bytes h = refused_if (is_utf8 bytes) (read_text bytes) (λ b. h (IsUtf8-from_is_utf8 bytes b))
