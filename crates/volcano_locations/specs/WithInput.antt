-- Files among which standard input has a text.
use Rattle.std.specs.Prelude.{ℕ, List, Option, Some, None, Bool, true, false, not, ◌&&◌, is_none, bytes_eq, codes, if◌then◌else◌}
use Rattle.vx_catalog_bytes.specs.Stored.{Stored, stored_or_absent}
use Rattle.volcano_locations.specs.declared.with_input.FileOrText.{FileOrText}
use Rattle.volcano_locations.specs.declared.with_input.FileOrText.TheVariants as opened

-- the text under the path of standard input, and the files under the others
abbrev pub holds_with : (List ℕ → Stored) → Option (List ℕ) → List ℕ → Stored
holds_with files input path = if bytes_eq path (codes "-") then stored_or_absent input else files path

-- a text is read without a failure
abbrev pub reliable_with : (List ℕ → Bool) → List ℕ → Bool
reliable_with files path = if bytes_eq path (codes "-") then true else files path

-- the bytes that what was opened has left
abbrev pub left_of : {I : Type 0} → (I → Option (List ℕ)) → FileOrText I → Option (List ℕ)
left_of remaining (opened.File file) = remaining file
left_of remaining (opened.Text text) = Some text.rest.now

abbrev pub failed_of : {I : Type 0} → (I → Bool) → FileOrText I → Bool
failed_of failed (opened.File file) = failed file
failed_of failed (opened.Text text) = text.broken

abbrev pub reliable_of : {I : Type 0} → (I → Bool) → FileOrText I → Bool
reliable_of reliable (opened.File file) = reliable file
reliable_of reliable (opened.Text text) = not text.broken && is_none text.fails_after
