-- The numbers of size names in a setup.
use Rattle.std.proofs.Common.{◌≡◌, ◌∙◌, ℕ, List, map, Option, Some, None, option_map, String, Global, string_bytes, bytes_eq, refl, ap, sym}
use Rattle.std.specs.List.{find}
use Rattle.vx_exec_setup.specs.Setup.{Entry, entry_of, number_of}
use Rattle.vx_exec_setup.proofs.FindFacts.{find-map}

number_in : (entry : Option (String Global × ℕ)) → option_map (λ e. e.1) entry ≡ option_map (λ e. e.1) (option_map entry_of entry)
number_in None = refl
number_in (Some e) = refl

-- the number of the entry that was found
pub number_found : (entries : List (String Global × ℕ)) (name : List ℕ) (entry : Option (String Global × ℕ)) → entry ≡ find (λ e. bytes_eq (string_bytes e.0) name) entries
    → option_map (λ e. e.1) entry ≡ number_of (map entry_of entries) name
number_found entries name entry found =
    number_in entry ∙ ap (option_map (λ (e : Entry). e.1)) (ap (option_map entry_of) found ∙ sym (find-map (λ (e : Entry). bytes_eq e.0 name) entry_of entries))
