-- Keys of one value each.
use Rattle.std.specs.Prelude.{ℕ, ℤ, pos, List, [], ◌∷◌, map, slice_index_or, string_bytes}
use Rattle.std.specs.declared.alloc.Global.{Global}
use Rattle.std.specs.declared.string.String.{String}
use Rattle.vx_rows_values.specs.Values.{Row, num, text}

-- a number, and a text, as a key
abbrev pub number_key : ℤ → Row
number_key z = num z ∷ []

abbrev pub text_key : List ℕ → Row
text_key t = text t ∷ []

-- a text that is owned, as a key
abbrev pub owned_key : String Global → Row
owned_key s = text_key (string_bytes s)

-- the keys that the numbers, and the texts, at these positions are
abbrev pub number_keys : List ℤ → List ℕ → List Row
number_keys numbers positions = map (λ q. number_key (slice_index_or numbers q (pos 0))) positions

abbrev pub text_keys : List (List ℕ) → List ℕ → List Row
text_keys texts positions = map (λ q. text_key (slice_index_or texts q [])) positions
