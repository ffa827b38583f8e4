-- What `run --stats=json` wrote, as a list of entries: one for each node in each worker.
use Rattle.std.specs.Prelude.{ℕ, ◌==◌, ◌&&◌, ◌||◌, Bool, List, [], ◌∷◌, map, nat_le, is_some, codes, string_bytes, Option, Some, None, option_map, option_and_then, if◌then◌else◌}
use Rattle.std.specs.List.{list_all}
use Rattle.serde_json.specs.Data.{Data}
use Rattle.serde_json.specs.Find.{get, as_number, as_u64}
use Rattle.vx_catalog_json.specs.Look.{name_in, each_in}
use Rattle.volcano_bundle.specs.Bundle.{value_of_text}
use Rattle.volcano_drawing.specs.declared.entries.Counted.{Counted}
use Rattle.volcano_drawing.specs.declared.entries.Entry as held

-- a node in one worker: its number, its operator in a word, and what was counted there
pub record Entry : Type 0 where
  pub node : ℕ
  pub op : List ℕ
  pub counted : Counted

abbrev pub entry_of : held.Entry → Entry
entry_of e = record { node = e.node; op = string_bytes e.op; counted = e.counted }

abbrev pub entries_of : List held.Entry → List Entry
entries_of es = map entry_of es

-- a number from 0 to 2^64 - 1 in a member
unfoldable pub number_at : List ℕ → Data → Option ℕ
number_at key d = option_and_then as_u64 (option_and_then as_number (get key d))

-- a small letter or a hyphen
abbrev pub is_letter : ℕ → Bool
is_letter b = (nat_le 97 b && nat_le b 122) || (b == 45)

-- a text that is made of these
abbrev pub if_word : List ℕ → Option (List ℕ)
if_word s = if list_all is_letter s then Some s else None

-- a word in a member
unfoldable pub word_at : List ℕ → Data → Option (List ℕ)
word_at key d = option_and_then if_word (option_and_then name_in (get key d))

-- the numbers that a picture shows
unfoldable pub counted_in : Data → Option Counted
counted_in d =
    option_and_then (λ g. option_and_then (λ t. option_and_then (λ p. option_and_then (λ w. option_map (λ f. record { gave = g; taken = t; put = p; waits = w; full = f })
    (number_at (codes "full") d)) (number_at (codes "waits") d)) (number_at (codes "put") d)) (number_at (codes "taken") d)) (number_at (codes "gave") d)

-- the numbers that a picture does not show stand there too
abbrev pub has_numbers : List (List ℕ) → Data → Bool
has_numbers keys d = list_all (λ k. is_some (number_at k d)) keys

abbrev pub unshown : List (List ℕ)
unshown = codes "worker" ∷ codes "left" ∷ codes "right" ∷ codes "morsels" ∷ []

-- an object with all members that `run --stats=json` writes for a node in a worker, whatever else it has
unfoldable pub entry_in : Data → Option Entry
entry_in d =
    if has_numbers unshown d
    then option_and_then (λ n. option_and_then (λ o. option_map (λ c. record { node = n; op = o; counted = c }) (counted_in d)) (word_at (codes "op") d)) (number_at (codes "node") d)
    else None

-- the entries of a JSON value, whose member `nodes` lists them
unfoldable pub entries_in : Data → Option (List Entry)
entries_in d = option_and_then (each_in entry_in) (get (codes "nodes") d)

-- and of its text
abbrev pub entries_in_text : List ℕ → Option (List Entry)
entries_in_text text = option_and_then entries_in (value_of_text text)
