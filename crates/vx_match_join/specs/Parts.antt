-- What the places of keys show.
use Rattle.std.specs.Prelude.{ℕ, List, [], ◌∷◌, map}
use Rattle.vx_rows.specs.Lists.{each_below}
use Rattle.vx_match_join.specs.declared.key_places.KeyPlaces.{KeyPlaces}
use Rattle.vx_match_join.specs.declared.key_places.KeyPlaces.TheVariants.{Single, Lists}
use Rattle.vx_match_join.specs.declared.key_places.KeyPositions.{KeyPositions}
use Rattle.vx_match_join.specs.declared.key_places.KeyPositions.TheVariants as of_key

-- for each key, by its number, the places of its rows
abbrev pub places_in : KeyPlaces → List (List ℕ)
places_in (Single n) = each_below n (λ k. k ∷ [])
places_in (Lists v) = map (λ p. p.items) v.items

-- the places of the rows of one key
abbrev pub listed_places : KeyPositions → List ℕ
listed_places of_key.None = []
listed_places (of_key.One k) = k ∷ []
listed_places (of_key.Listed s) = s.now
