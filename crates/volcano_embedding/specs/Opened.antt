-- That the catalog of a text is there.
use Rattle.std.specs.Prelude.{◌≡◌, ℕ, List, Option, Some, Ok}
use Rattle.vx_catalog_relations.specs.Relation.{Relation}
use Rattle.vx_catalog_relations.specs.Naming.{catalog_text}

-- there are relations, and they are those of the text
abbrev pub IsOpenOn : Option (List Relation) → List ℕ → Type 0
IsOpenOn held text = (relations : List Relation) × (held ≡ Some relations) × (catalog_text text ≡ Ok relations)
