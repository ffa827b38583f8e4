-- The text of a catalog, part by part.
use Rattle.std.proofs.Common.{◌≡◌, ℕ, zero, suc, ◌+◌, ◌<◌, ◌≤◌, min, List, [], ◌∷◌, ◌++◌, refl, sym, ap, ◌∙◌, length, get_or, take, drop, map, string_bytes, arith, add-one, drop-cons, append_assoc}
use Rattle.std.proofs.lemmas.List.{append-nil, map_push, take_more}
use Rattle.std.proofs.Math.Seq.{drop-nil}
use Rattle.std.specs.Prelude.{String, flat_map, codes}
use Rattle.std.specs.declared.alloc.Global.{Global}
use Rattle.std.specs.List.{join_by}
use Rattle.vx_rows_values.specs.declared.value.ColType.{ColType}
use Rattle.vx_catalog_relations.specs.Relation.{Relation}
use Rattle.vx_catalog_finding.specs.Layout.{quoted, joined, listed, column_text, column_texts, key_text, entry_text, relation_text}

flat_texts : (separator : List ℕ) (parts : List (String Global)) → flat_map (λ y. separator ++ string_bytes y) parts ≡ flat_map (λ y. separator ++ y) (map string_bytes parts)
flat_texts separator [] = refl
flat_texts separator (p ∷ parts) = ap (λ l. (separator ++ string_bytes p) ++ l) (flat_texts separator parts)

-- the texts of the program, joined
pub texts_joined : (separator : List ℕ) (parts : List (String Global)) → join_by string_bytes separator parts ≡ joined separator (map string_bytes parts)
texts_joined separator [] = refl
texts_joined separator (p ∷ parts) = ap (λ l. string_bytes p ++ l) (flat_texts separator parts)

pub column_next : (texts : List (List ℕ)) (names : List (String Global)) (kinds : List ColType) (i : ℕ) (name : String Global) (kind : ColType) → i < length names → i < length kinds
    → name ≡ get_or names i name → kind ≡ get_or kinds i kind
    → (texts ++ column_text (string_bytes name) kind ∷ []) ++ column_texts (map string_bytes (drop (i + 1) names)) (drop (i + 1) kinds) ≡ texts ++ column_texts (map string_bytes (drop i names)) (drop i kinds)
column_next texts names kinds i name kind h k e f = rw (drop-cons names i name, drop-cons kinds i kind, ← e, ← f, add-one) (append_assoc texts _ _)

none_left : (names : List (String Global)) (kinds : List ColType) (i : ℕ) → min (length names) (length kinds) ≤ i → column_texts (map string_bytes (drop i names)) (drop i kinds) ≡ []
none_left [] kinds i h = rw (drop-nil i) refl
none_left (n ∷ names) [] i h = rw (drop-nil {A = ColType} i) (no_kinds (map string_bytes (drop i (n ∷ names))))
  where
    no_kinds : (ns : List (List ℕ)) → column_texts ns [] ≡ []
    no_kinds [] = refl
    no_kinds (m ∷ ms) = refl
none_left (n ∷ names) (k ∷ kinds) zero h = absurd (omega arith)
none_left (n ∷ names) (k ∷ kinds) (suc i) h = none_left names kinds i (omega arith)

pub columns_done : (texts : List (List ℕ)) (names : List (String Global)) (kinds : List ColType) (i : ℕ) → min (length names) (length kinds) ≤ i
    → texts ++ column_texts (map string_bytes (drop i names)) (drop i kinds) ≡ texts
columns_done texts names kinds i h = ap (λ l. texts ++ l) (none_left names kinds i h) ∙ append-nil texts

pub ruleset column_steps = (column_next, columns_done)

-- one more relation
pub relation_more : (texts : List (String Global)) (text : String Global) (relations : List Relation) (i : ℕ) (r : Relation) → i < length relations → r ≡ get_or relations i r → string_bytes text ≡ relation_text r
    → map string_bytes texts ≡ map relation_text (take i relations) → map string_bytes (texts ++ text ∷ []) ≡ map relation_text (take (i + 1) relations)
relation_more texts text relations i r h at here so_far =
    let taken : take (i + 1) relations ≡ take i relations ++ r ∷ [] = take_more relations i r h ∙ ap (λ x. take i relations ++ x ∷ []) (sym at) in
    rw (taken, map_push relation_text (take i relations) r, map_push {Y = List ℕ} string_bytes texts text, so_far, here) refl

-- what a relation's text is made of
pub relation_laid : (r : Relation) (start named columns keys order whole : List ℕ) → start ≡ codes " {\"name\": " → named ≡ start ++ quoted r.name
    → columns ≡ named ++ codes ",\n  \"columns\": " ++ listed (column_texts r.names r.types) → keys ≡ columns ++ codes ",\n  \"keys\": " ++ listed (map (key_text r.names) r.keys)
    → order ≡ keys ++ codes ",\n  \"order\": " ++ listed (map (entry_text r.names) r.order) → whole ≡ order ++ codes "}" → whole ≡ relation_text r
relation_laid r start named columns keys order whole a b d e f g = rw (g, f, e, d, b, a) refl
