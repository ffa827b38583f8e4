-- A relation that is found in a text, step by step.
use Rattle.std.proofs.Common.{◌≡◌, ℕ, ◌+◌, ◌<◌, List, [], ◌∷◌, ◌++◌, length, get_or, take, map, Ok, refl, sym, ap, ◌∙◌, Vec, Global}
use Rattle.std.proofs.lemmas.List.{map_push, take_more, get_or-map}
use Rattle.vx_rows_values.specs.declared.value.ColType.{ColType}
use Rattle.vx_rows_values.specs.declared.order.OrderEntry.{OrderEntry}
use Rattle.vx_rows_values.specs.Values.{Row}
use Rattle.vx_catalog_relations.specs.Relation.{Relation}
use Rattle.vx_catalog.specs.Loading.{Fails, records_of}
use Rattle.vx_catalog.specs.declared.fault.LoadFault.{LoadFault}
use Rattle.vx_catalog.proofs.RowFacts.{fails_along}
use Rattle.vx_catalog_finding.specs.Found.{header_in, rows_behind, all_texts, types_in, keys_in, order_in, relation_with, in_header, found}

-- a text without a header
pub header_refused : (name bytes : List ℕ) (e : LoadFault) → Fails e (header_in (records_of bytes)) → Fails e (in_header name bytes)
header_refused name bytes e bad = fails_along e (header_in (records_of bytes)) (in_header name bytes) (λ f g. rw g refl) bad

pub names_refused : (name bytes : List ℕ) (e : LoadFault) → Fails e (header_in (records_of bytes)) → Fails e (found name bytes)
unfolding found
names_refused name bytes e bad = fails_along e (header_in (records_of bytes)) _ (λ f g. rw g refl) bad

pub texts_refused : (name bytes : List ℕ) (names : List (List ℕ)) (e : LoadFault) → header_in (records_of bytes) ≡ Ok names → Fails e (rows_behind (all_texts names) (records_of bytes)) → Fails e (found name bytes)
unfolding found
texts_refused name bytes names e h bad = fails_along e (rows_behind (all_texts names) (records_of bytes)) _ (λ f g. rw (h, g) refl) bad

pub rows_refused : (name bytes : List ℕ) (names : List (List ℕ)) (texts : List Row) (e : LoadFault) → header_in (records_of bytes) ≡ Ok names → rows_behind (all_texts names) (records_of bytes) ≡ Ok texts
    → Fails e (rows_behind (types_in (length names) texts) (records_of bytes)) → Fails e (found name bytes)
unfolding found
rows_refused name bytes names texts e h k bad = fails_along e (rows_behind (types_in (length names) texts) (records_of bytes)) _ (λ f g. rw (h, k, g) refl) bad

pub relation_found : (name bytes : List ℕ) (names : List (List ℕ)) (texts rows : List Row) → header_in (records_of bytes) ≡ Ok names → rows_behind (all_texts names) (records_of bytes) ≡ Ok texts
    → rows_behind (types_in (length names) texts) (records_of bytes) ≡ Ok rows → found name bytes ≡ Ok (relation_with name names (types_in (length names) texts) rows)
unfolding found
relation_found name bytes names texts rows h k l = rw (h, k, l) refl

-- a relation is the record of its parts
relation_is : (name : List ℕ) (names : List (List ℕ)) (types : List ColType) (keys : List (List ℕ)) (order : List OrderEntry) (r : Relation)
    → r.name ≡ name → r.names ≡ names → r.types ≡ types → r.keys ≡ keys → r.order ≡ order → record { name = name; names = names; types = types; keys = keys; order = order } ≡ r
relation_is name names types keys order r a b c d e = λ i. record { name = sym a i; names = sym b i; types = sym c i; keys = sym d i; order = sym e i }

pub header_is : (name bytes : List ℕ) (names : List (List ℕ)) (r : Relation) → header_in (records_of bytes) ≡ Ok names → r.name ≡ name → r.names ≡ names → r.types ≡ all_texts names → r.keys ≡ [] → r.order ≡ []
    → in_header name bytes ≡ Ok r
header_is name bytes names r h a b c d e = rw h (ap Ok (relation_is name names (all_texts names) [] [] r a b c d e))

pub found_is : (name bytes : List ℕ) (names : List (List ℕ)) (texts rows : List Row) (r : Relation) → header_in (records_of bytes) ≡ Ok names → rows_behind (all_texts names) (records_of bytes) ≡ Ok texts
    → rows_behind (types_in (length names) texts) (records_of bytes) ≡ Ok rows → r.name ≡ name → r.names ≡ names → r.types ≡ types_in (length names) texts
    → r.keys ≡ keys_in (length names) rows → r.order ≡ order_in (length names) rows → found name bytes ≡ Ok r
found_is name bytes names texts rows r h k l a b c d e =
    relation_found name bytes names texts rows h k l
    ∙ ap Ok (relation_is name names (types_in (length names) texts) (keys_in (length names) rows) (order_in (length names) rows) r a b c d e)

-- a key that is another one
pub keys_differ : (xs : List (List ℕ)) (ys : List (Vec ℕ Global)) (i : ℕ) (y : Vec ℕ Global) → i < length ys → y ≡ get_or ys i y → (get_or xs i [] ≡ y.items → ⊥)
    → xs ≡ map (λ (k : Vec ℕ Global). k.items) ys → ⊥
keys_differ xs ys i y h at differ e =
    differ (ap (λ l. get_or l i []) e ∙ (get_or-map (λ (k : Vec ℕ Global). k.items) ys i y [] h ∙ ap (λ (k : Vec ℕ Global). k.items) (sym at)))

-- one more key that is the same
pub keys_more : (xs : List (List ℕ)) (ys : List (Vec ℕ Global)) (i : ℕ) (y : Vec ℕ Global) → i < length xs → i < length ys → y ≡ get_or ys i y → get_or xs i [] ≡ y.items
    → take i xs ≡ map (λ (k : Vec ℕ Global). k.items) (take i ys) → take (i + 1) xs ≡ map (λ (k : Vec ℕ Global). k.items) (take (i + 1) ys)
keys_more xs ys i y h k at same so_far =
    let left : take (i + 1) xs ≡ take i xs ++ get_or xs i [] ∷ [] = take_more xs i [] h in
    let right : take (i + 1) ys ≡ take i ys ++ y ∷ [] = take_more ys i y k ∙ ap (λ z. take i ys ++ z ∷ []) (sym at) in
    rw (left, right, map_push (λ (k : Vec ℕ Global). k.items) (take i ys) y, so_far, same) refl

pub ruleset relation_steps = (names_refused, texts_refused, rows_refused, relation_found)
