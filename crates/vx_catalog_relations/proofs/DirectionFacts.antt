-- Orders and their texts: the columns of the entries, and their directions.
use Rattle.std.proofs.Common.{◌≡◌, ℕ, Bool, true, List, [], ◌∷◌, Result, Ok, refl, sym, ap, ◌∙◌, map, length}
use Rattle.vx_catalog_json.specs.Look.{OrderText}
use Rattle.vx_rows_values.specs.declared.order.OrderEntry.{OrderEntry}
use Rattle.vx_rows_values.specs.Order.{order_columns, in_directions}
use Rattle.vx_catalog_relations.specs.Walk.{◌>>=◌}
use Rattle.vx_catalog_relations.specs.Naming.{Refusal, columns_of, order_of, name_at, order_text}

abbrev names_in : List OrderText → List (List ℕ)
names_in order = map (λ (e : OrderText). e.name) order

abbrev falls_in : List OrderText → List Bool
falls_in order = map (λ (e : OrderText). e.falling) order

-- the columns that an order was made of
pub columns_back : (names : List (List ℕ)) (cols : List ℕ) (order : List OrderText) → map (name_at names) cols ≡ names_in order → order_columns (in_directions cols (falls_in order)) ≡ cols
columns_back names [] [] h = refl
columns_back names [] (e ∷ es) h = cc
columns_back names (c ∷ cs) [] h = cc
columns_back names (c ∷ cs) (e ∷ es) h =
    let rest : map (name_at names) cs ≡ names_in es = cc in
    ap (λ (l : List ℕ). c ∷ l) (columns_back names cs es rest)

-- the text that an order was made of
pub text_back : (names : List (List ℕ)) (cols : List ℕ) (order : List OrderText) → map (name_at names) cols ≡ names_in order → order_text names (in_directions cols (falls_in order)) ≡ order
text_back names [] [] h = refl
text_back names [] (e ∷ es) h = cc
text_back names (c ∷ cs) [] h = cc
text_back names (c ∷ cs) (e ∷ es) h =
    let first : name_at names c ≡ e.name = cc in
    let rest : map (name_at names) cs ≡ names_in es = cc in
    ap (λ (n : List ℕ). record { name = n; falling = e.falling } ∷ order_text names (in_directions cs (falls_in es))) first
    ∙ ap (λ (l : List OrderText). e ∷ l) (text_back names cs es rest)

-- the names in an order's text
named_columns : (names : List (List ℕ)) (order : List OrderEntry) → names_in (order_text names order) ≡ map (name_at names) (order_columns order)
named_columns names [] = refl
named_columns names (e ∷ es) = ap (λ (l : List (List ℕ)). name_at names e.column ∷ l) (named_columns names es)

-- the order that a text was made of
order_back : (names : List (List ℕ)) (order : List OrderEntry) → in_directions (order_columns order) (falls_in (order_text names order)) ≡ order
order_back names [] = refl
order_back names (e ∷ es) = ap (λ (l : List OrderEntry). e ∷ l) (order_back names es)

pub order_found : (names : List (List ℕ)) (order : List OrderEntry) → columns_of names (map (name_at names) (order_columns order)) ≡ Ok (order_columns order) → order_of names (order_text names order) ≡ Ok order
order_found names order h =
    ap (λ (ns : List (List ℕ)). columns_of names ns >>= λ columns. Ok (in_directions columns (falls_in (order_text names order)))) (named_columns names order)
    ∙ (ap (λ (r : Result (List ℕ) Refusal). r >>= λ columns. Ok (in_directions columns (falls_in (order_text names order)))) h
    ∙ ap (λ (o : List OrderEntry). Ok o) (order_back names order))
