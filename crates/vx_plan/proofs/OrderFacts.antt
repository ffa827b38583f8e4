-- Orders that were found: their columns are those of the names, and by the names they are found again.
use Rattle.std.proofs.Common.{◌≡◌, ℕ, List, [], ◌∷◌, Bool, true, Result, Ok, map, length, bytes_eq, refl, sym, ap, ◌∙◌, subst}
use Rattle.std.proofs.lemmas.List.{length-map}
use Rattle.vx_rows_values.specs.declared.value.ColType.{ColType}
use Rattle.vx_rows_values.specs.declared.order.OrderEntry.{OrderEntry}
use Rattle.vx_rows_values.specs.Order.{order_columns, in_directions}
use Rattle.vx_rows_values.specs.Values.{Name}
use Rattle.vx_rows_values.proofs.Booleans.{and-left}
use Rattle.vx_catalog_json.specs.Look.{OrderText}
use Rattle.vx_catalog_relations.specs.Catalog.{all_below, are_distinct}
use Rattle.vx_catalog_relations.specs.Naming.{name_at, order_text}
use Rattle.vx_catalog_relations.proofs.DirectionFacts.{columns_back, text_back}
use Rattle.vx_plan_nodes.specs.Typed.{are_columns}
use Rattle.vx_plan_json.specs.Fault.{Refusal, ◌>>=◌}
use Rattle.vx_plan_json.proofs.Holds.{Holds, holds_then, holds_at}
use Rattle.vx_plan.specs.Lookup.{find_columns, order_names, order_falls, find_order, test_distinct}
use Rattle.vx_plan.specs.ByName.{names_at}
use Rattle.vx_plan.proofs.Apart.{apart}
use Rattle.vx_plan.proofs.FoundFacts.{AreColumns, columns-found}
use Rattle.vx_plan.proofs.Looked.{columns-again, columns_once-again}

-- an order whose columns have these names, in the same directions
pub record IsOrder (names : List Name) (order : List OrderText) (o : List OrderEntry) : Type 0 where
  pub columns : AreColumns names (order_names order) (order_columns o)
  pub says : order_text names o ≡ order

pub order-found : (node : ℕ) (names : List Name) (order : List OrderText) → Holds (IsOrder names order) (find_order node names order)
unfolding find_order
order-found node names order =
    holds_then (AreColumns names (order_names order)) (IsOrder names order) (λ cols. Ok (in_directions cols (order_falls order))) (find_columns node names (order_names order)) (columns-found node names (order_names order))
    (λ cols h.
    let P : List ℕ → Type 0 = λ l. AreColumns names (order_names order) l in
    record { columns = subst P (sym (columns_back names cols order h.named)) h; says = text_back names cols order h.named })

abbrev entry_of : List Name → OrderEntry → OrderText
entry_of names e = record { name = name_at names e.column; falling = e.falling }

-- as many entries as there are in its text
pub order-count : (names : List Name) (order : List OrderText) (o : List OrderEntry) → IsOrder names order o → length o ≡ length order
order-count names order o h = sym (length-map o (entry_of names)) ∙ ap length h.says

pub order-said : (node : ℕ) (names : List Name) (order : List OrderText) (o : List OrderEntry) → find_order node names order ≡ Ok o → order_text names o ≡ order
order-said node names order o h = (holds_at (IsOrder names order) (find_order node names order) o (order-found node names order) h).says

-- ---- and is found again

named-columns : (names : List Name) (o : List OrderEntry) → order_names (order_text names o) ≡ names_at names (order_columns o)
named-columns names [] = refl
named-columns names (e ∷ o) = ap (λ (l : List Name). name_at names e.column ∷ l) (named-columns names o)

order-back : (names : List Name) (o : List OrderEntry) → in_directions (order_columns o) (order_falls (order_text names o)) ≡ o
order-back names [] = refl
order-back names (e ∷ o) = ap (λ (l : List OrderEntry). e ∷ l) (order-back names o)

pub order-again : (node : ℕ) (names : List Name) (o : List OrderEntry) → apart bytes_eq names ≡ true → are_columns (length names) (order_columns o) ≡ true → find_order node names (order_text names o) ≡ Ok o
unfolding find_order
order-again node names o h k =
    let falls : List Bool = order_falls (order_text names o) in
    ap (λ (ns : List Name). find_columns node names ns >>= λ cols. Ok (in_directions cols falls)) (named-columns names o)
    ∙ (ap (λ (r : Result (List ℕ) Refusal). r >>= λ cols. Ok (in_directions cols falls)) (columns-again node names (order_columns o) h (and-left (all_below (length names) (order_columns o)) (are_distinct (order_columns o)) k))
    ∙ ap (λ (l : List OrderEntry). Ok l) (order-back names o))

pub order_once-again : (node : ℕ) (names : List Name) (o : List OrderEntry) → apart bytes_eq names ≡ true → are_columns (length names) (order_columns o) ≡ true → test_distinct node (order_names (order_text names o)) ≡ Ok tt
order_once-again node names o h k = ap (test_distinct node) (named-columns names o) ∙ columns_once-again node names (order_columns o) h k
