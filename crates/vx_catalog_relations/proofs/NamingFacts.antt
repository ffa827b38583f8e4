-- A relation's columns, keys and order, one after another.
use Rattle.std.proofs.Common.{◌≡◌, ℕ, List, Ok, refl, map}
use Rattle.vx_rows_values.specs.declared.order.OrderEntry.{OrderEntry}
use Rattle.vx_catalog_relations.specs.Form.{RelationText, ColumnText}
use Rattle.vx_catalog_relations.specs.Naming.{Fails, names_of, keys_of, order_of, relation_of}
use Rattle.vx_catalog_relations.specs.declared.fault.CatalogFault.{CatalogFault}
use Rattle.vx_catalog_relations.proofs.WalkFacts.{fails_first}

pub keys_refused : (t : RelationText) (names : List (List ℕ)) (e : CatalogFault) → names_of (map (λ (c : ColumnText). c.name) t.columns) ≡ Ok names → Fails e (keys_of t.keys names) → Fails e (relation_of t)
unfolding relation_of
keys_refused t names e n bad = rw n (fails_first e (keys_of t.keys names) _ bad)

pub order_refused : (t : RelationText) (names : List (List ℕ)) (keys : List (List ℕ)) (e : CatalogFault) → names_of (map (λ (c : ColumnText). c.name) t.columns) ≡ Ok names → keys_of t.keys names ≡ Ok keys
    → Fails e (order_of names t.order) → Fails e (relation_of t)
unfolding relation_of
order_refused t names keys e n k bad = rw (n, k) (fails_first e (order_of names t.order) _ bad)

pub relation_made : (t : RelationText) (names : List (List ℕ)) (keys : List (List ℕ)) (order : List OrderEntry) → names_of (map (λ (c : ColumnText). c.name) t.columns) ≡ Ok names → keys_of t.keys names ≡ Ok keys
    → order_of names t.order ≡ Ok order → relation_of t ≡ Ok (record { name = t.name; names = names; types = map (λ (c : ColumnText). c.kind) t.columns; keys = keys; order = order })
unfolding relation_of
relation_made t names keys order n k o = rw (n, k, o) refl
