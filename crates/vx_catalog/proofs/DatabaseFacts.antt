-- Databases whose relations are empty.
use Rattle.std.proofs.Common.{◌≡◌, ℕ, zero, suc, ◌+◌, ◌<◌, ◌≤◌, List, [], ◌∷◌, ◌++◌, refl, sym, subst, ◌∙◌, map, length, get_or, arith, inl, inr}
use Rattle.std.proofs.lemmas.List.{get_or_push, get_or_append_left, length-map, get_or-map}
use Rattle.std.proofs.lemmas.Bool.{cases_lt}
use Rattle.std.proofs.Math.ListN.{get_or-eq_default}
use Rattle.vx_rows_values.specs.Values.{Row}
use Rattle.vx_rows.specs.View.{RowsView}
use Rattle.vx_catalog_relations.specs.Relation.{Relation, KeysHold, Meets}
use Rattle.vx_catalog_relations.specs.Catalog.{relation_at}
use Rattle.vx_catalog.specs.Database.{IsDatabase, no_rows}

no_keys_broken : (keys : List (List ℕ)) → KeysHold keys []
no_keys_broken [] = tt
no_keys_broken (k ∷ ks) = ((λ row. omega arith), no_keys_broken ks)

empty_meets : (relation : Relation) → Meets relation []
empty_meets relation = record { fit = tt; keys = no_keys_broken relation.keys; order = refl }

-- what holds of each table so far, and of one more
pub pushed : (P : ℕ → RowsView → Type 0) (tables : List RowsView) (table : RowsView) (n : ℕ) → length tables ≡ n → ((i : ℕ) → i < n → P i (get_or tables i no_rows)) → P n table
    → (i : ℕ) → i < n + 1 → P i (get_or (tables ++ table ∷ []) i no_rows)
pushed P tables table n long each last i h =
    elim (cases_lt i n) [
      | inl l ↦ subst (λ (t : RowsView). P i t) (sym (get_or_append_left tables (table ∷ []) no_rows i (omega arith))) (each i l)
      | inr k ↦
          let e : n ≡ i = omega arith in
          subst (λ (t : RowsView). P i t) (sym (get_or_push tables table no_rows i (long ∙ e))) (subst (λ (j : ℕ). P j table) e last)
    ]

pub empty_database : (catalog : List Relation) (tables : List RowsView) → length tables ≡ length catalog → ((i : ℕ) → i < length catalog → (get_or tables i no_rows).types ≡ (relation_at catalog i).types)
    → ((i : ℕ) → i < length catalog → (get_or tables i no_rows).rows ≡ []) → IsDatabase catalog tables
empty_database catalog tables many types empty =
    record { many = many; loaded = λ i h. record { there = h; types = types i h; meets = rw (empty i h) (empty_meets (relation_at catalog i)); few = rw (empty i h) (omega arith) } }

pub all_empty : (catalog : List Relation) (tables : List RowsView) → length tables ≡ length catalog → ((i : ℕ) → i < length catalog → (get_or tables i no_rows).rows ≡ [])
    → map (λ (t : RowsView). t.rows) tables ≡ map (λ (r : Relation). []) catalog
all_empty [] [] many empty = refl
all_empty [] (t ∷ ts) many empty = absurd (omega arith)
all_empty (r ∷ rs) [] many empty = absurd (omega arith)
all_empty (r ∷ rs) (t ∷ ts) many empty = rw (empty zero (omega arith), all_empty rs ts (omega arith) (λ i h. empty (suc i) (omega arith))) refl

-- past the last relation
past_end : (catalog : List Relation) (r : ℕ) → length catalog ≤ r → Meets (relation_at catalog r) []
past_end catalog r h = empty_meets (relation_at catalog r)

pub all_meet : (catalog : List Relation) (tables : List RowsView) → IsDatabase catalog tables → (r : ℕ) → Meets (relation_at catalog r) (get_or (map (λ (t : RowsView). t.rows) tables) r [])
all_meet catalog tables is r =
    let n = length-map tables (λ (t : RowsView). t.rows) in
    let many = is.many in
    elim (cases_lt r (length catalog)) [
      | inl l ↦
          let h : r < length tables = omega (arith, many) in
          let e = get_or-map (λ (t : RowsView). t.rows) tables r no_rows [] h in
          subst (λ (rows : List Row). Meets (relation_at catalog r) rows) (sym e) (is.loaded r l).meets
      | inr k ↦
          let past : length (map (λ (t : RowsView). t.rows) tables) ≤ r = omega (arith, n, many) in
          subst (λ (rows : List Row). Meets (relation_at catalog r) rows) (sym (get_or-eq_default (map (λ (t : RowsView). t.rows) tables) [] past)) (past_end catalog r k)
    ]
