-- Filling a database relation by relation.
use Rattle.std.proofs.Common.{◌≡◌, ℕ, zero, suc, ◌+◌, ◌<◌, List, [], ◌∷◌, Bool, true, false, refl, sym, ap, ◌∙◌, map, length, length-set, arith, slice_index_or, inl, inr, subst}
use Rattle.std.proofs.lemmas.List.{get_or-set_same, get_or-set_other, get_or_past, length-map}
use Rattle.std.proofs.lemmas.Bool.{cases_lt}
use Rattle.vx_rows_values.specs.Values.{Row}
use Rattle.vx_catalog_relations.specs.Relation.{Relation}
use Rattle.vx_catalog_relations.specs.Catalog.{relation_at}
use Rattle.vx_catalog.specs.Database.{Database, rows_at, with_rows}
use Rattle.volcano_refusals.specs.declared.refusal.Refusal.{Refusal}
use Rattle.volcano_tables.specs.Filled.{IsFirstMissingOf, first_missing}

-- the scanned relations before this number are filled, and the others are empty
pub record IsFilledTo (scanned : ℕ → Bool) (holds : Relation → List Row → Type 0) (catalog : List Relation) (db : Database) (i : ℕ) : Type 0 where
  pub same : db.catalog ≡ catalog
  pub many : length db.rows ≡ length catalog
  pub done : (j : ℕ) → j < i → scanned j ≡ true → holds (relation_at catalog j) (rows_at db j)
  pub left : (j : ℕ) → scanned j ≡ false → rows_at db j ≡ []

no_rows_at : (catalog : List Relation) (j : ℕ) → slice_index_or (map (λ _. let none : List Row = [] in none) catalog) j [] ≡ []
no_rows_at [] j = get_or_past [] j [] (omega arith)
no_rows_at (r ∷ rs) zero = refl
no_rows_at (r ∷ rs) (suc j) = no_rows_at rs j

pub filled_none : (scanned : ℕ → Bool) (holds : Relation → List Row → Type 0) (catalog : List Relation) (db : Database) → db.catalog ≡ catalog → db.rows ≡ map (λ _. []) catalog
    → IsFilledTo scanned holds catalog db 0
filled_none scanned holds catalog db same empty =
    record {
      same = same;
      many = ap length empty ∙ length-map catalog (λ (r : Relation). let none : List Row = [] in none);
      done = λ j h scan. absurd (omega arith);
      left = λ j out. rw empty (no_rows_at catalog j);
    }

not_both : (b : Bool) → b ≡ true → b ≡ false → ⊥
not_both true t f = cc
not_both false t f = cc

-- a relation that is not scanned
pub filled_more : (scanned : ℕ → Bool) (holds : Relation → List Row → Type 0) (catalog : List Relation) (db : Database) (i : ℕ) → scanned i ≡ false
    → IsFilledTo scanned holds catalog db i → IsFilledTo scanned holds catalog db (i + 1)
filled_more scanned holds catalog db i out so_far =
    record {
      same = so_far.same;
      many = so_far.many;
      done = λ j h scan. elim (cases_lt j i) [
        | inl l ↦ so_far.done j l scan
        | inr k ↦ let e : j ≡ i = omega arith in absurd (not_both (scanned j) scan (ap (scanned) e ∙ out))
      ];
      left = so_far.left;
    }

-- what holds of the row that was put
put_holds : (holds : Relation → List Row → Type 0) (catalog : List Relation) (db : Database) (i j : ℕ) (rows : List Row) → i < length db.rows → j ≡ i
    → holds (relation_at catalog i) rows → holds (relation_at catalog j) (rows_at (with_rows db i rows) j)
put_holds holds catalog db i j rows there e h =
    let P : List Row → Type 0 = λ rs. holds (relation_at catalog i) rs in
    let at_i : holds (relation_at catalog i) (rows_at (with_rows db i rows) i) = subst P (sym (get_or-set_same db.rows i rows [] there)) h in
    let Q : ℕ → Type 0 = λ k. holds (relation_at catalog k) (rows_at (with_rows db i rows) k) in
    subst Q (sym e) at_i

other_holds : (holds : Relation → List Row → Type 0) (catalog : List Relation) (db : Database) (i j : ℕ) (rows : List Row) → j < i
    → holds (relation_at catalog j) (rows_at db j) → holds (relation_at catalog j) (rows_at (with_rows db i rows) j)
other_holds holds catalog db i j rows before h =
    let P : List Row → Type 0 = λ rs. holds (relation_at catalog j) rs in
    subst P (sym (get_or-set_other db.rows i j rows [] (omega arith))) h

-- a relation that is scanned
pub filled_next : (scanned : ℕ → Bool) (holds : Relation → List Row → Type 0) (catalog : List Relation) (db : Database) (i : ℕ) (rows : List Row) → i < length catalog → scanned i ≡ true
    → holds (relation_at catalog i) rows → IsFilledTo scanned holds catalog db i → IsFilledTo scanned holds catalog (with_rows db i rows) (i + 1)
filled_next scanned holds catalog db i rows there scan read so_far =
    record {
      same = so_far.same;
      many = length-set db.rows i rows ∙ so_far.many;
      done = λ j h scan_j. elim (cases_lt j i) [
        | inl l ↦ other_holds holds catalog db i j rows l (so_far.done j l scan_j)
        | inr k ↦ let e : j ≡ i = omega arith in let long = so_far.many in put_holds holds catalog db i j rows (omega arith) e read
      ];
      left = λ j out. get_or-set_other db.rows i j rows [] (λ e. not_both (scanned i) scan (sym (ap (scanned) e) ∙ out)) ∙ so_far.left j out;
    }

-- the first relation that is at fault
pub stops_at : (scanned : ℕ → Bool) (holds : Relation → List Row → Type 0) (lacks : Relation → Refusal → Type 0) (catalog : List Relation) (db : Database) (i : ℕ) (e : Refusal)
    → i < length catalog → scanned i ≡ true → lacks (relation_at catalog i) e → IsFilledTo scanned holds catalog db i → IsFirstMissingOf scanned holds lacks catalog e
stops_at scanned holds lacks catalog db i e there scan misses so_far =
    first_missing i there scan (λ j h scan_j. (rows_at db j, so_far.done j h scan_j)) misses
