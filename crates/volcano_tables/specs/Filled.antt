-- The rows of the relations that a plan scans, or that several plans scan, from tables. `holds` says which rows the tables have of a relation, and `lacks` how they refuse one.
use Rattle.std.specs.Prelude.{◌≡◌, ℕ, zero, suc, ◌<◌, ◌==◌, ◌||◌, List, [], ◌∷◌, ◌++◌, length, Bool, true, false, cond}
use Rattle.vx_rows_values.specs.Values.{Row}
use Rattle.vx_catalog_relations.specs.Relation.{Relation}
use Rattle.vx_catalog_relations.specs.Catalog.{relation_at}
use Rattle.vx_catalog.specs.Database.{Database, rows_at}
use Rattle.vx_plan_nodes.specs.Plan.{Plan, scan, unary, binary, exchange}
use Rattle.volcano_refusals.specs.declared.refusal.Refusal.{Refusal}
use Rattle.volcano_refusals.specs.declared.refusal.Refusal.TheVariants as refusal

-- a plan scans the relation with this number
abbrev pub scans : Plan → ℕ → Bool
scans (scan n c r m z) i = r == i
scans (unary n c op p) i = scans p i
scans (binary n c op p q) i = scans p i || scans q i
scans (exchange n c k m p) i = scans p i

-- the numbers below this one that are scanned, in order
abbrev pub scanned_below : (ℕ → Bool) → ℕ → List ℕ
scanned_below is_scanned zero = []
scanned_below is_scanned (suc n) = scanned_below is_scanned n ++ cond (is_scanned n) (n ∷ []) []

-- a database with the rows of every relation of which the number is scanned, the others empty
pub record IsFilledBy (is_scanned : ℕ → Bool) (holds : Relation → List Row → Type 0) (db : Database) : Type 0 where
  pub many : length db.rows ≡ length db.catalog
  pub scanned : (i : ℕ) → i < length db.catalog → is_scanned i ≡ true → holds (relation_at db.catalog i) (rows_at db i)
  pub others : (i : ℕ) → is_scanned i ≡ false → rows_at db i ≡ []

-- a refusal for the first scanned relation whose rows are not there, or out of memory
pub data IsFirstMissingOf (is_scanned : ℕ → Bool) (holds : Relation → List Row → Type 0) (lacks : Relation → Refusal → Type 0) (catalog : List Relation) (e : Refusal) : Type 0 where
  missing_memory : e ≡ refusal.NoMemory → IsFirstMissingOf is_scanned holds lacks catalog e
  first_missing : (i : ℕ) → i < length catalog → is_scanned i ≡ true
      → ((j : ℕ) → j < i → is_scanned j ≡ true → (rows : List Row) × holds (relation_at catalog j) rows)
      → lacks (relation_at catalog i) e → IsFirstMissingOf is_scanned holds lacks catalog e

-- a database with the rows of every relation that a plan scans, the others empty
abbrev pub IsFilled : Plan → (Relation → List Row → Type 0) → Database → Type 0
IsFilled plan = IsFilledBy (scans plan)

-- a refusal for the first relation that a plan scans whose rows are not there, or out of memory
abbrev pub IsFirstMissing : Plan → (Relation → List Row → Type 0) → (Relation → Refusal → Type 0) → List Relation → Refusal → Type 0
IsFirstMissing plan = IsFirstMissingOf (scans plan)
