-- The keys of rows, one after another.
use Rattle.std.proofs.Common.{◌≡◌, ℕ, ◌+◌, List, [], ◌∷◌, ◌++◌, Bool, true, false, Option, Some, None, refl, sym, add-one}
use Rattle.std.specs.Prelude.{is_some, not}
use Rattle.vx_rows_values.specs.Values.{Row}
use Rattle.vx_rows_values.specs.Keys.{is_key, first_clash}
use Rattle.vx_rows_values.proofs.KeyFacts.{key-law}
use Rattle.vx_catalog_finding.specs.Found.{if_key, single_keys, pairs_with, pair_keys}

-- columns are a key if no rows clash
pub key_tested : (cols : List ℕ) (rows : List Row) (o : Option (ℕ × ℕ)) (none : Bool) → o ≡ first_clash cols rows → is_some o ≡ not none → none ≡ is_key cols rows
key_tested cols rows None true h k = sym ((key-law.clashed cols rows).0 (sym h))
key_tested cols rows None false h k = cc
key_tested cols rows (Some clash) true h k = cc
key_tested cols rows (Some clash) false h k = by_test (is_key cols rows) refl
  where
    by_test : (b : Bool) → is_key cols rows ≡ b → false ≡ is_key cols rows
    by_test true e = let nothing : first_clash cols rows ≡ None = (key-law.clashed cols rows).1 e in cc
    by_test false e = sym e

pub single_more : (n : ℕ) (rows : List Row) → single_keys (n + 1) rows ≡ single_keys n rows ++ if_key (n ∷ []) rows
single_more n rows = rw add-one refl

pub pairs_more : (second n : ℕ) (rows : List Row) → pairs_with second (n + 1) rows ≡ pairs_with second n rows ++ if_key (n ∷ second ∷ []) rows
pairs_more second n rows = rw add-one refl

pub pair_more : (n : ℕ) (rows : List Row) → pair_keys (n + 1) rows ≡ pair_keys n rows ++ pairs_with n n rows
pair_more n rows = rw add-one refl

pub ruleset key_steps = (single_more, pairs_more, pair_more)
