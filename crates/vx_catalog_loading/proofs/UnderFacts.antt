-- A text by its first line and what follows it.
use Rattle.std.proofs.Common.{◌≡◌, ◌≢◌, ℕ, ◌<◌, List, [], ◌∷◌, ◌++◌, Option, Some, None, true, Result, Ok, sym, ap, subst, ◌∙◌, arith, length, take, drop, append_assoc}
use Rattle.std.proofs.lemmas.List.{take-append-drop, length-drop}
use Rattle.vx_rows_values.specs.Values.{Row}
use Rattle.vx_catalog_relations.specs.Relation.{Relation}
use Rattle.vx_catalog_relations.specs.Walk.{◌>>=◌}
use Rattle.vx_catalog.specs.declared.fault.LoadFault.{LoadFault}
use Rattle.vx_catalog.specs.declared.fault.LoadFault.TheVariants as fault
use Rattle.vx_catalog.specs.Loading.{Fails, records_of}
use Rattle.vx_catalog.proofs.RowFacts.{fails_along}
use Rattle.vx_catalog_split.specs.Split.{is_unquoted}
use Rattle.vx_catalog_loading.specs.Pieces.{may_cut_before, rows_of_text}
use Rattle.vx_catalog_loading.specs.Reading.{rows_under, BeginsFrom}
use Rattle.vx_catalog_loading.proofs.Cut.{under_cut}

module _ (relation : Relation) (line rest : List ℕ) (unquoted : is_unquoted line ≡ true) (cut : may_cut_before rest ≡ true) where
  whole : records_of line ≢ [] → rows_under relation (line ++ rest) ≡ (rows_under relation line >>= λ rows. rows_of_text relation.types rows rest)
  whole some = under_cut relation.names relation.types line rest some unquoted cut

  -- the rows of the first line, and those that follow
  pub under_line : (rows : List Row) → records_of line ≢ [] → rows_under relation line ≡ Ok rows → rows_under relation (line ++ rest) ≡ rows_of_text relation.types rows rest
  under_line rows some read = whole some ∙ ap (λ (r : Result (List Row) LoadFault). (r >>= λ all. rows_of_text relation.types all rest)) read

  -- an error in the first line
  pub line_fails : (e : LoadFault) → Fails e (rows_under relation line) → (e ≢ fault.NoMemory → records_of line ≢ []) → Fails e (rows_under relation (line ++ rest))
  line_fails fault.NoMemory bad some = tt
  line_fails fault.ReadFailed bad some = absurd bad
  line_fails e bad some =
      fails_along e (rows_under relation line) (rows_under relation (line ++ rest))
      (λ f g. whole (some (λ k. cc)) ∙ ap (λ (r : Result (List Row) LoadFault). (r >>= λ all. rows_of_text relation.types all rest)) g) bad

-- what may follow a line that ends in a text
may_follow : (xs rest : List ℕ) → 0 < length xs → may_cut_before xs ≡ true → may_cut_before (xs ++ rest) ≡ true
may_follow [] rest h c = absurd (omega (arith, h))
may_follow (x ∷ xs) rest h c = c

module _ (relation : Relation) (text : List ℕ) (end : ℕ) (unquoted : is_unquoted (take end text) ≡ true) (cut : may_cut_before (drop end text) ≡ true) (near : end < length text) where
  parts : (left : List ℕ) → text ++ left ≡ take end text ++ (drop end text ++ left)
  parts left = ap (λ l. l ++ left) (sym (take-append-drop end text)) ∙ append_assoc (take end text) (drop end text) left

  rest_cut : (left : List ℕ) → may_cut_before (drop end text ++ left) ≡ true
  rest_cut left = may_follow (drop end text) left (let d = length-drop end text in omega (arith, d, near)) cut

  -- the first line was read
  pub begins_line : (rows : List Row) → records_of (take end text) ≢ [] → rows_under relation (take end text) ≡ Ok rows → (left : Option (List ℕ)) → BeginsFrom relation text left (Some rows) (drop end text) left
  begins_line rows some read None = tt
  begins_line rows some read (Some left) = ap (rows_under relation) (parts left) ∙ under_line relation (take end text) (drop end text ++ left) unquoted (rest_cut left) rows some read

  -- an error in it
  pub begin_fails : (e : LoadFault) → Fails e (rows_under relation (take end text)) → (e ≢ fault.NoMemory → records_of (take end text) ≢ []) → (left : List ℕ) → Fails e (rows_under relation (text ++ left))
  begin_fails e bad some left =
      subst (λ t. Fails e (rows_under relation t)) (sym (parts left)) (line_fails relation (take end text) (drop end text ++ left) unquoted (rest_cut left) e bad some)
