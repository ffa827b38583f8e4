-- Lists of the same types.
use Rattle.std.proofs.Common.{◌≡◌, Bool, true, false, ◌&&◌, List, [], ◌∷◌, refl, ap₂}
use Rattle.std.specs.Cmp.Lexicographic.{pointwise}
use Rattle.vx_rows_values.specs.declared.value.ColType.{ColType}
use Rattle.vx_rows_values.specs.declared.value.ColType.TheVariants.{Int, Text}
use Rattle.vx_functions.specs.Standard.{same_type, same_types}

-- a test that tells the two types apart tells lists of them apart
module _ (e : ColType → ColType → Bool) (ints : e Int Int ≡ true) (apart : e Int Text ≡ false) (unlike : e Text Int ≡ false) (texts : e Text Text ≡ true) where
  type-same : (t u : ColType) → e t u ≡ same_type t u
  type-same Int Int = ints
  type-same Int Text = apart
  type-same Text Int = unlike
  type-same Text Text = texts

  pub types-same : (ts us : List ColType) → pointwise e ts us ≡ same_types ts us
  types-same [] [] = refl
  types-same [] (u ∷ us) = refl
  types-same (t ∷ ts) [] = refl
  types-same (t ∷ ts) (u ∷ us) = ap₂ (λ a b. a && b) (type-same t u) (types-same ts us)
