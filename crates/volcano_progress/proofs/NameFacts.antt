-- What follows the last slash, found from the front.
use Rattle.std.proofs.Common.{◌≡◌, ℕ, List, [], ◌∷◌, true, false, cond, refl}
use Rattle.std.specs.List.{list_any}
use Rattle.volcano_progress.specs.Name.{is_slash, after_slash}

-- what follows the last slash of bytes, or `name` if there is none
abbrev pub last_part : List ℕ → List ℕ → List ℕ
last_part bytes name = cond (list_any is_slash bytes) (after_slash bytes) name

pub last_part_whole : (bytes : List ℕ) → last_part bytes bytes ≡ after_slash bytes
last_part_whole [] = refl
last_part_whole (b ∷ bs) =
    elim (list_any is_slash (b ∷ bs)) as (λ v. cond v (cond v (after_slash bs) (b ∷ bs)) (b ∷ bs) ≡ cond v (after_slash bs) (b ∷ bs)) [ true ↦ refl | false ↦ refl ]
