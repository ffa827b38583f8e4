use Rattle.std.proofs.Common.{◌∷◌, []}
use Rattle.vx_rows.proofs.Below.{each_below-none}
use Rattle.vx_match_join.proofs.key_places.KeyPlaces.none.Goals as goal

pub returns : goal.returns
returns c = each_below-none (λ k. k ∷ [])
