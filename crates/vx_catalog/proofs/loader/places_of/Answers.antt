use Rattle.std.proofs.Common.{◌++◌, ◌∷◌, [], ◌∙◌, ap, sym}
use Rattle.vx_catalog.proofs.PlacedFacts.{place-next}
use Rattle.vx_catalog.proofs.loader.places_of.Goals as goal

pub loop-place-preserved : goal.loop-place-preserved
loop-place-preserved c = c.in_ok-push.ensures.items ∙ (ap (λ xs. xs ++ c.loop-place.place ∷ []) c.loop-place.invariant ∙ sym (place-next c.loop-place.place))
