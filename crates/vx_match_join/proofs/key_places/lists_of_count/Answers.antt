use Rattle.std.proofs.Common.{◌∙◌, ◌++◌, ◌∷◌, [], ℕ, List, Vec, Global, sym, ap, map}
use Rattle.std.proofs.lemmas.List.{map-append}
use Rattle.vx_rows.proofs.Below.{each_below-none, each_below-next}
use Rattle.vx_match_join.proofs.key_places.lists_of_count.Goals as goal

-- the places of each key
abbrev parts_at : List (Vec ℕ Global) → List (List ℕ)
parts_at vs = map (λ v. v.items) vs

pub loop-place-init : goal.loop-place-init
loop-place-init c = ap parts_at c.in_ok-lists.ensures.items ∙ sym (each_below-none (λ k. k ∷ []))

pub loop-place-preserved : goal.loop-place-preserved
loop-place-preserved c =
    let lists = c.loop-place.lists.items in
    let place = c.loop-place.place in
    ap parts_at c.in_ok-push.ensures.items
    ∙ (map-append (λ (v : Vec ℕ Global). v.items) lists (c.in_ok-list_of_one.field-0 ∷ [])
    ∙ ((λ j. c.loop-place.invariant j ++ c.in_ok-list_of_one.ensures j ∷ []) ∙ sym (each_below-next place (λ k. k ∷ []))))
