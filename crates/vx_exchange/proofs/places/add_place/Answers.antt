use Rattle.std.proofs.Common.{◌≡◌, ◌∙◌, ◌++◌, ◌∷◌, [], sym, ap, set, get_or, List, ℕ, Vec, Global}
use Rattle.std.proofs.lemmas.List.{map-set, get_or-map}
use Rattle.vx_exchange.proofs.PlaceFacts.{lists}
use Rattle.vx_exchange.proofs.places.add_place.Goals as goal

pub returns : goal.returns
returns c =
    let places = c.args.places.now.items in
    let to = c.args.consumer in
    let pushed : c.push.new.self.items ≡ get_or (lists places) to [] ++ c.args.place ∷ [] =
    c.in_ok-push.ensures.items
    ∙ ap (λ (l : List ℕ). l ++ c.args.place ∷ []) (ap (λ (v : Vec ℕ Global). v.items) c.index_mut.ensures.value ∙ sym (get_or-map (λ (v : Vec ℕ Global). v.items) places to c.index_mut.result.now [] c.requires)) in
    map-set (λ (v : Vec ℕ Global). v.items) places to c.push.new.self ∙ ap (λ (l : List ℕ). set (lists places) to l) pushed
