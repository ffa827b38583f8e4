use Rattle.std.proofs.Common.{ℕ, List, ◌≡◌, ◌==◌, ◌++◌, ◌∷◌, [], ap, sym, ◌∙◌, set, get_or, take_all, length, arith, Vec, Global}
use Rattle.std.proofs.lemmas.List.{length-map}
use Rattle.vx_rows.proofs.Below.{length-each_below, each_below-ext}
use Rattle.vx_rows_views.specs.Selected.{places_of}
use Rattle.vx_exchange.proofs.PlaceFacts.{places-below, places-first, places-more}
use Rattle.vx_exchange.proofs.places.places_of_each.Goals as goal

pub loop-i-init : goal.loop-i-init
loop-i-init c = c.in_ok-clear_places.ensures ∙ places-first c.args.n c.args.consumers.now

pub add_place-requires : goal.add_place-requires
add_place-requires c =
    let places = c.loop-i.places.items in
    let i = c.loop-i.i in
    let many : length places ≡ c.args.n =
    sym (length-map places (λ (v : Vec ℕ Global). v.items)) ∙ (ap length c.loop-i.invariant ∙ length-each_below c.args.n (places-below i c.args.consumers.now)) in
    let there = c.requires i 0 c.loop-i-test.true in
    omega (arith, many, there)

pub loop-i-preserved : goal.loop-i-preserved
loop-i-preserved c =
    let ks = c.args.consumers.now in
    let i = c.loop-i.i in
    let to = get_or ks i 0 in
    c.in_ok-add_place.ensures
    ∙ (ap (λ (ps : List (List ℕ)). set ps to (get_or ps to [] ++ i ∷ [])) c.loop-i.invariant ∙ places-more c.args.n i ks c.loop-i-test.true (c.requires i 0 c.loop-i-test.true))

pub returns : goal.returns
returns c =
    let ks = c.args.consumers.now in
    let i = c.loop-i.i in
    let test = c.loop-i-test.false in
    c.loop-i.invariant
    ∙ each_below-ext c.args.n (places-below i ks) (λ j. places_of (λ k. k == j) ks) (λ j l. ap (places_of (λ k. k == j)) (take_all i ks (omega (arith, test))))
