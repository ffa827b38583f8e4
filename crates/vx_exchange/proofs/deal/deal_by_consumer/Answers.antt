use Rattle.std.proofs.Common.{◌≡◌, ◌==◌, ◌∙◌, ℕ, List, length, map, get_or, [], ap, sym, subst, arith, All, Vec, Global}
use Rattle.std.proofs.lemmas.List.{length-map}
use Rattle.std.specs.Prelude.{zip}
use Rattle.vx_rows.specs.Lists.{each_below}
use Rattle.vx_rows.specs.View.{row, ArePositions}
use Rattle.vx_rows.proofs.Below.{length-each_below, get_or-each_below}
use Rattle.vx_plan_nodes.specs.Streams.{Streams, bearing}
use Rattle.vx_rows_views.specs.Selected.{places_of}
use Rattle.vx_exchange.proofs.LaneLists.{cuts-same}
use Rattle.vx_exchange.proofs.PlaceFacts.{lists, places-there}
use Rattle.vx_exchange.proofs.Turns.{places-bearing}
use Rattle.vx_exchange.proofs.deal.deal_by_consumer.Goals as goal

pub deal_places-requires-clause-many : goal.deal_places-requires-clause-many
deal_places-requires-clause-many c =
    let f : ℕ → List ℕ = λ j. places_of (λ k. k == j) c.args.scratch.now.consumers.items in
    let places : List (Vec ℕ Global) = c.as_slice-2.result.now in
    let are : lists places ≡ each_below c.len.result f = ap lists c.as_slice-2.ensures.value ∙ (c.in_ok-places_of_each.ensures ∙ ap (λ (ks : List ℕ). each_below c.len.result (λ j. places_of (λ k. k == j) ks)) c.as_slice.ensures.value) in
    let long : length places ≡ c.len.result = sym (length-map places (λ (v : Vec ℕ Global). v.items)) ∙ (ap (λ (ps : List (List ℕ)). length ps) are ∙ length-each_below c.len.result f) in
    let end = c.len.ensures in
    omega (arith, long, end)

pub deal_places-requires-clause-there : goal.deal_places-requires-clause-there
deal_places-requires-clause-there c =
    let f : ℕ → List ℕ = λ j. places_of (λ k. k == j) c.args.scratch.now.consumers.items in
    let places : List (Vec ℕ Global) = c.as_slice-2.result.now in
    let are : lists places ≡ each_below c.len.result f = ap lists c.as_slice-2.ensures.value ∙ (c.in_ok-places_of_each.ensures ∙ ap (λ (ks : List ℕ). each_below c.len.result (λ j. places_of (λ k. k == j) ks)) c.as_slice.ensures.value) in
    let P : List (List ℕ) → Type 0 = λ ps. All (ArePositions (length c.args.rows.now.rows)) ps in
    subst P (sym are) (places-there c.len.result (length c.args.rows.now.rows) c.args.scratch.now.consumers.items c.requires.many)

pub returns-clause-ok : goal.returns-clause-ok
returns-clause-ok c =
    let ks = c.args.scratch.now.consumers.items in
    let f : ℕ → List ℕ = λ j. places_of (λ k. k == j) ks in
    let places : List (Vec ℕ Global) = c.as_slice-2.result.now in
    let are : lists places ≡ each_below c.len.result f = ap lists c.as_slice-2.ensures.value ∙ (c.in_ok-places_of_each.ensures ∙ ap (λ (ks : List ℕ). each_below c.len.result (λ j. places_of (λ k. k == j) ks)) c.as_slice.ensures.value) in
    let rows = c.args.rows.now in
    let old = c.args.lanes.now.items in
    let more : Streams = λ j. map (row rows) (get_or (lists places) j []) in
    let more' : Streams = λ j. bearing j (zip ks rows.rows) in
    cuts-same more more' old c.deal_places.new.lanes.items (λ j l.
    let end = c.len.ensures in
    let at : get_or (lists places) j [] ≡ f j = ap (λ (ps : List (List ℕ)). get_or ps j []) are ∙ get_or-each_below c.len.result f j [] (omega (arith, l, end)) in
    ap (map (row rows)) at ∙ places-bearing j [] ks rows.rows c.requires.many) c.in_ok-deal_places.ensures.ok
