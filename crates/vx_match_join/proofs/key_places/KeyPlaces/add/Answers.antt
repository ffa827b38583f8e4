use Rattle.std.proofs.Common.{◌≡◌, ◌∙◌, ◌∷◌, [], ℕ, List, arith, sym, ap}
use Rattle.vx_rows.specs.Lists.{each_below}
use Rattle.vx_match_join.specs.Parts.{places_in}
use Rattle.vx_match_join.proofs.BuildFacts.{single-more}
use Rattle.vx_match_join.proofs.key_places.KeyPlaces.add.Goals as goal

pub returns-then-are_counted_from : goal.returns-then-are_counted_from
returns-then-are_counted_from c = λ by xs rows here are was.
    let f : ℕ → List ℕ = λ k. k ∷ [] in
    let many : c.args.first ≡ c.in-Single.count = omega (arith, c.if-count-first.true) in
    single-more by xs rows c.args.first c.args.numbers.now here are (ap (λ n. each_below n f) many ∙ (sym (ap places_in c.in-Single.is) ∙ was)) (c.are_counted_from.ensures.0 c.if-are_counted_from.true)
