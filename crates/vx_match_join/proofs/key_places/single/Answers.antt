use Rattle.std.proofs.Common.{◌≤◌, [], ◌∷◌, ℕ, List, arith, sym, length}
use Rattle.std.proofs.Math.ListN.{get_or-eq_default}
use Rattle.vx_rows.specs.Lists.{each_below}
use Rattle.vx_rows.proofs.Below.{length-each_below, get_or-each_below}
use Rattle.vx_match_join.proofs.key_places.single.Goals as goal

pub returns-then-number-count : goal.returns-then-number-count
returns-then-number-count c =
    let f : ℕ → List ℕ = λ k. k ∷ [] in
    let past : length (each_below c.args.count f) ≤ c.args.number = omega (arith, c.if-number-count.true, length-each_below c.args.count f) in
    sym (get_or-eq_default (each_below c.args.count f) [] past)

pub returns : goal.returns
returns c = sym (get_or-each_below c.args.count (λ k. k ∷ []) c.args.number [] (omega (arith, c.if-number-count.false)))
