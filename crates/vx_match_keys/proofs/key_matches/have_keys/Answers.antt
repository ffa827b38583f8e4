use Rattle.std.proofs.Common.{List, [], ◌<◌, ◌+◌, arith, refl, ap, ◌∙◌, length, get_or}
use Rattle.vx_rows_values.specs.Types.{Fits}
use Rattle.vx_rows_values.specs.Values.{Row}
use Rattle.vx_rows.proofs.Below.{all_here}
use Rattle.vx_match_keys.proofs.HashedFacts.{wide}
use Rattle.vx_match_keys.proofs.FoundFacts.{value-next}
use Rattle.vx_match_keys.proofs.key_matches.have_keys.Goals as goal

pub loop-j-preserved : goal.loop-j-preserved
loop-j-preserved c = λ k near.
    let keys = c.args.keys.now in
    let n = get_or c.args.places.now k 0 in
    let rows = c.args.chunk.now.rows in
    let i = c.args.from + k in
    let j = c.loop-j.j in
    let here : i < length rows = omega (arith, near) in
    let inside : n < length keys.rows = c.requires.places k 0 near in
    let width = wide keys.types (get_or keys.rows n []) (all_here (Fits keys.types) keys.rows c.types.ensures.fit n [] inside) in
    let types = ap length c.types.ensures.types in
    let alike = c.if-types-columns.false in
    let test = c.loop-j-test.true in
    value-next (get_or keys.rows n []) c.args.columns.now rows i j (grind (arith, test, width, types, alike)) (grind (arith, test)) here (c.loop-j.invariant k near)
    (c.if-not-have_values.ensures refl k near ∙ ap (λ (ks : List Row). get_or ks i []) c.of.ensures)
