use Rattle.std.proofs.Common.{◌≡◌, ℕ, List, sym, ap, subst}
use Rattle.vx_rows_values.specs.Values.{Row}
use Rattle.vx_match_join.specs.Build.{IsIndex}
use Rattle.vx_match_join.specs.Parts.{places_in}
use Rattle.vx_match_join.specs.Sides.{side_rows}
use Rattle.vx_match_join.proofs.join.Build.of.Goals as goal

pub invariant_of-result : goal.invariant_of-result
invariant_of-result c =
    let keys = c.in_ok-keys.keys in
    let places = places_in c.in_ok-keys.parts in
    let rows = c.args.rows.now.rows in
    let here : (side_rows c.in_ok-of.field-0).rows ≡ rows = ap (λ t. t.rows) c.in_ok-of.ensures in
    let index : IsIndex c.args.columns.items rows keys places = subst (λ (cs : List ℕ). IsIndex cs rows keys places) c.as_slice.ensures.value c.in_ok-keys.ensures in
    subst (λ (xs : List Row). IsIndex c.args.columns.items xs keys places) (sym here) index
