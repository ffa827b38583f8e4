use Rattle.std.proofs.Common.{◌≡◌, ◌∙◌, [], sym, subst, length, get_or, inl, inr}
use Rattle.std.specs.List.{position_or_len}
use Rattle.std.proofs.lemmas.Bool.{cases_lt}
use Rattle.std.proofs.Math.ListN.{get_or-eq_default}
use Rattle.vx_rows_values.specs.Values.{row_eq}
use Rattle.vx_plan_nodes.specs.Serial.{group_keys}
use Rattle.vx_match_join.specs.Build.{Built, places_of}
use Rattle.vx_match_join.specs.Parts.{places_in}
use Rattle.vx_match_join.specs.Sides.{side_rows}
use Rattle.vx_match_join.proofs.BuildFacts.{part-found, part-missing}
use Rattle.vx_match_join.proofs.join.Build.matches.Goals as goal

pub returns : goal.returns
returns c = λ key at.
    let n = c.args.number in
    let b = c.self.inside in
    let ps = places_in b.parts in
    let here : n ≡ position_or_len (row_eq key) (group_keys b.columns.items (side_rows b.rows).rows) = subst (λ (v : Built). n ≡ position_or_len (row_eq key) (group_keys v.columns v.rows)) (sym c.self.view_is) at in
    let found : get_or ps n [] ≡ places_of b.columns.items key (side_rows b.rows).rows =
    elim (cases_lt n (length ps)) [
      | inl l ↦ part-found b.columns.items (side_rows b.rows).rows b.keys ps key n c.self.invariant here l
      | inr g ↦ get_or-eq_default ps [] g ∙ part-missing b.columns.items (side_rows b.rows).rows b.keys ps key n c.self.invariant here g
    ] in
    c.get.ensures ∙ subst (λ (v : Built). get_or ps n [] ≡ places_of v.columns key v.rows) c.self.view_is found
