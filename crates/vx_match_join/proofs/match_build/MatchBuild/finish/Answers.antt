use Rattle.std.proofs.Common.{◌≡◌, ◌∙◌, [], List, ℕ, length, ap, sym, subst, arith}
use Rattle.vx_rows_values.specs.declared.value.ColType.{ColType}
use Rattle.vx_rows.specs.View.{RowsView, AreColumns}
use Rattle.vx_plan_nodes.specs.Conditions.{conditions_of}
use Rattle.vx_match_join.specs.Build.{IsIndex}
use Rattle.vx_match_join.specs.Matching.{MatchView, HasMatchRead, right_of_pairs}
use Rattle.vx_match_join.specs.Parts.{places_in}
use Rattle.vx_match_join.proofs.MatchFacts.{some-there, index-keys, built-rows}
use Rattle.vx_match_join.proofs.match_build.MatchBuild.finish.Goals as goal

pub invariant_of-self : goal.invariant_of-self
invariant_of-self c =
    let b = c.self.inside in
    let was = c.self.invariant in
    let by = right_of_pairs b.matching.on.items in
    let rows = c.in_ok-rows.rows.rows in
    let keys = c.in_ok-keys.keys in
    let parts = places_in c.in_ok-keys.places in
    let index : IsIndex by rows keys parts = subst (λ (cs : List ℕ). IsIndex cs rows keys parts) (c.as_slice-columns.ensures.value ∙ was.rights_are) c.in_ok-keys.ensures in
    record {
      lefts_are = was.lefts_are;
      rights_are = was.rights_are;
      of_right = subst (λ (ts : List ColType). AreColumns (length ts) by) (sym c.clear.ensures.types) was.of_right;
      keys_are = index-keys (conditions_of b.matching.conditions.items) by keys rows index.keys_are;
      parts_are = index.parts_are;
    }

pub returns-clause-built : goal.returns-clause-built
returns-clause-built c = λ rs h.
    let b = c.self.inside in
    let cs = b.matching.conditions.items in
    let some : conditions_of cs ≡ [] → ⊥ = some-there cs _ _ (omega (arith, b.matching.conditions.ok.0)) c.is_empty.ensures c.if-is_empty.false in
    let old = subst (λ (v : MatchView). HasMatchRead v rs) (sym c.self.view_is) h in
    built-rows (conditions_of cs) (right_of_pairs b.matching.on.items) b.read.rows c.in_ok-rows.rows.rows b.keys c.in_ok-keys.keys rs some (ap (λ (t : RowsView). t.rows) c.in_ok-rows.ensures) old
