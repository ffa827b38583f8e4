use Rattle.std.proofs.Common.{◌≡◌, ◌∙◌, [], map, ap, sym, subst, arith}
use Rattle.indexmap.specs.IndexSet.{insert_all}
use Rattle.vx_rows_values.specs.Values.{row_eq, pick}
use Rattle.vx_plan_nodes.specs.Conditions.{conditions_of}
use Rattle.vx_match_join.specs.Matching.{MatchView, HasMatchRead, right_of_pairs}
use Rattle.vx_match_join.proofs.MatchFacts.{none-there, read-keys}
use Rattle.vx_match_join.proofs.match_build.MatchBuild.add.Goals as goal

pub returns-then-is_empty-clause-read : goal.returns-then-is_empty-clause-read
returns-then-is_empty-clause-read c = λ rs h.
    let b = c.self.inside in
    let cs = b.matching.conditions.items in
    let more = c.args.batch.rows in
    let none : conditions_of cs ≡ [] = none-there cs _ _ (omega (arith, b.matching.conditions.ok.0)) c.is_empty.ensures c.if-is_empty.true in
    let columns = c.as_slice.ensures.value ∙ c.self.invariant.rights_are in
    let old = subst (λ (v : MatchView). HasMatchRead v rs) (sym c.self.view_is) h in
    read-keys (conditions_of cs) (right_of_pairs b.matching.on.items) b.read.rows b.keys c.number_all.new.self rs more none
    (c.in_ok-number_all.ensures.keys ∙ ap (λ by. insert_all row_eq b.keys (map (pick by) more)) columns) old
