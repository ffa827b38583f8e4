use Rattle.std.proofs.Common.{◌∙◌, List, length, ap, sym, subst}
use Rattle.vx_rows_values.specs.declared.value.ColType.{ColType}
use Rattle.vx_rows.specs.View.{AreColumns}
use Rattle.vx_plan_nodes.specs.Conditions.{conditions_of}
use Rattle.vx_match_join.specs.Build.{parts_of}
use Rattle.vx_match_join.specs.Matching.{left_of_pairs, right_of_pairs}
use Rattle.vx_match_join.proofs.MatchFacts.{fresh-keys, fresh-read}
use Rattle.vx_match_join.proofs.match_build.MatchBuild.of.Goals as goal

pub invariant_of-result : goal.invariant_of-result
invariant_of-result c =
    let on = c.args.matching.on.items in
    let by = right_of_pairs on in
    let rows = c.in_ok-new-2.ensures.rows in
    record {
      lefts_are = c.in_ok-left_columns.ensures ∙ ap left_of_pairs c.as_slice.ensures.value;
      rights_are = c.in_ok-right_columns.ensures ∙ ap right_of_pairs c.as_slice-2.ensures.value;
      of_right = subst (λ (ts : List ColType). AreColumns (length ts) by) (sym c.in_ok-new.ensures.types) c.requires;
      keys_are = fresh-keys (conditions_of c.args.matching.conditions.items) by c.new-2.result c.in_ok-new-2.field-0.rows c.new-2.ensures rows;
      parts_are = c.none.ensures ∙ ap (parts_of by) (sym rows);
    }

pub returns-clause-read : goal.returns-clause-read
returns-clause-read c =
    fresh-read (conditions_of c.args.matching.conditions.items) (right_of_pairs c.args.matching.on.items) c.in_ok-new.field-0.rows c.new-2.result c.in_ok-new.ensures.rows c.new-2.ensures
