use Rattle.std.proofs.Common.{◌≡◌, ◌∙◌, [], sym, subst, map, List, ℕ, Some}
use Rattle.vx_rows_values.specs.Values.{Row}
use Rattle.vx_rows.specs.View.{RowsView}
use Rattle.vx_plan_nodes.specs.Plan.{Aggregate, group, plain}
use Rattle.vx_plan_nodes.specs.Types.{unary_types}
use Rattle.vx_plan_nodes.specs.Serial.{group_rows}
use Rattle.vx_plan_nodes.specs.Outline.{aggregate_of as op_of}
use Rattle.vx_match_grouping.specs.declared.fault.GroupFault.{GroupFault}
use Rattle.vx_match_grouping.specs.Groups.{HasTaken}
use Rattle.vx_match_grouping.specs.GroupFaults.{GroupBlame, EndBlame}
use Rattle.vx_match_keys.proofs.ErrorFacts.{reported, if-ok, if-err}
use Rattle.vx_match_grouping.proofs.BlameFacts.{added-blame, finish-blame}
use Rattle.vx_match_grouping.proofs.grouping.grouped.Goals as goal

pub returns-in_err-add_rows-clause-err : goal.returns-in_err-add_rows-clause-err
returns-in_err-add_rows-clause-err c =
    let xs = c.args.rows.now.rows in
    let e = c.in_err-add_rows.field-0.0 in
    let ops = map op_of c.args.aggregates.now in
    reported c.from_residual-in_err-add_rows.result e (λ x. GroupBlame x c.args.by.now ops xs) c.from_residual-in_err-add_rows.ensures.1
    (added-blame e c.args.by.now ops xs (c.in_err-add_rows.ensures.err [] c.in_ok-grouping.ensures.nothing))

pub finish-requires : goal.finish-requires
finish-requires c = record { rows = c.args.rows.now.rows; taken = c.in_ok-add_rows.ensures.taken [] c.in_ok-grouping.ensures.nothing }

pub returns-clause-types : goal.returns-clause-types
returns-clause-types c =
    let ops = map op_of c.args.aggregates.now in
    let g = c.add_rows.new.self in
    if-ok c.finish.result (λ (r : RowsView). r.types ≡ unary_types (group plain g.by g.aggregates) g.types)
    (λ (r : RowsView). r.types ≡ unary_types (group plain c.args.by.now ops) c.args.rows.now.types)
    (λ r h. h ∙ (λ j. unary_types (group plain ((c.add_rows.ensures.by ∙ c.in_ok-grouping.ensures.by) j) ((c.add_rows.ensures.aggregates ∙ c.in_ok-grouping.ensures.aggregates) j))
    ((c.add_rows.ensures.types ∙ (c.in_ok-grouping.ensures.types ∙ c.types.ensures.types)) j))) c.finish.ensures.types

pub returns-clause-rows : goal.returns-clause-rows
returns-clause-rows c =
    let xs = c.args.rows.now.rows in
    let g = c.add_rows.new.self in
    let ops = map op_of c.args.aggregates.now in
    let whole : HasTaken g xs = c.in_ok-add_rows.ensures.taken [] c.in_ok-grouping.ensures.nothing in
    if-ok c.finish.result (λ (r : RowsView). (ys : List Row) → HasTaken g ys → group_rows g.by g.aggregates ys ≡ Some r.rows) (λ (r : RowsView). group_rows c.args.by.now ops xs ≡ Some r.rows)
    (λ r h. sym (λ j. group_rows ((c.add_rows.ensures.by ∙ c.in_ok-grouping.ensures.by) j) ((c.add_rows.ensures.aggregates ∙ c.in_ok-grouping.ensures.aggregates) j) xs) ∙ h xs whole) c.finish.ensures.rows

pub returns-clause-err : goal.returns-clause-err
returns-clause-err c =
    let xs = c.args.rows.now.rows in
    let g = c.add_rows.new.self in
    let ops = map op_of c.args.aggregates.now in
    let whole : HasTaken g xs = c.in_ok-add_rows.ensures.taken [] c.in_ok-grouping.ensures.nothing in
    if-err c.finish.result (λ (e : GroupFault). (ys : List Row) → HasTaken g ys → EndBlame e g.by g.aggregates ys) (λ (e : GroupFault). GroupBlame e c.args.by.now ops xs)
    (λ e h. finish-blame e c.args.by.now ops xs (subst (λ (b : List ℕ). EndBlame e b ops xs) (c.add_rows.ensures.by ∙ c.in_ok-grouping.ensures.by) (subst (λ (as' : List Aggregate). EndBlame e g.by as' xs) (c.add_rows.ensures.aggregates ∙ c.in_ok-grouping.ensures.aggregates) (h xs whole)))) c.finish.ensures.err
