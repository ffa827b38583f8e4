use Rattle.std.proofs.Common.{◌∙◌, ◌&&◌, [], sym, subst, flat_map}
use Rattle.vx_rows_values.specs.Order.{order_columns, sorted}
use Rattle.vx_rows_values.proofs.Booleans.{and-both}
use Rattle.vx_match_merging.specs.declared.merging.MergeFault.{MergeFault}
use Rattle.vx_match_keys.specs.Matched.{matched}
use Rattle.vx_match_merging.specs.Merged.{MergeBlame}
use Rattle.vx_match_keys.proofs.ErrorFacts.{reported, if-err}
use Rattle.vx_match_merging.proofs.MergeTurns.{joined-all, left-rises, right-rises}
use Rattle.vx_match_merging.proofs.MergeCalls.{whole-range, blame-left, blame-right, if-ok-on}
use Rattle.vx_match_merging.proofs.merging.merge_join.Goals as goal

pub returns-in_err-take_left-clause-err : goal.returns-in_err-take_left-clause-err
returns-in_err-take_left-clause-err c =
    let ls = c.args.left.now.rows in
    let rs = c.args.right.now.rows in
    let lefts = c.args.left_order.now in
    let rights = c.args.right_order.now in
    let e = c.in_err-take_left.field-0.0 in
    let by = c.in_ok-merge.ensures.lefts ∙ c.in_ok-lefts.ensures.items in
    let all = c.in_ok-slice.ensures.rows ∙ whole-range ls c.len.result c.len.ensures in
    let blame = c.in_err-take_left.ensures.err c.in_ok-merge.ensures.left_ended [] [] [] c.in_ok-merge.ensures.nothing in
    reported c.from_residual-in_err-take_left.result e (λ (x : MergeFault). MergeBlame x (sorted lefts ls && sorted rights rs)) c.from_residual-in_err-take_left.ensures.1
    (blame-left e (sorted lefts ls) (sorted rights rs) (subst (MergeBlame e) (λ i. sorted (by i) (all i)) blame))

pub returns-in_err-take_right-clause-err : goal.returns-in_err-take_right-clause-err
returns-in_err-take_right-clause-err c =
    let ls = c.args.left.now.rows in
    let rs = c.args.right.now.rows in
    let lefts = c.args.left_order.now in
    let rights = c.args.right_order.now in
    let e = c.in_err-take_right.field-0.0 in
    let xs = c.in_ok-slice.field-0.rows in
    let one = c.in_ok-take_left.ensures.joined c.in_ok-merge.ensures.left_ended [] [] [] c.in_ok-merge.ensures.nothing in
    let by = c.in_ok-take_left.ensures.shape.rights ∙ (c.in_ok-merge.ensures.rights ∙ c.in_ok-rights.ensures.items) in
    let all = c.in_ok-slice-2.ensures.rows ∙ whole-range rs c.len-2.result c.len-2.ensures in
    reported c.from_residual-in_err-take_right.result e (λ (x : MergeFault). MergeBlame x (sorted lefts ls && sorted rights rs)) c.from_residual-in_err-take_right.ensures.1
    (blame-right e (sorted lefts ls) (sorted rights rs) (subst (MergeBlame e) (λ i. sorted (by i) (all i)) (c.in_err-take_right.ensures.err xs [] [] one)))

pub returns-clause-err : goal.returns-clause-err
returns-clause-err c =
    let ls = c.args.left.now.rows in
    let rs = c.args.right.now.rows in
    let xs = c.in_ok-slice.field-0.rows in
    let zs = c.in_ok-slice-2.field-0.rows in
    let ended = c.in_ok-take_left.ensures.right_ended ∙ c.in_ok-merge.ensures.right_ended in
    let one = c.in_ok-take_left.ensures.joined c.in_ok-merge.ensures.left_ended [] [] [] c.in_ok-merge.ensures.nothing in
    let two = c.in_ok-take_right.ensures.joined ended xs [] [] one in
    let three = c.end_right.ensures.joined xs zs [] two in
    let by = c.end_right.ensures.shape.lefts ∙ (c.in_ok-take_right.ensures.shape.lefts ∙ (c.in_ok-take_left.ensures.shape.lefts ∙ (c.in_ok-merge.ensures.lefts ∙ c.in_ok-lefts.ensures.items))) in
    let all = c.in_ok-slice.ensures.rows ∙ whole-range ls c.len.result c.len.ensures in
    if-err c.join_all.result _ _
    (λ e blame. blame-left e (sorted c.args.left_order.now ls) (sorted c.args.right_order.now rs) (subst (MergeBlame e) (λ i. sorted (by i) (all i)) (blame xs zs [] three)))
    c.join_all.ensures.err

pub returns-clause-rows : goal.returns-clause-rows
returns-clause-rows c =
    let ls = c.args.left.now.rows in
    let rs = c.args.right.now.rows in
    let xs = c.in_ok-slice.field-0.rows in
    let zs = c.in_ok-slice-2.field-0.rows in
    let ended = c.in_ok-take_left.ensures.right_ended ∙ c.in_ok-merge.ensures.right_ended in
    let one = c.in_ok-take_left.ensures.joined c.in_ok-merge.ensures.left_ended [] [] [] c.in_ok-merge.ensures.nothing in
    let two = c.in_ok-take_right.ensures.joined ended xs [] [] one in
    let three = c.end_right.ensures.joined xs zs [] two in
    let lefts = c.join_all.ensures.inputs.lefts ∙ (c.end_right.ensures.shape.lefts ∙ (c.in_ok-take_right.ensures.shape.lefts ∙ (c.in_ok-take_left.ensures.shape.lefts ∙ (c.in_ok-merge.ensures.lefts ∙ c.in_ok-lefts.ensures.items)))) in
    let rights = c.join_all.ensures.inputs.rights ∙ (c.end_right.ensures.shape.rights ∙ (c.in_ok-take_right.ensures.shape.rights ∙ (c.in_ok-take_left.ensures.shape.rights ∙ (c.in_ok-merge.ensures.rights ∙ c.in_ok-rights.ensures.items)))) in
    let all-left = c.in_ok-slice.ensures.rows ∙ whole-range ls c.len.result c.len.ensures in
    let all-right = c.in_ok-slice-2.ensures.rows ∙ whole-range rs c.len-2.result c.len-2.ensures in
    let last = c.join_all.new.self in
    if-ok-on c.join_all.result _ _ _
    (λ r past joins on on-lefts on-rights.
    joined-all last xs zs r.rows (joins xs zs [] three) past
    ∙ ((λ i. flat_map (matched (order_columns (lefts i)) (order_columns (rights i)) (all-right i)) (all-left i)) ∙ (λ i. flat_map (matched (on-lefts i) (on-rights i) rs) ls)))
    c.join_all.ensures.all c.join_all.ensures.joined

pub returns-clause-rise : goal.returns-clause-rise
returns-clause-rise c =
    let ls = c.args.left.now.rows in
    let rs = c.args.right.now.rows in
    let xs = c.in_ok-slice.field-0.rows in
    let zs = c.in_ok-slice-2.field-0.rows in
    let ended = c.in_ok-take_left.ensures.right_ended ∙ c.in_ok-merge.ensures.right_ended in
    let one = c.in_ok-take_left.ensures.joined c.in_ok-merge.ensures.left_ended [] [] [] c.in_ok-merge.ensures.nothing in
    let two = c.in_ok-take_right.ensures.joined ended xs [] [] one in
    let three = c.end_right.ensures.joined xs zs [] two in
    let lefts = c.join_all.ensures.inputs.lefts ∙ (c.end_right.ensures.shape.lefts ∙ (c.in_ok-take_right.ensures.shape.lefts ∙ (c.in_ok-take_left.ensures.shape.lefts ∙ (c.in_ok-merge.ensures.lefts ∙ c.in_ok-lefts.ensures.items)))) in
    let rights = c.join_all.ensures.inputs.rights ∙ (c.end_right.ensures.shape.rights ∙ (c.in_ok-take_right.ensures.shape.rights ∙ (c.in_ok-take_left.ensures.shape.rights ∙ (c.in_ok-merge.ensures.rights ∙ c.in_ok-rights.ensures.items)))) in
    let all-left = c.in_ok-slice.ensures.rows ∙ whole-range ls c.len.result c.len.ensures in
    let all-right = c.in_ok-slice-2.ensures.rows ∙ whole-range rs c.len-2.result c.len-2.ensures in
    let last = c.join_all.new.self in
    let runs = c.join_all.ensures.inputs.left_ended ∙ (c.end_right.ensures.left_ended ∙ (c.in_ok-take_right.ensures.left_ended ∙ (c.in_ok-take_left.ensures.left_ended ∙ c.in_ok-merge.ensures.left_ended))) in
    if-ok-on c.join_all.result _ _ _
    (λ r past joins.
    let all = joins xs zs [] three in
    and-both (sorted c.args.left_order.now ls) (sorted c.args.right_order.now rs)
    (sym (λ i. sorted (lefts i) (all-left i)) ∙ left-rises last xs zs r.rows all past runs)
    (sym (λ i. sorted (rights i) (all-right i)) ∙ right-rises last xs zs r.rows all))
    c.join_all.ensures.all c.join_all.ensures.joined
