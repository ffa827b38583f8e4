use Rattle.std.proofs.Common.{◌∙◌, ap, length, map, sym}
use Rattle.vx_plan_facts.specs.FactsView.{fixed_of, facts_of}
use Rattle.vx_plan_facts.proofs.Kept.{united-keeps, both-wide}
use Rattle.vx_plan_facts.proofs.carrying.united.Goals as goal

pub common_values-requires-clause-left : goal.common_values-requires-clause-left
common_values-requires-clause-left c =
    let made = rw (c.as_slice.ensures.value, c.as_slice-2.ensures.value) at c.in_ok-labels.ensures in
    let wide = rw c.as_slice-3.ensures.value at c.in_ok-firsts.ensures.wide in
    sym (ap length c.as_slice-4.ensures.value ∙ both-wide c.args.left.now.firsts.items c.args.right.now.firsts.items c.in_ok-labels.labels.items c.in_ok-firsts.firsts.items made wide)

pub common_values-requires-clause-right : goal.common_values-requires-clause-right
common_values-requires-clause-right c =
    let made = rw (c.as_slice.ensures.value, c.as_slice-2.ensures.value) at c.in_ok-labels.ensures in
    let wide = rw c.as_slice-3.ensures.value at c.in_ok-firsts.ensures.wide in
    c.requires ∙ sym (ap length c.as_slice-4.ensures.value ∙ both-wide c.args.left.now.firsts.items c.args.right.now.firsts.items c.in_ok-labels.labels.items c.in_ok-firsts.firsts.items made wide)

pub returns : goal.returns
returns c d e f g lefts rights =
    let left = facts_of c.args.left.now in
    let right = facts_of c.args.right.now in
    let made = rw (c.as_slice.ensures.value, c.as_slice-2.ensures.value) at c.in_ok-labels.ensures in
    let wide = rw c.as_slice-3.ensures.value at c.in_ok-firsts.ensures.wide in
    let same = rw c.as_slice-3.ensures.value at c.in_ok-firsts.ensures.equal in
    let is = rw c.as_slice-4.ensures.value at c.in_ok-fixed.ensures in
    united-keeps d e f g left right c.in_ok-labels.labels.items c.in_ok-firsts.firsts.items (map fixed_of c.in_ok-fixed.fixed.items) c.requires lefts rights made wide c.in_ok-firsts.ensures.named same is
