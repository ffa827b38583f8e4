use Rattle.std.proofs.Common.{map}
use Rattle.vx_plan_nodes.specs.DescribeView.{copying_of}
use Rattle.vx_plan_facts.specs.FactsView.{fixed_of, facts_of}
use Rattle.vx_plan_facts.proofs.Kept.{carried-keeps}
use Rattle.vx_plan_facts.proofs.carrying.carried.Goals as goal

pub returns : goal.returns
returns c e f keeps =
    let k = copying_of c.args.copying in
    let below = facts_of c.args.below.now in
    let labels = c.in_ok-labels.labels.items in
    let made = rw c.as_slice.ensures.value at c.in_ok-labels.ensures in
    let wide = rw c.as_slice-2.ensures.value at c.in_ok-firsts.ensures.wide in
    let same = rw c.as_slice-2.ensures.value at c.in_ok-firsts.ensures.equal in
    let is = rw c.as_slice-3.ensures.value at c.in_ok-fixed.ensures in
    carried-keeps k c.args.width e f below labels c.in_ok-firsts.firsts.items (map fixed_of c.in_ok-fixed.fixed.items) c.requires keeps made wide c.in_ok-firsts.ensures.named same is
