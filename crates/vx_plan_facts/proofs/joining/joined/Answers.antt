use Rattle.std.proofs.Common.{map}
use Rattle.vx_plan_facts.specs.FactsView.{fixed_of, facts_of}
use Rattle.vx_plan_facts.proofs.ClassFacts.{both-named}
use Rattle.vx_plan_facts.proofs.Kept.{joined-keeps}
use Rattle.vx_plan_facts.proofs.joining.joined.Goals as goal

pub merge_pairs-requires-clause-named : goal.merge_pairs-requires-clause-named
merge_pairs-requires-clause-named c =
    let made = rw (c.as_slice-lefts.ensures.value, c.as_slice-rights.ensures.value) at c.in_ok-firsts.ensures in
    rw made (both-named c.args.left.now.firsts.items c.args.right.now.firsts.items c.args.left.now.named c.args.right.now.named)

pub returns : goal.returns
returns c method d e f g lefts rights =
    let left = facts_of c.args.left.now in
    let right = facts_of c.args.right.now in
    let made = rw (c.as_slice-lefts.ensures.value, c.as_slice-rights.ensures.value) at c.in_ok-firsts.ensures in
    let equal = rw c.as_slice-lefts.ensures.value at c.merge_pairs.ensures.equal in
    let is = rw (c.as_slice.ensures.value, c.as_slice-2.ensures.value) at c.in_ok-fixed.ensures in
    joined-keeps d e f g c.args.on.now left right c.in_ok-firsts.firsts.items c.merge_pairs.new.firsts.items (map fixed_of c.in_ok-given.given.items) (map fixed_of c.in_ok-fixed.fixed.items)
    c.args.left.now.named lefts rights made c.merge_pairs.ensures.wide equal c.in_ok-given.ensures is
