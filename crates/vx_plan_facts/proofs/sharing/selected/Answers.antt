use Rattle.std.proofs.Common.{◌∙◌, ◌++◌, ap, length, map}
use Rattle.vx_plan_nodes.specs.Outline.{filter_of}
use Rattle.vx_plan_facts.specs.Facts.{values_of}
use Rattle.vx_plan_facts.specs.FactsView.{fixed_of, facts_of}
use Rattle.vx_plan_facts.specs.Listing.{listed}
use Rattle.vx_plan_facts.proofs.Kept.{selected-keeps}
use Rattle.vx_plan_facts.proofs.sharing.selected.Goals as goal

pub returns : goal.returns
returns c e f keeps =
    let under = facts_of c.args.below.now in
    let fs = map filter_of c.args.filters.now in
    let copied = c.in_ok-firsts.ensures.items ∙ c.as_slice.ensures.value in
    let wide = c.merge_conditions.ensures.wide ∙ ap length copied in
    let tells = c.merge_conditions.ensures.equal e (rw copied keeps.equal) in
    let given = c.in_ok-put_all.ensures ∙ ap (λ es. es ++ listed (length under.firsts) (values_of under)) c.in_ok-given.ensures in
    let is = rw (c.as_slice-2.ensures.value, c.as_slice-3.ensures.value) at c.in_ok-fixed.ensures in
    selected-keeps fs e f under c.merge_conditions.new.firsts.items (map fixed_of c.put_all.new.fixed.items) (map fixed_of c.in_ok-fixed.fixed.items) keeps wide tells given is
