use Rattle.std.proofs.Common.{◌∙◌, sym}
use Rattle.vx_check_rules.specs.Seen.{order_seen}
use Rattle.vx_check_options.proofs.CopyLists.{cloned-items}
use Rattle.vx_check_options.proofs.OptionFacts.{nowhere, narrowed-long, narrowed-put}
use Rattle.vx_check_options.proofs.order_choices.narrowed.Goals as goal

pub slice_bounds-extend_from_slice-count : goal.slice_bounds-extend_from_slice-count
slice_bounds-extend_from_slice-count c = rw c.len.ensures (narrowed-long (order_seen c.args.order) c.args.choices.now (sym c.may_begin.ensures ∙ c.if-not-may_begin.false))

pub slice_bounds-extend_from_slice-start : goal.slice_bounds-extend_from_slice-start
slice_bounds-extend_from_slice-start c = rw c.len.ensures (narrowed-long (order_seen c.args.order) c.args.choices.now (sym c.may_begin.ensures ∙ c.if-not-may_begin.false))

pub returns : goal.returns
returns c =
    let more = c.in_ok-extend_from_slice.ensures.items in
    narrowed-put (order_seen c.args.order) c.args.choices.now c.in_ok-found.found.items more.0 c.extend_from_slice.new.self.items (sym c.may_begin.ensures ∙ c.if-not-may_begin.false) c.in_ok-found.ensures
    (rw c.len.ensures at (cloned-items _ _ more.2)) more.1

pub returns-then-not-may_begin : goal.returns-then-not-may_begin
returns-then-not-may_begin c = rw c.new.ensures.items (nowhere _ _ c.may_begin.ensures c.if-not-may_begin.true)
