use Rattle.std.proofs.Common.{◌∙◌, ap, map}
use Rattle.vx_rows.specs.View.{row}
use Rattle.vx_rows_views.proofs.Passing.{places-near}
use Rattle.vx_ops_kernels.proofs.Conditions.{keeps-all}
use Rattle.vx_ops_computing.specs.Intervals.{lies_in}
use Rattle.vx_ops_computing.proofs.intervals.within.Goals as goal

pub returns-in_default-clause-rows : goal.returns-in_default-clause-rows
returns-in_default-clause-rows c = ap (λ t. t.rows) c.in_ok-share.ensures ∙ keeps-all (lies_in c.args.interval.now) c.args.chunk.now.rows (rw c.in_default.is at c.in_ok-places.ensures.all)

pub at-requires : goal.at-requires
at-requires c =
    let places = rw c.in-Some.is at c.in_ok-places.ensures.some in
    rw (c.as_slice.ensures.value, places) (places-near (lies_in c.args.interval.now) c.args.chunk.now.rows)

pub returns-clause-rows : goal.returns-clause-rows
returns-clause-rows c =
    let places = rw c.in-Some.is at c.in_ok-places.ensures.some in
    c.in_ok-at.ensures.rows ∙ (ap (map (row c.args.chunk.now)) (c.as_slice.ensures.value ∙ places) ∙ c.places_are_a_filter.ensures (lies_in c.args.interval.now) c.args.chunk.now)
