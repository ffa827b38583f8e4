use Rattle.std.proofs.Common.{◌&&◌, List, map, take, take_all, sym, ap, ◌∙◌, arith}
use Rattle.vx_rows_values.specs.Types.{type_at}
use Rattle.vx_rows_values.specs.Values.{value_at}
use Rattle.vx_plan_nodes.specs.Outline.{condition_of}
use Rattle.vx_plan_nodes.specs.Plan.{Filter, comparing}
use Rattle.vx_plan_nodes.specs.Serial.{compares}
use Rattle.vx_ops_computing.specs.Computed.{comparison_holds, comparisons_hold}
use Rattle.vx_ops_computing.specs.Given.{filter_by}
use Rattle.vx_ops_computing.proofs.Choosing.{all-push}
use Rattle.vx_ops_computing.proofs.Entries.{next-of}
use Rattle.vx_ops_computing.proofs.intervals.interval_of.Goals as goal

pub loop-filter-preserved : goal.loop-filter-preserved
loop-filter-preserved c =
    let fs = c.args.filters.now in
    let i = c.loop-filter.filter-index in
    let f = c.filter-item.result in
    let condition = c.in-Compared.condition in
    let there = c.in_ok-interval-2.ensures.column in
    let near = c.loop-filter.invariant.column in
    record {
      column = omega (arith, there, near);
      kind = ap (type_at c.args.types.now) there ∙ c.loop-filter.invariant.kind;
      same = λ given row z at fits.
          ap (λ (gs : List Filter). comparisons_hold gs row) (next-of (filter_by given) fs i f (comparing (condition_of condition)) c.loop-filter-test.true c.filter-item.is (ap (filter_by given) c.in-Compared.is))
          ∙ (all-push (λ g. comparison_holds g row) (map (filter_by given) (take i fs)) (comparing (condition_of condition))
          ∙ (ap (λ b. b && compares (condition_of condition) row) (c.loop-filter.invariant.same given row z (ap (value_at row) (sym there) ∙ at) fits)
          ∙ sym (c.in_ok-interval-2.ensures.both row z at fits)));
    }

pub returns-clause-same : goal.returns-clause-same
returns-clause-same c given row z at fits =
    let whole = take_all c.loop-filter.filter-index c.args.filters.now c.loop-filter-test.false in
    sym (ap (λ fs. comparisons_hold (map (filter_by given) fs) row) whole) ∙ c.loop-filter.invariant.same given row z at fits
