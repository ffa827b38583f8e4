use Rattle.std.proofs.Common.{List, [], map, take, take_all, filter, refl, sym, ap, ◌∙◌}
use Rattle.vx_plan_nodes.specs.Functions.{Functions}
use Rattle.vx_plan_nodes.specs.Outline.{condition_of}
use Rattle.vx_plan_nodes.specs.Plan.{Filter, comparing}
use Rattle.vx_ops_kernels.specs.Holds.{holds_of}
use Rattle.vx_ops_kernels.proofs.Conditions.{keeps-all}
use Rattle.vx_ops_computing.specs.Computed.{comparisons_hold}
use Rattle.vx_ops_computing.specs.Given.{filter_by}
use Rattle.vx_ops_computing.proofs.Choosing.{compared-more, compared-same}
use Rattle.vx_ops_computing.proofs.Entries.{next-of}
use Rattle.vx_ops_computing.proofs.filtering.chosen_in_turn.Goals as goal
use Rattle.vx_ops_computing.proofs.filtering.chosen_in_turn.Goals.{in-Compared+in_ok-found-in-Compared, in-Computed}

pub loop-filter-init : goal.loop-filter-init
loop-filter-init c = record { types = refl; rows = λ given. keeps-all (comparisons_hold []) c.args.chunk.rows (λ k d l. refl) }

pub loop-filter-preserved : goal.loop-filter-preserved
loop-filter-preserved c =
    let xs = c.args.chunk.rows in
    let fs = c.args.filters.now in
    let i = c.loop-filter.filter-index in
    let f = c.filter-item.result in
    let before : Functions → List Filter = λ given. map (filter_by given) (take i fs) in
    let next = λ (given : Functions). next-of (filter_by given) fs i f in
    elim c.match-filter.branch [
      | in-Compared+in_ok-found-in-Compared w ↦
          let condition = w.in-Compared.condition in
          record {
            types = ap (λ t. t.types) w.found-is ∙ (w.in_ok-found-in-Compared.ensures.types ∙ c.loop-filter.invariant.types);
            rows = λ given. ap (λ t. t.rows) w.found-is
                ∙ (w.in_ok-found-in-Compared.ensures.rows
                ∙ (ap (filter (holds_of condition)) (c.loop-filter.invariant.rows given)
                ∙ (compared-more (before given) (condition_of condition) xs
                ∙ ap (λ gs. filter (comparisons_hold gs) xs) (sym (next given (comparing (condition_of condition)) c.loop-filter-test.true c.filter-item.is (ap (filter_by given) w.in-Compared.is))))));
          }
      | in-Computed w ↦
          record {
            types = ap (λ t. t.types) w.found-is ∙ c.loop-filter.invariant.types;
            rows = λ given. ap (λ t. t.rows) w.found-is
                ∙ (c.loop-filter.invariant.rows given
                ∙ (compared-same (before given) _ xs
                ∙ ap (λ gs. filter (comparisons_hold gs) xs) (sym (next given _ c.loop-filter-test.true c.filter-item.is (ap (filter_by given) w.in-Computed.is)))));
          }
    ]

pub returns-clause-rows : goal.returns-clause-rows
returns-clause-rows c given =
    let xs = c.args.chunk.rows in
    let whole = take_all c.loop-filter.filter-index c.args.filters.now c.loop-filter-test.false in
    c.loop-filter.invariant.rows given ∙ ap (λ fs. filter (comparisons_hold (map (filter_by given) fs)) xs) whole
