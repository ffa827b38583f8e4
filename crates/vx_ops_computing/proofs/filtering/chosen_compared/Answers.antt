use Rattle.std.proofs.Common.{◌≡◌, ◌&&◌, List, [], map, take, take_all, filter, refl, sym, ap, ◌∙◌, arith}
use Rattle.std.proofs.lemmas.Result.{IfOk-weaker}
use Rattle.vx_plan_nodes.specs.Functions.{Functions}
use Rattle.vx_plan_nodes.specs.Outline.{condition_of}
use Rattle.vx_plan_nodes.specs.Plan.{Filter, comparing}
use Rattle.vx_ops_kernels.specs.Holds.{holds_of}
use Rattle.vx_ops_kernels.proofs.Conditions.{filter-both, keeps-all}
use Rattle.vx_ops_computing.specs.Computed.{comparisons_hold}
use Rattle.vx_ops_computing.specs.Given.{filter_by}
use Rattle.vx_ops_computing.proofs.Choosing.{compared-more}
use Rattle.vx_ops_computing.proofs.Entries.{next-of}
use Rattle.vx_ops_computing.proofs.filtering.chosen_compared.Goals as goal

pub returns-clause-rows : goal.returns-clause-rows
returns-clause-rows c =
    let xs = c.args.chunk.rows in
    let fs = c.args.filters.now in
    let first = c.in-Compared.first in
    let second = c.in-Compared-second.second in
    let before : Functions → List Filter = λ given. map (filter_by given) (take 0 fs) in
    let between : Functions → List Filter = λ given. map (filter_by given) (take 1 fs) in
    IfOk-weaker c.kept_both.result
    (λ x. x.rows ≡ filter (λ r. holds_of first r && holds_of second r) xs)
    (λ x. (given : Functions) → x.rows ≡ filter (comparisons_hold (map (filter_by given) fs)) xs)
    (λ x e given.
    e ∙ (sym (filter-both (holds_of first) (holds_of second) xs)
    ∙ (ap (filter (holds_of second))
    (ap (filter (holds_of first)) (keeps-all (comparisons_hold []) xs (λ k d l. refl))
    ∙ (compared-more (before given) (condition_of first) xs
    ∙ ap (λ gs. filter (comparisons_hold gs) xs) (sym (next-of (filter_by given) fs 0 c.first-item.result (comparing (condition_of first)) (omega (arith, c.in-len2.len_at_least)) c.first-item.is (ap (filter_by given) c.in-Compared.is)))))
    ∙ (compared-more (between given) (condition_of second) xs
    ∙ (ap (λ gs. filter (comparisons_hold gs) xs) (sym (next-of (filter_by given) fs 1 c.second-item.result (comparing (condition_of second)) (omega (arith, c.in-len2.len_at_least)) c.second-item.is (ap (filter_by given) c.in-Compared-second.is)))
    ∙ ap (λ hs. filter (comparisons_hold (map (filter_by given) hs)) xs) (take_all 2 fs (omega (arith, c.in-len2.len_below))))))))
    c.kept_both.ensures.rows
