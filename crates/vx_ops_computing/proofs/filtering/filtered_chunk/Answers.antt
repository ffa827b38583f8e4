use Rattle.std.proofs.Common.{rules, ◌≡◌, false, true, List, map, filter, get_or, sym, subst, ap, ◌∙◌, []}
use Rattle.std.specs.List.{AllByRecursion, list_all}
use Rattle.vx_rows_values.specs.declared.value.ColType.{ColType}
use Rattle.vx_rows_values.specs.Types.{Fits}
use Rattle.vx_ops_kernels.proofs.Conditions.{keeps-all}
use Rattle.vx_plan_nodes.specs.Serial.{filters_fit, filters_hold}
use Rattle.vx_ops_computing.specs.Computed.{comparisons_hold, computed_hold}
use Rattle.vx_ops_computing.proofs.Fits.{all-fit}
use Rattle.vx_ops_computing.proofs.IntervalFacts.{interval-rows}
use Rattle.vx_ops_computing.proofs.Choosing.{chosen-both}
use Rattle.vx_ops_computing.proofs.Parts.{where-is}
use Rattle.vx_ops_computing.specs.Given.{filter_by}
use Rattle.vx_ops_computing.proofs.filtering.filtered_chunk.Goals as goal

pub returns-2-clause-rows : goal.returns-2-clause-rows
returns-2-clause-rows g c =
    let xs = c.args.chunk.now.rows in
    let fs = map (filter_by (g.F.PlanFunctions.functions c.args.functions.now)) c.args.filters.now in
    where-is (filters_fit fs) xs (filter (filters_hold fs) xs) _ c.in_ok-found.ensures.fits
    (c.in_ok-chosen_compared.ensures.rows (g.F.PlanFunctions.functions c.args.functions.now) ∙ (ap (filter (comparisons_hold fs)) c.in_ok-found.ensures.rows ∙ chosen-both fs xs))

pub returns-clause-rows : goal.returns-clause-rows
returns-clause-rows g c =
    let given = g.F.PlanFunctions.functions c.args.functions.now in
    let xs = c.args.chunk.now.rows in
    let fs = map (filter_by given) c.args.filters.now in
    let interval = c.in-Some.interval in
    let found = c.in-Some.ensures in
    let none : c.has_computed.result ≡ false = search rules in
    let hold = c.has_computed.ensures.hold none given in
    let fits : list_all (filters_fit fs) xs ≡ true = all-fit (filters_fit fs) xs (λ k l. c.has_computed.ensures.fit none given (get_or xs k [])) in
    let fit = subst (λ (ts : List ColType). AllByRecursion (Fits ts) xs) (sym c.types.ensures.types) c.types.ensures.fit in
    where-is (filters_fit fs) xs (filter (filters_hold fs) xs) _ fits
    (c.in_ok-within.ensures.rows
    ∙ (interval-rows interval (comparisons_hold fs) c.types.result.now xs found.column found.kind fit (found.same given)
    ∙ (ap (filter (comparisons_hold fs)) (keeps-all (computed_hold fs) xs (λ k d l. hold (get_or xs k d))) ∙ chosen-both fs xs)))
